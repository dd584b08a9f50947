-- Batches of deals: their searches, and the lines that tell of them.
use Rattle.std.proofs.Common.{◌≡◌, ◌≢◌, ◌∙◌, ⊎_elim, ℕ, zero, suc, ◌+◌, ◌<◌, List, [], ◌∷◌, ◌++◌, length, Option, Some, Result, refl, sym, ap, subst, arith, IsTrue}
use Rattle.std.specs.Prelude.{max, slice_get}
use Rattle.std.specs.List.{flat_map}
use Rattle.std.proofs.Math.Nat.{max-zero, suc-max-suc, zero-max}
use Rattle.std.proofs.lemmas.Bool.{cases_eq}
use Rattle.std.proofs.lemmas.List.{flat_map_more, length-append}
use Rattle.fc_io.specs.Moves.{TakesBytes, TakesFront}
use Rattle.fc_io.proofs.MoveLemmas.{TakesBytes-both, takes_then_front}
use Rattle.fc_deal.specs.Deal.{dealt_board}
use Rattle.fc_answers.specs.declared.answers.Outcome.{Outcome}
use Rattle.fc_answers.specs.declared.answers.Verdict.{Verdict}
use Rattle.fc_answers.specs.declared.answers.Verdict.TheVariants.{Shortest, Won, CannotWin, GaveUp}
use Rattle.fc_answers.specs.Verdict.{outcome_of}
use Rattle.fc_best_first.specs.declared.searches.SearchFault.{SearchFault}
use Rattle.fc_best_first.specs.declared.searches.Step.{Step}
use Rattle.fc_best_first.specs.declared.turns.Status.{Status}
use Rattle.fc_best_first.specs.declared.turns.Status.TheVariants.{Running}
use Rattle.fc_best_first.specs.Graph.{Task}
use Rattle.fc_best_first.specs.Limits.{IsEven}
use Rattle.fc_best_first.specs.Search.{Begins, Turns, TurnsOn}
use Rattle.fc_best_first.specs.Store.{Store}
use Rattle.fc_methods.specs.Method.{QuestionData}
use Rattle.fc_search.specs.Problem.{Problem, problem_of, task_of_problem}
use Rattle.fc_search.specs.Search.{IsOfStatus, IsOneOfThree, IsVerdict, State}
use Rattle.fc_batch.specs.Batch.{Batch, HasTurn, HasTurns, OthersStay, TurnFor, TurnsFor, count_if_running, search_at, times}
use Rattle.fc_batch.proofs.BatchLemmas.{stays_self}
use Rattle.fc_batch.proofs.LawLemmas.{turn_alone}
use Rattle.fc_board_runs.specs.Devices.{Device}
use Rattle.fc_runs.specs.Batches.{AreCutShort, AreLines, AreTold, IsToldOf, greatest_status}
use Rattle.fc_answer_text.specs.AnswerText.{Line, line_text, told_status}
use Rattle.fc_runs.specs.inner.Batches.{HaveEnded, HoldsDeals, IsSearchOf}

module _ {K : Type 0} (task : Task K) where
  -- one more turn after some
  turns_more : (turns : ℕ) (before between after : Status K) (old mid new : Store K) (reply : Result Step SearchFault)
      → TurnsOn turns task before old mid between → Turns task between mid new after reply
      → TurnsOn (suc turns) task before old new after
  turns_more zero before between after old mid new reply (same, stays) turn = (
    new,
    after,
    reply,
    subst (λ s. Turns task s old new after reply) stays (subst (λ s. Turns task between s new after reply) same turn),
    (refl, refl),
  )
  turns_more (suc turns) before between after old mid new reply (next, then, told, one, rest) turn =
      (next, then, told, one, turns_more turns then between after next mid new reply rest turn)

-- a search that began for a deal, and had no turn
pub search_begun : (q : QuestionData) (deal : ℕ) (s : State) → s.problem ≡ problem_of q (dealt_board deal) → s.status ≡ Running
    → Begins (task_of_problem s.problem) s.store → IsSearchOf q deal s
search_begun q deal s asked begun begins = record {
  problem = asked;
  ran = record {
    first = s.store;
    begins = subst (λ (p : Problem). Begins (task_of_problem p) s.store) asked begins;
    runs = (zero, (refl, begun));
  };
}

-- a search of a deal that has one more turn is the search of that deal still
one_turn_on : (q : QuestionData) (deal : ℕ) (old new : State) (reply : Result Step SearchFault) → HasTurn old new reply
    → IsSearchOf q deal old → IsSearchOf q deal new
one_turn_on q deal old new reply turn search = record {
  problem = turn.problem ∙ search.problem;
  ran = record {
    first = search.ran.first;
    begins = search.ran.begins;
    runs = (
      suc search.ran.runs.0,
      turns_more (task_of_problem (problem_of q (dealt_board deal))) search.ran.runs.0 Running old.status new.status search.ran.first old.store new.store reply
          search.ran.runs.1
          (subst (λ (p : Problem). Turns (task_of_problem p) old.status old.store new.store new.status reply) search.problem
          turn.turned),
    );
  };
}

turns_on : (q : QuestionData) (deal : ℕ) (turns : ℕ) (old new : State) → HasTurns turns old new
    → IsSearchOf q deal old → IsSearchOf q deal new
turns_on q deal zero old new same search = subst (IsSearchOf q deal) (sym same) search
turns_on q deal (suc turns) old new (mid, reply, turn, rest) search =
    turns_on q deal turns mid new rest (one_turn_on q deal old mid reply turn search)

-- turns of the searches of a batch leave it with the searches of its deals
pub held_on : (q : QuestionData) (from count : ℕ) (list : List ℕ) (old new : Batch) (replies : ℕ) → TurnsFor list old new replies
    → HoldsDeals q from count old → HoldsDeals q from count new
held_on q from count list old new replies turns holds i within =
    let before = holds i within in
    let on = turn_alone list old new replies turns i before.0 before.1 in
    (on.0, on.1, turns_on q (from + i) (times i list) before.0 on.0 on.2 before.2)

-- one turn, as turns for a list of one number
one_turn : (number : ℕ) (old new : Batch) (reply : Result Step SearchFault) → TurnFor number old new reply
    → TurnsFor (number ∷ []) old new (count_if_running reply + 0)
one_turn number old new reply turn = (new, reply, 0, turn, (stays_self new, refl), refl)

pub one_held : (q : QuestionData) (from count number : ℕ) (old new : Batch) (reply : Result Step SearchFault)
    → TurnFor number old new reply → HoldsDeals q from count old → HoldsDeals q from count new
one_held q from count number old new reply turn =
    held_on q from count (number ∷ []) old new (count_if_running reply + 0) (one_turn number old new reply turn)

-- with the search of the next number, all below it have ended
pub ended_more : (count : ℕ) (old new : Batch) → HaveEnded count old → OthersStay count old new
    → ((s : State) → search_at new count ≡ Some s → s.status ≡ Running → ⊥) → HaveEnded (count + 1) new
ended_more count old new ended others last i s within at runs =
    ⊎_elim
    (λ (same : i ≡ count). last s (subst (λ k. search_at new k ≡ Some s) same at) runs)
    (λ (other : i ≢ count). ended i s (omega (arith, within, other)) (sym (others i other) ∙ at) runs)
    (cases_eq i count)

-- a line after others
last_line : (lines : List Line) (line : Line) (P : ℕ → Line → Type 0) → ((i : ℕ) (x : Line) → slice_get lines i ≡ Some x → P i x)
    → P (length lines) line → (i : ℕ) (x : Line) → slice_get (lines ++ line ∷ []) i ≡ Some x → P i x
last_line [] line P all last zero x at = subst (P 0) (cc at) last
last_line [] line P all last (suc i) x at = absurd (cc at)
last_line (y ∷ lines) line P all last zero x at = all 0 x at
last_line (y ∷ lines) line P all last (suc i) x at =
    last_line lines line (λ j z. P (suc j) z) (λ j z there. all (suc j) z there) last i x at

-- one more line that is right
pub one_more_line : (is_right : ℕ → Option Outcome → Type 0) (from deal : ℕ) (lines : List Line) (told : Option Outcome) → AreLines is_right from lines
    → deal ≡ from + length lines → is_right deal told
    → AreLines is_right from (lines ++ record { deal = deal; told = told } ∷ [])
one_more_line is_right from deal lines told right next here = record {
  rising = last_line lines (record { deal = deal; told = told }) (λ i line. line.deal ≡ from + i) right.rising next;
  right = last_line lines (record { deal = deal; told = told }) (λ i line. is_right line.deal line.told) right.right here;
}

max_assoc : (a b c : ℕ) → max (max a b) c ≡ max a (max b c)
max_assoc zero b c = ap (λ m. max m c) (zero-max b) ∙ sym (zero-max (max b c))
max_assoc (suc a) zero c = ap (λ m. max m c) (max-zero (suc a)) ∙ sym (ap (λ m. max (suc a) m) (zero-max c))
max_assoc (suc a) (suc b) zero = max-zero (max (suc a) (suc b)) ∙ sym (ap (λ m. max (suc a) m) (max-zero (suc b)))
max_assoc (suc a) (suc b) (suc c) =
    ap (λ m. max m (suc c)) (suc-max-suc a b) ∙ suc-max-suc (max a b) c ∙ ap suc (max_assoc a b c)
    ∙ sym (ap (λ m. max (suc a) m) (suc-max-suc b c) ∙ suc-max-suc a (max b c))

-- the greatest status with one line more
pub greatest_more : (lines : List Line) (line : Line) → greatest_status (lines ++ line ∷ []) ≡ max (greatest_status lines) (told_status line.told)
greatest_more [] line = max-zero (told_status line.told) ∙ sym (zero-max (told_status line.told))
greatest_more (first ∷ lines) line =
    ap (λ m. max (told_status first.told) m) (greatest_more lines line)
    ∙ sym (max_assoc (told_status first.told) (greatest_status lines) (told_status line.told))

-- so many lines were written, and this is the greatest of their statuses
pub record AreWritten (is_right : ℕ → Option Outcome → Type 0) (from count : ℕ) (old new : Option (List ℕ)) (status : ℕ) : Type 0 where
  pub lines : List Line
  pub right : AreLines is_right from lines
  pub whole : length lines ≡ count
  pub written : TakesBytes old new (flat_map line_text lines)
  pub greatest : status ≡ greatest_status lines

-- the text of one line more
text_more : (lines : List Line) (line : Line) → flat_map line_text lines ++ line_text line ≡ flat_map line_text (lines ++ line ∷ [])
text_more lines line = flat_map_more line_text [] lines line

pub one_more_written : (is_right : ℕ → Option Outcome → Type 0) (from count : ℕ) (old mid new : Option (List ℕ)) (status : ℕ) (told : Option Outcome)
    (text : List ℕ) (next : ℕ) → AreWritten is_right from count old mid status → is_right (from + count) told
    → text ≡ line_text (record { deal = from + count; told = told }) → TakesBytes mid new text → next ≡ max status (told_status told)
    → AreWritten is_right from (count + 1) old new next
one_more_written is_right from count old mid new status told text next so_far here same taken greater =
    let line : Line = record { deal = from + count; told = told } in
    let whole = so_far.whole in
    record {
      lines = so_far.lines ++ line ∷ [];
      right = one_more_line is_right from (from + count) so_far.lines told so_far.right (omega (arith, whole)) here;
      whole = omega (arith, whole, length-append so_far.lines (line ∷ []));
      written = subst (TakesBytes old new) (text_more so_far.lines line)
          (TakesBytes-both old mid new (flat_map line_text so_far.lines) (line_text line) so_far.written (subst (TakesBytes mid new) same taken));
      greatest = greater ∙ ap (λ s. max s (told_status told)) so_far.greatest ∙ sym (greatest_more so_far.lines line);
    }

-- and one whose text was cut short
pub cut_short : (is_right : ℕ → Option Outcome → Type 0) (from count most : ℕ) (mid : Option (List ℕ)) (sink : Device) (status : ℕ) (told : Option Outcome)
    (text : List ℕ) → AreWritten is_right from count sink.old mid status → is_right (from + count) told
    → text ≡ line_text (record { deal = from + count; told = told }) → TakesFront mid sink.new text → count < most → IsTrue sink.failed
    → AreCutShort is_right from most sink
cut_short is_right from count most mid sink status told text so_far here same front within failed =
    let line : Line = record { deal = from + count; told = told } in
    let whole = so_far.whole in
    record {
      lines = so_far.lines ++ line ∷ [];
      right = one_more_line is_right from (from + count) so_far.lines told so_far.right (omega (arith, whole)) here;
      some = omega (arith, whole, within, length-append so_far.lines (line ∷ []));
      front = subst (TakesFront sink.old sink.new) (text_more so_far.lines line)
          (takes_then_front sink.old mid sink.new (flat_map line_text so_far.lines) (line_text line) so_far.written (subst (TakesFront mid sink.new) same front));
      failed = failed;
    }

-- all lines are written to a sink that hasn't failed
pub all_told : (is_right : ℕ → Option Outcome → Type 0) (from count : ℕ) (sink : Device) (status : ℕ)
    → AreWritten is_right from count sink.old sink.new status → (IsTrue sink.failed → ⊥) → AreTold is_right from count sink status
all_told is_right from count sink status all sound = record {
  lines = all.lines;
  right = all.right;
  whole = all.whole;
  written = all.written;
  sound = sound;
  greatest = all.greatest;
}

-- a batch to which the search of the next deal was added
pub held_more : (q : QuestionData) (from count : ℕ) (old new : Batch) (search : State) → HoldsDeals q from count old
    → OthersStay count old new → search_at new count ≡ Some search → IsSearchOf q (from + count) search
    → HoldsDeals q from (count + 1) new
held_more q from count old new search holds others there here i within =
    ⊎_elim
    (λ (same : i ≡ count). (
      search,
      subst (λ k. search_at new k ≡ Some search) (sym same) there,
      subst (λ k. IsSearchOf q (from + k) search) (sym same) here,
    ))
    (λ (other : i ≢ count).
    let before = holds i (omega (arith, within, other)) in
    (before.0, others i other ∙ before.1, before.2))
    (cases_eq i count)

-- by weight 1 a right verdict is one of three
three_of : (p : Problem) (verdict : Verdict) → IsVerdict p verdict → IsEven p.method.strategy.weight
    → IsOneOfThree p.game p.start p.method.strategy.budget verdict
three_of p (Shortest moves) is even = is.right
three_of p (Won moves floor) is even = let above = is.right.above in absurd (omega (arith, above, even))
three_of p CannotWin is even = is.right
three_of p (GaveUp told) is even = is.right

-- what is told of the verdict of a deal's search is right
pub told_right : (q : QuestionData) (deal : ℕ) (s : State) (verdict : Verdict) (told : Outcome) → IsVerdict s.problem verdict
    → IsOfStatus s.problem s.store s.status verdict → IsSearchOf q deal s → told ≡ outcome_of verdict → IsToldOf q deal told
told_right q deal s verdict told is kind of same =
    let right : IsVerdict (problem_of q (dealt_board deal)) verdict = subst (λ (p : Problem). IsVerdict p verdict) of.problem is in
    record {
      verdict = verdict;
      decided = record {
        right = right;
        ran = record {
          last = s.store;
          status = s.status;
          ran = of.ran;
          answered = subst (λ (p : Problem). IsOfStatus p s.store s.status verdict) of.problem kind;
        };
        three = three_of (problem_of q (dealt_board deal)) verdict right;
      };
      answer = same;
    }
