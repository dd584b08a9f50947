-- Reading the lines of a text one by one.
use Rattle.std.proofs.Common.{◌≡◌, ℕ, ◌+◌, ◌≤◌, ◌⊎◌, List, [], ◌∷◌, ◌++◌, length, map, inl, inr, refl, sym, ◌∙◌, ap, subst, ⊎_elim, arith}
use Rattle.std.specs.Prelude.{count_by}
use Rattle.std.proofs.lemmas.List.{append_assoc, append-nil, length-append, length-map}
use Rattle.fc_text.specs.declared.drafts.Draft.{Draft}
use Rattle.fc_text.specs.declared.faults.LineFault.{LineFault}
use Rattle.fc_text.specs.Line.{Line, parts_of, is_line_end, without_return, line_of, lines_of, board_lines}
use Rattle.fc_text.specs.Spelling.{is_kind}
use Rattle.fc_text.specs.Fault.{IsLineFault, IsSound, AreSound, IsFirstFault}
use Rattle.fc_text.specs.inner.Reading.{IsTally}
use Rattle.fc_text.specs.inner.Draft.{IsDraftOf}
use Rattle.fc_text.proofs.PartLemmas.{length-parts_of}

-- a list with one more element, parted at an element
push_parts : {A : Type 0} (xs front rest : List A) (x y : A) → xs ++ x ∷ [] ≡ front ++ y ∷ rest
    → ((xs ≡ front) × (x ≡ y)) ⊎ ((after : List A) × (xs ≡ front ++ y ∷ after))
push_parts [] [] rest x y same = inl (refl, cc same)
push_parts [] (f ∷ []) rest x y same = absurd (cc same)
push_parts [] (f ∷ g ∷ front) rest x y same = absurd (cc same)
push_parts (h ∷ xs) [] rest x y same = let head : h ≡ y = cc same in inr (xs, ap (λ z. z ∷ xs) head)
push_parts (h ∷ xs) (f ∷ front) rest x y same =
    let head : h ≡ f = cc same in
    let tail : xs ++ x ∷ [] ≡ front ++ y ∷ rest = cc same in
    ⊎_elim
    (λ last. inl (ap (λ z. z ∷ xs) head ∙ ap (λ zs. f ∷ zs) last.0, last.1))
    (λ before. inr (before.0, ap (λ z. z ∷ xs) head ∙ ap (λ zs. f ∷ zs) before.1))
    (push_parts xs front rest x y tail)

-- one more sound line
pub sound_push : (n : ℕ) (lines : List Line) (line : Line) → AreSound n lines
    → IsSound n (count_by (is_kind line.kind) lines) line → AreSound n (lines ++ line ∷ [])
sound_push n lines line sound here front rest l same = ⊎_elim
    (λ last. subst (λ xs. IsSound n (count_by (is_kind l.kind) xs) l) last.0
    (subst (λ k. IsSound n (count_by (is_kind k.kind) lines) k) last.1 here))
    (λ before. sound front before.0 l before.1)
    (push_parts lines front rest line l same)

pub no_line_sound : (n : ℕ) → AreSound n []
no_line_sound n [] rest line same = absurd (cc same)
no_line_sound n (f ∷ front) rest line same = absurd (cc same)

-- a text has at most as many lines as bytes
lines_long : (text : List ℕ) → length (board_lines text) ≤ length text
lines_long text =
    let one = length-map (lines_of text) line_of in
    let two = length-map (parts_of is_line_end text) without_return in
    omega (arith, length-parts_of is_line_end text, one, two)

-- the lines that are left
abbrev pub lines_left : List ℕ → List Line
lines_left rest = map line_of (map without_return (parts_of is_line_end rest))

-- what the reader of a text keeps from line to line: the lines so far are sound and read, and the others are left
pub record LinesSoFar (n : ℕ) (text rest : List ℕ) (number : ℕ) (d : Draft) : Type 0 where
  pub lines : List Line
  pub parts : lines ++ lines_left rest ≡ board_lines text
  pub count : number ≡ length lines
  pub sound : AreSound n lines
  pub read : IsDraftOf lines d
  pub tally : IsTally d.tally

pub lines_none : (n : ℕ) (text rest : List ℕ) (d : Draft) → rest ≡ text → IsDraftOf [] d → IsTally d.tally → LinesSoFar n text rest 0 d
lines_none n text rest d same read tally = record {
  lines = [];
  parts = ap board_lines same;
  count = refl;
  sound = no_line_sound n;
  read = read;
  tally = tally;
}

-- the next line of those that are left
left_next : (rest after piece : List ℕ) → parts_of is_line_end rest ≡ piece ∷ parts_of is_line_end after
    → lines_left rest ≡ line_of (without_return piece) ∷ lines_left after
left_next rest after piece first = ap (λ ps. map line_of (map without_return ps)) first

left_is : (rest after piece given : List ℕ) → parts_of is_line_end rest ≡ piece ∷ parts_of is_line_end after
    → given ≡ without_return piece → lines_left rest ≡ line_of given ∷ lines_left after
left_is rest after piece given first same =
    left_next rest after piece first ∙ ap (λ l. line_of l ∷ lines_left after) (sym same)

pub lines_next : (n : ℕ) (text rest after piece given : List ℕ) (number : ℕ) (old new : Draft) → LinesSoFar n text rest number old
    → parts_of is_line_end rest ≡ piece ∷ parts_of is_line_end after → given ≡ without_return piece
    → ((lines : List Line) → IsDraftOf lines old → IsDraftOf (lines ++ line_of given ∷ []) new)
    → ((lines : List Line) → IsDraftOf lines old → IsSound n (count_by (is_kind (line_of given).kind) lines) (line_of given))
    → IsTally new.tally → LinesSoFar n text after (number + 1) new
lines_next n text rest after piece given number old new so first same read sound tally =
    let line = line_of given in
    record {
      lines = so.lines ++ line ∷ [];
      parts = append_assoc so.lines (line ∷ []) (lines_left after) ∙ ap (λ ls. so.lines ++ ls) (sym (left_is rest after piece given first same)) ∙ so.parts;
      count = ap (λ k. k + 1) so.count ∙ sym (length-append so.lines (line ∷ []));
      sound = sound_push n so.lines line so.sound (sound so.lines so.read);
      read = read so.lines so.read;
      tally = tally;
    }

-- there is room for the number of a line that is left
pub lines_room : (n : ℕ) (text rest after piece : List ℕ) (number : ℕ) (d : Draft) → LinesSoFar n text rest number d
    → parts_of is_line_end rest ≡ piece ∷ parts_of is_line_end after → length text ≤ 4096 → number + 1 ≤ 4096
lines_room n text rest after piece number d so first short =
    let size = ap length (sym (ap (λ ls. so.lines ++ ls) (left_next rest after piece first)) ∙ so.parts) in
    let parted = length-append so.lines (line_of (without_return piece) ∷ lines_left after) in
    omega (arith, size, parted, lines_long text, so.count)

-- the first line with a fault
pub lines_fault : (n : ℕ) (text rest after piece given : List ℕ) (number : ℕ) (old : Draft) (fault : LineFault) → LinesSoFar n text rest number old
    → parts_of is_line_end rest ≡ piece ∷ parts_of is_line_end after → given ≡ without_return piece
    → ((lines : List Line) → IsDraftOf lines old
    → IsLineFault n (count_by (is_kind (line_of given).kind) lines) (line_of given) fault)
    → IsFirstFault n (board_lines text) (number + 1) fault
lines_fault n text rest after piece given number old fault so first same here = record {
  front = so.lines;
  line = line_of given;
  rest = lines_left after;
  parts = sym so.parts ∙ ap (λ ls. so.lines ++ ls) (left_is rest after piece given first same);
  place = ap (λ k. k + 1) so.count;
  sound = so.sound;
  here = here so.lines so.read;
}

-- all lines are read
pub lines_all : (n : ℕ) (text rest : List ℕ) (number : ℕ) (d : Draft) → LinesSoFar n text rest number d
    → parts_of is_line_end rest ≡ [] → IsDraftOf (board_lines text) d × AreSound n (board_lines text)
lines_all n text rest number d so none =
    let whole : so.lines ≡ board_lines text =
    sym (append-nil so.lines) ∙ ap (λ ps. so.lines ++ map line_of (map without_return ps)) (sym none) ∙ so.parts in
    (subst (λ ls. IsDraftOf ls d) whole so.read, subst (AreSound n) whole so.sound)
