-- Pages of moves and boards.
use Rattle.std.proofs.Common.{◌≡◌, ℕ, ◌+◌, List, [], ◌∷◌, ◌++◌, length, sym, ◌∙◌, ap, subst, append_assoc, arith}
use Rattle.std.specs.Prelude.{Option, Result}
use Rattle.std.proofs.lemmas.List.Concat.{flat_map-cons}
use Rattle.fc_position.specs.Board.{Board}
use Rattle.fc_io.specs.Moves.{TakesBytes, TakesFront}
use Rattle.fc_moves.specs.declared.steps.Move.{Move}
use Rattle.fc_moves.specs.GameRules.{GameRules}
use Rattle.fc_text.specs.Printed.{board_text}
use Rattle.fc_replay.specs.declared.faults.ReplayFault.{ReplayFault}
use Rattle.fc_replay.specs.declared.pages.Page.{Page}
use Rattle.fc_replay.specs.declared.pages.Page.TheVariants.{Board as printed}
use Rattle.fc_replay.specs.declared.replays.Ended.{Ended}
use Rattle.fc_replay.specs.Page.{page_text, pages_text}
use Rattle.fc_replay.specs.Played.{Passes, Replays, ReplaysAs, Writes, board_after, boards_text, replay_count, sink_change}
use Rattle.fc_replay.specs.Telling.{told_move}
use Rattle.fc_replay.specs.declared.tellings.ToldMove.{ToldMove}

-- the pages of moves and of those that go on from where they lead
pub pages_text-append : (page : Page) (n step next : ℕ) (b : Board) (ms ns : List Move) (boards others : List Board)
    → length boards ≡ length ms → next ≡ step + length ms
    → pages_text page n step b (ms ++ ns) (boards ++ others)
    ≡ pages_text page n step b ms boards ++ pages_text page n next (board_after b boards) ns others
pages_text-append page n step next b [] ns [] others same e = ap (λ k. pages_text page n k b ns others) (omega arith)
pages_text-append page n step next b [] ns (d ∷ boards) others same e = absurd (omega arith)
pages_text-append page n step next b (m ∷ ms) ns [] others same e = absurd (omega arith)
pages_text-append page n step next b (m ∷ ms) ns (d ∷ boards) others same e =
    let one = page_text page n (told_move step b m) d in
    ap (λ text. one ++ text) (pages_text-append page n (step + 1) next d ms ns boards others (omega arith) (omega arith))
    ∙ sym (append_assoc one (pages_text page n (step + 1) d ms boards) (pages_text page n next (board_after d boards) ns others))

-- what is a front of some pages is one of more
pub front_of_more : (old new : Option (List ℕ)) (text more : List ℕ) → TakesFront old new text → TakesFront old new (text ++ more)
front_of_more old new text more taken = record {
  front = taken.front;
  rest = taken.rest ++ more;
  parts = ap (λ l. l ++ more) taken.parts ∙ append_assoc taken.front taken.rest more;
  taken = taken.taken;
}

-- the page of a move as it was told is that of the move
pub page_taken : (page : Page) (n : ℕ) (told move : ToldMove) (c : Board) (old new : Option (List ℕ)) → told ≡ move
    → TakesBytes old new (page_text page n told c) → TakesBytes old new (page_text page n move c)
page_taken page n told move c old new same = subst (λ t. TakesBytes old new (page_text page n t c)) same

pub page_front : (page : Page) (n : ℕ) (told move : ToldMove) (c : Board) (old new : Option (List ℕ)) → told ≡ move
    → TakesFront old new (page_text page n told c) → TakesFront old new (page_text page n move c)
page_front page n told move c old new same = subst (λ t. TakesFront old new (page_text page n t c)) same

-- pages of printed boards are the printed boards
pages_printed : (g : GameRules) (b : Board) (n step : ℕ) (ms : List Move) (boards : List Board) → Passes g b ms boards
    → pages_text printed n step b ms boards ≡ boards_text n boards
pages_printed g b n step [] boards none = sym (ap (boards_text n) none)
pages_printed g b n step (m ∷ ms) [] none = absurd none
pages_printed g b n step (m ∷ ms) (c ∷ boards) (one, others) =
    ap (λ text. board_text n c ++ text) (pages_printed g c n (step + 1) ms boards others) ∙ sym (flat_map-cons (board_text n) c boards)

writes_same : (old new : Option (List ℕ)) (result : Result ℕ ReplayFault) (text other : List ℕ) → text ≡ other
    → Writes old new text result → Writes old new other result
writes_same old new result text other same = subst (λ t. Writes old new t result) same

-- a replay that writes pages of printed boards is one that writes printed boards
pub replays_printed : (g : GameRules) (b : Board) (tokens : List (List ℕ)) (old new : Option (List ℕ)) (result : Result Ended ReplayFault)
    → ReplaysAs printed g b tokens (sink_change old new) result → Replays g b tokens old new (replay_count result)
replays_printed g b tokens old new result replayed = record {
  boards = replayed.boards;
  ends = replayed.ends;
  written = writes_same old new (replay_count result) (pages_text printed g.cells 1 b replayed.moves replayed.boards)
      (boards_text g.cells replayed.boards) (pages_printed g b g.cells 1 replayed.moves replayed.boards replayed.passed)
      replayed.written;
}
