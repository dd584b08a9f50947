-- Steps: when one is allowed, that moves have numbers of their own, and what a step keeps.
use Rattle.std.proofs.Common.{◌≡◌, ℕ, ◌≤◌, ◌<◌, ◌↔◌, Bool, Some, None, [], ◌∷◌, length, refl, sym, ◌∙◌, ap, subst, ⊎_elim, arith}
use Rattle.std.specs.Prelude.{IsTrue}
use Rattle.std.proofs.lemmas.List.{get_or-set_same, get_or-set_other, set_past}
use Rattle.std.proofs.lemmas.Bool.{cases_lt, cases_eq}
use Rattle.fc_cards.specs.declared.places.Place.{Place}
use Rattle.fc_cards.specs.declared.places.Place.TheVariants.{Column, Cell, Home}
use Rattle.fc_position.specs.Board.{Board, column, playable, board_without, board_with, front_of, Receives}
use Rattle.fc_position.specs.Position.{IsPosition, Fits}
use Rattle.fc_position.proofs.BoardLemmas.{column_there, cell_there, position-moved}
use Rattle.fc_moves.specs.declared.steps.Move.{Move}
use Rattle.fc_moves.specs.GameRules.{GameRules}
use Rattle.fc_moves.specs.Laws.{StepsKeepPositions, RunsKeepPositions, ListsLeadToOneBoard, AllowedMovesHaveTexts}
use Rattle.fc_moves.specs.MoveText.{IsThere, IsSource, HasText}
use Rattle.fc_moves.specs.Run.{Run}
use Rattle.fc_moves.specs.Step.{Allows, Joins, Step, Takes, place_number, move_number}

-- a move of a playable card to a place that joins and takes it is allowed, and no other
pub allows_by : (g : GameRules) (b : Board) (m : Move) (card : ℕ) (t : Bool) → playable b m.from ≡ Some card
    → Joins m.from m.to → (IsTrue t ↔ Takes g b card m.to) → IsTrue t ↔ Allows g b m
allows_by g b m card t there joins takes = (
  λ yes. (
    board_with (board_without b m.from) card m.to,
    record {
      card = card;
      playable = there;
      joins = joins;
      takes = takes.0 yes;
      after = refl;
    },
  ),
  λ (_, step). let same : step.card ≡ card = let e = step.playable in cc in
      takes.1 (subst (λ u. Takes g b u m.to) same step.takes),
)

-- a place that has a playable card is a column or a cell
pub source_there : (b : Board) (from : Place) (u : ℕ) → IsPosition b → playable b from ≡ Some u → IsSource from
source_there b (Column i) u p there = omega (arith, column_there b i u there, p.columns)
source_there b (Cell i) u p there = omega (arith, cell_there b i u there, p.cells)
source_there b Home u p there = absurd (cc there)

-- a place that takes a card is there
target_there : (g : GameRules) (b : Board) (u : ℕ) (to : Place) → IsPosition b → Takes g b u to → IsThere to
target_there g b u (Column j) p takes = omega (arith, p.columns, takes.0)
target_there g b u (Cell j) p takes = omega (arith, p.cells, takes.1)
target_there g b u Home p takes = tt

-- an allowed move has a text
pub allowed_has_text : AllowedMovesHaveTexts
allowed_has_text g b m p (c, step) = record {
  from = source_there b m.from step.card p step.playable;
  to = target_there g b step.card m.to p step.takes;
}

-- a source is there
pub source_is_there : (from : Place) → IsSource from → IsThere from
source_is_there (Column i) s = s
source_is_there (Cell i) s = s
source_is_there Home s = absurd s

-- no number is of two places
pub place_once : (p q : Place) → IsThere p → IsThere q → place_number p ≡ place_number q → p ≡ q
place_once (Column i) (Column j) a b e = ap (λ (n : ℕ). Column n) e
place_once (Column i) (Cell j) a b e = absurd (omega (arith, a, e))
place_once (Column i) Home a b e = absurd (omega (arith, a, e))
place_once (Cell i) (Column j) a b e = absurd (omega (arith, b, e))
place_once (Cell i) (Cell j) a b e = let same : i ≡ j = omega (arith, e) in ap (λ (n : ℕ). Cell n) same
place_once (Cell i) Home a b e = absurd (omega (arith, a, e))
place_once Home (Column j) a b e = absurd (omega (arith, b, e))
place_once Home (Cell j) a b e = absurd (omega (arith, b, e))
place_once Home Home a b e = refl

-- the number of a place is at most that of home, and that of a source is below it
pub place_most : (p : Place) → IsThere p → place_number p ≤ 12
place_most (Column i) a = omega (arith, a)
place_most (Cell i) a = omega (arith, a)
place_most Home a = omega arith

pub source_most : (p : Place) → IsSource p → place_number p < 12
source_most (Column i) a = omega (arith, a)
source_most (Cell i) a = omega (arith, a)
source_most Home a = absurd a

-- two moves with the same places are the same
pub move_same : (m n : Move) → m.from ≡ n.from → m.to ≡ n.to → m ≡ n
move_same m n a b = ap (λ p. let r : Move = record { from = p; to = m.to } in r) a ∙ ap (λ p. let r : Move = record { from = n.from; to = p } in r) b

-- no number is of two moves
pub move_once : (m n : Move) → HasText m → HasText n → move_number m ≡ move_number n → m ≡ n
move_once m n a b e =
    let low = place_most m.to a.to in
    let high = place_most n.to b.to in
    move_same m n
    (place_once m.from n.from (source_is_there m.from a.from) (source_is_there n.from b.from) (omega (arith, e, low, high)))
    (place_once m.to n.to a.to b.to (omega (arith, e, low, high)))

-- a place that takes a card can receive it
pub receives-takes : (g : GameRules) (b : Board) (u : ℕ) (to : Place) → Takes g b u to → Receives b u to
receives-takes g b u (Column j) t = t.0
receives-takes g b u (Cell j) t = (t.1, t.2)
receives-takes g b u Home t = t

-- a card that is lifted leaves the cells past the game's number empty, and so does one that is placed
fits-lifted : (n : ℕ) (b : Board) (from : Place) → Fits n b → Fits n (board_without b from)
fits-lifted n b (Column i) fits = fits
fits-lifted n b (Cell i) fits = λ k past.
    ⊎_elim
    (λ e. ⊎_elim (λ lt. rw e (get_or-set_same b.cells i None None lt))
    (λ le. rw (set_past b.cells i None le) (fits k past)) (cases_lt i (length b.cells)))
    (λ ne. get_or-set_other b.cells i k None None ne ∙ fits k past) (cases_eq k i)
fits-lifted n b Home fits = fits

fits-placed : (g : GameRules) (b x : Board) (u : ℕ) (to : Place) → Takes g b u to → Fits g.cells x → Fits g.cells (board_with x u to)
fits-placed g b x u (Column j) t fits = fits
fits-placed g b x u (Cell j) t fits = λ k past.
    get_or-set_other x.cells j k (Some u) None (λ e. omega (arith, t.0, e)) ∙ fits k past
fits-placed g b x u Home t fits = fits

-- lifting a card changes no other column
pub other_column : (b : Board) (from : Place) (j : ℕ) → Joins from (Column j) → column (board_without b from) j ≡ column b j
other_column b (Column i) j joins = get_or-set_other b.columns i j (front_of (column b i)) [] joins
other_column b (Cell i) j joins = refl
other_column b Home j joins = absurd joins

-- a move leads from a board to one board
pub step_once : (g : GameRules) (b : Board) (m : Move) (x y : Board) → Step g b m x → Step g b m y → x ≡ y
step_once g b m x y p q =
    let same : p.card ≡ q.card = let e = p.playable in let f = q.playable in cc in
    p.after ∙ ap (λ u. board_with (board_without b m.from) u m.to) same ∙ sym q.after

-- and so does a list of moves
pub run_once : ListsLeadToOneBoard
run_once g b c d [] p q = p ∙ sym q
run_once g b c d (m ∷ ms) (x, one, p) (y, two, q) =
    run_once g y c d ms (subst (λ z. Run g z ms c) (step_once g b m x y one two) p) q

-- a step from a position leads to a position, and so does a run
pub step_keeps : StepsKeepPositions
step_keeps g b c m p step = record {
  position = rw step.after
      (position-moved b m.from step.card m.to p.position step.playable (receives-takes g b step.card m.to step.takes));
  fits = rw step.after (fits-placed g b (board_without b m.from) step.card m.to step.takes (fits-lifted g.cells b m.from p.fits));
}

pub run_keeps : RunsKeepPositions
run_keeps g b c [] p run = rw run p
run_keeps g b c (m ∷ ms) p (mid, step, rest) = run_keeps g mid c ms (step_keeps g b mid m p step) rest
