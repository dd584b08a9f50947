-- Where a walk stands, and what is shown of it.
use Rattle.std.proofs.Common.{◌≡◌, ℕ, ◌+◌, ◌-◌, ◌≤◌, Some, List, subst, arith}
use Rattle.fc_position.specs.Board.{Board}
use Rattle.fc_moves.specs.declared.steps.Move.{Move}
use Rattle.fc_moves.specs.GameRules.{GameRules, IsPositionOf}
use Rattle.fc_moves.specs.Step.{Allows, Step}
use Rattle.fc_moves.proofs.StepLemmas.{step_keeps, step_once}
use Rattle.fc_home.specs.Settles.{Settles}
use Rattle.fc_home.proofs.WayLemmas.{settles_once}
use Rattle.fc_bound.specs.declared.kinds.BoundKind.{BoundKind}
use Rattle.fc_bound.specs.Kinds.{IsShown}
use Rattle.fc_bound.proofs.RingLaws.{settling_shows}
use Rattle.fc_codes.specs.State.{IsCodeOf}
use Rattle.fc_space.specs.Children.{Frame, IsChildOf, StandsAt}
use Rattle.fc_space.specs.inner.Standing.{StaysSettled}

-- a position that stays settled after a move settles in no move
pub shift_count : (g : GameRules) (rule : ℕ) (b : Board) (m : Move) → IsPositionOf g b → StaysSettled rule g b m
    → (z q : Board) (count : ℕ) → Step g b m z → Settles g rule z count q → 0 ≡ count
shift_count g rule b m p stays z q count step settles =
    (settles_once g rule z z q 0 count (step_keeps g b z m p step).position (stays.1 z step) settles).0

-- and another one in as many moves as it was settled
pub child_count : (w : Frame) (b : Board) (m : Move) (code : List ℕ) (n : ℕ) → IsPositionOf w.game b
    → IsChildOf w b m (record { key = code; cost = 1 + n })
    → (z q : Board) (count : ℕ) → Step w.game b m z → Settles w.game w.rule z count q → n ≡ count
child_count w b m code n p (y, made, (r, number, there, coded, cost)) z q count step settles =
    let same : y ≡ z = step_once w.game b m y z made step in
    let here = subst (λ x. Settles w.game w.rule x number r) same there in
    let once = settles_once w.game w.rule z r q number count (step_keeps w.game b z m p step).position here settles in
    omega (arith, cost, once.0)

-- a move after which a position stays settled leads to a child with the code of where it leads
pub shift_stands : (w : Frame) (b : Board) (m : Move) (code : List ℕ) → Allows w.game b m → StaysSettled w.rule w.game b m
    → ((z : Board) → Step w.game b m z → IsCodeOf w.start z code) → StandsAt w b (Some m) code
shift_stands w b m code (z, step) stays coded = (1, (z, step, (z, 0, stays.1 z step, coded z step, omega arith)))

-- what is shown of where a move leads, once it has settled
pub shown_on : (kind : BoundKind) (g : GameRules) (rule : ℕ) (b : Board) (m : Move) (n number note : ℕ) → IsPositionOf g b
    → ((z : Board) → Step g b m z → IsShown kind z number note)
    → ((z q : Board) (count : ℕ) → Step g b m z → Settles g rule z count q → n ≡ count)
    → (z q : Board) (count : ℕ) → Step g b m z → Settles g rule z count q → (n ≤ number) × IsShown kind q (number - n) note
shown_on kind g rule b m n number note p shown counts z q count step settles =
    let s = settling_shows kind g rule z q count number note (step_keeps g b z m p step).position settles (shown z step) in
    let same = counts z q count step settles in
    (omega (arith, s.1, same), subst (λ k. IsShown kind q k note) (omega (arith, s.1, same)) s.2)

-- and a number that is no more than something that is shown
pub least_on : (kind : BoundKind) (g : GameRules) (rule : ℕ) (b : Board) (m : Move) (n least : ℕ) → IsPositionOf g b
    → ((z : Board) → Step g b m z → (number : ℕ) × (note : ℕ) × IsShown kind z number note × (least ≤ number))
    → ((z q : Board) (count : ℕ) → Step g b m z → Settles g rule z count q → n ≡ count)
    → (z q : Board) (count : ℕ) → Step g b m z → Settles g rule z count q
    → (number : ℕ) × (note : ℕ) × IsShown kind q number note × (least - n ≤ number)
least_on kind g rule b m n least p shown counts z q count step settles =
    let h = shown z step in
    let s = settling_shows kind g rule z q count h.0 h.1 (step_keeps g b z m p step).position settles h.2 in
    let same = counts z q count step settles in
    (s.0, h.1, s.2, omega (arith, s.1, same, h.3))

-- a settled child was settled in as many moves as are told at most
pub child_most : (kind : BoundKind) (w : Frame) (b : Board) (m : Move) (code : List ℕ) (n number note : ℕ) → IsPositionOf w.game b
    → IsChildOf w b m (record { key = code; cost = 1 + n }) → ((z : Board) → Step w.game b m z → IsShown kind z number note) → n ≤ number
child_most kind w b m code n number note p (y, made, (r, count, there, coded, cost)) shown =
    (shown_on kind w.game w.rule b m n number note p shown (child_count w b m code n p (y, made, (r, count, there, coded, cost))) y r count made there).0
