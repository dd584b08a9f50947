-- The ways that lead to a class.
use Rattle.std.proofs.Common.{◌≡◌, ℕ, ◌+◌, ◌≤◌, List, length, refl, subst, arith}
use Rattle.std.specs.Prelude.{Option, Some, None, MatchOption, false, is_some}
use Rattle.std.specs.Option.{IsSome}
use Rattle.fc_position.specs.Board.{Board}
use Rattle.fc_position.specs.Position.{IsPosition}
use Rattle.fc_moves.specs.declared.steps.Move.{Move}
use Rattle.fc_moves.specs.Step.{Step}
use Rattle.fc_moves.proofs.StepLemmas.{step_once}
use Rattle.fc_moves.specs.GameRules.{GameRules, IsGame}
use Rattle.fc_codes.specs.Moved.{Moves}
use Rattle.fc_codes.specs.State.{IsCodeOf}
use Rattle.fc_home.specs.Settles.{SettlesBy, Settles}
use Rattle.fc_home.proofs.WayLemmas.{settles_once}
use Rattle.fc_space.specs.Children.{Frame}
use Rattle.fc_space.specs.Ways.{LeadsWithin}

-- a move that leads to a code leads to one code, by one number of moves
pub leads_once : (w : Frame) (b z q : Board) (code : List ℕ) (m : Move) (most : ℕ) (settling : List Move)
    → IsPosition z → Step w.game b m z → SettlesBy w.game w.rule z settling q → LeadsWithin w b code most m
    → IsCodeOf w.start q code × (1 + length settling ≤ most)
leads_once w b z q code m most settling pz step by (count, (x, also, (y, settles, k)), le) =
    let same : x ≡ z = step_once w.game b m x z also step in
    let here = subst (λ v. Settles w.game w.rule v count y) same settles in
    let one = settles_once w.game w.rule z y q count (length settling) pz here (settling, refl, by) in
    let size : count ≡ length settling = one.0 in
    (subst (λ v. IsCodeOf w.start v code) one.1 k, omega (arith, size, le))

-- what can't be absent is there
pub found : {X : Type 0} (o : Option X) (P : X → Type 0) (N : Type 0) → MatchOption o N P → (N → ⊥) → IsSome o
found None P N none never = absurd (never none)
found (Some x) P N some never = refl

-- what isn't there is absent
pub not_there : {X : Type 0} (o : Option X) (P : X → Type 0) (N : Type 0) → MatchOption o N P → false ≡ is_some o → N
not_there None P N none lacks = none
not_there (Some x) P N some lacks = absurd cc

-- the code after a move is of where it leads
pub code_moved : (s : Board) (code : List ℕ) (b z : Board) (m : Move) (g : GameRules) (after : List ℕ) → IsGame g → IsPosition b
    → IsCodeOf s b code → Step g b m z
    → ((c : Board) (card : ℕ) → Moves s code card b m c → IsCodeOf s c after) → IsCodeOf s z after
code_moved s code b z m g after sound pb coded step all =
    all z step.card (record { position = pb; coded = coded; playable = step.playable; game = g; sound = sound; step = step })
