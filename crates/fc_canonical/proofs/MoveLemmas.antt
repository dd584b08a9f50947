-- Moves and the classes of what they lead to.
use Rattle.std.proofs.Common.{◌≡◌, ℕ, ◌+◌, ◌<◌, length, get_or, sym, ◌∙◌, ap, subst, ⊎_elim, List, arith}
use Rattle.std.proofs.lemmas.List.{get_or_default}
use Rattle.std.proofs.lemmas.Bool.{cases_lt}
use Rattle.fc_position.specs.Board.{Board}
use Rattle.fc_position.specs.Position.{IsPosition}
use Rattle.fc_moves.specs.declared.steps.Move.{Move}
use Rattle.fc_moves.specs.GameRules.{GameRules}
use Rattle.fc_moves.specs.Step.{Step}
use Rattle.fc_moves.proofs.StepLemmas.{step_once}
use Rattle.fc_canonical.specs.Key.{IsKeyOf}
use Rattle.fc_moves.proofs.ClassLemmas.{class-refl}
use Rattle.fc_canonical.proofs.KeyLemmas.{keys_tell}

-- a move whose result has another key doesn't lead to this one
pub not_this : (g : GameRules) (b : Board) (m : Move) (y : Board) (key target : List ℕ) → IsPosition y → Step g b m y
    → IsKeyOf y key → (key ≡ target → ⊥) → (x : Board) → Step g b m x → IsKeyOf x target → ⊥
not_this g b m y key target p step k other x also l =
    let same = step_once g b m x y also step in
    other ((keys_tell y y key target p p k (subst (λ z. IsKeyOf z target) same l)).1 (class-refl y))

-- what holds of the first elements, and of the next, holds of one more
pub one_more : {X : Type 0} (xs : List X) (i : ℕ) (d : X) (P : X → Type 0) → i < length xs
    → ((k : ℕ) (e : X) → k < i → P (get_or xs k e)) → P (get_or xs i d) → (k : ℕ) (e : X) → k < i + 1 → P (get_or xs k e)
one_more xs i d P inside before here k e below =
    ⊎_elim (λ lt. before k e lt)
    (λ le. let same : k ≡ i = omega arith in
    subst P (get_or_default xs i d e inside ∙ ap (λ n. get_or xs n e) (sym same)) here)
    (cases_lt k i)
