-- The columns without a card that is moved are the same before and after.
use Rattle.std.proofs.Common.{◌≡◌, ◌≢◌, ℕ, ◌-◌, ◌<◌, List, [], ◌∷◌, ◌++◌, length, get_or, set, refl, sym, ◌∙◌, ap, arith}
use Rattle.std.proofs.lemmas.List.{get_or-set_same, length-set, length_push, set-set, set-get_or, take_at}
use Rattle.fc_cards.specs.declared.places.Place.{Place}
use Rattle.fc_cards.specs.declared.places.Place.TheVariants.{Column, Cell, Home}
use Rattle.fc_position.specs.Board.{Board, column, board_without, board_with, front_of}
use Rattle.fc_moves.specs.declared.steps.Move.{Move}
use Rattle.fc_moves.specs.GameRules.{GameRules}
use Rattle.fc_moves.specs.Step.{Step, Takes}

put_back : (columns : List (List ℕ)) (j u : ℕ) → j < length columns
    → set (set columns j (get_or columns j [] ++ u ∷ [])) j (front_of (get_or (set columns j (get_or columns j [] ++ u ∷ [])) j []))
    ≡ columns
put_back columns j u inside =
    let own : List ℕ = get_or columns j [] in
    let more = length_push own u in
    set-set columns j (own ++ u ∷ []) (front_of (get_or (set columns j (own ++ u ∷ [])) j []))
    ∙ ap (λ (x : List ℕ). set columns j (front_of x)) (get_or-set_same columns j (own ++ u ∷ []) [] inside)
    ∙ ap (λ (x : List ℕ). set columns j x) (take_at own (u ∷ []) (length (own ++ u ∷ []) - 1) (omega (arith, more))) ∙ set-get_or columns j []

long_lifted : (b : Board) (from : Place) → length (board_without b from).columns ≡ length b.columns
long_lifted b (Column i) = length-set b.columns i (front_of (column b i))
long_lifted b (Cell i) = refl
long_lifted b Home = refl

pub columns_lifted : (g : GameRules) (b z : Board) (m : Move) → Step g b m z → m.to ≢ Home
    → (board_without b m.from).columns ≡ (board_without z m.to).columns
columns_lifted g b z m step away =
    go m.to step.takes away ∙ ap (λ (x : Board). (board_without x m.to).columns) (sym step.after)
  where
    go : (to : Place) → Takes g b step.card to → to ≢ Home
        → (board_without b m.from).columns ≡ (board_without (board_with (board_without b m.from) step.card to) to).columns
    go (Column j) takes away =
        let x : Board = board_without b m.from in sym (put_back x.columns j step.card (omega (arith, takes.0, long_lifted b m.from)))
    go (Cell j) takes away = refl
    go Home takes away = absurd (away refl)
