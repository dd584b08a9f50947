-- A move to a column or a cell is taken back by moving its card back.
use Rattle.std.proofs.Common.{◌≡◌, ◌≢◌, ℕ, ◌-◌, ◌<◌, List, [], ◌∷◌, ◌++◌, Option, Some, None, length, get_or, set, refl, sym, ◌∙◌, ap, subst, arith}
use Rattle.std.proofs.lemmas.List.{get_or-set_same, length-set, length_push, set-set, set-get_or, get_or_push, take_at}
use Rattle.std.proofs.lemmas.Option.{slice_get-get_or}
use Rattle.fc_cards.specs.declared.places.Place.{Place}
use Rattle.fc_cards.specs.declared.places.Place.TheVariants.{Column, Cell, Home}
use Rattle.fc_position.specs.Board.{Board, column, playable, board_without, board_with, last_of, front_of, Receives}
use Rattle.fc_position.proofs.BoardLemmas.{front_last, column_there, cell_there}
use Rattle.fc_moves.specs.declared.steps.Move.{Move}
use Rattle.fc_moves.specs.GameRules.{GameRules}
use Rattle.fc_moves.specs.Step.{Step, Joins, Takes}

-- boards with the same columns, cells and counts are the same
pub same_board : (b c : Board) → b.columns ≡ c.columns → b.cells ≡ c.cells → b.homes ≡ c.homes → b ≡ c
same_board b c x y z =
    ap (λ l. let r : Board = record { columns = l; cells = b.cells; homes = b.homes } in r) x
    ∙ ap (λ l. let r : Board = record { columns = c.columns; cells = l; homes = b.homes } in r) y
    ∙ ap (λ l. let r : Board = record { columns = c.columns; cells = c.cells; homes = l } in r) z

-- the card stands where it went and can be moved back, and then the board is as it was
pub record IsTakenBack (b c : Board) (from to : Place) (u : ℕ) : Type 0 where
  pub there : playable c to ≡ Some u
  pub receives : Receives c u from
  pub back : board_with (board_without c to) u from ≡ b

-- what was put on a column is its last card, and the cards before are those that stood there
last_push : (xs : List ℕ) (u : ℕ) → last_of (xs ++ u ∷ []) ≡ Some u
last_push xs u =
    let long = length_push xs u in
    let at : length (xs ++ u ∷ []) - 1 ≡ length xs = omega (arith, long) in
    slice_get-get_or (xs ++ u ∷ []) (length (xs ++ u ∷ []) - 1) u (omega (arith, long))
    ∙ ap (λ n. Some (get_or (xs ++ u ∷ []) n u)) at ∙ ap (λ v. Some v) (get_or_push xs u u (length xs) refl)

front_push : (xs : List ℕ) (u : ℕ) → front_of (xs ++ u ∷ []) ≡ xs
front_push xs u =
    let long = length_push xs u in take_at xs (u ∷ []) (length (xs ++ u ∷ []) - 1) (omega (arith, long))

-- a card that is put on a column and taken away again
put_back : (columns : List (List ℕ)) (j u : ℕ) → j < length columns
    → set (set columns j (get_or columns j [] ++ u ∷ [])) j (front_of (get_or (set columns j (get_or columns j [] ++ u ∷ [])) j []))
    ≡ columns
put_back columns j u inside =
    let own = get_or columns j [] in
    set-set columns j (own ++ u ∷ []) (front_of (get_or (set columns j (own ++ u ∷ [])) j []))
    ∙ ap (λ x. set columns j (front_of x)) (get_or-set_same columns j (own ++ u ∷ []) [] inside)
    ∙ ap (λ x. set columns j x) (front_push own u) ∙ set-get_or columns j []

-- a card that is taken from a column and put there again
take_back : (columns : List (List ℕ)) (i u : ℕ) → i < length columns → last_of (get_or columns i []) ≡ Some u
    → set (set columns i (front_of (get_or columns i []))) i (get_or (set columns i (front_of (get_or columns i []))) i [] ++ u ∷ []) ≡ columns
take_back columns i u inside last =
    let own = get_or columns i [] in
    set-set columns i (front_of own) (get_or (set columns i (front_of own)) i [] ++ u ∷ [])
    ∙ ap (λ x. set columns i (x ++ u ∷ [])) (get_or-set_same columns i (front_of own) [] inside)
    ∙ ap (λ x. set columns i x) (sym (front_last own u last)) ∙ set-get_or columns i []

-- the same of a cell
cell_back : (cells : List (Option ℕ)) (i : ℕ) (x y : Option ℕ) → get_or cells i None ≡ x → set (set cells i y) i x ≡ cells
cell_back cells i x y own = set-set cells i y x ∙ ap (λ v. set cells i v) (sym own) ∙ set-get_or cells i None

by_places : (g : GameRules) (b : Board) (from to : Place) (u : ℕ) → playable b from ≡ Some u → Joins from to → Takes g b u to
    → to ≢ Home → IsTakenBack b (board_with (board_without b from) u to) from to u
by_places g b (Column i) (Column j) u there joins takes other =
    let C = b.columns in
    let X = set C i (front_of (column b i)) in
    let inside = column_there b i u there in
    let long = length-set C i (front_of (column b i)) in
    let target : j < length X = omega (arith, long, takes.0) in
    let D = set X j (get_or X j [] ++ u ∷ []) in
    let end : get_or D j [] ≡ get_or X j [] ++ u ∷ [] = get_or-set_same X j (get_or X j [] ++ u ∷ []) [] target in
    let gone = put_back X j u target in
    record {
      there = ap last_of end ∙ last_push (get_or X j []) u;
      receives = omega (arith, long, length-set X j (get_or X j [] ++ u ∷ []), inside);
      back = same_board (board_with (board_without (board_with (board_without b (Column i)) u (Column j)) (Column j)) u (Column i)) b
          (ap (λ x. set x i (get_or x i [] ++ u ∷ [])) gone ∙ take_back C i u inside there) refl refl;
    }
by_places g b (Column i) (Cell j) u there joins takes other =
    let inside = column_there b i u there in
    record {
      there = get_or-set_same b.cells j (Some u) None takes.1;
      receives = omega (arith, length-set b.columns i (front_of (column b i)), inside);
      back = same_board (board_with (board_without (board_with (board_without b (Column i)) u (Cell j)) (Cell j)) u (Column i)) b
          (take_back b.columns i u inside there) (cell_back b.cells j None (Some u) takes.2) refl;
    }
by_places g b (Cell i) (Column j) u there joins takes other =
    let inside = cell_there b i u there in
    let end = get_or-set_same b.columns j (column b j ++ u ∷ []) [] takes.0 in
    record {
      there = ap last_of end ∙ last_push (column b j) u;
      receives = (omega (arith, length-set b.cells i None, inside), get_or-set_same b.cells i None None inside);
      back = same_board (board_with (board_without (board_with (board_without b (Cell i)) u (Column j)) (Column j)) u (Cell i)) b
          (put_back b.columns j u takes.0) (cell_back b.cells i (Some u) None there) refl;
    }
by_places g b (Cell i) (Cell j) u there joins takes other = absurd joins
by_places g b from Home u there joins takes other = absurd (other refl)
by_places g b Home (Column j) u there joins takes other = absurd joins
by_places g b Home (Cell j) u there joins takes other = absurd joins

-- a step that takes no card home is taken back
pub taken_back : (g : GameRules) (b c : Board) (m : Move) (step : Step g b m c) → m.to ≢ Home → IsTakenBack b c m.from m.to step.card
taken_back g b c m step other =
    subst (λ x. IsTakenBack b x m.from m.to step.card) (sym step.after)
    (by_places g b m.from m.to step.card step.playable step.joins step.takes other)
