-- What a card adds to the bound that a search goes by, and that a move changes the bound by its card alone.
use mir.Val.{bool_byte}
use Rattle.std.proofs.Common.{◌≡◌, ◌≢◌, ℕ, ◌+◌, ◌-◌, ◌<◌, ◌≤◌, ◌↔◌, Bool, true, false, cond, List, [], ◌∷◌, ◌++◌, length, get_or, set, Some, None, refl, sym, ◌∙◌, ap, subst, arith}
use Rattle.std.specs.Prelude.{count_by, nat_lt, slice_index, IsTrue}
use Rattle.std.specs.List.{list_any}
use Rattle.std.proofs.lemmas.List.{get_or-set_same, length-set, length_push, set-set, set-get_or, take_at}
use Rattle.fc_cards.specs.Card.{rank, suit, all_cards}
use Rattle.fc_cards.specs.declared.places.Place.{Place}
use Rattle.fc_cards.specs.declared.places.Place.TheVariants.{Column, Cell, Home}
use Rattle.fc_position.specs.Board.{Board, column, cell, playable, board_without, board_with, front_of, last_of}
use Rattle.fc_position.specs.Position.{IsPosition}
use Rattle.fc_position.proofs.BoardLemmas.{cards_most}
use Rattle.fc_moves.specs.declared.steps.Move.{Move}
use Rattle.fc_moves.specs.GameRules.{GameRules}
use Rattle.fc_moves.proofs.StepLemmas.{other_column}
use Rattle.fc_moves.specs.Step.{Step, Takes, Joins}
use Rattle.fc_bound.specs.declared.kinds.BoundKind.{BoundKind}
use Rattle.fc_bound.specs.declared.kinds.BoundKind.TheVariants.{Plain, Clearing}
use Rattle.fc_bound.specs.Bound.{bound, is_above_lower, is_away, is_held_back, is_lower, PlayableIsHeldBack}
use Rattle.fc_bound.specs.Clearing.{waits, without, cards_in}
use Rattle.fc_bound.specs.Kinds.{guide_of}
use Rattle.fc_bound.specs.Knots.{knot_bound, knot_count, waits_above}
use Rattle.fc_bound.proofs.AboveLemmas.{or-false}
use Rattle.fc_bound.proofs.BitLemmas.{last_of-push}
use Rattle.fc_bound.proofs.CountLemmas.{count-most}
use Rattle.fc_bound.proofs.HeldLemmas.{bound_small, step_moves, step_position}
use Rattle.fc_bound.proofs.KnotSteps.{above_loose, count_is, knots_few}
use Rattle.fc_bound.proofs.KnotTaken.{loose_first}
use Rattle.fc_bound.proofs.MovedLemmas.{held-cell, held-last, lower-push, told_card}

-- the bound of a position fits a byte with room to spare
pub guide_small : (kind : BoundKind) (b : Board) → IsPosition b → guide_of kind b ≤ 104
unfolding knot_bound
guide_small Plain b p = bound_small b
guide_small Clearing b p = omega (
  arith,
  count-most (is_away b),
  count_is b.columns,
  knots_few (cards_in b.columns) b.columns,
  cards_most b p,
)

-- a card that stands above a lower one of its suit in its column adds one
pub fare_held : (b : Board) (i : ℕ) → IsPosition b → PlayableIsHeldBack b (Column i) → knot_bound b ≡ 1 + knot_bound (board_without b (Column i))
unfolding knot_bound
fare_held b i p (u, last, held) =
    let x : List ℕ = column b i in
    let above : waits_above x ≡ true = ap (waits (x ∷ [])) last ∙ or-false (list_any (is_lower u) x) ∙ sym (held-last b i u p last) ∙ held in
    let taken : knot_count b.columns ≡ cond (waits_above x) 1 0 + knot_count (without b.columns i) =
    loose_first b.columns i (above_loose b.columns x above) in
    let one : ◌≡◌ {A = ℕ} (cond (waits_above x) 1 0) 1 = ap (λ t. cond t 1 0) above in
    omega (arith, taken, one)

-- a card that isn't in a column adds nothing
pub fare_cell : (b : Board) (i : ℕ) → knot_bound b ≡ knot_bound (board_without b (Cell i))
unfolding knot_bound
fare_cell b i = refl

-- the bound is that of the columns and of the counts at home
guide_same : (kind : BoundKind) (x y : Board) → x.columns ≡ y.columns → x.homes ≡ y.homes → guide_of kind x ≡ guide_of kind y
unfolding bound knot_bound
guide_same Plain x y columns homes = λ i.
    count_by (λ c. nat_lt (slice_index (homes i) (suit c)) (rank c)) all_cards + count_by (λ c. list_any (is_above_lower c) (columns i)) all_cards
guide_same Clearing x y columns homes = λ i.
    count_by (λ c. nat_lt (slice_index (homes i) (suit c)) (rank c)) all_cards + knot_count (columns i)

-- a card that is put on a column and taken away again
pub put_back : (columns : List (List ℕ)) (j u : ℕ) → j < length columns
    → set (set columns j (get_or columns j [] ++ u ∷ [])) j (front_of (get_or (set columns j (get_or columns j [] ++ u ∷ [])) j []))
    ≡ columns
put_back columns j u inside =
    let own : List ℕ = get_or columns j [] in
    let more = length_push own u in
    set-set columns j (own ++ u ∷ []) (front_of (get_or (set columns j (own ++ u ∷ [])) j []))
    ∙ ap (λ (x : List ℕ). set columns j (front_of x)) (get_or-set_same columns j (own ++ u ∷ []) [] inside)
    ∙ ap (λ (x : List ℕ). set columns j x) (take_at own (u ∷ []) (length (own ++ u ∷ []) - 1) (omega (arith, more))) ∙ set-get_or columns j []

pub long_lifted : (b : Board) (from : Place) → length (board_without b from).columns ≡ length b.columns
long_lifted b (Column i) = length-set b.columns i (front_of (column b i))
long_lifted b (Cell i) = refl
long_lifted b Home = refl

-- without the card that was moved the bound is the same before and after
pub guide_lifted : (kind : BoundKind) (g : GameRules) (b z : Board) (m : Move) → Step g b m z → m.to ≢ Home
    → guide_of kind (board_without b m.from) ≡ guide_of kind (board_without z m.to)
guide_lifted kind g b z m step away =
    go m.to step.takes away ∙ ap (λ (x : Board). guide_of kind (board_without x m.to)) (sym step.after)
  where
    go : (to : Place) → Takes g b step.card to → to ≢ Home
        → guide_of kind (board_without b m.from) ≡ guide_of kind (board_without (board_with (board_without b m.from) step.card to) to)
    go (Column j) takes away =
        let x : Board = board_without b m.from in
        guide_same kind x (board_without (board_with x step.card (Column j)) (Column j))
        (sym (put_back x.columns j step.card (omega (arith, takes.0, long_lifted b m.from)))) refl
    go (Cell j) takes away =
        let x : Board = board_without b m.from in guide_same kind x (board_without (board_with x step.card (Cell j)) (Cell j)) refl refl
    go Home takes away = absurd (away refl)

pub long_cells : (b : Board) (from : Place) → length (board_without b from).cells ≡ length b.cells
long_cells b (Column i) = refl
long_cells b (Cell i) = length-set b.cells i None
long_cells b Home = refl

-- a card that was put on a column is its last, and is held back where a lower one of its suit stood there
put_there : (b z : Board) (from : Place) (j u : ℕ) → IsPosition z → z ≡ board_with (board_without b from) u (Column j) → Joins from (Column j)
    → j < length b.columns → (last_of (column z j) ≡ Some u) × (is_held_back z u ≡ list_any (is_lower u) (column b j))
put_there b z from j u p after joins inside =
    let x : Board = board_without b from in
    let there : column z j ≡ column b j ++ u ∷ [] =
    ap (λ (y : Board). column y j) after
    ∙ get_or-set_same x.columns j (column x j ++ u ∷ []) [] (omega (arith, inside, long_lifted b from))
    ∙ ap (λ (cards : List ℕ). cards ++ u ∷ []) (other_column b from j joins) in
    let last : last_of (column z j) ≡ Some u = ap last_of there ∙ last_of-push (column b j) u in
    (last, held-last z j u p last ∙ ap (list_any (is_lower u)) there ∙ lower-push u (column b j))

-- a step to a column leads to a board where that has the card last, held back where a lower one of its suit stood there
pub step_put : (g : GameRules) (b z : Board) (m : Move) (j u : ℕ) (step : Step g b m z) → IsPosition b → step.card ≡ u → m.to ≡ Column j
    → (last_of (column z j) ≡ Some u) × (is_held_back z u ≡ list_any (is_lower u) (column b j))
step_put g b z m j u step p is at =
    put_there b z m.from j u (step_position g b z m p step)
    (step.after ∙ ap (λ (t : Place). board_with (board_without b m.from) step.card t) at ∙ ap (λ (c : ℕ). board_with (board_without b m.from) c (Column j)) is)
    (subst (Joins m.from) at step.joins) (subst (Takes g b step.card) at step.takes).0

pub column_held : (g : GameRules) (b z : Board) (m : Move) (j u : ℕ) (step : Step g b m z) → IsPosition b → step.card ≡ u → m.to ≡ Column j
    → (j < 8) × (is_held_back z u ≡ list_any (is_lower u) (column b j))
column_held g b z m j u step p is at =
    let takes : Takes g b step.card (Column j) = subst (Takes g b step.card) at step.takes in
    (omega (arith, takes.0, p.columns), (step_put g b z m j u step p is at).1)

pub held_there : (g : GameRules) (b z : Board) (m : Move) (j u : ℕ) (step : Step g b m z) → IsPosition b → step.card ≡ u → m.to ≡ Column j
    → list_any (is_lower u) (column b j) ≡ true → PlayableIsHeldBack z (Column j)
held_there g b z m j u step p is at lower =
    let put = step_put g b z m j u step p is at in (u, put.0, put.1 ∙ lower)

-- a card that was put into a cell is there
pub put_in : (b z : Board) (from : Place) (j u : ℕ) → z ≡ board_with (board_without b from) u (Cell j) → j < length b.cells → cell z j ≡ Some u
put_in b z from j u after inside =
    ap (λ (y : Board). cell y j) after
    ∙ get_or-set_same (board_without b from).cells j (Some u) None (omega (arith, inside, long_cells b from))

-- where a step leads that takes a card neither home nor to a column, the card isn't held back
pub other_held : (g : GameRules) (b z : Board) (m : Move) (u : ℕ) (step : Step g b m z) → IsPosition b → step.card ≡ u → m.to ≢ Home
    → ((j : ℕ) → m.to ≡ Column j → ⊥) → false ≡ is_held_back z u
other_held g b z m u step p is away other = go m.to refl
  where
    go : (to : Place) → m.to ≡ to → false ≡ is_held_back z u
    go (Column j) at = absurd (other j at)
    go (Cell j) at =
        let takes : Takes g b step.card (Cell j) = subst (Takes g b step.card) at step.takes in
        sym (held-cell z j u (step_position g b z m p step) (put_in b z m.from j u
        (step.after ∙ ap (λ (t : Place). board_with (board_without b m.from) step.card t) at ∙ ap (λ (c : ℕ). board_with (board_without b m.from) c (Cell j)) is)
        takes.1))
    go Home at = absurd (away at)

pub byte_is : (t : Bool) → bool_byte t ≡ cond t 1 0
byte_is true = refl
byte_is false = refl

pub byte_most : (t : Bool) → bool_byte t ≤ 1
byte_most true = omega arith
byte_most false = omega arith

-- the plain bound after a step, by that before it and whether the card is held back before and after
pub bound_there : (g : GameRules) (b z : Board) (m : Move) (u low : ℕ) (before after : Bool) → Step g b m z → IsPosition b → m.to ≢ Home
    → playable b m.from ≡ Some u → low ≡ bound b → (IsTrue before ↔ PlayableIsHeldBack b m.from) → after ≡ is_held_back z u
    → low + bool_byte after - bool_byte before ≡ bound z
bound_there g b z m u low before after step p away there is told seen =
    let one = told_card b m.from u before there told in
    let x : bool_byte before ≡ cond (is_held_back b u) 1 0 = byte_is before ∙ ap (λ t. cond t 1 0) one in
    let y : bool_byte after ≡ cond (is_held_back z u) 1 0 = byte_is after ∙ ap (λ t. cond t 1 0) seen in
    let law = step_moves g b z m u p step away there in
    omega (arith, is, law, x, y)
