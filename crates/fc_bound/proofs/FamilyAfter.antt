-- What is shown of where a move leads, by what is shown of where it is made.
use Rattle.std.proofs.Common.{◌≡◌, ◌≢◌, ℕ, ◌+◌, ◌-◌, ◌<◌, ◌≤◌, Bool, true, false, cond, Some, None, List, [], ◌∷◌, length, get_or, set, refl, sym, ◌∙◌, ap, subst, add-zero, arith}
use Rattle.std.specs.Prelude.{nat_lt, slice_index}
use Rattle.std.specs.Int.{bit_at}
use Rattle.std.specs.List.{list_any}
use Rattle.std.proofs.lemmas.Bool.Decides.{nat_tests}
use Rattle.std.proofs.lemmas.List.{get_or-set_same}
use Rattle.std.proofs.lemmas.Option.{slice_get-get_or}
use Rattle.fc_cards.specs.Card.{rank, suit}
use Rattle.fc_cards.specs.declared.places.Place.{Place}
use Rattle.fc_cards.specs.declared.places.Place.TheVariants.{Column, Cell, Home}
use Rattle.fc_position.specs.Board.{Board, column, playable, board_without, board_with, last_of, IsNext}
use Rattle.fc_position.specs.Position.{IsPosition}
use Rattle.fc_position.proofs.BoardLemmas.{playable_below, homes-lifted}
use Rattle.fc_moves.specs.declared.steps.Move.{Move}
use Rattle.fc_moves.specs.GameRules.{GameRules}
use Rattle.fc_moves.specs.Step.{Step, Takes}
use Rattle.fc_bound.specs.declared.kinds.BoundKind.{BoundKind}
use Rattle.fc_bound.specs.declared.kinds.BoundKind.TheVariants.{Plain, Clearing}
use Rattle.fc_bound.specs.declared.waiting_rows.ColumnTable.{ColumnTable}
use Rattle.fc_bound.specs.Bound.{bound, is_away, is_held_back, is_lower}
use Rattle.fc_bound.specs.Kinds.{IsShown}
use Rattle.fc_bound.specs.Rows.{IsTableOf, no_row}
use Rattle.fc_bound.proofs.CountLemmas.{count-but_one, count-same}
use Rattle.fc_bound.proofs.FamilyLemmas.{without_card}
use Rattle.fc_bound.proofs.FamilyMoved.{bound_lifted, family_without, land, lift_free, lift_held, shown_cell, shown_same}
use Rattle.fc_bound.proofs.FareLemmas.{column_held, long_lifted, other_held, put_back, step_put}
use Rattle.fc_bound.proofs.HeldLemmas.{away-home, step_position}
use Rattle.fc_bound.proofs.TableLemmas.{some_wait}

-- what is shown without a card: one less at most, and no less where it is neither held back nor noted
abbrev pub After : BoundKind → Board → ℕ → ℕ → ℕ → Type 0
After kind x number note less = (n : ℕ) × IsShown kind x n note × (number ≤ n + less)

lift_column : (kind : BoundKind) (b : Board) (i u number note : ℕ) (r : Bool) → IsPosition b → last_of (column b i) ≡ Some u
    → (r ≡ false → is_held_back b u ≡ false) → (r ≡ false → kind ≡ Clearing → bit_at note u ≡ 0) → IsShown kind b number note
    → After kind (board_without b (Column i)) number note (cond r 1 0)
lift_column kind b i u number note false p last held noted shown =
    (number, lift_free kind b i u number note p last (held refl) (noted refl) shown, omega arith)
lift_column Plain b i u number note true p last held noted shown =
    let most = bit_most (is_held_back b u) in
    (bound (board_without b (Column i)), refl, omega (arith, shown, bound_lifted b i u p last, most))
  where
    bit_most : (t : Bool) → cond t 1 0 ≤ 1
    bit_most true = omega arith
    bit_most false = omega arith
lift_column Clearing b i u number note true p last held noted (rings, family, is) =
    elim (is_held_back b u) as (λ t. is_held_back b u ≡ t → After Clearing (board_without b (Column i)) number note 1) [
      | true ↦ λ e. (number - 1, lift_held Clearing b i u number note p last e (rings, family, is), omega arith)
      | false ↦ λ e.
          let w = without_card b.columns note u rings family in
          let none : ◌≡◌ {A = ℕ} (cond (is_held_back b u) 1 0) 0 = ap (λ t. cond t 1 0) e in (
            bound (board_without b (Column i)) + length w.rest,
            (w.rest, family_without b.columns i u note w.rest last w.outside w.family, refl),
            omega (arith, is, w.fewer, bound_lifted b i u p last, none),
          )
    ] refl

pub after_lift : (kind : BoundKind) (b : Board) (from : Place) (u number note : ℕ) (r : Bool) → IsPosition b → playable b from ≡ Some u
    → (r ≡ false → is_held_back b u ≡ false) → (r ≡ false → kind ≡ Clearing → bit_at note u ≡ 0) → IsShown kind b number note
    → After kind (board_without b from) number note (cond r 1 0)
after_lift kind b (Column i) u number note r p there held noted shown = lift_column kind b i u number note r p there held noted shown
after_lift kind b (Cell i) u number note r p there held noted shown = (number, shown_cell kind b i number note shown, omega arith)
after_lift kind b Home u number note r p there held noted shown = absurd (cc there)

-- where a move leads that takes the card not home, one more is shown where the card is held back
pub after_put : (kind : BoundKind) (g : GameRules) (b z : Board) (m : Move) (u number note : ℕ) (step : Step g b m z) → IsPosition b
    → step.card ≡ u → m.to ≢ Home → IsShown kind (board_without b m.from) number note → IsShown kind z (number + cond (is_held_back z u) 1 0) note
after_put kind g b z m u number note step p is away shown = go m.to refl
  where
    go : (to : Place) → m.to ≡ to → IsShown kind z (number + cond (is_held_back z u) 1 0) note
    go (Column j) at =
        let x : Board = board_without b m.from in
        let takes : Takes g b step.card (Column j) = subst (Takes g b step.card) at step.takes in
        let after : board_with x step.card (Column j) ≡ z = sym (step.after ∙ ap (λ (t : Place). board_with x step.card t) at) in
        let put = step_put g b z m j u step p is at in
        land kind z j u number note (step_position g b z m p step) put.0
        (subst (λ (y : Board). IsShown kind (board_without y (Column j)) number note) after
        (shown_same kind x (board_without (board_with x step.card (Column j)) (Column j)) number note
        (sym (put_back x.columns j step.card (omega (arith, takes.0, long_lifted b m.from)))) refl shown))
    go (Cell j) at =
        let x : Board = board_without b m.from in
        let after : board_with x step.card (Cell j) ≡ z = sym (step.after ∙ ap (λ (t : Place). board_with x step.card t) at) in
        let free : false ≡ is_held_back z u = other_held g b z m u step p is away (λ k e. absurd (cc (sym at ∙ e))) in
        let same : number ≡ number + cond (is_held_back z u) 1 0 = sym (add-zero number) ∙ ap (λ t. number + cond t 1 0) free in
        subst (λ n. IsShown kind z n note) same
        (subst (λ (y : Board). IsShown kind y number note) after
        (shown_same kind x (board_with x step.card (Cell j)) number note refl refl shown))
    go Home at = absurd (away at)

-- a card that goes home is one less
bound_home : (b : Board) (from : Place) (u : ℕ) → IsPosition b → playable b from ≡ Some u → IsNext b.homes u
    → bound (board_without b from) ≡ bound (board_with (board_without b from) u Home) + 1
unfolding bound
bound_home b from u p there next =
    let homes = homes-lifted b from in
    let below = playable_below b from u p there in
    let same = count-same (is_away (board_without b from)) (is_away b) (λ c _. ap (λ h. nat_lt (slice_index h (suit c)) (rank c)) homes) in
    let away = count-but_one u (is_away b) (is_away (board_with (board_without b from) u Home)) below
    (λ c other. away-home b.homes u c p.homes next other
    ∙ ap (λ h. nat_lt (slice_index (set h (suit u) (rank u)) (suit c)) (rank c)) (sym homes)) in
    let before : ◌≡◌ {A = ℕ} (cond (is_away b u) 1 0) 1 = ap (λ t. cond t 1 0) (lower (slice_index b.homes (suit u)) (rank u) next) in
    let home : slice_index (board_without b from).homes (suit u) ≡ slice_index b.homes (suit u) = ap (λ h. slice_index h (suit u)) homes in
    let here : slice_index (set (board_without b from).homes (suit u) (rank u)) (suit u) ≡ rank u =
    get_or-set_same (board_without b from).homes (suit u) (rank u) 0 (omega (arith, ap length homes, p.homes)) in
    let after : ◌≡◌ {A = ℕ} (cond (is_away (board_with (board_without b from) u Home) u) 1 0) 0 =
    ap (λ n. cond (nat_lt n (rank u)) 1 0) here ∙ ap (λ t. cond t 1 0) (same_rank (rank u)) in
    omega (arith, same, away, before, after)
  where
    lower : (h r : ℕ) → h + 1 ≡ r → nat_lt h r ≡ true
    lower h r is = grind (arith, nat_tests)

    same_rank : (r : ℕ) → nat_lt r r ≡ false
    same_rank r = grind (arith, nat_tests)

home_shown : (kind : BoundKind) (x : Board) (u number note : ℕ) → bound x ≡ bound (board_with x u Home) + 1 → IsShown kind x number note
    → IsShown kind (board_with x u Home) (number - 1) note
home_shown Plain x u number note less shown = omega (arith, less, shown)
home_shown Clearing x u number note less (rings, family, is) = (rings, family, omega (arith, less, is))

pub after_home : (kind : BoundKind) (g : GameRules) (b z : Board) (m : Move) (u number note : ℕ) (step : Step g b m z) → IsPosition b
    → step.card ≡ u → m.to ≡ Home → IsShown kind (board_without b m.from) number note → IsShown kind z (number - 1) note
after_home kind g b z m u number note step p is at shown =
    let x : Board = board_without b m.from in
    let next : IsNext b.homes step.card = subst (Takes g b step.card) at step.takes in
    let after : board_with x step.card Home ≡ z = sym (step.after ∙ ap (λ (t : Place). board_with x step.card t) at) in
    subst (λ (y : Board). IsShown kind y (number - 1) note) after
    (home_shown kind x step.card number note (bound_home b m.from step.card p step.playable next) shown)

-- without the card the same is shown where it went as where it was
pub lifted_there : (kind : BoundKind) (g : GameRules) (b z : Board) (m : Move) (number note : ℕ) → Step g b m z → m.to ≢ Home
    → IsShown kind (board_without b m.from) number note → IsShown kind (board_without z m.to) number note
lifted_there kind g b z m number note step away shown = go m.to refl
  where
    go : (to : Place) → m.to ≡ to → IsShown kind (board_without z to) number note
    go (Column j) at =
        let x : Board = board_without b m.from in
        let takes : Takes g b step.card (Column j) = subst (Takes g b step.card) at step.takes in
        let after : board_with x step.card (Column j) ≡ z = sym (step.after ∙ ap (λ (t : Place). board_with x step.card t) at) in
        subst (λ (y : Board). IsShown kind (board_without y (Column j)) number note) after
        (shown_same kind x (board_without (board_with x step.card (Column j)) (Column j)) number note
        (sym (put_back x.columns j step.card (omega (arith, takes.0, long_lifted b m.from)))) refl shown)
    go (Cell j) at =
        let x : Board = board_without b m.from in
        let after : board_with x step.card (Cell j) ≡ z = sym (step.after ∙ ap (λ (t : Place). board_with x step.card t) at) in
        subst (λ (y : Board). IsShown kind (board_without y (Cell j)) number note) after
        (shown_same kind x (board_without (board_with x step.card (Cell j)) (Cell j)) number note refl refl shown)
    go Home at = absurd (away at)

-- a card that is put on another is held back where it waits beneath that one, by its row, and on none it isn't
pub held_on : (g : GameRules) (b z : Board) (t : ColumnTable) (m : Move) (j u host : ℕ) (step : Step g b m z) → IsPosition b
    → IsTableOf b.columns t → u < 52 → step.card ≡ u → m.to ≡ Column j → last_of (column b j) ≡ Some host
    → bit_at (get_or t.rows host no_row).waiting u ≡ cond (is_held_back z u) 1 0
held_on g b z t m j u host step p table below is at last =
    some_wait b.columns t j host table last u below ∙ ap (λ s. cond s 1 0) (sym (column_held g b z m j u step p is at).1)

pub held_on_none : (g : GameRules) (b z : Board) (m : Move) (j u : ℕ) (step : Step g b m z) → IsPosition b → step.card ≡ u → m.to ≡ Column j
    → last_of (column b j) ≡ None → false ≡ is_held_back z u
held_on_none g b z m j u step p is at none = sym ((column_held g b z m j u step p is at).1 ∙ empty (column b j) none)
  where
    empty : (x : List ℕ) → last_of x ≡ None → list_any (is_lower u) x ≡ false
    empty [] none = refl
    empty (c ∷ x) none = absurd (
        let some = slice_get-get_or (c ∷ x) (length (c ∷ x) - 1) 0 (omega arith) in cc)

-- a card is held back where it lands, by the row of the last card there
pub held_at : (g : GameRules) (b z : Board) (t : ColumnTable) (m : Move) (u host : ℕ) (step : Step g b m z) → IsPosition b → IsTableOf b.columns t
    → u < 52 → step.card ≡ u → m.to ≢ Home → playable b m.to ≡ Some host
    → bit_at (get_or t.rows host no_row).waiting u ≡ cond (is_held_back z u) 1 0
held_at g b z t m u host step p table below is away there = go m.to refl step.takes there
  where
    go : (to : Place) → m.to ≡ to → Takes g b step.card to → playable b to ≡ Some host
        → bit_at (get_or t.rows host no_row).waiting u ≡ cond (is_held_back z u) 1 0
    go (Column j) at takes last = held_on g b z t m j u host step p table below is at last
    go (Cell j) at takes full = absurd (cc)
    go Home at takes full = absurd (away at)

pub held_at_none : (g : GameRules) (b z : Board) (m : Move) (u : ℕ) (step : Step g b m z) → IsPosition b → step.card ≡ u → m.to ≢ Home
    → playable b m.to ≡ None → false ≡ is_held_back z u
held_at_none g b z m u step p is away there = go m.to refl there
  where
    go : (to : Place) → m.to ≡ to → playable b to ≡ None → false ≡ is_held_back z u
    go (Column j) at none = held_on_none g b z m j u step p is at none
    go (Cell j) at none = other_held g b z m u step p is away (λ k e. absurd (cc (sym at ∙ e)))
    go Home at none = absurd (away at)
