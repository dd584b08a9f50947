-- What is shown of a board where a card is lifted, and where it is put.
use Rattle.std.proofs.Common.{◌≡◌, ◌≢◌, ℕ, ◌+◌, ◌-◌, ◌<◌, ◌≤◌, true, false, cond, List, [], ◌∷◌, ◌++◌, Some, None, All, Contains, length, get_or, set, refl, sym, ◌∙◌, ap, subst, ⊎_elim, true≢false, add-zero, arith}
use Rattle.std.specs.Prelude.{◌==◌, ◌&&◌, ◌||◌, nat_lt, count_by, slice_index}
use Rattle.std.specs.Int.{bit_at}
use Rattle.std.specs.List.{list_any}
use Rattle.std.proofs.lemmas.Bool.{cases_eq}
use Rattle.std.proofs.lemmas.Bool.Decides.{nat_tests}
use Rattle.std.proofs.lemmas.List.{get_or-set_same, get_or-set_other, length-set}
use Rattle.std.proofs.lemmas.List.Folds.{list_any_at}
use Rattle.fc_cards.specs.Card.{rank, suit, all_cards}
use Rattle.fc_cards.specs.declared.places.Place.{Place}
use Rattle.fc_cards.specs.declared.places.Place.TheVariants.{Column, Cell, Home}
use Rattle.fc_position.specs.Board.{Board, column, board_without, front_of, last_of}
use Rattle.fc_position.specs.Position.{IsPosition}
use Rattle.fc_position.proofs.BoardLemmas.{front_last, playable_below}
use Rattle.fc_bound.specs.declared.kinds.BoundKind.{BoundKind}
use Rattle.fc_bound.specs.declared.kinds.BoundKind.TheVariants.{Plain, Clearing}
use Rattle.fc_bound.specs.Bound.{bound, is_above_lower, is_held_back, is_lower, stands_in}
use Rattle.fc_bound.specs.Clearing.{without}
use Rattle.fc_bound.specs.Kinds.{IsShown}
use Rattle.fc_bound.specs.Rings.{is_at_or_beneath, waits_beneath, IsRing, IsFamily}
use Rattle.fc_bound.specs.Rows.{stands_among}
use Rattle.fc_bound.proofs.AboveLemmas.{above-one, above-other, and-false, not_true, or-false, stands-other}
use Rattle.fc_bound.proofs.ClearingLemmas.{last_there}
use Rattle.fc_bound.proofs.CountLemmas.{count-but_one}
use Rattle.fc_bound.proofs.FamilyLemmas.{same_rings}
use Rattle.fc_bound.proofs.FamilyRows.{ring_stands, stands_below}
use Rattle.fc_bound.proofs.FamilyShown.{shown_small}
use Rattle.fc_bound.proofs.FillLemmas.{stands_take}
use Rattle.fc_bound.proofs.HeldLemmas.{found, any-set, column_once, held-lifted}
use Rattle.fc_bound.proofs.LeftLemmas.{last_stands, same_column}
use Rattle.fc_bound.proofs.TableLemmas.{none_lifted}
use Rattle.fc_bound.proofs.TakeLemmas.{front_once}

-- no ring has the card
abbrev pub Lack : ℕ → List (List ℕ) → Type 0
Lack u rings = All (λ ring. Contains ring u → ⊥) rings

pub lack_by_note : (columns : List (List ℕ)) (note u : ℕ) (rings : List (List ℕ)) → IsFamily columns note rings → bit_at note u ≡ 0 → Lack u rings
lack_by_note columns note u rings family none k d inside here = omega (arith, none, family.among k d inside u here)

pub lack_by_held : (columns : List (List ℕ)) (note u : ℕ) (rings : List (List ℕ)) → IsFamily columns note rings
    → list_any (is_above_lower u) columns ≡ true → Lack u rings
lack_by_held columns note u rings family held k d inside here = true≢false (sym held ∙ family.free k d inside u here)

-- a card that is put on a column changes for no other card which cards wait beneath it
at-other : (c e u : ℕ) (cards : List ℕ) → u ≢ e → is_at_or_beneath c e (cards ++ u ∷ []) ≡ is_at_or_beneath c e cards
at-other c e u [] other =
    let ne : (u == e) ≡ false = grind (arith, nat_tests) in
    or-false (is_lower c u && ((u == e) || false)) ∙ ap (λ t. is_lower c u && (t || false)) ne ∙ and-false (is_lower c u)
at-other c e u (d ∷ above) other =
    ap (λ t. (is_lower c d && t) || is_at_or_beneath c e (above ++ u ∷ [])) (stands-other (d ∷ above) u e other)
    ∙ ap (λ t. (is_lower c d && stands_in (d ∷ above) e) || t) (at-other c e u above other)

pub waits-without : (columns : List (List ℕ)) (i u c e : ℕ) → last_of (get_or columns i []) ≡ Some u → u ≢ e
    → waits_beneath (without columns i) c e ≡ waits_beneath columns c e
waits-without columns i u c e last other =
    any-set (is_at_or_beneath c e) columns i (front_of (get_or columns i []))
    (sym (at-other c e u (front_of (get_or columns i [])) other)
    ∙ ap (is_at_or_beneath c e) (sym (front_last (get_or columns i []) u last)))

pub held-without : (columns : List (List ℕ)) (i u c : ℕ) → last_of (get_or columns i []) ≡ Some u → u ≢ c
    → list_any (is_above_lower c) (without columns i) ≡ list_any (is_above_lower c) columns
held-without columns i u c last other =
    any-set (is_above_lower c) columns i (front_of (get_or columns i []))
    (sym (above-other c u (front_of (get_or columns i [])) other)
    ∙ ap (is_above_lower c) (sym (front_last (get_or columns i []) u last)))

-- rings without the card are the same with it in the columns and without it
pub ring_without : (columns : List (List ℕ)) (i u : ℕ) (ring : List ℕ) → last_of (get_or columns i []) ≡ Some u → (Contains ring u → ⊥)
    → IsRing columns ring → IsRing (without columns i) ring
ring_without columns i u ring last outside is = record {
  some_card = is.some_card;
  waits = λ c here.
      let w = is.waits c here in
      (w.0, w.1, waits-without columns i u c w.0 last (λ e. outside (subst (Contains ring) (sym e) w.1)) ∙ w.2);
  awaited = λ e here.
      let w = is.awaited e here in
      (w.0, w.1, waits-without columns i u w.0 e last (λ q. outside (subst (Contains ring) (sym q) here)) ∙ w.2);
}

pub ring_with : (columns : List (List ℕ)) (i u : ℕ) (ring : List ℕ) → last_of (get_or columns i []) ≡ Some u → (Contains ring u → ⊥)
    → IsRing (without columns i) ring → IsRing columns ring
ring_with columns i u ring last outside is = record {
  some_card = is.some_card;
  waits = λ c here.
      let w = is.waits c here in
      (w.0, w.1, sym (waits-without columns i u c w.0 last (λ e. outside (subst (Contains ring) (sym e) w.1))) ∙ w.2);
  awaited = λ e here.
      let w = is.awaited e here in
      (w.0, w.1, sym (waits-without columns i u w.0 e last (λ q. outside (subst (Contains ring) (sym q) here))) ∙ w.2);
}

pub family_without : (columns : List (List ℕ)) (i u note : ℕ) (rings : List (List ℕ)) → last_of (get_or columns i []) ≡ Some u → Lack u rings
    → IsFamily columns note rings → IsFamily (without columns i) note rings
family_without columns i u note rings last lack family =
    same_rings columns (without columns i) note note rings family
    (λ k d inside.
    let ring : List ℕ = get_or rings k d in (
      ring_without columns i u ring last (lack k d inside) (family.are k d inside),
      family.among k d inside,
      λ c here. held-without columns i u c last (λ e. lack k d inside (subst (Contains ring) (sym e) here)) ∙ family.free k d inside c here,
    ))

pub family_with : (columns : List (List ℕ)) (i u note : ℕ) (rings : List (List ℕ)) → last_of (get_or columns i []) ≡ Some u → Lack u rings
    → IsFamily (without columns i) note rings → IsFamily columns note rings
family_with columns i u note rings last lack family =
    same_rings (without columns i) columns note note rings family
    (λ k d inside.
    let ring : List ℕ = get_or rings k d in (
      ring_with columns i u ring last (lack k d inside) (family.are k d inside),
      family.among k d inside,
      λ c here. sym (held-without columns i u c last (λ e. lack k d inside (subst (Contains ring) (sym e) here))) ∙ family.free k d inside c here,
    ))

-- a card that is lifted stands in no column
pub lifted_gone : (b : Board) (i u : ℕ) → IsPosition b → last_of (column b i) ≡ Some u → stands_among (without b.columns i) u ≡ false
lifted_gone b i u p last =
    let v : List (List ℕ) = b.columns in
    let lost : List ℕ = front_of (get_or v i []) in
    not_true (stands_among (set v i lost) u) (λ stands.
    let f = found (λ column. stands_in column u) (set v i lost) stands in
    ⊎_elim
    (λ e. true≢false (sym f.passes ∙ ap (λ j. stands_in (get_or (set v i lost) j []) u) e
    ∙ ap (λ x. stands_in x u) (get_or-set_same v i lost [] (last_there v i u last))
    ∙ front_once (get_or v i []) u last (column_once b i u p)))
    (λ ne. ne (same_column b f.place i u p
    (ap (λ x. stands_in x u) (sym (get_or-set_other v i f.place lost [] ne)) ∙ f.passes)
    (last_stands (get_or v i []) u last)))
    (cases_eq f.place i))

pub lifted_free : (b : Board) (i u : ℕ) → IsPosition b → last_of (column b i) ≡ Some u → list_any (is_above_lower u) (without b.columns i) ≡ false
lifted_free b i u p last =
    let v : List (List ℕ) = without b.columns i in
    not_true (list_any (is_above_lower u) v) (λ held.
    let f = found (is_above_lower u) v held in
    true≢false (sym (list_any_at (λ x. stands_in x u) v f.place [] f.inside (above-one u (get_or v f.place []) f.passes).stands)
    ∙ lifted_gone b i u p last))

-- and what stands in the columns without it stands in them
pub stands_without : (columns : List (List ℕ)) (i c : ℕ) → stands_among (without columns i) c ≡ true → stands_among columns c ≡ true
stands_without columns i c stands =
    let x : List ℕ = get_or columns i [] in
    let f = found (λ y. stands_in y c) (set columns i (front_of x)) stands in
    let inside : f.place < length columns = omega (arith, f.inside, length-set columns i (front_of x)) in
    ⊎_elim
    (λ e.
    let same : get_or (set columns i (front_of x)) f.place [] ≡ front_of x =
    ap (λ j. get_or (set columns i (front_of x)) j []) e ∙ get_or-set_same columns i (front_of x) [] (omega (arith, inside, e)) in
    list_any_at (λ y. stands_in y c) columns i [] (omega (arith, inside, e))
    (stands_take (length x - 1) x c (ap (λ y. stands_in y c) (sym same) ∙ f.passes)))
    (λ ne. list_any_at (λ y. stands_in y c) columns f.place [] inside
    (ap (λ y. stands_in y c) (sym (get_or-set_other columns i f.place (front_of x) [] ne)) ∙ f.passes))
    (cases_eq f.place i)

pub lifted_below : (b : Board) (from : Place) (c : ℕ) → IsPosition b → stands_among (board_without b from).columns c ≡ true → c < 52
lifted_below b (Column i) c p stands = stands_below b c p (stands_without b.columns i c stands)
lifted_below b (Cell i) c p stands = stands_below b c p stands
lifted_below b Home c p stands = stands_below b c p stands

-- the bound without a card is less where the card is held back
pub bound_lifted : (b : Board) (i u : ℕ) → IsPosition b → last_of (column b i) ≡ Some u
    → bound b ≡ bound (board_without b (Column i)) + cond (is_held_back b u) 1 0
unfolding bound
bound_lifted b i u p last =
    let below : u < 52 = playable_below b (Column i) u p last in
    let none : ◌≡◌ {A = ℕ} (cond (is_held_back (board_without b (Column i)) u) 1 0) 0 = ap (λ t. cond t 1 0) (lifted_free b i u p last) in
    omega (
      arith,
      count-but_one u (is_held_back (board_without b (Column i))) (is_held_back b) below
          (λ c other. held-lifted b (Column i) u c last (λ e. other (sym e))),
      none,
    )

-- what is shown is told by the columns and the counts at home
pub shown_same : (kind : BoundKind) (x y : Board) (number note : ℕ) → x.columns ≡ y.columns → x.homes ≡ y.homes
    → IsShown kind x number note → IsShown kind y number note
unfolding bound
shown_same Plain x y number note columns homes shown =
    shown ∙ (λ i. count_by (λ c. nat_lt (slice_index (homes i) (suit c)) (rank c)) all_cards + count_by (λ c. list_any (is_above_lower c) (columns i)) all_cards)
shown_same Clearing x y number note columns homes (rings, family, is) =
    let same : bound x ≡ bound y = λ i.
    count_by (λ c. nat_lt (slice_index (homes i) (suit c)) (rank c)) all_cards + count_by (λ c. list_any (is_above_lower c) (columns i)) all_cards in
    (rings, subst (λ v. IsFamily v note rings) columns family, omega (arith, is, same))

-- lifted where it is held back, and where it is in no ring and not held back
pub lift_held : (kind : BoundKind) (b : Board) (i u number note : ℕ) → IsPosition b → last_of (column b i) ≡ Some u → is_held_back b u ≡ true
    → IsShown kind b number note → IsShown kind (board_without b (Column i)) (number - 1) note
lift_held Plain b i u number note p last held shown =
    let one : ◌≡◌ {A = ℕ} (cond (is_held_back b u) 1 0) 1 = ap (λ t. cond t 1 0) held in
    omega (arith, shown, bound_lifted b i u p last, one)
lift_held Clearing b i u number note p last held (rings, family, is) =
    let one : ◌≡◌ {A = ℕ} (cond (is_held_back b u) 1 0) 1 = ap (λ t. cond t 1 0) held in (
      rings,
      family_without b.columns i u note rings last (lack_by_held b.columns note u rings family held) family,
      omega (arith, is, bound_lifted b i u p last, one),
    )

pub lift_free : (kind : BoundKind) (b : Board) (i u number note : ℕ) → IsPosition b → last_of (column b i) ≡ Some u → is_held_back b u ≡ false
    → (kind ≡ Clearing → bit_at note u ≡ 0) → IsShown kind b number note → IsShown kind (board_without b (Column i)) number note
lift_free Plain b i u number note p last free outside shown =
    let none : ◌≡◌ {A = ℕ} (cond (is_held_back b u) 1 0) 0 = ap (λ t. cond t 1 0) free in
    omega (arith, shown, bound_lifted b i u p last, none)
lift_free Clearing b i u number note p last free outside (rings, family, is) =
    let none : ◌≡◌ {A = ℕ} (cond (is_held_back b u) 1 0) 0 = ap (λ t. cond t 1 0) free in (
      rings,
      family_without b.columns i u note rings last (lack_by_note b.columns note u rings family (outside refl)) family,
      omega (arith, is, bound_lifted b i u p last, none),
    )

-- put back, it adds one where it is held back
pub land : (kind : BoundKind) (b : Board) (i u number note : ℕ) → IsPosition b → last_of (column b i) ≡ Some u
    → IsShown kind (board_without b (Column i)) number note → IsShown kind b (number + cond (is_held_back b u) 1 0) note
land Plain b i u number note p last shown = omega (arith, shown, bound_lifted b i u p last)
land Clearing b i u number note p last (rings, family, is) =
    let lack : Lack u rings = λ k d inside here.
    true≢false (sym (ring_stands (without b.columns i) (get_or rings k d) u (family.are k d inside) here) ∙ lifted_gone b i u p last) in
    (rings, family_with b.columns i u note rings last lack family, omega (arith, is, bound_lifted b i u p last))

-- a card in a cell changes nothing
pub shown_cell : (kind : BoundKind) (b : Board) (i number note : ℕ) → IsShown kind b number note → IsShown kind (board_without b (Cell i)) number note
shown_cell kind b i number note shown = shown_same kind b (board_without b (Cell i)) number note refl refl shown

pub cell_shown : (kind : BoundKind) (b : Board) (i number note : ℕ) → IsShown kind (board_without b (Cell i)) number note → IsShown kind b number note
cell_shown kind b i number note shown = shown_same kind (board_without b (Cell i)) b number note refl refl shown

pub land_held : (kind : BoundKind) (b : Board) (i u number note : ℕ) → IsPosition b → last_of (column b i) ≡ Some u → is_held_back b u ≡ true
    → IsShown kind (board_without b (Column i)) number note → IsShown kind b (number + 1) note
land_held kind b i u number note p last held shown =
    subst (λ t. IsShown kind b (number + cond t 1 0) note) held (land kind b i u number note p last shown)

pub land_free : (kind : BoundKind) (b : Board) (i u number note : ℕ) → IsPosition b → last_of (column b i) ≡ Some u → is_held_back b u ≡ false
    → IsShown kind (board_without b (Column i)) number note → IsShown kind b number note
land_free kind b i u number note p last free shown =
    let none : number + cond (is_held_back b u) 1 0 ≡ number = ap (λ t. number + cond t 1 0) free ∙ add-zero number in
    subst (λ n. IsShown kind b n note) none (land kind b i u number note p last shown)

-- where a column has no card
pub shown_none : (kind : BoundKind) (b : Board) (i number note : ℕ) → last_of (column b i) ≡ None → IsShown kind b number note
    → IsShown kind (board_without b (Column i)) number note
shown_none kind b i number note none shown = shown_same kind b (board_without b (Column i)) number note (sym (none_lifted b.columns i none)) refl shown

pub none_shown : (kind : BoundKind) (b : Board) (i number note : ℕ) → last_of (column b i) ≡ None → IsShown kind (board_without b (Column i)) number note
    → IsShown kind b number note
none_shown kind b i number note none shown = shown_same kind (board_without b (Column i)) b number note (none_lifted b.columns i none) refl shown

-- what is shown is small, with and without a card
pub small : (kind : BoundKind) (b : Board) (number note : ℕ) → IsPosition b → IsShown kind b number note → number ≤ 104
small kind b number note p shown = shown_small kind b number note (λ c stands. stands_below b c p stands) shown

pub small_lifted : (kind : BoundKind) (b : Board) (from : Place) (number note : ℕ) → IsPosition b → IsShown kind (board_without b from) number note
    → number ≤ 104
small_lifted kind b from number note p shown = shown_small kind (board_without b from) number note (λ c stands. lifted_below b from c p stands) shown

-- one place has one last card
pub one_last : (b : Board) (i j u : ℕ) → IsPosition b → last_of (column b i) ≡ Some u → last_of (column b j) ≡ Some u → i ≡ j
one_last b i j u p one two = same_column b i j u p (last_stands (column b i) u one) (last_stands (column b j) u two)
