-- Which cards of a class have moved since the start, by its code.
use Rattle.std.proofs.Common.{◌≡◌, ℕ, ◌+◌, ◌<◌, true, Some, List, [], ◌∷◌, ◌++◌, length, get_or, take, drop, refl, sym, ◌∙◌, ap, subst, ⊎_elim, arith}
use Rattle.std.specs.Prelude.{◌==◌, ◌||◌, nat_lt, if◌then◌else◌, slice_index}
use Rattle.std.specs.Int.{bit_at}
use Rattle.std.proofs.lemmas.Bool.{cases_lt, eq-eqb, eqb-true, or_cases}
use Rattle.std.proofs.lemmas.Bool.Decides.{nat_tests}
use Rattle.std.proofs.lemmas.List.{append_assoc, length_push, take_at, take_more, take-append-drop}
use Rattle.std.proofs.lemmas.List.Folds.{list_any-append}
use Rattle.fc_position.specs.Board.{Board, column, last_of}
use Rattle.fc_position.specs.Position.{IsPosition}
use Rattle.fc_bound.specs.Bound.{stands_in}
use Rattle.fc_bound.specs.declared.waiting_rows.ColumnTable.{ColumnTable}
use Rattle.fc_bound.specs.Rows.{HaveMoved, IsTableOf}
use Rattle.fc_bound.proofs.AboveLemmas.{or-true, stands-contains, stands-more}
use Rattle.fc_bound.proofs.BitLemmas.{last_of-push}
use Rattle.fc_bound.proofs.FamilyRows.{stands_below}
use Rattle.fc_bound.proofs.HeldLemmas.{column_once}
use Rattle.fc_bound.proofs.LeftLemmas.{same_column}
use Rattle.fc_bound.proofs.OverLemmas.{among_columns, in_column}
use Rattle.fc_bound.proofs.OverTable.{one_front, table_but}
use Rattle.fc_space.specs.declared.lookups.Lookup.{Lookup}
use Rattle.fc_space.specs.inner.Lookups.{IsLookupOf}
use Rattle.fc_codes.specs.State.{AreMoved, IsCodeOf, IsStateOf, IsUnmoved, StandsOn, unmoved, at_home, in_cell, deepest, in_order}
use Rattle.fc_codes.proofs.StandLemmas.{standing_below}
use Rattle.fc_codes.proofs.StateLemmas.{unmoved_state}

-- a card that stands in a column
stands_on : (b : Board) (w : List ℕ) (c : ℕ) → (p : StandsOn b w c) → stands_in (column b p.number) c ≡ true
stands_on b w c p =
    ap (λ x. stands_in x c) p.cards ∙ list_any-append (λ d. d == c) w (c ∷ p.above)
    ∙ ap (λ t. stands_in w c || (t || stands_in p.above c)) (eq-eqb c c refl) ∙ or-true (stands_in w c)

-- what a code says of a card whose bit isn't set, and the other way round
still_state : (code : List ℕ) (bits c : ℕ) → AreMoved code bits → c < 52 → bit_at bits c ≡ 0 → slice_index code c ≡ 0
still_state code bits c are small still = go (slice_index code c) (sym (are c small) ∙ still)
  where
    go : (n : ℕ) → ◌≡◌ {A = ℕ} (if nat_lt 0 n then 1 else 0) 0 → n ≡ 0
    go n is = ⊎_elim
        (λ some. let test : nat_lt 0 n ≡ true = grind (arith, nat_tests) in absurd (one_zero (sym (ap (λ t. if t then 1 else 0) test) ∙ is)))
        (λ none. omega (arith, none)) (cases_lt 0 n)
      where
        one_zero : ◌≡◌ {A = ℕ} 1 0 → ⊥
        one_zero e = omega arith

state_still : (code : List ℕ) (bits c : ℕ) → AreMoved code bits → c < 52 → slice_index code c ≡ 0 → bit_at bits c ≡ 0
state_still code bits c are small none = are c small ∙ ap (λ n. if nat_lt 0 n then 1 else 0) none

unmoved_of : (s b : Board) (c n : ℕ) → IsStateOf s b c n → n ≡ 0 → IsUnmoved s b c
unmoved_of s b c n (unmoved e u) none = u
unmoved_of s b c n (at_home e h) none = absurd (omega (arith, e, none))
unmoved_of s b c n (in_cell e h) none = absurd (omega (arith, e, none))
unmoved_of s b c n (deepest e h u) none = absurd (omega (arith, e, none))
unmoved_of s b c n (in_order l e h u) none = absurd (omega (arith, e, none))

-- what lies beneath a card of a column, and the card
front_on : (b : Board) (i h u : ℕ) (w : List ℕ) → IsPosition b → last_of (take h (column b i)) ≡ Some u → (on : StandsOn b w u)
    → take h (column b i) ≡ w ++ u ∷ []
front_on b i h u w p last on =
    let same : i ≡ on.number = same_column b i on.number u p (in_column b.columns i h u last) (stands_on b w u on) in
    let is : column b i ≡ (w ++ u ∷ []) ++ on.above = ap (column b) same ∙ on.cards ∙ sym (append_assoc w (u ∷ []) on.above) in
    let there : take (length w + 1) (column b i) ≡ w ++ u ∷ [] =
    ap (take (length w + 1)) is ∙ take_at (w ++ u ∷ []) on.above (length w + 1) (length_push w u) in
    one_front (column b i) h (length w + 1) u (column_once b i u p) last (ap last_of there ∙ last_of-push w u) ∙ there

-- the cards beneath a card that stands where it stood do so too
beneath_it : (b : Board) (below rest above : List ℕ) (c u i : ℕ) → column b i ≡ (below ++ c ∷ rest) ++ u ∷ above → StandsOn b below c
beneath_it b below rest above c u i is = record {
  number = i;
  above = rest ++ u ∷ above;
  cards = is ∙ append_assoc below (c ∷ rest) (u ∷ above);
}

split_at : (cards : List ℕ) (k c : ℕ) → k < length cards → get_or cards k c ≡ c → cards ≡ take k cards ++ c ∷ drop (k + 1) cards
split_at cards k c inside is =
    sym (take-append-drop (k + 1) cards)
    ∙ ap (λ x. x ++ drop (k + 1) cards) (take_more cards k c inside ∙ ap (λ x. take k cards ++ x ∷ []) is)
    ∙ append_assoc (take k cards) (c ∷ []) (drop (k + 1) cards)

unmoved_beneath : (s b : Board) (c u : ℕ) → (v : IsUnmoved s b u) → stands_in v.below c ≡ true → IsUnmoved s b c
unmoved_beneath s b c u v stands =
    let (k, inside, is) = stands-contains v.below c stands in
    let w : List ℕ = take k v.below in
    let rest : List ℕ = drop (k + 1) v.below in
    let split : v.below ≡ w ++ c ∷ rest = split_at v.below k c inside is in
    record {
      below = w;
      here = beneath_it b w rest v.here.above c u v.here.number (v.here.cards ∙ ap (λ x. x ++ u ∷ v.here.above) split);
      before = beneath_it s w rest v.before.above c u v.before.number (v.before.cards ∙ ap (λ x. x ++ u ∷ v.before.above) split);
    }

-- the cards that have moved by the code are all that have
pub moved_from : (s b : Board) (code : List ℕ) (bits : ℕ) → IsPosition s → IsPosition b → IsCodeOf s b code → AreMoved code bits
    → HaveMoved s.columns b.columns bits
moved_from s b code bits ps pb coded are =
    let small : (i h u : ℕ) → last_of (take h (column b i)) ≡ Some u → u < 52 =
    λ i h u last. stands_below b u pb (among_columns b.columns i u (in_column b.columns i h u last)) in
    let here : (i h u : ℕ) → last_of (take h (column b i)) ≡ Some u → bit_at bits u ≡ 0 → IsUnmoved s b u =
    λ i h u last still. unmoved_of s b u (slice_index code u) (coded.states u (small i h u last)) (still_state code bits u are (small i h u last) still) in
    record {
      fronts = λ i h u last still.
          let v : IsUnmoved s b u = here i h u last still in
          let front : take h (column b i) ≡ v.below ++ u ∷ [] = front_on b i h u v.below pb last v.here in
          record {
            number = v.before.number;
            above = v.before.above;
            is = v.before.cards ∙ sym (append_assoc v.below (u ∷ []) v.before.above) ∙ ap (λ x. x ++ v.before.above) (sym front);
          };
      above = λ i h u c last still stands.
          let v : IsUnmoved s b u = here i h u last still in
          let front : take h (column b i) ≡ v.below ++ u ∷ [] = front_on b i h u v.below pb last v.here in
          let either = sym (stands-more v.below u c) ∙ ap (λ x. stands_in x c) (sym front) ∙ stands in
          ⊎_elim
          (λ low.
          let w : IsUnmoved s b c = unmoved_beneath s b c u v low in
          let few : c < 52 = standing_below b w.below c pb w.here in
          state_still code bits c are few (unmoved_state s b c (slice_index code c) pb w (coded.states c few)))
          (λ own. ap (bit_at bits) (sym (eqb-true u c own)) ∙ still)
          (or_cases (stands_in v.below c) (u == c) either);
      stay = λ c stands still.
          let few : c < 52 = stands_below s c ps stands in
          let v : IsUnmoved s b c = unmoved_of s b c (slice_index code c) (coded.states c few) (still_state code bits c are few still) in
          among_columns b.columns v.here.number c (stands_on b v.below c v.here);
    }

-- the same of the position that a code spells
pub moved_now : (s start p b : Board) (code : List ℕ) (bits : ℕ) → s ≡ start → p ≡ b → IsPosition s → IsPosition p → IsCodeOf start b code
    → AreMoved code bits → HaveMoved s.columns p.columns bits
moved_now s start p b code bits same is ps pp coded are =
    moved_from s p code bits ps pp (subst (λ x. IsCodeOf x p code) (sym same) (subst (λ x. IsCodeOf start x code) (sym is) coded)) are

-- what is looked up, with a table of the same columns that was made another way
pub still_laid : (s b p : Board) (l : Lookup) (table : ColumnTable) → b ≡ p → IsLookupOf s b l → l.is_laid ≡ true → IsTableOf p.columns table
    → IsLookupOf s p (record { start = l.start; table = table; moved = l.moved; is_laid = l.is_laid })
still_laid s b p l table same is laid now =
    let moved : HaveMoved s.columns p.columns l.moved = subst (λ x. HaveMoved s.columns x.columns l.moved) same (is.moved laid) in
    record {
      whole = is.whole;
      start = is.start;
      over = table_but s p table l.moved is.whole now moved;
      table = λ _. now;
      moved = λ _. moved;
    }
