-- Which cards wait beneath which, as the table of a position's columns tells it; and rings as bits of cards.
use Rattle.std.proofs.Common.{◌≡◌, ℕ, ◌+◌, ◌<◌, zero, suc, true, false, cond, List, [], ◌∷◌, ◌++◌, Contains, length, take, get_or, refl, sym, ◌∙◌, ap, ⊎_elim, arith}
use Rattle.std.specs.Prelude.{◌==◌, ◌&&◌, ◌||◌}
use Rattle.std.specs.Int.{bit_at}
use Rattle.std.specs.List.{list_any}
use Rattle.std.proofs.lemmas.Bool.{cases_lt, cases_eq, and_parts, or_cases, eq-eqb, eqb-true}
use Rattle.std.proofs.lemmas.List.Folds.{list_any_at}
use Rattle.std.proofs.lemmas.List.Sums.{get_or-le-sum_by}
use Rattle.fc_position.specs.Board.{Board, last_of, count_in_column}
use Rattle.fc_position.specs.Position.{IsPosition}
use Rattle.fc_bound.specs.declared.waiting_rows.ColumnTable.{ColumnTable}
use Rattle.fc_bound.specs.Bound.{is_lower, stands_in}
use Rattle.fc_bound.specs.Rings.{is_at_or_beneath, waits_beneath, IsRing}
use Rattle.fc_bound.specs.Rows.{IsTableOf, no_row, stands_among}
use Rattle.fc_bound.specs.inner.Tied.{WaitsBy, AreTiedBy, AreTiedIn}
use Rattle.fc_bound.proofs.AboveLemmas.{or-false, or-true, contains-stands, stands-contains, stands-counted, next_seen}
use Rattle.fc_bound.proofs.BitLemmas.{is_one, last_of-push}
use Rattle.fc_bound.proofs.HeldLemmas.{found}

-- a card of a column, and a lower card of the suit of c at it or beneath it
pub record At (c e : ℕ) (cards : List ℕ) : Type 0 where
  pub place : ℕ
  pub inside : place < length cards
  pub card : get_or cards place e ≡ e
  pub lower : list_any (is_lower c) (take (suc place) cards) ≡ true

pub beneath_at : (c e : ℕ) (cards : List ℕ) → is_at_or_beneath c e cards ≡ true → At c e cards
beneath_at c e [] beneath = absurd (cc)
beneath_at c e (d ∷ above) beneath =
    ⊎_elim
    (λ here.
    let both = and_parts (is_lower c d) (stands_in (d ∷ above) e) here in
    let (k, inside, card) = stands-contains (d ∷ above) e both.1 in
    record { place = k; inside = inside; card = card; lower = ap (λ t. t || list_any (is_lower c) (take k above)) both.0 })
    (λ later.
    let at = beneath_at c e above later in
    record {
      place = suc at.place;
      inside = omega (arith, at.inside);
      card = at.card;
      lower = ap (λ t. is_lower c d || t) at.lower ∙ or-true (is_lower c d);
    })
    (or_cases (is_lower c d && stands_in (d ∷ above) e) (is_at_or_beneath c e above) beneath)

pub at_beneath : (c e k : ℕ) (cards : List ℕ) → k < length cards → get_or cards k e ≡ e → list_any (is_lower c) (take (suc k) cards) ≡ true
    → is_at_or_beneath c e cards ≡ true
at_beneath c e k [] inside card lower = absurd (omega (arith, inside))
at_beneath c e zero (d ∷ above) inside card lower =
    let low : is_lower c d ≡ true = sym (or-false (is_lower c d)) ∙ lower in
    ap (λ t. (t && stands_in (d ∷ above) e) || is_at_or_beneath c e above) low
    ∙ ap (λ t. t || is_at_or_beneath c e above) (contains-stands (d ∷ above) e (zero, inside, card))
at_beneath c e (suc k) (d ∷ above) inside card lower =
    ⊎_elim
    (λ low. ap (λ t. (t && stands_in (d ∷ above) e) || is_at_or_beneath c e above) low
    ∙ ap (λ t. t || is_at_or_beneath c e above) (contains-stands (d ∷ above) e (suc k, inside, card)))
    (λ later. ap (λ t. (is_lower c d && stands_in (d ∷ above) e) || t) (at_beneath c e k above (omega (arith, inside)) card later)
    ∙ or-true (is_lower c d && stands_in (d ∷ above) e))
    (or_cases (is_lower c d) (list_any (is_lower c) (take (suc k) above)) lower)

-- what a card's row tells of those that wait
pub row_at : (columns : List (List ℕ)) (t : ColumnTable) (i k c e : ℕ) → IsTableOf columns t → c < 52 → k < length (get_or columns i [])
    → get_or (get_or columns i []) k e ≡ e
    → bit_at (get_or t.rows e no_row).waiting c ≡ cond (list_any (is_lower c) (take (suc k) (get_or columns i []))) 1 0
row_at columns t i k c e table below inside card =
    let x : List ℕ = get_or columns i [] in
    let more : ◌≡◌ {A = ℕ} (suc k) (k + 1) = omega arith in
    let next : take (suc k) x ≡ take k x ++ e ∷ [] = ap (λ n. take n x) more ∙ next_seen x k e inside (sym card) in
    (table.rows i (suc k) e (ap last_of next ∙ last_of-push (take k x) e)).waiting c below

-- a card that waits beneath another does so by its row
pub waits_by : (columns : List (List ℕ)) (t : ColumnTable) (c e : ℕ) → IsTableOf columns t → c < 52 → waits_beneath columns c e ≡ true
    → WaitsBy t.rows c e
waits_by columns t c e table below waits =
    let f = found (is_at_or_beneath c e) columns waits in
    let at = beneath_at c e (get_or columns f.place []) f.passes in
    row_at columns t f.place at.place c e table below at.inside at.card ∙ ap (λ s. cond s 1 0) at.lower

pub by_waits : (columns : List (List ℕ)) (t : ColumnTable) (c e : ℕ) → IsTableOf columns t → c < 52 → stands_among columns e ≡ true
    → WaitsBy t.rows c e → waits_beneath columns c e ≡ true
by_waits columns t c e table below stands waits =
    let f = found (λ x. stands_in x e) columns stands in
    let x : List ℕ = get_or columns f.place [] in
    let (k, inside, card) = stands-contains x e f.passes in
    let lower = is_one (list_any (is_lower c) (take (suc k) x)) (sym (row_at columns t f.place k c e table below inside card) ∙ waits) in
    list_any_at (is_at_or_beneath c e) columns f.place [] f.inside (at_beneath c e k x inside card lower)

-- a card beneath which one waits stands in the columns
pub beneath_stands : (columns : List (List ℕ)) (c e : ℕ) → waits_beneath columns c e ≡ true → stands_among columns e ≡ true
beneath_stands columns c e waits =
    let f = found (is_at_or_beneath c e) columns waits in
    let x : List ℕ = get_or columns f.place [] in
    let at = beneath_at c e x f.passes in
    list_any_at (λ y. stands_in y e) columns f.place [] f.inside (contains-stands x e (at.place, at.inside, at.card))

pub ring_stands : (columns : List (List ℕ)) (ring : List ℕ) (e : ℕ) → IsRing columns ring → Contains ring e → stands_among columns e ≡ true
ring_stands columns ring e is here = let (c, there, waits) = is.awaited e here in beneath_stands columns c e waits

-- cards that stand in the columns of a position are cards
pub stands_below : (b : Board) (c : ℕ) → IsPosition b → stands_among b.columns c ≡ true → c < 52
stands_below b c p stands =
    let f = found (λ x. stands_in x c) b.columns stands in
    ⊎_elim (λ lt. lt)
    (λ past. absurd (omega (
      arith,
      p.no_other c past,
      stands-counted (get_or b.columns f.place []) c f.passes,
      get_or-le-sum_by (count_in_column c) b.columns f.place [] f.inside,
    )))
    (cases_lt c 52)

-- by the rows the cards of a ring are tied
pub ring_ties : (b : Board) (t : ColumnTable) (ring : List ℕ) → IsPosition b → IsTableOf b.columns t → IsRing b.columns ring → AreTiedBy t.rows ring
ring_ties b t ring p table is = record {
  waits = λ c here.
      let (e, there, waits) = is.waits c here in
      (e, there, waits_by b.columns t c e table (stands_below b c p (ring_stands b.columns ring c is here)) waits);
  awaited = λ e here.
      let (c, there, waits) = is.awaited e here in
      (c, there, waits_by b.columns t c e table (stands_below b c p (ring_stands b.columns ring c is there)) waits);
}

-- the cards whose bits are set, below a number
unfoldable pub cards_of : ℕ → ℕ → List ℕ
cards_of bits zero = []
cards_of bits (suc n) = cond (bit_at bits n == 1) (n ∷ cards_of bits n) (cards_of bits n)

pub in_cards : (bits n c : ℕ) → Contains (cards_of bits n) c → bit_at bits c ≡ 1
unfolding cards_of
in_cards bits n c here = stand n (contains-stands (cards_of bits n) c here)
  where
    stand : (n : ℕ) → stands_in (cards_of bits n) c ≡ true → bit_at bits c ≡ 1
    stand zero stands = absurd (cc)
    stand (suc n) stands =
        elim (bit_at bits n == 1) as (λ t. (bit_at bits n == 1) ≡ t → stands_in (cond t (n ∷ cards_of bits n) (cards_of bits n)) c ≡ true → bit_at bits c ≡ 1) [
          | true ↦ λ set more.
              ⊎_elim (λ same. ap (bit_at bits) (sym (eqb-true n c same)) ∙ eqb-true (bit_at bits n) 1 set) (λ later. stand n later)
              (or_cases (n == c) (stands_in (cards_of bits n) c) more)
          | false ↦ λ unset more. stand n more
        ] refl stands

pub cards_in : (bits n c : ℕ) → c < n → bit_at bits c ≡ 1 → Contains (cards_of bits n) c
unfolding cards_of
cards_in bits n c below set = stands-contains (cards_of bits n) c (stand n below)
  where
    stand : (n : ℕ) → c < n → stands_in (cards_of bits n) c ≡ true
    stand zero below = absurd (omega (arith, below))
    stand (suc n) below =
        ⊎_elim
        (λ same.
        let one : (bit_at bits n == 1) ≡ true = ap (λ x. bit_at bits x == 1) (sym same) ∙ ap (λ (x : ℕ). x == 1) set in
        let here : (n == c) ≡ true = eq-eqb n c (sym same) in
        ap (λ t. stands_in (cond t (n ∷ cards_of bits n) (cards_of bits n)) c) one ∙ ap (λ t. t || stands_in (cards_of bits n) c) here)
        (λ ne.
        let later = stand n (omega (arith, below, ne)) in
        elim (bit_at bits n == 1) as (λ t. stands_in (cond t (n ∷ cards_of bits n) (cards_of bits n)) c ≡ true) [
          | true ↦ ap (λ t. (n == c) || t) later ∙ or-true (n == c)
          | false ↦ later
        ])
        (cases_eq c n)

-- cards that stand in the columns, each of which is tied, are a ring
pub tied_ring : (b : Board) (t : ColumnTable) (bits some : ℕ) → IsPosition b → IsTableOf b.columns t → bit_at bits some ≡ 1
    → ((c : ℕ) → bit_at bits c ≡ 1 → stands_among b.columns c ≡ true) → AreTiedIn t.rows bits
    → IsRing b.columns (cards_of bits 52)
tied_ring b t bits some p table set stand ties = record {
  some_card = λ none. let (k, inside, card) = cards_in bits 52 some (below some set) set in absurd (omega (arith, inside, ap length none));
  waits = λ c here.
      let own = in_cards bits 52 c here in
      let tie = ties c own in (
        tie.host,
        cards_in bits 52 tie.host (below tie.host tie.host_own) tie.host_own,
        by_waits b.columns t c tie.host table (below c own) (stand tie.host tie.host_own) tie.waits,
      );
  awaited = λ e here.
      let own = in_cards bits 52 e here in
      let tie = ties e own in (
        tie.guest,
        cards_in bits 52 tie.guest (below tie.guest tie.guest_own) tie.guest_own,
        by_waits b.columns t tie.guest e table (below tie.guest tie.guest_own) (stand e own) tie.awaited,
      );
}
  where
    below : (c : ℕ) → bit_at bits c ≡ 1 → c < 52
    below c set = stands_below b c p (stand c set)
