-- The code of a position, told column by column.
use Rattle.std.proofs.Common.{◌≡◌, ◌≢◌, ℕ, ◌+◌, ◌<◌, ◌⊎◌, Option, Some, None, List, [], ◌∷◌, ◌++◌, length, set, get_or, take, drop, cond, eqb, refl, sym, ◌∙◌, ap, subst, ⊎_elim, arith}
use Rattle.std.specs.Prelude.{slice_index}
use Rattle.std.proofs.lemmas.List.{get_or-set_same, get_or-set_other, take-append-drop, drop_more, take_more}
use Rattle.std.proofs.lemmas.List.Sums.{sum_by_push, get_or-le-sum_by}
use Rattle.std.proofs.lemmas.Bool.{cases_eq, cases_lt}
use Rattle.std.proofs.lemmas.Bool.Decides.{nat_tests}
use Rattle.fc_cards.specs.Card.{rank}
use Rattle.fc_position.specs.Board.{Board, column, IsHome, count_in_column, count_in_cell}
use Rattle.fc_position.specs.Position.{IsPosition}
use Rattle.fc_position.proofs.PlaceLemmas.{one_itself, one_column}
use Rattle.fc_codes.specs.State.{StandsOn, IsInCell, IsStateOf, IsCodeOf}
use Rattle.fc_codes.specs.inner.Landed.{table_state, card_state, IsCellState, IsHomeState, EndsWith, IsOver, TellsCards, TellsColumns}
use Rattle.fc_codes.proofs.StandLemmas.{column_inside, column_counts, where_is, nowhere}
use Rattle.fc_codes.proofs.LandedLemmas.{table_stands, card_stands, card_none}
use Rattle.fc_codes.proofs.StartLemmas.{placed_aside}

-- a card on the table, and one on a card
pub over_table : (s b : Board) (code : List ℕ) (card : ℕ) → IsPosition s → IsOver s b code None card → IsStateOf s b card (table_state s card)
over_table s b code card ps o =
    table_stands s b card ps o.position (subst (λ w. StandsOn b w card) o.ends o.stands)

pub over_card : (s b : Board) (code : List ℕ) (l card : ℕ) → IsPosition s → IsOver s b code (Some l) card
    → (card_state s code card l ≡ 0) ⊎ (rank card + 1 ≡ rank l) → IsStateOf s b card (card_state s code card l)
over_card s b code l card ps o may =
    card_stands s b code o.ends.0 card l ps o.position (o.told l refl) (subst (λ w. StandsOn b w card) o.ends.1 o.stands) may

pub over_none : (s b : Board) (code : List ℕ) (l card : ℕ) → IsPosition s → IsOver s b code (Some l) card
    → (card_state s code card l ≡ 0 → ⊥) → (rank card + 1 ≡ rank l → ⊥) → (n : ℕ) → IsStateOf s b card n → ⊥
over_none s b code l card ps o not_zero not_higher n =
    card_none s b code o.ends.0 card l n ps o.position (o.told l refl) (subst (λ w. StandsOn b w card) o.ends.1 o.stands) not_zero
    not_higher

-- the next card of a column stands on the cards before it
next_stands : (b : Board) (i k : ℕ) (d : ℕ) → k < length (column b i)
    → StandsOn b (take k (column b i)) (get_or (column b i) k d)
next_stands b i k d inside = record {
  number = i;
  above = drop (k + 1) (column b i);
  cards = sym (take-append-drop k (column b i)) ∙ ap (λ l. take k (column b i) ++ l) (drop_more (column b i) k d inside);
}

last_told : (s b : Board) (cards old new : List ℕ) (below : Option ℕ) (l : ℕ) → TellsCards s b cards old new → EndsWith cards below
    → below ≡ Some l → IsStateOf s b l (slice_index new l)
last_told s b cards old new None l t ends e = absurd (cc e)
last_told s b cards old new (Some k) l t ends e =
    let same : k ≡ l = cc in
    let count = sum_by_push (λ x. cond (eqb x k) 1 0) ends.0 k in
    let here = ap (count_in_column k) ends.1 in
    let one = one_itself k in
    subst (λ x. IsStateOf s b x (slice_index new x)) same (t.told k (omega (arith, count, here, one)))

pub is_over : (s b : Board) (i k : ℕ) (old new : List ℕ) (below : Option ℕ) (card : ℕ) → IsPosition b → k < length (column b i)
    → card ≡ get_or (column b i) k card → TellsCards s b (take k (column b i)) old new → EndsWith (take k (column b i)) below
    → IsOver s b new below card
is_over s b i k old new below card p inside at t ends = record {
  position = p;
  cards = take k (column b i);
  ends = ends;
  stands = subst (StandsOn b (take k (column b i))) (sym at) (next_stands b i k card inside);
  told = λ l e. last_told s b (take k (column b i)) old new below l t ends e;
}

pub tells_more : (s b : Board) (i k : ℕ) (old new : List ℕ) (card state : ℕ) → k < length (column b i)
    → card ≡ get_or (column b i) k card → length new ≡ 52 → card < 52 → TellsCards s b (take k (column b i)) old new
    → IsStateOf s b card state → TellsCards s b (take (k + 1) (column b i)) old (set new card state)
tells_more s b i k old new card state inside at long small t here =
    let cards = take k (column b i) in
    let more : take (k + 1) (column b i) ≡ cards ++ card ∷ [] =
    take_more (column b i) k card inside ∙ ap (λ c. cards ++ c ∷ []) (sym at) in
    let count : (c : ℕ) → count_in_column c (take (k + 1) (column b i)) ≡ count_in_column c cards + count_in_cell c (Some card) = λ c.
    ap (count_in_column c) more ∙ sum_by_push (λ x. cond (eqb x c) 1 0) cards card in
    record {
      told = λ c some. ⊎_elim
          (λ same. let set_ : slice_index (set new card state) c ≡ state =
          ap (slice_index (set new card state)) same ∙ get_or-set_same new card state 0 (omega (arith, long, small)) in
          subst (IsStateOf s b c) (sym set_) (subst (λ x. IsStateOf s b x state) (sym same) here))
          (λ other. let none : ◌≡◌ {A = ℕ} (cond (eqb card c) 1 0) 0 = grind (arith, nat_tests) in
          subst (IsStateOf s b c) (sym (get_or-set_other new card c state 0 other))
          (t.told c (omega (arith, some, count c, none))))
          (cases_eq c card);
      others = λ c none.
          let other : c ≢ card = λ same.
          let one : ◌≡◌ {A = ℕ} (cond (eqb card c) 1 0) 1 = grind (arith, nat_tests) in omega (arith, none, count c, one) in
          get_or-set_other new card c state 0 other ∙ t.others c (omega (arith, none, count c));
    }

pub ends_more : (b : Board) (i k card : ℕ) → k < length (column b i) → card ≡ get_or (column b i) k card
    → EndsWith (take (k + 1) (column b i)) (Some card)
ends_more b i k card inside at =
    (take k (column b i), take_more (column b i) k card inside ∙ ap (λ c. take k (column b i) ++ c ∷ []) (sym at))

pub columns_more : (s b : Board) (i : ℕ) (old mid new : List ℕ) → IsPosition b → i < 8 → TellsColumns s b i old mid
    → TellsCards s b (column b i) mid new → TellsColumns s b (i + 1) old new
columns_more s b i old mid new p inside before t = record {
  told = λ j c below some. ⊎_elim
      (λ same. t.told c (omega (arith, some, ap (λ k. count_in_column c (column b k)) same)))
      (λ other. ⊎_elim
      (λ none. subst (IsStateOf s b c) (sym (t.others c (omega (arith, none))))
      (before.told j c (omega (arith, below, other)) some))
      (λ here. absurd (other (one_column b c j i p (omega (arith, p.columns, below, inside)) (omega (arith, p.columns, inside)) some here)))
      (cases_lt (count_in_column c (column b i)) 1))
      (cases_eq j i);
  others = λ c none. t.others c (none i (omega arith)) ∙ before.others c (λ j below. none j (omega (arith, below)));
}

-- a card in a cell or at home is in no column
none_in_columns : (b : Board) (c j : ℕ) → IsPosition b → IsInCell b c ⊎ IsHome b.homes c → j < 8 → count_in_column c (column b j) ≡ 0
none_in_columns b c j p other below =
    let most = get_or-le-sum_by (count_in_column c) b.columns j [] (omega (arith, p.columns, below)) in
    omega (arith, most, nowhere b c p other)

-- all columns, and the cells and the foundations before them
pub whole_code : (s b : Board) (cells homes code : List ℕ) (n : ℕ) → IsPosition b → n ≡ 8
    → ((c : ℕ) → c < 52 → IsCellState b 4 c (slice_index cells c))
    → ((c : ℕ) → c < 52 → IsHomeState b c (slice_index cells c) (slice_index homes c)) → TellsColumns s b n homes code
    → length code ≡ 52 → IsCodeOf s b code
whole_code s b cells homes code n p eight in_cells at_homes t long = record {
  count = long;
  states = λ c below. ⊎_elim
      (λ at. t.told at.1.number c (let inside = column_inside b at.0 c at.1 in omega (arith, inside, p.columns, eight))
      (column_counts b at.0 c at.1))
      (λ other. subst (IsStateOf s b c)
      (sym (t.others c (λ j lt. none_in_columns b c j p other (omega (arith, lt, eight)))))
      (placed_aside s b c (slice_index cells c) (slice_index homes c) p (in_cells c below) (at_homes c below) other))
      (where_is b c p below);
}
