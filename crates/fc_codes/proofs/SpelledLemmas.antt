-- The code of a position spells the canonical board of its class.
use Rattle.std.proofs.Common.{◌≡◌, ℕ, ◌<◌, ◌≤◌, Option, Some, None, List, [], ◌∷◌, ◌++◌, length, get_or, eqb, refl, sym, ◌∙◌, ap, arith}
use Rattle.std.specs.Prelude.{slice_index}
use Rattle.std.proofs.lemmas.List.{get_or_default}
use Rattle.std.proofs.lemmas.Bool.Decides.{nat_tests}
use Rattle.fc_position.specs.Board.{Board, column, cell}
use Rattle.fc_position.specs.Position.{IsPosition}
use Rattle.fc_position.proofs.BoardLemmas.{column_most, cell_there}
use Rattle.fc_canonical.specs.Order.{column_order, cell_byte, IsCanonical}
use Rattle.fc_moves.proofs.BackLemmas.{same_board}
use Rattle.fc_codes.specs.State.{StandsOn, IsCodeOf}
use Rattle.fc_codes.specs.Spelled.{seat, lying_on, chain_from, deepest_cards, cell_cards, board_of_code}
use Rattle.fc_codes.proofs.StandLemmas.{stands_once, standing_below, column_inside, in_cell_once, in_cell_below}
use Rattle.fc_codes.proofs.StateLemmas.{cell_state, state_cell}
use Rattle.fc_codes.proofs.SeatLemmas.{seat-stands, seat_found, seat_table}
use Rattle.fc_codes.proofs.GrownLemmas.{grows_to}
use Rattle.fc_codes.proofs.HomeLemmas.{homes_counted}
use Rattle.fc_codes.proofs.ListedLemmas.{IsListed, listed_filled}

-- a column that comes before the empty ones begins with its order
begins : (cards : List ℕ) → column_order cards < 52 → (rest : List ℕ) × (cards ≡ column_order cards ∷ rest)
begins [] low = absurd (omega (arith, low))
begins (x ∷ rest) low = (rest, refl)

-- a cell that comes before the empty ones holds the card of its byte
holds : (x : Option ℕ) → cell_byte x < 52 → x ≡ Some (cell_byte x)
holds None low = absurd (omega (arith, low))
holds (Some c) low = refl

module _ (s b : Board) (code : List ℕ) (ps : IsPosition s) (pb : IsPosition b) (k : IsCodeOf s b code) where
  empty_column : (cards : List ℕ) (i : ℕ) → column b i ≡ cards → 52 ≤ column_order cards → cards ≡ []
  empty_column [] i at high = refl
  empty_column (x ∷ rest) i at high =
      let small = standing_below b [] x pb (record { number = i; above = rest; cards = at }) in
      absurd (omega (arith, small, high))

  columns_listed : IsCanonical b
      → IsListed column_order (λ c. eqb (seat s code c) 52) (λ c. chain_from (lying_on s code) 52 (Some c)) [] 0 b.columns
  columns_listed o = record {
    rises = λ i j d lt inside. o.columns i j d (omega (arith, lt)) inside;
    apart = λ i j d lt inside low same.
        let first = begins (get_or b.columns i d) low in
        let other = begins (get_or b.columns j d) (omega (arith, low, same)) in
        let p : StandsOn b [] (column_order (get_or b.columns i d)) =
        record { number = i; above = first.0; cards = get_or_default b.columns i [] d (omega (arith, lt, inside)) ∙ first.1 } in
        let q : StandsOn b [] (column_order (get_or b.columns i d)) =
        record {
          number = j;
          above = other.0;
          cards = get_or_default b.columns j [] d inside ∙ other.1 ∙ ap (λ y. y ∷ other.0) (sym same);
        } in
        let one = stands_once b (column_order (get_or b.columns i d)) [] [] pb p q in
        omega (arith, lt, one.0);
    from = λ i d inside. omega arith;
    passes = λ i d inside low.
        let first = begins (get_or b.columns i d) low in
        let at = seat-stands s b code (column_order (get_or b.columns i d)) [] ps pb k
        (record { number = i; above = first.0; cards = get_or_default b.columns i [] d inside ∙ first.1 }) in
        grind (arith, nat_tests);
    made = λ i d inside low.
        let first = begins (get_or b.columns i d) low in
        let most = column_most b i d pb inside in
        let long = ap length first.1 in
        grows_to s b code ps pb k first.0 [] i (column_order (get_or b.columns i d)) 52
        (get_or_default b.columns i [] d inside ∙ first.1) (omega (arith, most, long)) ∙ sym first.1;
    empty = λ i d inside high. empty_column (get_or b.columns i d) i (get_or_default b.columns i [] d inside) high;
    complete = λ c low small yes_.
        let at : seat s code c ≡ 52 = grind (arith, nat_tests) in
        let found = seat_found s b code c ps pb k small (omega (arith, at)) in
        let none = seat_table b found.0 c pb found.1 (sym found.2 ∙ at) in
        let inside = column_inside b found.0 c found.1 in (
          found.1.number,
          inside,
          λ d. ap column_order (get_or_default b.columns found.1.number d [] inside ∙ found.1.cards
              ∙ ap (λ w. w ++ c ∷ found.1.above) none),
        );
  }

  empty_cell : (x : Option ℕ) (i : ℕ) → cell b i ≡ x → 52 ≤ cell_byte x → x ≡ None
  empty_cell None i at high = refl
  empty_cell (Some c) i at high =
      let small = in_cell_below b c pb (record { number = i; held = at }) in absurd (omega (arith, small, high))

  cells_listed : IsCanonical b
      → IsListed cell_byte (λ c. eqb (slice_index code c) 2) (λ (c : ℕ). Some c) None 0 b.cells
  cells_listed o = record {
    rises = λ i j d lt inside. o.cells i j d (omega (arith, lt)) inside;
    apart = λ i j d lt inside low same.
        let c = cell_byte (get_or b.cells i d) in
        let first : cell b i ≡ Some c =
        get_or_default b.cells i None d (omega (arith, lt, inside)) ∙ holds (get_or b.cells i d) low in
        let other : cell b j ≡ Some c =
        get_or_default b.cells j None d inside ∙ holds (get_or b.cells j d) (omega (arith, low, same)) ∙ ap (λ x. Some x) (sym same) in
        let one = in_cell_once b c i j pb first other in
        omega (arith, lt, one);
    from = λ i d inside. omega arith;
    passes = λ i d inside low.
        let c = cell_byte (get_or b.cells i d) in
        let first : cell b i ≡ Some c = get_or_default b.cells i None d inside ∙ holds (get_or b.cells i d) low in
        let at = cell_state s b c (slice_index code c) pb (record { number = i; held = first }) (k.states c low) in
        grind (arith, nat_tests);
    made = λ i d inside low. sym (holds (get_or b.cells i d) low);
    empty = λ i d inside high. empty_cell (get_or b.cells i d) i (get_or_default b.cells i None d inside) high;
    complete = λ c low small yes_.
        let at : slice_index code c ≡ 2 = grind (arith, nat_tests) in
        let found = state_cell s b c (slice_index code c) (k.states c small) at in
        let inside = cell_there b found.number c found.held in
        (found.number, inside, λ d. ap cell_byte (get_or_default b.cells found.number d None inside ∙ found.held));
  }

  pub spelled_is : IsCanonical b → b ≡ board_of_code s code
  unfolding board_of_code deepest_cards cell_cards
  spelled_is o =
      same_board b (board_of_code s code)
      (listed_filled column_order (λ c. eqb (seat s code c) 52) (λ c. chain_from (lying_on s code) 52 (Some c)) [] 8 b.columns pb.columns
      (columns_listed o))
      (listed_filled cell_byte (λ c. eqb (slice_index code c) 2) (λ (c : ℕ). Some c) None 4 b.cells pb.cells (cells_listed o))
      (homes_counted s b code pb k)
