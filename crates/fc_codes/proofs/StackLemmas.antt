-- The columns of a position by its code: what lies where it lay at the start is a front of a column there, and the cards on it have moved.
use Rattle.std.proofs.Common.{◌≡◌, ◌≢◌, ℕ, zero, suc, ◌+◌, ◌-◌, ◌<◌, ◌≤◌, Option, Some, None, List, [], ◌∷◌, ◌++◌, length, map, take, drop, replicate, set, get_or, cond, eqb, ltb, refl, sym, ◌∙◌, ap, subst, ⊎_elim, arith}
use Rattle.std.specs.Prelude.{slice_get, slice_index}
use Rattle.std.specs.Int.{bit_at}
use Rattle.std.proofs.lemmas.List.{take-append-drop, take_more, drop_more, length-drop, get_or_default, get_or-replicate, length-replicate, get_or-map, get_or_past, get_or-set_same, get_or-set_other, set-set, set-get_or, length_push, length-map, length-append, length-take-le, ext_get_or, length-set}
use Rattle.std.proofs.lemmas.Bool.{cases_eq, cases_lt}
use Rattle.std.proofs.lemmas.Bool.Decides.{nat_tests}
use Rattle.fc_position.specs.Board.{Board, column}
use Rattle.fc_position.specs.Position.{IsPosition}
use Rattle.fc_position.proofs.BoardLemmas.{column_most}
use Rattle.fc_codes.specs.State.{AreMoved, StandsOn, IsUnmoved, IsCodeOf}
use Rattle.fc_codes.specs.Spelled.{beneath, seat, lying_on, chain_from, with_padding, deepest_cards, board_of_code}
use Rattle.fc_codes.specs.inner.Beneath.{AreHeadsOf}
use Rattle.fc_codes.specs.inner.Seats.{IsBare, AreOver, AreStacksOf}
use Rattle.fc_codes.specs.inner.Stacks.{HasBegun}
use Rattle.fc_codes.proofs.StandLemmas.{stands_once, standing_below, column_inside}
use Rattle.fc_codes.proofs.BeneathLemmas.{beneath-stands}
use Rattle.fc_codes.proofs.SeatLemmas.{stands_beneath, seat_card, seat_table}
use Rattle.fc_codes.proofs.StateLemmas.{state_unmoved, unmoved_state}
use Rattle.fc_codes.proofs.GrownLemmas.{grows_to}
use Rattle.fc_codes.proofs.FilledLemmas.{grown_next, grown_end, grown_stop}
use Rattle.fc_codes.proofs.TurnLemmas.{seat_unmoved}
use Rattle.fc_codes.specs.inner.Bits.{cards_of}
use Rattle.fc_codes.proofs.BitLemmas.{here, elsewhere}
use Rattle.fc_codes.proofs.BuiltLemmas.{taken_next}

-- what the bits of the cards that have moved tell
pub moved_some : (n bit : ℕ) → bit ≡ cond (ltb 0 n) 1 0 → bit ≡ 1 → 0 < n
moved_some n bit told set_ = ⊎_elim (λ lt. lt) (λ le. let none : ◌≡◌ {A = ℕ} (cond (ltb 0 n) 1 0) 0 = grind (arith, nat_tests) in absurd (omega (arith, told, set_, none))) (cases_lt 0 n)

pub moved_none : (n bit : ℕ) → bit ≡ cond (ltb 0 n) 1 0 → bit ≢ 1 → n ≡ 0
moved_none n bit told clear = ⊎_elim (λ lt. let one : ◌≡◌ {A = ℕ} (cond (ltb 0 n) 1 0) 1 = grind (arith, nat_tests) in absurd (clear (told ∙ one))) (λ le. omega (arith, le)) (cases_lt 0 n)

-- a list with a last card begins with its first one
starts : (n : ℕ) (cards rest above : List ℕ) (c x : ℕ) → cards ≡ c ∷ rest → (n ≡ 0 → x ≡ c)
    → (tail : List ℕ) × (take n cards ++ x ∷ above ≡ c ∷ tail)
starts zero cards rest above c x at first = (above, ap (λ y. y ∷ above) (first refl))
starts (suc n) cards rest above c x at first = (take n rest ++ x ∷ above, ap (λ l. take (suc n) l ++ x ∷ above) at)

module _ (s b : Board) (code : List ℕ) (ps : IsPosition s) (pb : IsPosition b) (coded : IsCodeOf s b code) where
  unmoved_at : (c : ℕ) → c < 52 → slice_index code c ≡ 0 → IsUnmoved s b c
  unmoved_at c below still = state_unmoved s b c (slice_index code c) (coded.states c below) still

  -- on a card that has moved lies none that hasn't
  pub bare_moved : (x : ℕ) → x < 52 → 0 < slice_index code x → IsBare s code x
  bare_moved x small moved c below still lies =
      let u = unmoved_at c below still in
      let on = seat_card s u.below c x ps u.before (sym (beneath-stands s u.below c ps u.before) ∙ lies) small in
      let in_b : StandsOn b (on.0 ++ x ∷ []) c = subst (λ w. StandsOn b w c) on.1 u.here in
      let in_s : StandsOn s (on.0 ++ x ∷ []) c = subst (λ w. StandsOn s w c) on.1 u.before in
      let v : IsUnmoved s b x = record { below = on.0; here = stands_beneath b on.0 x c in_b; before = stands_beneath s on.0 x c in_s } in
      let none = unmoved_state s b x (slice_index code x) pb v (coded.states x small) in
      omega (arith, moved, none)

  -- nor on a card that lies on a bare one
  pub bare_next : (x y : ℕ) → IsBare s code x → y < 52 → seat s code y ≡ x → IsBare s code y
  bare_next x y bare below lies =
      ⊎_elim (λ moved. bare_moved y below moved)
      (λ le. let still : slice_index code y ≡ 0 = omega (arith, le) in
      absurd (bare y below still (sym (seat_unmoved (beneath s y) y (slice_index code y) still) ∙ lies)))
      (cases_lt 0 (slice_index code y))

  -- a card that has moved is alone
  pub begun_alone : (c i : ℕ) (old cleared new : List (List ℕ)) → i < length old → c < 52 → 0 < slice_index code c
      → cleared ≡ set old i [] → new ≡ set cleared i (get_or cleared i [] ++ c ∷ []) → HasBegun s code c i old c new
  begun_alone c i old cleared new inside below moved clear push = record {
    front = c ∷ [];
    laid = push ∙ ap (λ l. set l i (get_or l i [] ++ c ∷ [])) clear
        ∙ ap (λ l. set (set old i []) i (l ++ c ∷ [])) (get_or-set_same old i [] [] inside) ∙ set-set old i [] (c ∷ []);
    whole = sym (grown_next (lying_on s code) c [] (c ∷ []) (lying_on s code c) refl (omega arith) refl);
    bare = bare_moved c below moved;
  }

  -- the column that a card which hasn't moved began at the start
  pub begins : (heads : List ℕ) (c : ℕ) → AreHeadsOf s heads → c < 52 → slice_index code c ≡ 0 → seat s code c ≡ 52
      → (rest : List ℕ) × (column s (slice_index heads c) ≡ c ∷ rest)
  begins heads c told below still deepest =
      let u = unmoved_at c below still in
      let at = sym (beneath-stands s u.below c ps u.before) ∙ sym (seat_unmoved (beneath s c) c (slice_index code c) still) ∙ deepest in
      let none = seat_table s u.below c ps u.before at in
      let first : column s u.before.number ≡ c ∷ u.before.above = u.before.cards ∙ ap (λ l. l ++ c ∷ u.before.above) none in
      let inside = column_inside s u.below c u.before in
      let same = told.begun u.before.number c u.before.above (omega (arith, inside, ps.columns)) first in
      (u.before.above, ap (column s) same ∙ first)

  -- the same of the cards that are found by the tables
  pub column_begins : (start : Board) (heads : List ℕ) (c index bits : ℕ) (cards : List ℕ) → start ≡ s → AreHeadsOf start heads → c < 52
      → AreMoved code bits → bit_at bits c ≢ 1 → seat s code c ≡ 52 → index ≡ c → cards ≡ column start (get_or heads index 0)
      → (rest : List ℕ) × (column s (get_or heads c 0) ≡ c ∷ rest) × (cards ≡ column s (get_or heads c 0))
  column_begins start heads c index bits cards same told below moved clear deepest at found =
      let still = moved_none (slice_index code c) (bit_at bits c) (moved c below) clear in
      let begun = begins heads c (subst (λ t. AreHeadsOf t heads) same told) below still deepest in
      (begun.0, begun.1, found ∙ ap (λ t. column t (get_or heads index 0)) same ∙ ap (λ i. column s (get_or heads i 0)) at)

  module _ (c j n x : ℕ) (rest : List ℕ) (begin : column s j ≡ c ∷ rest)
      (inside : n < length (column s j)) (at : x ≡ get_or (column s j) n x) (bits : ℕ) (told : AreMoved code bits)
      (clear : bit_at bits x ≢ 1) (past : (i : ℕ) → n < i → i < length (column s j) → bit_at bits (get_or (column s j) i 0) ≡ 1) where
    first : n ≡ 0 → x ≡ c
    first none = at ∙ ap (λ i. get_or (column s j) i x) none ∙ ap (λ l. get_or l 0 x) begin

    in_start : StandsOn s (take n (column s j)) x
    in_start = record {
      number = j;
      above = drop (n + 1) (column s j);
      cards = sym (take-append-drop n (column s j))
          ∙ ap (λ l. take n (column s j) ++ l) (drop_more (column s j) n x inside ∙ ap (λ y. y ∷ drop (n + 1) (column s j)) (sym at));
    }

    small : x < 52
    small = standing_below s (take n (column s j)) x ps in_start

    last_still : slice_index code x ≡ 0
    last_still = moved_none (slice_index code x) (bit_at bits x) (told x small) clear

    in_board : StandsOn b (take n (column s j)) x
    in_board =
        let u = unmoved_at x small last_still in
        subst (λ w. StandsOn b w x) (stands_once s x u.below (take n (column s j)) ps u.before in_start).1 u.here

    last_bare : IsBare s code x
    unfolding in_start
    last_bare y below none lies =
        let u = unmoved_at y below none in
        let on = seat_card s u.below y x ps u.before (sym (beneath-stands s u.below y ps u.before) ∙ lies) small in
        let in_s : StandsOn s (on.0 ++ x ∷ []) y = subst (λ w. StandsOn s w y) on.1 u.before in
        let same = (stands_once s x on.0 (take n (column s j)) ps (stands_beneath s on.0 x y in_s) in_start).2 in
        let next = taken_next (column s j) (n + 1) y in_s.above (sym same) in
        let set_ = past (n + 1) (omega arith) next.0 in
        let is : get_or (column s j) (n + 1) 0 ≡ y = sym (get_or_default (column s j) (n + 1) y 0 next.0) ∙ sym next.1 in
        let some = moved_some (slice_index code y) (bit_at bits y) (told y below) (ap (bit_at bits) (sym is) ∙ set_) in
        omega (arith, some, none)

    pub begun_front : (i : ℕ) (old new : List (List ℕ)) → new ≡ set old i (take (n + 1) (column s j)) → HasBegun s code c i old x new
    begun_front i old new lay =
        let above = in_board.above in
        let front = take n (column s j) in
        let tail = starts n (column s j) rest above c x begin first in
        let long = column_most b in_board.number [] pb (column_inside b front x in_board) in
        let cards = ap length in_board.cards in
        let all = length-append front (x ∷ above) in
        let size = length-take-le n (column s j) (omega (arith, inside)) in
        let whole : chain_from (lying_on s code) 52 (Some c) ≡ c ∷ tail.0 =
        grows_to s b code ps pb coded tail.0 [] in_board.number c 52 (in_board.cards ∙ tail.1)
        (let both = ap length tail.1 in omega (arith, long, cards, both)) in
        let upper : chain_from (lying_on s code) (52 - length front) (Some x) ≡ x ∷ above =
        grows_to s b code ps pb coded above front in_board.number x (52 - length front) in_board.cards (omega (arith, long, cards, all)) in
        let more : take (n + 1) (column s j) ≡ front ++ x ∷ [] =
        take_more (column s j) n x inside ∙ ap (λ y. front ++ y ∷ []) (sym at) in
        record {
          front = take (n + 1) (column s j);
          laid = lay;
          whole = whole ∙ sym tail.1 ∙ ap (λ l. front ++ l) (sym upper)
              ∙ sym (grown_next (lying_on s code) x front (take (n + 1) (column s j)) (lying_on s code x) more (omega (arith, long, cards, all)) refl);
          bare = last_bare;
        }

-- the card with a number, if it is one
abbrev card_of : ℕ → Option ℕ
card_of n = cond (ltb n 52) (Some n) None

card_is : (n c : ℕ) → card_of n ≡ Some c → (n < 52) × (n ≡ c)
card_is n c e =
    ⊎_elim (λ below. let some : card_of n ≡ Some n = grind (arith, nat_tests) in (below, cc))
    (λ past. let none : card_of n ≡ None = grind (arith, nat_tests) in absurd (cc (e, none)))
    (cases_lt n 52)

-- what a column is to be that has these cards so far, the last of which is told
abbrev grows_at : Board → List ℕ → ℕ → List ℕ → List ℕ
grows_at s code last cards = cards ++ chain_from (lying_on s code) (52 - length cards) (lying_on s code last)

-- a column grows: with the card that comes next, and those on it, it is what it is to be, and the others are as they were
pub record Grows (s : Board) (code : List ℕ) (i last : ℕ) (old columns : List (List ℕ)) (next : ℕ) : Type 0 where
  pub count : length columns ≡ 8
  pub others : columns ≡ set old i (get_or columns i [])
  pub built : get_or columns i [] ++ chain_from (lying_on s code) (52 - length (get_or columns i [])) (card_of next)
      ≡ grows_at s code last (get_or old i [])
  pub bare : next < 52 → IsBare s code next

module _ (s b : Board) (code : List ℕ) (ps : IsPosition s) (pb : IsPosition b) (coded : IsCodeOf s b code) (table : List ℕ)
    (told : AreOver s code table) where
  pub grows_first : (i last index : ℕ) (old : List (List ℕ)) → length old ≡ 8 → last < 52 → index ≡ last → IsBare s code last
      → Grows s code i last old old (get_or table index 0)
  grows_first i last index old eight below at bare = record {
    count = eight;
    others = sym (set-get_or old i []);
    built = ap (λ o. get_or old i [] ++ chain_from (lying_on s code) (52 - length (get_or old i [])) o)
        (ap (λ x. card_of (get_or table x 0)) at ∙ told.above last below bare);
    bare = λ small. let same = ap (λ x. get_or table x 0) at in
        bare_next s b code ps pb coded last (get_or table index 0) bare small
        (ap (seat s code) same ∙ told.there last below (omega (arith, small, same)));
  }

  pub grows_more : (i last card index next : ℕ) (o : Option ℕ) (old columns new : List (List ℕ)) → i < 8
      → length (get_or columns i []) < 52 → o ≡ card_of next → o ≡ Some card → index ≡ card
      → new ≡ set columns i (get_or columns i [] ++ card ∷ []) → Grows s code i last old columns next
      → Grows s code i last old new (get_or table index 0) × (52 - length (get_or new i []) < 52 - length (get_or columns i []))
  grows_more i last card index next o old columns new there room is some at push g =
      let cards = get_or columns i [] in
      let card_here = card_is next card (sym is ∙ some) in
      let below : card < 52 = omega (arith, card_here.0, card_here.1) in
      let bare : IsBare s code card = subst (IsBare s code) card_here.1 (g.bare card_here.0) in
      let here : get_or new i [] ≡ cards ++ card ∷ [] =
      ap (λ l. get_or l i []) push ∙ get_or-set_same columns i (cards ++ card ∷ []) [] (omega (arith, there, g.count)) in
      let next_is : card_of (get_or table index 0) ≡ lying_on s code card =
      ap (λ x. card_of (get_or table x 0)) at ∙ told.above card below bare in (
        record {
          count = ap length push ∙ length-set columns i (cards ++ card ∷ []) ∙ g.count;
          others = push ∙ ap (λ l. set l i (cards ++ card ∷ [])) g.others ∙ set-set old i cards (cards ++ card ∷ [])
              ∙ ap (set old i) (sym here);
          built = grown_next (lying_on s code) card cards (get_or new i []) (card_of (get_or table index 0)) here room next_is
              ∙ ap (λ p. cards ++ chain_from (lying_on s code) (52 - length cards) p) (sym some ∙ is) ∙ g.built;
          bare = λ small. let same = ap (λ x. get_or table x 0) at in
              bare_next s b code ps pb coded card (get_or table index 0) bare small
              (ap (seat s code) same ∙ told.there card below (omega (arith, small, same)));
        },
        (let long = ap length here in omega (arith, long, length_push cards card, room)),
      )

-- a column has grown where no card comes next
pub grown_out : (s : Board) (code : List ℕ) (i last next : ℕ) (o : Option ℕ) (old columns : List (List ℕ)) → o ≡ card_of next → o ≡ None
    → Grows s code i last old columns next → columns ≡ set old i (grows_at s code last (get_or old i []))
grown_out s code i last next o old columns is none g =
    g.others ∙ ap (set old i)
    (sym (grown_stop (lying_on s code) (52 - length (get_or columns i [])) (card_of next) (get_or columns i []) (sym is ∙ none)) ∙ g.built)

pub grown_full : (s : Board) (code : List ℕ) (i last next : ℕ) (old columns : List (List ℕ)) → 52 ≤ length (get_or columns i [])
    → Grows s code i last old columns next → columns ≡ set old i (grows_at s code last (get_or old i []))
grown_full s code i last next old columns full g =
    g.others ∙ ap (set old i)
    (sym (grown_end (lying_on s code) (52 - length (get_or columns i [])) (card_of next) (get_or columns i []) (omega (arith, full))) ∙ g.built)

-- the tables of deepest cards, a column more
pub record TellsHeads (s : Board) (i : ℕ) (heads : List ℕ) : Type 0 where
  pub count : length heads ≡ 52
  pub there : (c : ℕ) → c < 52 → get_or heads c 0 < 8
  pub begun : (j c : ℕ) (rest : List ℕ) → j < i → column s j ≡ c ∷ rest → get_or heads c 0 ≡ j

pub no_heads : (s : Board) (n : ℕ) → n ≡ 52 → TellsHeads s 0 (replicate n 0)
no_heads s n e = record {
  count = length-replicate {A = ℕ} n 0 ∙ e;
  there = λ c below. let at = get_or-replicate {A = ℕ} n c 0 0 (omega (arith, e, below)) in omega (arith, at);
  begun = λ j c rest below. absurd (omega (arith, below));
}

pub head_is : (cards : List ℕ) (c : ℕ) → slice_get cards 0 ≡ Some c → (above : List ℕ) × (cards ≡ c ∷ above)
head_is [] c e = absurd (cc e)
head_is (x ∷ xs) c e = (xs, let same : x ≡ c = cc e in ap (λ y. y ∷ xs) same)

pub no_head : (cards : List ℕ) → slice_get cards 0 ≡ None → cards ≡ []
no_head [] e = refl
no_head (x ∷ xs) e = absurd (cc e)

pub head_none : (s : Board) (i : ℕ) (heads : List ℕ) → column s i ≡ [] → TellsHeads s i heads → TellsHeads s (i + 1) heads
head_none s i heads none told = record {
  count = told.count;
  there = told.there;
  begun = λ j c rest below at. ⊎_elim
      (λ same. let e = sym at ∙ ap (column s) same ∙ none in absurd (cc e))
      (λ other. told.begun j c rest (omega (arith, below, other)) at)
      (cases_eq j i);
}

pub head_some : (s : Board) (i card : ℕ) (above heads : List ℕ) → IsPosition s → i < 8 → column s i ≡ card ∷ above
    → TellsHeads s i heads → TellsHeads s (i + 1) (set heads card i)
head_some s i card above heads ps there first told =
    let p : StandsOn s [] card = record { number = i; above = above; cards = first } in
    let small = standing_below s [] card ps p in
    let here = get_or-set_same heads card i 0 (omega (arith, told.count, small)) in
    record {
      count = length-set heads card i ∙ told.count;
      there = λ c below. ⊎_elim
          (λ same. let at = ap (λ k. get_or (set heads card i) k 0) same ∙ here in omega (arith, at, there))
          (λ other. let at = get_or-set_other heads card c i 0 other in omega (arith, at, told.there c below))
          (cases_eq c card);
      begun = λ j c rest below at. ⊎_elim
          (λ same. let e : c ∷ rest ≡ card ∷ above = sym at ∙ ap (column s) same ∙ first in
          let is : c ≡ card = cc e in ap (λ k. get_or (set heads card i) k 0) is ∙ here ∙ sym same)
          (λ other. get_or-set_other heads card c i 0 (λ is.
          let q : StandsOn s [] card = record { number = j; above = rest; cards = at ∙ ap (λ k. k ∷ rest) is } in
          other (stands_once s card [] [] ps q p).0) ∙ told.begun j c rest (omega (arith, below, other)) at)
          (cases_eq j i);
    }

-- what is read of a list that is filled up is what is read of the list
get_filled : (m : ℕ) (xs : List (List ℕ)) (i : ℕ) → get_or (xs ++ replicate m []) i [] ≡ get_or xs i []
get_filled zero [] i = refl
get_filled (suc m) [] zero = refl
get_filled (suc m) [] (suc i) = get_filled m [] i
get_filled m (x ∷ xs) zero = refl
get_filled m (x ∷ xs) (suc i) = get_filled m xs i

abbrev built : Board → List ℕ → ℕ → List ℕ
built s code c = chain_from (lying_on s code) 52 (Some c)

-- the column with a number, by the deepest cards
columns_are : (s : Board) (code : List ℕ) → (board_of_code s code).columns ≡ with_padding 8 [] (map (built s code) (deepest_cards s code))
unfolding board_of_code
columns_are s code = refl

column_built : (s : Board) (code : List ℕ) (i c : ℕ) → i < length (deepest_cards s code) → c ≡ get_or (deepest_cards s code) i c
    → get_or (board_of_code s code).columns i [] ≡ built s code c
column_built s code i c inside at =
    let cards = deepest_cards s code in
    ap (λ l. get_or l i []) (columns_are s code) ∙ get_filled (8 - length (map (built s code) cards)) (map (built s code) cards) i
    ∙ get_or-map (built s code) cards i c [] inside ∙ ap (built s code) (sym at)

column_none : (s : Board) (code : List ℕ) (i : ℕ) → length (deepest_cards s code) ≤ i → get_or (board_of_code s code).columns i [] ≡ []
column_none s code i past =
    let cards = deepest_cards s code in
    ap (λ l. get_or l i []) (columns_are s code) ∙ get_filled (8 - length (map (built s code) cards)) (map (built s code) cards) i
    ∙ get_or_past (map (built s code) cards) i [] (omega (arith, past, length-map cards (built s code)))

-- the first columns are those that the code spells
abbrev pub AreDone : Board → List ℕ → ℕ → List (List ℕ) → Type 0
AreDone s code i columns = (m : ℕ) → m < i → get_or columns m [] ≡ get_or (board_of_code s code).columns m []

one_done : (s : Board) (code : List ℕ) (i : ℕ) (v : List ℕ) (columns new : List (List ℕ)) → i < length columns
    → new ≡ set columns i v → v ≡ get_or (board_of_code s code).columns i [] → AreDone s code i columns → AreDone s code (i + 1) new
one_done s code i v columns new inside at is done m below =
    ap (λ l. get_or l m []) at
    ∙ ⊎_elim
    (λ same. ap (λ k. get_or (set columns i v) k []) same ∙ get_or-set_same columns i v [] inside ∙ is
    ∙ ap (λ k. get_or (board_of_code s code).columns k []) (sym same))
    (λ other. get_or-set_other columns i m v [] other ∙ done m (omega (arith, below, other)))
    (cases_eq m i)

-- a column more, once begun and what grows on it
pub column_done : (s : Board) (code : List ℕ) (i c last : ℕ) (columns begun new : List (List ℕ)) → i < length columns
    → HasBegun s code c i columns last begun → i < length (deepest_cards s code) → c ≡ get_or (deepest_cards s code) i c
    → new ≡ set begun i (get_or begun i [] ++ chain_from (lying_on s code) (52 - length (get_or begun i [])) (lying_on s code last))
    → AreDone s code i columns → (length new ≡ length columns) × AreDone s code (i + 1) new
column_done s code i c last columns begun new inside is here at grow done =
    let grows = λ (l : List ℕ). l ++ chain_from (lying_on s code) (52 - length l) (lying_on s code last) in
    let there : get_or begun i [] ≡ is.front = ap (λ l. get_or l i []) is.laid ∙ get_or-set_same columns i is.front [] inside in
    let all : new ≡ set columns i (grows is.front) =
    grow ∙ ap (λ l. set begun i (grows l)) there ∙ ap (λ l. set l i (grows is.front)) is.laid
    ∙ set-set columns i is.front (grows is.front) in (
      ap length all ∙ length-set columns i (grows is.front),
      one_done s code i (grows is.front) columns new inside all (sym is.whole ∙ sym (column_built s code i c here at)) done,
    )

-- none is left past the last
pub none_left : (cards : List ℕ) (i : ℕ) → drop i cards ≡ [] → length cards ≤ i
none_left cards i e = let none = ap length e in omega (arith, length-drop i cards, none)

-- all columns are done, where the others are empty
pub all_done : (s : Board) (code : List ℕ) (i : ℕ) (columns cleared : List (List ℕ)) → i ≡ length (deepest_cards s code)
    → length cleared ≡ 8 → length (board_of_code s code).columns ≡ 8 → AreDone s code i columns
    → ((m : ℕ) → m < i → get_or cleared m [] ≡ get_or columns m []) → ((m : ℕ) → i ≤ m → m < 8 → get_or cleared m [] ≡ [])
    → cleared ≡ (board_of_code s code).columns
all_done s code i columns cleared count long eight done kept empty =
    ext_get_or [] cleared (board_of_code s code).columns (long ∙ sym eight)
    (λ m inside. ⊎_elim (λ lt. kept m lt ∙ done m lt)
    (λ le. empty m le (omega (arith, inside, long)) ∙ sym (column_none s code m (omega (arith, count, le))))
    (cases_lt m i))

-- the bits tell the deepest cards
pub deepest_told : (s : Board) (code table : List ℕ) (tops marks : ℕ) → AreStacksOf s code table tops marks
    → cards_of tops ≡ deepest_cards s code
unfolding deepest_cards
deepest_told s code table tops marks told = told.deepest

-- bits that are left are of deepest cards
pub bits_left : (deepest rest new index : ℕ) → ((c : ℕ) → bit_at rest c ≡ 1 → bit_at deepest c ≡ 1)
    → ((c : ℕ) → bit_at new c ≡ cond (eqb c index) 0 (bit_at rest c)) → (c : ℕ) → bit_at new c ≡ 1 → bit_at deepest c ≡ 1
bits_left deepest rest new index held without c set_ =
    ⊎_elim
    (λ same. let none : ◌≡◌ {A = ℕ} (cond (eqb c index) 0 (bit_at rest c)) 0 = here c index 0 (bit_at rest c) same in
    absurd (omega (arith, set_, without c, none)))
    (λ other. held c (sym (elsewhere c index 0 (bit_at rest c) other) ∙ sym (without c) ∙ set_))
    (cases_eq c index)
