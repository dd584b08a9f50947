-- The state of the card that moved, and so the code after a move.
use Rattle.std.proofs.Common.{◌≡◌, ◌≢◌, ℕ, ◌+◌, ◌<◌, ◌≤◌, ◌⊎◌, Some, None, List, [], ◌∷◌, ◌++◌, length, set, get_or, refl, sym, ◌∙◌, ap, subst, inr, ⊎_elim, arith}
use Rattle.std.specs.Prelude.{slice_index}
use Rattle.std.proofs.lemmas.List.{get_or-set_same}
use Rattle.std.proofs.lemmas.List.Elements.{All-contains}
use Rattle.std.proofs.lemmas.Bool.{cases_eq}
use Rattle.std.proofs.lemmas.Bool.Decides.{nat_tests}
use Rattle.fc_cards.specs.Card.{rank, suit}
use Rattle.fc_cards.specs.declared.places.Place.{Place}
use Rattle.fc_cards.specs.declared.places.Place.TheVariants.{Column, Cell, Home}
use Rattle.fc_position.specs.Board.{Board, column, board_without, board_with, Receives, last_of, front_of}
use Rattle.fc_position.specs.Position.{IsPosition}
use Rattle.fc_position.proofs.BoardLemmas.{front_last, position-moved, homes-lifted}
use Rattle.fc_moves.specs.declared.steps.Move.{Move}
use Rattle.fc_moves.specs.GameRules.{GameRules, IsGame, IsPair, IsPositionOf, Stands}
use Rattle.fc_moves.specs.Run.{Run}
use Rattle.fc_moves.specs.Step.{Joins, Takes}
use Rattle.fc_moves.proofs.StepLemmas.{receives-takes, other_column, step_keeps}
use Rattle.fc_codes.specs.State.{StandsOn, IsUnmoved, IsStateOf, unmoved, at_home, in_cell, deepest, in_order, IsCodeOf}
use Rattle.fc_codes.specs.Spelled.{beneath}
use Rattle.fc_codes.specs.Moved.{Moves}
use Rattle.fc_codes.specs.Laws.{MovesChangeOneState, RunsKeepCodes}
use Rattle.fc_codes.specs.inner.Landed.{table_state, card_state}
use Rattle.fc_codes.proofs.StandLemmas.{not_home, not_in_cell, stands_once, where_is, standing_below, nowhere}
use Rattle.fc_codes.proofs.StateLemmas.{Keeps, state_kept, no_push, code_changed, unmoved_state, state_unmoved}
use Rattle.fc_codes.proofs.BeneathLemmas.{last_or, last_or-push, beneath-stands, beneath-nothing}
use Rattle.fc_codes.proofs.SeatLemmas.{stands_beneath, seat_card, seat_table}
use Rattle.fc_codes.proofs.MovedLemmas.{lifted_keeps, placed_keeps, keeps_both, receives_still}
use Rattle.fc_codes.proofs.LawLemmas.{starts}

-- a card that lies on something at the start stands there
stood_on : (s : Board) (u : ℕ) → IsPosition s → u < 52 → beneath s u ≤ 52
    → (w : List ℕ) × StandsOn s w u × (beneath s u ≡ last_or 52 w)
stood_on s u p small lies =
    ⊎_elim
    (λ at. (at.0, at.1, beneath-stands s at.0 u p at.1))
    (λ other. absurd (omega (arith, lies, beneath-nothing s u (nowhere s u p other))))
    (where_is s u p small)

-- a card that is its column's deepest is where it was at the start, if it lay on the table then
pub table_stands : (s c : Board) (u : ℕ) → IsPosition s → IsPosition c → StandsOn c [] u → IsStateOf s c u (table_state s u)
table_stands s c u ps pc p =
    let small = standing_below c [] u pc p in
    ⊎_elim
    (λ table. let at = stood_on s u ps small (omega (arith, table)) in
    let none = seat_table s at.0 u ps at.1 (sym at.2 ∙ table) in
    let before : StandsOn s [] u = subst (λ w. StandsOn s w u) none at.1 in
    let is : table_state s u ≡ 0 = grind (arith, nat_tests) in
    unmoved is (record { below = []; here = p; before = before }))
    (λ other. let is : table_state s u ≡ 3 = grind (arith, nat_tests) in
    deepest is p (λ v. let none = (stands_once c u v.below [] pc v.here p).1 in
    other (beneath-stands s v.below u ps v.before ∙ ap (last_or 52) none)))
    (cases_eq (beneath s u) 52)

-- a card that stands on another is where it was at the start, if the other is, and it lay on that
card_unmoved : (s c : Board) (code v : List ℕ) (u l : ℕ) → IsPosition s → IsPosition c → IsStateOf s c l (slice_index code l)
    → StandsOn c (v ++ l ∷ []) u → beneath s u ≡ l → slice_index code l ≡ 0 → IsUnmoved s c u
card_unmoved s c code v u l ps pc state p lay none =
    let small = standing_below c (v ++ l ∷ []) u pc p in
    let under_it = stands_beneath c v l u p in
    let card = standing_below c v l pc under_it in
    let low = state_unmoved s c l (slice_index code l) state none in
    let at = stood_on s u ps small (omega (arith, lay, card)) in
    let on = seat_card s at.0 u l ps at.1 (sym at.2 ∙ lay) card in
    let there : StandsOn s (on.0 ++ l ∷ []) u = subst (λ w. StandsOn s w u) on.1 at.1 in
    let now_ = (stands_once c l low.below v pc low.here under_it).1 in
    let then_ = (stands_once s l low.below on.0 ps low.before (stands_beneath s on.0 l u there)).1 in
    let same : on.0 ++ l ∷ [] ≡ v ++ l ∷ [] = ap (λ w. w ++ l ∷ []) (sym then_ ∙ now_) in
    record { below = v ++ l ∷ []; here = p; before = subst (λ w. StandsOn s w u) same there }

-- and no other card is
card_moved : (s c : Board) (code v : List ℕ) (u l : ℕ) → IsPosition s → IsPosition c → IsStateOf s c l (slice_index code l)
    → StandsOn c (v ++ l ∷ []) u → IsUnmoved s c u → (beneath s u ≡ l) × (slice_index code l ≡ 0)
card_moved s c code v u l ps pc state p w =
    let same = (stands_once c u w.below (v ++ l ∷ []) pc w.here p).1 in
    let before : StandsOn s (v ++ l ∷ []) u = subst (λ z. StandsOn s z u) same w.before in (
      beneath-stands s (v ++ l ∷ []) u ps before ∙ last_or-push 52 v l,
      unmoved_state s c l (slice_index code l) pc
          (record { below = v; here = stands_beneath c v l u p; before = stands_beneath s v l u before }) state,
    )

-- the state of a card that stands on another, which is one rank higher or was beneath it at the start
pub card_stands : (s c : Board) (code v : List ℕ) (u l : ℕ) → IsPosition s → IsPosition c → IsStateOf s c l (slice_index code l)
    → StandsOn c (v ++ l ∷ []) u → (card_state s code u l ≡ 0) ⊎ (rank u + 1 ≡ rank l) → IsStateOf s c u (card_state s code u l)
card_stands s c code v u l ps pc state p may =
    let moved_on : (beneath s u ≡ l → slice_index code l ≡ 0 → ⊥) → card_state s code u l ≡ 4 + suit l
    → IsStateOf s c u (card_state s code u l) = λ apart is.
    ⊎_elim (λ zero_. absurd (omega (arith, zero_, is)))
    (λ higher. in_order l is (record { below = v; here = p; higher = higher })
    (λ w. let both = card_moved s c code v u l ps pc state p w in apart both.0 both.1)) may in
    ⊎_elim
    (λ lay. ⊎_elim
    (λ none. unmoved (grind (arith, nat_tests)) (card_unmoved s c code v u l ps pc state p lay none))
    (λ other. moved_on (λ _. other) (grind (arith, nat_tests)))
    (cases_eq (slice_index code l) 0))
    (λ other. moved_on (λ e _. other e) (grind (arith, nat_tests)))
    (cases_eq (beneath s u) l)

-- a card that stands on one that is neither has no state
pub card_none : (s c : Board) (code v : List ℕ) (u l n : ℕ) → IsPosition s → IsPosition c → IsStateOf s c l (slice_index code l)
    → StandsOn c (v ++ l ∷ []) u → (card_state s code u l ≡ 0 → ⊥) → (rank u + 1 ≡ rank l → ⊥) → IsStateOf s c u n → ⊥
card_none s c code v u l n ps pc state p not_zero not_higher (unmoved e w) =
    let both = card_moved s c code v u l ps pc state p w in
    let lay = both.0 in
    let none = both.1 in
    not_zero (grind (arith, nat_tests))
card_none s c code v u l n ps pc state p not_zero not_higher (at_home e h) = not_home c (v ++ l ∷ []) u pc p h
card_none s c code v u l n ps pc state p not_zero not_higher (in_cell e q) = not_in_cell c (v ++ l ∷ []) u pc p q
card_none s c code v u l n ps pc state p not_zero not_higher (deepest e q fresh) =
    no_push v l (stands_once c u [] (v ++ l ∷ []) pc q p).1
card_none s c code v u l n ps pc state p not_zero not_higher (in_order k e q fresh) =
    let lists = (stands_once c u (q.below ++ k ∷ []) (v ++ l ∷ []) pc q.here p).1 in
    let same : k ≡ l = sym (last_or-push 52 q.below k) ∙ ap (last_or 52) lists ∙ last_or-push 52 v l in
    not_higher (q.higher ∙ ap rank same)

-- a card stands on cards one rank higher alone
pub stands_higher : (g : GameRules) (u l : ℕ) → IsGame g → Stands g u l → rank u + 1 ≡ rank l
stands_higher g u l ok on = (All-contains IsPair g.pairs (u, l) ok.pairs on).2

module _ (s b c : Board) (code : List ℕ) (u : ℕ) (m : Move) (x : Moves s code u b m c) where
  same_card : x.step.card ≡ u
  same_card = let one = x.step.playable in let two = x.playable in cc

  pub after : c ≡ board_with (board_without b m.from) u m.to
  after = x.step.after ∙ ap (λ y. board_with (board_without b m.from) y m.to) same_card

  takes : Takes x.game b u m.to
  takes = subst (λ y. Takes x.game b y m.to) same_card x.step.takes

  receives : Receives b u m.to
  receives = receives-takes x.game b u m.to takes

  pub whole_after : IsPosition c
  whole_after = subst IsPosition (sym after) (position-moved b m.from u m.to x.position x.playable receives)

  -- what the place takes, it takes when the card is lifted
  receives_then : Receives (board_without b m.from) u m.to
  receives_then = receives_still b m.from m.to u x.step.joins receives

  keeps : (y : ℕ) → y ≢ u → Keeps b c y
  keeps y other = subst (λ d. Keeps b d y) (sym after)
      (keeps_both b (board_without b m.from) (board_with (board_without b m.from) u m.to) y (lifted_keeps b m.from u y x.playable other)
      (placed_keeps (board_without b m.from) u m.to y (ap length (homes-lifted b m.from) ∙ x.position.homes) receives_then other))

  -- where the card goes to this place
  goes : (to : Place) → m.to ≡ to → c ≡ board_with (board_without b m.from) u to
  goes to e = after ∙ ap (board_with (board_without b m.from) u) e

  receives_at : (to : Place) → m.to ≡ to → Receives (board_without b m.from) u to
  receives_at to e = subst (Receives (board_without b m.from) u) e receives_then

  coded : (n : ℕ) → IsStateOf s c u n → IsCodeOf s c (set code u n)
  coded n state = code_changed s b c code u n keeps x.coded state

  pub home_after : m.to ≡ Home → IsStateOf s c u 1
  home_after e =
      let homes : c.homes ≡ set (board_without b m.from).homes (suit u) (rank u) = ap (λ d. d.homes) (goes Home e) in
      let four : length (board_without b m.from).homes ≡ 4 = ap length (homes-lifted b m.from) ∙ x.position.homes in
      let here : slice_index c.homes (suit u) ≡ rank u =
      ap (λ h. slice_index h (suit u)) homes ∙ get_or-set_same (board_without b m.from).homes (suit u) (rank u) 0 (omega (arith, four)) in
      at_home refl (omega (arith, here))

  pub cell_after : (j : ℕ) → m.to ≡ Cell j → IsStateOf s c u 2
  cell_after j e =
      let cells : c.cells ≡ set (board_without b m.from).cells j (Some u) = ap (λ d. d.cells) (goes (Cell j) e) in
      in_cell refl (record {
        number = j;
        held = ap (λ l. get_or l j None) cells
            ∙ get_or-set_same (board_without b m.from).cells j (Some u) None (receives_at (Cell j) e).0;
      })

  -- the column to which the card goes ends with it
  column_after : (j : ℕ) → m.to ≡ Column j → column c j ≡ column b j ++ u ∷ []
  column_after j e =
      let columns : c.columns ≡ set (board_without b m.from).columns j (column (board_without b m.from) j ++ u ∷ []) =
      ap (λ d. d.columns) (goes (Column j) e) in
      ap (λ l. get_or l j []) columns
      ∙ get_or-set_same (board_without b m.from).columns j (column (board_without b m.from) j ++ u ∷ []) [] (receives_at (Column j) e)
      ∙ ap (λ l. l ++ u ∷ []) (other_column b m.from j (subst (Joins m.from) e x.step.joins))

  pub table_after : (j : ℕ) → IsPosition s → m.to ≡ Column j → column b j ≡ [] → IsStateOf s c u (table_state s u)
  table_after j ps e none =
      table_stands s c u ps whole_after
      (record { number = j; above = []; cards = column_after j e ∙ ap (λ l. l ++ u ∷ []) none })

  pub card_after : (j l : ℕ) → IsPosition s → m.to ≡ Column j → last_of (column b j) ≡ Some l → IsStateOf s c u (card_state s code u l)
  card_after j l ps e last =
      let front = front_of (column b j) in
      let takes_it : Takes x.game b u (Column j) = subst (Takes x.game b u) e takes in
      let higher : rank u + 1 ≡ rank l =
      ⊎_elim (λ (none, _). let no_last : last_of (column b j) ≡ None = ap last_of none in absurd (cc (last, no_last)))
      (λ (k, last_k, on). let same : k ≡ l = cc in stands_higher x.game u l x.sound (subst (Stands x.game u) same on)) takes_it.1 in
      let cards : column c j ≡ (front ++ l ∷ []) ++ u ∷ [] =
      column_after j e ∙ ap (λ z. z ++ u ∷ []) (front_last (column b j) l last) in
      let apart : l ≢ u = λ same. let two = ap rank same in omega (arith, higher, two) in
      let p : StandsOn c (front ++ l ∷ []) u = record { number = j; above = []; cards = cards } in
      let card = standing_below c front l whole_after (stands_beneath c front l u p) in
      card_stands s c code front u l ps whole_after
      (state_kept s b c l (slice_index code l) (keeps l apart) (x.coded.states l card)) p (inr higher)

  pub home_code : m.to ≡ Home → IsCodeOf s c (set code u 1)
  home_code e = coded 1 (home_after e)

  pub cell_code : (j : ℕ) → m.to ≡ Cell j → IsCodeOf s c (set code u 2)
  cell_code j e = coded 2 (cell_after j e)

  pub table_code : (j : ℕ) → IsPosition s → m.to ≡ Column j → column b j ≡ [] → IsCodeOf s c (set code u (table_state s u))
  table_code j ps e none = coded (table_state s u) (table_after j ps e none)

  pub card_code : (j l : ℕ) → IsPosition s → m.to ≡ Column j → last_of (column b j) ≡ Some l
      → IsCodeOf s c (set code u (card_state s code u l))
  card_code j l ps e last = coded (card_state s code u l) (card_after j l ps e last)

  -- so the moved card has a state, by which the code changes
  changed : (to : Place) → IsPosition s → m.to ≡ to → (n : ℕ) × IsStateOf s c u n × IsCodeOf s c (set code u n)
  changed Home ps e = (1, home_after e, home_code e)
  changed (Cell j) ps e = (2, cell_after j e, cell_code j e)
  changed (Column j) ps e =
      let takes_it : Takes x.game b u (Column j) = subst (Takes x.game b u) e takes in
      ⊎_elim
      (λ (none, _). (table_state s u, table_after j ps e none, table_code j ps e none))
      (λ (l, last, _). (card_state s code u l, card_after j l ps e last, card_code j l ps e last))
      takes_it.1

pub moves_change : MovesChangeOneState
moves_change s b c m code u ps x = changed s b c code u m x m.to ps refl

-- and each board that can be reached has a code
run_code : (g : GameRules) (s b c : Board) (ms : List Move) (code : List ℕ) → IsGame g → IsPosition s → IsPositionOf g b
    → IsCodeOf s b code → Run g b ms c → (after : List ℕ) × IsCodeOf s c after
run_code g s b c [] code ok ps pb k run = (code, subst (λ d. IsCodeOf s d code) (sym run) k)
run_code g s b c (m ∷ ms) code ok ps pb k (mid, step, rest) =
    let next = moves_change s b mid m code step.card ps
    (record { position = pb.position; coded = k; playable = step.playable; game = g; sound = ok; step = step }) in
    run_code g s mid c ms (set code step.card next.0) ok ps (step_keeps g b mid m pb step) next.2 rest

pub runs_keep : RunsKeepCodes
runs_keep g s b ms ok p run =
    let start = starts s p.position in run_code g s s b ms start.0 ok p.position p start.1 run
