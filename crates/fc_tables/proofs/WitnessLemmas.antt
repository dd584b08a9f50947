-- Boards of which a closed table would tell wrongly: the premises of the laws of tables may not be dropped.
use Rattle.std.proofs.Common.{◌≡◌, ℕ, zero, suc, ◌<◌, ◌≤◌, Option, Some, None, Bool, true, List, [], ◌∷◌, get_or, refl, sym, subst, inl, inr, ⊎_elim, arith}
use Rattle.std.specs.Prelude.{◌&&◌, ◌==◌, nat_le, cond, false, replicate, Contains, sum_by}
use Rattle.std.proofs.lemmas.Bool.{cases_eq, eqb-true}
use Rattle.std.proofs.lemmas.Bool.Decides.{nat_tests}
use Rattle.std.proofs.lemmas.List.Sorted.{sum_by-IsPermutation}
use Rattle.fc_cards.specs.Card.{rank, suit}
use Rattle.fc_cards.specs.declared.places.Place.{Place}
use Rattle.fc_cards.specs.declared.places.Place.TheVariants.{Column, Cell, Home}
use Rattle.fc_position.specs.Board.{Board, IsNext, playable, places, board_with, board_without, last_of}
use Rattle.fc_position.specs.Position.{IsPosition, IsWon}
use Rattle.fc_moves.specs.declared.steps.Move.{Move}
use Rattle.fc_moves.specs.inner.GameLaws.{Contains-cases, Contains-first}
use Rattle.fc_moves.specs.GameRules.{GameRules, Opens, IsPositionOf}
use Rattle.fc_moves.specs.Run.{Wins}
use Rattle.fc_moves.specs.Step.{Step}
use Rattle.fc_moves.specs.Class.{SameClass}
use Rattle.fc_moves.proofs.ClassLemmas.{class-refl, class_positions}
use Rattle.fc_moves.proofs.Rearrange.{one_full, full_most}
use Rattle.fc_home.specs.HomeRule.{GoesHome}
use Rattle.fc_home.specs.Settles.{Settles, NoneGoesHome, sent_home}
use Rattle.fc_home.proofs.SettleLemmas.{goes_next, home_step}
use Rattle.fc_tables.specs.Laws.{IsClosedYetWon, ClosedTablesNeedSettling, ClosedTablesNeedFitting, ClosedTablesNeedPositions}

-- some list wins; so one does from a board that a step leads from, or from which a next card is sent home
abbrev CanWin : GameRules → Board → Type 0
CanWin g b = (ms : List Move) × Wins g b ms

wins_later : (g : GameRules) (b next : Board) (m : Move) → Step g b m next → CanWin g next → CanWin g b
wins_later g b next m step (ms, (end, run, won)) = (m ∷ ms, (end, (next, step, run), won))

wins_home : (g : GameRules) (b : Board) (from : Place) (c : ℕ) → playable b from ≡ Some c → IsNext b.homes c
    → CanWin g (sent_home b from c) → CanWin g b
wins_home g b from c there next wins =
    let m : Move = record { from = from; to = Home } in
    wins_later g b (sent_home b from c) m (home_step g b m c there next refl) wins

-- a board of which no card goes home settles to itself alone
settled_alone : (g : GameRules) (rule : ℕ) (p q : Board) (k : ℕ) → NoneGoesHome rule g p → Settles g rule p k q → q ≡ p
settled_alone g rule p q k none ([], long, (same, still)) = same
settled_alone g rule p q k none (m ∷ ms, long, (c, first, home, rest)) = absurd (none m.from c first.there first.goes)

-- the table that lists a settled board alone is closed where no class-mate is a position of the game
closed_alone : (g : GameRules) (rule : ℕ) (p : Board) → NoneGoesHome rule g p → (IsWon p → ⊥)
    → ((x : Board) → IsPositionOf g x → SameClass x p → ⊥) → CanWin g p → IsClosedYetWon g rule p
closed_alone g rule p none unwon alone wins = record {
  table = (p, 0) ∷ [];
  moves = wins.0;
  closed = record {
    not_won = λ e listed won. unwon (subst (λ x. IsWon x.0) (sym (only e listed)) won);
    start = λ q k settles. ((p, 0), Contains-first [] (p, 0), same q k settles);
    steps = λ e x listed px s m y z k step settles. absurd (alone x px (subst (λ w. SameClass x w.0) (sym (only e listed)) s));
  };
  below = λ low n. record {
    not_won = λ e listed won. unwon (subst (λ x. IsWon x.0) (sym (only e listed)) won);
    start = λ q k settles. inr ((p, 0), Contains-first [] (p, 0), same q k settles, omega arith);
    steps = λ e x listed px s inside m y z k step settles.
        absurd (alone x px (subst (λ w. SameClass x w.0) (sym (only e listed)) s));
  };
  wins = wins.1;
} where
  only : (e : Board × ℕ) → Contains ((p, 0) ∷ []) e → (p, 0) ≡ e
  only e listed = ⊎_elim (λ same. same) (λ found. absurd (omega (arith, found.1))) (Contains-cases (p, 0) [] e listed)

  same : (q : Board) (k : ℕ) → Settles g rule p k q → SameClass q p
  same q k settles = subst (λ x. SameClass x p) (sym (settled_alone g rule p q k none settles)) (class-refl p)

-- what holds of each card below n by a test that is computed
passes : (ℕ → Bool) → ℕ → Bool
passes test zero = true
passes test (suc n) = test n && passes test n

passed : (test : ℕ → Bool) (n c : ℕ) → passes test n ≡ true → c < n → test c ≡ true
unfolding passes
passed test zero c all below = absurd (omega (arith, below))
passed test (suc n) c all below =
    ⊎_elim (λ same. subst (λ k. test k ≡ true) (sym same) (and_first (test n) (passes test n) all))
    (λ ne. passed test n c (and_second (test n) (passes test n) all) (omega (arith, below, ne))) (cases_eq c n)
  where
    and_first : (a b : Bool) → (a && b) ≡ true → a ≡ true
    and_first true b both = refl
    and_first false b both = both

    and_second : (a b : Bool) → (a && b) ≡ true → b ≡ true
    and_second true b both = both
    and_second false b both = absurd (cc both)

-- of empty columns none has a card, and of empty cells none
no_last : (n i c : ℕ) → last_of (get_or (replicate n []) i []) ≡ Some c → ⊥
no_last zero i c e = absurd (cc e)
no_last (suc n) zero c e = absurd (cc e)
no_last (suc n) (suc i) c e = no_last n i c e

no_cell : (n i c : ℕ) → ◌≡◌ {A = Option ℕ} (get_or (replicate n None) i None) (Some c) → ⊥
no_cell zero i c e = absurd (cc e)
no_cell (suc n) zero c e = absurd (cc e)
no_cell (suc n) (suc i) c e = no_cell n i c e

-- a king of spades on the eight, the nine to the queen in the cells, and all else home: as many cells are full as the
-- widest game has, and no playable card is next
abbrev full_cells : Board
full_cells = record {
  columns = (31 ∷ 51 ∷ []) ∷ replicate 7 [];
  cells = Some 35 ∷ Some 39 ∷ Some 43 ∷ Some 47 ∷ [];
  homes = 13 ∷ 13 ∷ 13 ∷ 7 ∷ [];
}

-- a second ace of clubs on the king of spades, and all else home
abbrev second_ace : Board
second_ace = record {
  columns = (51 ∷ 0 ∷ []) ∷ replicate 7 [];
  cells = replicate 4 None;
  homes = 13 ∷ 13 ∷ 13 ∷ 12 ∷ [];
}

-- a playable card that isn't next doesn't go home
not_next : (rule : ℕ) (g : GameRules) (homes : List ℕ) (k c : ℕ) → (IsNext homes k → ⊥) → ◌≡◌ {A = Option ℕ} (Some k) (Some c)
    → GoesHome rule g homes c → ⊥
not_next rule g homes k c waits there goes =
    let same : c ≡ k = cc there in waits (subst (IsNext homes) same (goes_next rule g homes c goes))

full_settled : (rule : ℕ) (g : GameRules) → NoneGoesHome rule g full_cells
full_settled rule g (Column zero) c there goes = not_next rule g full_cells.homes 51 c (λ n. absurd (omega (arith, n))) there goes
full_settled rule g (Column (suc i)) c there goes = no_last 7 i c there
full_settled rule g (Cell zero) c there goes = not_next rule g full_cells.homes 35 c (λ n. absurd (omega (arith, n))) there goes
full_settled rule g (Cell (suc zero)) c there goes = not_next rule g full_cells.homes 39 c (λ n. absurd (omega (arith, n))) there goes
full_settled rule g (Cell (suc (suc zero))) c there goes = not_next rule g full_cells.homes 43 c (λ n. absurd (omega (arith, n))) there goes
full_settled rule g (Cell (suc (suc (suc zero)))) c there goes = not_next rule g full_cells.homes 47 c (λ n. absurd (omega (arith, n))) there goes
full_settled rule g (Cell (suc (suc (suc (suc i))))) c there goes = absurd (cc there)
full_settled rule g Home c there goes = absurd (cc there)

-- a number past the cards is no card, and is not home
no_card_is : (x c : ℕ) → x < 52 → 52 ≤ c → ◌≡◌ {A = ℕ} (cond (x == c) 1 0) 0
no_card_is x c low past = grind (arith, nat_tests)

not_home : (r h : ℕ) → h ≤ 13 → 14 ≤ r → ◌≡◌ {A = ℕ} (cond (nat_le r h) 1 0) 0
not_home r h low high = grind (arith, nat_tests)

most_home : (spades i : ℕ) → spades ≤ 13 → get_or (13 ∷ 13 ∷ 13 ∷ spades ∷ []) i 0 ≤ 13
most_home spades zero few = omega arith
most_home spades (suc zero) few = omega arith
most_home spades (suc (suc zero)) few = omega arith
most_home spades (suc (suc (suc zero))) few = few
most_home spades (suc (suc (suc (suc i)))) few = omega arith

full_position : IsPosition full_cells
unfolding passes
full_position = record {
  columns = refl;
  cells = refl;
  homes = refl;
  once = λ c below. eqb-true (places full_cells c) 1 (passed (λ k. places full_cells k == 1) 52 c refl below);
  no_other = λ c past.
      let home = not_home (rank c) (get_or full_cells.homes (suit c) 0) (most_home 7 (suit c) (omega arith)) (omega (arith, past)) in
      omega (
        arith,
        no_card_is 31 c (omega arith) past,
        no_card_is 51 c (omega arith) past,
        no_card_is 35 c (omega arith) past,
        no_card_is 39 c (omega arith) past,
        no_card_is 43 c (omega arith) past,
        no_card_is 47 c (omega arith) past,
        home,
      );
}

-- the king to an empty column, and the spades home
full_wins : (g : GameRules) → Opens g 51 → CanWin g full_cells
full_wins g opens =
    let aside : Move = record { from = Column 0; to = Column 1 } in
    let a = board_with (board_without full_cells (Column 0)) 51 (Column 1) in
    let b = sent_home a (Column 0) 31 in
    let c = sent_home b (Cell 0) 35 in
    let d = sent_home c (Cell 1) 39 in
    let e = sent_home d (Cell 2) 43 in
    let f = sent_home e (Cell 3) 47 in
    let won : CanWin g (sent_home f (Column 1) 51) = ([], (sent_home f (Column 1) 51, refl, refl)) in
    let from_e = wins_home g e (Cell 3) 47 refl refl (wins_home g f (Column 1) 51 refl refl won) in
    let from_c = wins_home g c (Cell 1) 39 refl refl (wins_home g d (Cell 2) 43 refl refl from_e) in
    let from_a = wins_home g a (Column 0) 31 refl refl (wins_home g b (Cell 0) 35 refl refl from_c) in
    let step : Step g full_cells aside a =
    record { card = 51; playable = refl; joins = λ e. absurd (omega (arith, e)); takes = (omega arith, inl (refl, opens)); after = refl } in
    wins_later g full_cells a aside step from_a

-- a class-mate has as many full cells, so it fits no game with fewer
full_mates : (g : GameRules) (x : Board) → g.cells < 4 → IsPositionOf g x → SameClass x full_cells → ⊥
full_mates g x few px s =
    let same = sum_by-IsPermutation one_full x.cells full_cells.cells s.cells in
    let four : sum_by one_full full_cells.cells ≡ 4 = refl in
    omega (arith, full_most g.cells x.cells px.fits, same, four, few)

pub need_fitting : ClosedTablesNeedFitting
need_fitting g rule few opens = (
  full_cells,
  full_position,
  closed_alone g rule full_cells (full_settled rule g) (λ won. absurd (cc won)) (λ x px s. full_mates g x few px s)
      (full_wins g opens),
)

ace_settled : (rule : ℕ) (g : GameRules) → NoneGoesHome rule g second_ace
ace_settled rule g (Column zero) c there goes = not_next rule g second_ace.homes 0 c (λ n. absurd (omega (arith, n))) there goes
ace_settled rule g (Column (suc i)) c there goes = no_last 7 i c there
ace_settled rule g (Cell i) c there goes = no_cell 4 i c there
ace_settled rule g Home c there goes = absurd (cc there)

-- the ace to a cell, and the king home
ace_wins : (g : GameRules) → 0 < g.cells → CanWin g second_ace
ace_wins g some_cell =
    let aside : Move = record { from = Column 0; to = Cell 0 } in
    let a = board_with (board_without second_ace (Column 0)) 0 (Cell 0) in
    let won : CanWin g (sent_home a (Column 0) 51) = ([], (sent_home a (Column 0) 51, refl, refl)) in
    let step : Step g second_ace aside a =
    record { card = 0; playable = refl; joins = tt; takes = (some_cell, omega arith, refl); after = refl } in
    wins_later g second_ace a aside step (wins_home g a (Column 0) 51 refl refl won)

-- no class-mate has each card once
ace_mates : (g : GameRules) (x : Board) → IsPositionOf g x → SameClass x second_ace → ⊥
ace_mates g x px s =
    let p = class_positions x second_ace px.position s in
    let two : places second_ace 0 ≡ 2 = refl in
    absurd (omega (arith, p.once 0 (omega arith), two))

empty_cells : (n i : ℕ) → ◌≡◌ {A = Option ℕ} (get_or (replicate n None) i None) None
empty_cells zero i = refl
empty_cells (suc n) zero = refl
empty_cells (suc n) (suc i) = empty_cells n i

pub need_positions : ClosedTablesNeedPositions
need_positions g rule some_cell = (
  second_ace,
  record { columns = refl; cells = refl; homes = refl },
  λ i past. empty_cells 4 i,
  closed_alone g rule second_ace (ace_settled rule g)
      (λ won. absurd (cc won)) (λ x px s. ace_mates g x px s) (ace_wins g some_cell),
)

-- the won position
abbrev won_board : Board
won_board = record { columns = replicate 8 []; cells = replicate 4 None; homes = 13 ∷ 13 ∷ 13 ∷ 13 ∷ [] }

won_position : IsPosition won_board
unfolding passes
won_position = record {
  columns = refl;
  cells = refl;
  homes = refl;
  once = λ c below. eqb-true (places won_board c) 1 (passed (λ k. places won_board k == 1) 52 c refl below);
  no_other = λ c past.
      let home = not_home (rank c) (get_or won_board.homes (suit c) 0) (most_home 13 (suit c) (omega arith)) (omega (arith, past)) in
      omega (arith, home);
}

-- where no board settles, nothing need be listed
pub need_settling : ClosedTablesNeedSettling
need_settling g = (
  λ b. None,
  won_board,
  [],
  [],
  record { position = won_position; fits = λ i past. empty_cells 4 i },
  record { keeps = λ b q k p settles. absurd (cc settles); loses_nothing = λ b q k most p settles. absurd (cc settles) },
  record {
    not_won = λ e listed. absurd (omega (arith, listed.1));
    start = λ q k settles. absurd (cc settles);
    steps = λ e x listed. absurd (omega (arith, listed.1));
  },
  (won_board, refl, refl),
)
