-- Sending a free card home at once loses nothing.
--
-- A list that wins from a board on the left is answered by moves on the right, where cards of a set are ahead: they are home
-- on the right and not on the left. The set is of cards that are free at the start; all that is used of it is that its cards
-- are next, and that each card that may stand on one of them is home or in the set.
--
-- A move on the left takes a card that is ahead: no move on the right. Any other card lies at the same place on the right.
-- It goes to a cell, to an empty column, home, or onto a card that isn't ahead: the same move. It goes onto a card that is
-- ahead: then it is of the set too, and goes home on the right. So the moves on the right, less those that the cards at home
-- are more, are never more than those on the left; at the end all cards are home on both sides.
use Rattle.std.proofs.Common.{◌≡◌, ℕ, ◌+◌, ◌<◌, ◌≤◌, ◌⊎◌, Some, length, refl, sym, ◌∙◌, ap, subst, inl, inr, ⊎_elim, arith}
use Rattle.std.proofs.lemmas.Bool.Decides.{nat_tests}
use Rattle.fc_cards.specs.declared.places.Place.{Place}
use Rattle.fc_cards.specs.declared.places.Place.TheVariants.{Column, Cell, Home}
use Rattle.fc_position.specs.Board.{Board, IsHome, IsNext, column, playable, board_without, board_with, last_of, count_in_cell, count_at_home}
use Rattle.fc_position.specs.Position.{IsPosition}
use Rattle.fc_position.proofs.BoardLemmas.{places-lifted, playable_below, position-moved, homes-lifted, columns-lifted, cells-lifted}
use Rattle.fc_moves.specs.declared.steps.Move.{Move}
use Rattle.fc_moves.specs.GameRules.{GameRules, Stands}
use Rattle.fc_moves.specs.Step.{Step, Joins, Takes, MayLand}
use Rattle.fc_moves.proofs.StepLemmas.{other_column, receives-takes}
use Rattle.fc_home.specs.Settles.{sent_home}
use Rattle.fc_home.proofs.CountLemmas.{with_home, home-kept, home-own, IsAhead, next_right, ahead-left, ahead-right, ahead-both}
use Rattle.fc_home.proofs.CoverLemmas.{Covers, cover_cases, cover_column, cover_cell, cover_left_column, cover_left_cell, cover_more, cover_home, cover_right_home, empty_cell, empty_column, last_card}
use Rattle.fc_home.proofs.SettleLemmas.{total, total-next, home_step}

-- a card that is playable isn't home
pub not_home : (b : Board) (from : Place) (u : ℕ) → IsPosition b → playable b from ≡ Some u → IsHome b.homes u → ⊥
not_home b from u p there home =
    let one = places-lifted b from u u there in
    let itself : ◌≡◌ {A = ℕ} (count_in_cell u (Some u)) 1 = grind (arith, nat_tests) in
    let counted : ◌≡◌ {A = ℕ} (count_at_home u (board_without b from).homes) 1 = rw (homes-lifted b from) (grind (arith, nat_tests)) in
    omega (arith, one, itself, counted, p.once u (playable_below b from u p there))

-- the two boards
pub record Trails (S : ℕ → Type 0) (g : GameRules) (a b : Board) : Type 0 where
  pub left : IsPosition a
  pub right : IsPosition b
  pub covers : Covers b.homes a b
  pub ahead : IsAhead S g a.homes b.homes

-- the answer to a move on the left: none, or one move; the cards at home pay for it
abbrev pub Answer : (ℕ → Type 0) → GameRules → Board → Board → Board → Type 0
Answer S g a next b =
    (Trails S g next b × (total next.homes ≤ total a.homes + 1))
    ⊎ ((n : Move) × (c : Board) × Step g b n c × Trails S g next c × (total b.homes + total next.homes ≤ total a.homes + total c.homes))

-- no move on the right: the card is home there
passed : (S : ℕ → Type 0) (g : GameRules) (a b : Board) (from : Place) (u : ℕ) (to : Place) → Trails S g a b
    → playable a from ≡ Some u → IsHome b.homes u → Covers b.homes (board_without a from) b → Takes g a u to
    → Answer S g a (board_with (board_without a from) u to) b
passed S g a b from u (Column j) t there home covers takes =
    let x = board_without a from in
    let inside : j < length x.columns = omega (arith, columns-lifted a from, takes.0) in
    let same = homes-lifted a from in
    inl (
      record {
        left = position-moved a from u (Column j) t.left there (receives-takes g a u (Column j) takes);
        right = t.right;
        covers = cover_left_column b.homes x b u j covers inside home;
        ahead = subst (λ h. IsAhead S g h b.homes) (sym same) t.ahead;
      },
      omega (arith, ap total same),
    )
passed S g a b from u (Cell j) t there home covers takes =
    let x = board_without a from in
    let inside : j < length x.cells = omega (arith, cells-lifted a from, takes.1) in
    let same = homes-lifted a from in
    inl (
      record {
        left = position-moved a from u (Cell j) t.left there (receives-takes g a u (Cell j) takes);
        right = t.right;
        covers = cover_left_cell b.homes x b u j covers inside (empty_cell b.homes a b j t.covers takes.2) home;
        ahead = subst (λ h. IsAhead S g h b.homes) (sym same) t.ahead;
      },
      omega (arith, ap total same),
    )
passed S g a b from u Home t there home covers takes =
    let x = board_without a from in
    let same : with_home x.homes u ≡ with_home a.homes u = ap (λ h. with_home h u) (homes-lifted a from) in
    inl (
      record {
        left = position-moved a from u Home t.left there takes;
        right = t.right;
        covers = cover_home b.homes x b u covers;
        ahead = subst (λ h. IsAhead S g h b.homes) (sym same) (ahead-left S g a.homes b.homes u t.left.homes t.ahead takes home);
      },
      omega (arith, ap total same, total-next a.homes u t.left.homes takes),
    )

-- the same move on the right, to a column that is the same on both sides
same_column_move : (S : ℕ → Type 0) (g : GameRules) (a b : Board) (from : Place) (u j : ℕ) → Trails S g a b
    → playable a from ≡ Some u → playable b from ≡ Some u → Covers b.homes (board_without a from) (board_without b from)
    → Joins from (Column j) → j < length a.columns → MayLand g (column a j) u → column a j ≡ column b j
    → Answer S g a (board_with (board_without a from) u (Column j)) b
same_column_move S g a b from u j t there also covers joins below land same =
    let x = board_without a from in
    let y = board_without b from in
    let left_homes = homes-lifted a from in
    let right_homes = homes-lifted b from in
    let inside : j < length b.columns = omega (arith, below, t.left.columns, t.right.columns) in
    let one : j < length x.columns = omega (arith, below, columns-lifted a from) in
    let two : j < length y.columns = omega (arith, inside, columns-lifted b from) in
    let columns : column x j ≡ column y j = other_column a from j joins ∙ same ∙ sym (other_column b from j joins) in
    let n : Move = record { from = from; to = Column j } in
    let next = board_with x u (Column j) in
    let c = board_with y u (Column j) in
    let step : Step g b n c =
    record { card = u; playable = also; joins = joins; takes = (inside, subst (λ l. MayLand g l u) same land); after = refl } in
    let trails : Trails S g next c = record {
      left = position-moved a from u (Column j) t.left there below;
      right = position-moved b from u (Column j) t.right also inside;
      covers = subst (λ h. Covers h next c) (sym right_homes) (cover_column b.homes x y u j covers one two columns);
      ahead = subst (λ h. IsAhead S g x.homes h) (sym right_homes) (subst (λ h. IsAhead S g h b.homes) (sym left_homes) t.ahead);
    } in
    inr (n, c, step, trails, omega (arith, ap total left_homes, ap total right_homes))

-- to a cell
same_cell_move : (S : ℕ → Type 0) (g : GameRules) (a b : Board) (from : Place) (u j : ℕ) → Trails S g a b
    → playable a from ≡ Some u → playable b from ≡ Some u → Covers b.homes (board_without a from) (board_without b from)
    → Joins from (Cell j) → Takes g a u (Cell j) → Answer S g a (board_with (board_without a from) u (Cell j)) b
same_cell_move S g a b from u j t there also covers joins takes =
    let x = board_without a from in
    let y = board_without b from in
    let left_homes = homes-lifted a from in
    let right_homes = homes-lifted b from in
    let inside : j < length b.cells = omega (arith, takes.1, t.left.cells, t.right.cells) in
    let one : j < length x.cells = omega (arith, takes.1, cells-lifted a from) in
    let two : j < length y.cells = omega (arith, inside, cells-lifted b from) in
    let n : Move = record { from = from; to = Cell j } in
    let next = board_with x u (Cell j) in
    let c = board_with y u (Cell j) in
    let empty = empty_cell b.homes a b j t.covers takes.2 in
    let step : Step g b n c =
    record { card = u; playable = also; joins = joins; takes = (takes.0, inside, empty); after = refl } in
    let trails : Trails S g next c = record {
      left = position-moved a from u (Cell j) t.left there (takes.1, takes.2);
      right = position-moved b from u (Cell j) t.right also (inside, empty);
      covers = subst (λ h. Covers h next c) (sym right_homes) (cover_cell b.homes x y u j covers one two);
      ahead = subst (λ h. IsAhead S g x.homes h) (sym right_homes) (subst (λ h. IsAhead S g h b.homes) (sym left_homes) t.ahead);
    } in
    inr (n, c, step, trails, omega (arith, ap total left_homes, ap total right_homes))

-- home on both sides
same_home_move : (S : ℕ → Type 0) (g : GameRules) (a b : Board) (from : Place) (u : ℕ) → Trails S g a b
    → playable a from ≡ Some u → playable b from ≡ Some u → Covers b.homes (board_without a from) (board_without b from)
    → IsNext a.homes u → IsNext b.homes u → Answer S g a (sent_home a from u) b
same_home_move S g a b from u t there also covers takes takes_too =
    let x = board_without a from in
    let y = board_without b from in
    let left_homes : with_home x.homes u ≡ with_home a.homes u = ap (λ h. with_home h u) (homes-lifted a from) in
    let right_homes : with_home y.homes u ≡ with_home b.homes u = ap (λ h. with_home h u) (homes-lifted b from) in
    let n : Move = record { from = from; to = Home } in
    let next = sent_home a from u in
    let c = sent_home b from u in
    let more = cover_more b.homes (with_home b.homes u) x y covers (λ k home. home-kept b.homes u k t.right.homes takes_too home) in
    let trails : Trails S g next c = record {
      left = position-moved a from u Home t.left there takes;
      right = position-moved b from u Home t.right also takes_too;
      covers =
          subst (λ h. Covers h next c) (sym right_homes)
          (cover_right_home (with_home b.homes u) next y u (cover_home (with_home b.homes u) x y u more));
      ahead =
          subst (λ h. IsAhead S g (with_home x.homes u) h) (sym right_homes)
          (subst (λ h. IsAhead S g h (with_home b.homes u)) (sym left_homes)
          (ahead-both S g a.homes b.homes u t.left.homes t.right.homes t.ahead takes takes_too));
    } in
    inr (
      n,
      c,
      home_step g b n u also takes_too refl,
      trails,
      omega (arith, ap total left_homes, ap total right_homes, total-next a.homes u t.left.homes takes, total-next b.homes u t.right.homes takes_too),
    )

-- onto a card that is ahead on the left, home on the right
ahead_move : (S : ℕ → Type 0) (g : GameRules) (a b : Board) (from : Place) (u j : ℕ) → Trails S g a b
    → playable a from ≡ Some u → playable b from ≡ Some u → Covers b.homes (board_without a from) (board_without b from)
    → j < length a.columns → S u → IsNext b.homes u → Answer S g a (board_with (board_without a from) u (Column j)) b
ahead_move S g a b from u j t there also covers below in_set takes =
    let x = board_without a from in
    let y = board_without b from in
    let left_homes = homes-lifted a from in
    let right_homes : with_home y.homes u ≡ with_home b.homes u = ap (λ h. with_home h u) (homes-lifted b from) in
    let one : j < length x.columns = omega (arith, below, columns-lifted a from) in
    let n : Move = record { from = from; to = Home } in
    let next = board_with x u (Column j) in
    let c = sent_home b from u in
    let more = cover_more b.homes (with_home b.homes u) x y covers (λ k home. home-kept b.homes u k t.right.homes takes home) in
    let trails : Trails S g next c = record {
      left = position-moved a from u (Column j) t.left there below;
      right = position-moved b from u Home t.right also takes;
      covers =
          subst (λ h. Covers h next c) (sym right_homes)
          (cover_right_home (with_home b.homes u) next y u
          (cover_left_column (with_home b.homes u) x y u j more one (home-own b.homes u t.right.homes)));
      ahead =
          subst (λ h. IsAhead S g x.homes h) (sym right_homes)
          (subst (λ h. IsAhead S g h (with_home b.homes u)) (sym left_homes)
          (ahead-right S g a.homes b.homes u t.right.homes t.ahead takes in_set));
    } in
    inr (
      n,
      c,
      home_step g b n u also takes refl,
      trails,
      omega (arith, ap total left_homes, ap total right_homes, total-next b.homes u t.right.homes takes),
    )

-- onto a card that is home on the right: it is ahead, so the card that goes onto it is of the set, and next on the right
onto_ahead : (S : ℕ → Type 0) (g : GameRules) (a b : Board) (from : Place) (u j l : ℕ) → Trails S g a b
    → playable a from ≡ Some u → playable b from ≡ Some u → last_of (column a j) ≡ Some l → Stands g u l → IsHome b.homes l
    → S u × IsNext b.homes u
onto_ahead S g a b from u j l t there also last stands home =
    let Goal : Type 0 = S u × IsNext b.homes u in
    let away : IsHome a.homes u → ⊥ = not_home a from u t.left there in
    ⊎_elim {C = Goal} (λ h. absurd (not_home a (Column j) l t.left last h))
    (λ s. ⊎_elim {C = Goal} (λ h. absurd (away h))
    (λ r. ⊎_elim {C = Goal} (λ h. absurd (away h))
    (λ next. (r, next_right S g a.homes b.homes u t.ahead next (not_home b from u t.right also)))
    (t.ahead.ready u r))
    (t.ahead.hosts l u s stands))
    (t.ahead.ahead l home)

-- a move on the right: the card lies at the same place there
made : (S : ℕ → Type 0) (g : GameRules) (a b : Board) (from : Place) (u : ℕ) (to : Place) → Trails S g a b
    → playable a from ≡ Some u → playable b from ≡ Some u → Covers b.homes (board_without a from) (board_without b from) → Joins from to
    → Takes g a u to → Answer S g a (board_with (board_without a from) u to) b
made S g a b from u (Column j) t there also covers joins (below, land) =
    ⊎_elim
    (λ (empty, opens). same_column_move S g a b from u j t there also covers joins below land
    (empty ∙ sym (empty_column b.homes a b j t.covers empty)))
    (λ (l, last, stands). ⊎_elim
    (λ same. same_column_move S g a b from u j t there also covers joins below land same)
    (λ home. let one = onto_ahead S g a b from u j l t there also last stands home in
    ahead_move S g a b from u j t there also covers below one.0 one.1)
    (last_card b.homes a b j l t.covers last))
    land
made S g a b from u (Cell j) t there also covers joins takes = same_cell_move S g a b from u j t there also covers joins takes
made S g a b from u Home t there also covers joins takes =
    same_home_move S g a b from u t there also covers takes
    (next_right S g a.homes b.homes u t.ahead takes (not_home b from u t.right also))

-- each move on the left is answered
pub answered : (S : ℕ → Type 0) (g : GameRules) (a b next : Board) (m : Move) → Trails S g a b → Step g a m next → Answer S g a next b
answered S g a b next m t step =
    subst (λ n. Answer S g a n b) (sym step.after)
    (⊎_elim (λ (also, covers). made S g a b m.from step.card m.to t step.playable also covers step.joins step.takes)
    (λ (home, covers). passed S g a b m.from step.card m.to t step.playable home covers step.takes)
    (cover_cases b.homes a b m.from step.card t.covers step.playable))
