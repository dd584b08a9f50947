-- Whether a move is to be listed, and so that each place's moves to be listed make a list.
use Rattle.std.proofs.Common.{◌≡◌, ℕ, ◌+◌, ◌-◌, ◌*◌, ◌<◌, ◌≤◌, ◌⊎◌, zero, suc, Option, Some, None, List, [], ◌∷◌, ◌++◌, length, refl, ap, subst, inl, inr, ⊎_elim, arith}
use Rattle.std.specs.Prelude.{Contains}
use Rattle.std.proofs.lemmas.Bool.{cases_lt, cases_eq}
use Rattle.fc_cards.specs.Card.{rank, suit}
use Rattle.fc_cards.specs.declared.places.Place.{Place}
use Rattle.fc_cards.specs.declared.places.Place.TheVariants.{Column, Cell, Home}
use Rattle.fc_position.specs.Board.{Board, column, cell, playable, last_of, home}
use Rattle.fc_position.specs.Position.{IsPosition}
use Rattle.fc_moves.specs.declared.steps.Move.{Move}
use Rattle.fc_moves.specs.inner.GameLaws.{Contains-cases, Contains-first, Contains-later}
use Rattle.fc_moves.specs.GameRules.{GameRules, Stands}
use Rattle.fc_moves.specs.MoveText.{IsThere, IsSource}
use Rattle.fc_moves.specs.Step.{Allows, Joins, Takes, MayLand, place_number}
use Rattle.fc_canonical.specs.inner.Distinct.{AddsDistinct, IsFirstEmpty, IsListed, IsLone, IsLoneBelow, ListsDistinctBelow, Stays}
use Rattle.fc_canonical.proofs.AddedLemmas.{adds_both, adds_move, adds_none}
use Rattle.fc_canonical.proofs.ListedLemmas.{allows_to, contained_or_not, empty_or_not, first_below, lone_or_not, none_or_not, opens_it}
use Rattle.fc_canonical.proofs.ListingLemmas.{place_adds, place_passes}

-- what is held is a card or nothing
card_or_none : (held : Option ℕ) → ((u : ℕ) × (held ≡ Some u)) ⊎ (held ≡ None)
card_or_none None = inr refl
card_or_none (Some u) = inl (u, refl)

pair_or_not : (p q : ℕ × ℕ) → (p ≡ q) ⊎ (p ≡ q → ⊥)
pair_or_not (a, b) (c, d) =
    ⊎_elim
    (λ one. ⊎_elim (λ two. let same : ◌≡◌ {A = ℕ × ℕ} (a, b) (c, d) = cc in inl same)
    (λ other. inr (λ e. other (ap (λ (p : ℕ × ℕ). p.1) e))) (cases_eq b d))
    (λ other. inr (λ e. other (ap (λ (p : ℕ × ℕ). p.0) e)))
    (cases_eq a c)

stands_or_not : (pairs : List (ℕ × ℕ)) (p : ℕ × ℕ) → Contains pairs p ⊎ (Contains pairs p → ⊥)
stands_or_not [] p = inr (λ (k, below, e). absurd (omega arith))
stands_or_not (q ∷ pairs) p =
    ⊎_elim (λ e. inl (subst (Contains (q ∷ pairs)) e (Contains-first pairs q)))
    (λ other. ⊎_elim (λ found. inl (Contains-later q pairs p found))
    (λ none. inr (λ found. ⊎_elim other none (Contains-cases q pairs p found))) (stands_or_not pairs p))
    (pair_or_not q p)

-- whether a card may go to a column with these cards
lands_or_not : (g : GameRules) (cards : List ℕ) (u : ℕ) → MayLand g cards u ⊎ (MayLand g cards u → ⊥)
lands_or_not g cards u =
    ⊎_elim
    (λ empty. ⊎_elim (λ opens. inl (inl (empty, opens))) (λ closed. inr (λ lands. closed (opens_it g cards u empty lands)))
    (contained_or_not g.openers u))
    (λ held. ⊎_elim
    (λ (l, last). ⊎_elim (λ stands. inl (inr (l, last, stands)))
    (λ falls. inr (λ lands. ⊎_elim (λ (empty, _). held empty)
    (λ (k, other, stands). let same : k ≡ l = cc in falls (subst (λ n. Stands g u n) same stands)) lands))
    (stands_or_not g.pairs (u, l)))
    (λ none. inr (λ lands. ⊎_elim (λ (empty, _). held empty) (λ (k, other, _). absurd (cc)) lands))
    (card_or_none (last_of cards)))
    (empty_or_not cards)

takes_or_not : (g : GameRules) (b : Board) (u : ℕ) (to : Place) → Takes g b u to ⊎ (Takes g b u to → ⊥)
takes_or_not g b u (Column j) =
    ⊎_elim
    (λ there. ⊎_elim (λ lands. inl (there, lands)) (λ no. inr (λ takes. no takes.1)) (lands_or_not g (column b j) u))
    (λ past. inr (λ takes. absurd (omega (arith, past, takes.0))))
    (cases_lt j (length b.columns))
takes_or_not g b u (Cell j) =
    ⊎_elim
    (λ below. ⊎_elim
    (λ there. ⊎_elim (λ empty. inl (below, there, empty)) (λ held. inr (λ takes. held takes.2)) (none_or_not (cell b j)))
    (λ past. inr (λ takes. absurd (omega (arith, past, takes.1))))
    (cases_lt j (length b.cells)))
    (λ past. inr (λ takes. absurd (omega (arith, past, takes.0))))
    (cases_lt j g.cells)
takes_or_not g b u Home = cases_eq (home b (suit u) + 1) (rank u)

joins_or_not : (from to : Place) → Joins from to ⊎ (Joins from to → ⊥)
joins_or_not (Column i) (Column j) = ⊎_elim (λ e. inr (λ other. other e)) (λ other. inl other) (cases_eq j i)
joins_or_not (Column i) (Cell j) = inl tt
joins_or_not (Column i) Home = inl tt
joins_or_not (Cell i) (Column j) = inl tt
joins_or_not (Cell i) (Cell j) = inr (λ joins. joins)
joins_or_not (Cell i) Home = inl tt
joins_or_not Home to = inr (λ joins. joins)

allows_or_not : (g : GameRules) (b : Board) (from to : Place)
    → Allows g b (record { from = from; to = to }) ⊎ (Allows g b (record { from = from; to = to }) → ⊥)
allows_or_not g b from to =
    ⊎_elim
    (λ (u, there). ⊎_elim
    (λ joins. ⊎_elim (λ takes. inl (allows_to g b from to u there joins takes))
    (λ no. inr (λ ok. let card : ok.1.card ≡ u = let e = ok.1.playable in cc in
    no (subst (λ c. Takes g b c to) card ok.1.takes)))
    (takes_or_not g b u to))
    (λ no. inr (λ ok. no ok.1.joins))
    (joins_or_not from to))
    (λ none. inr (λ ok. let there = ok.1.playable in absurd (cc)))
    (card_or_none (playable b from))

-- whether no place of the kind is empty before this one
first_or_not : (b : Board) (to : Place) → IsFirstEmpty b to ⊎ (IsFirstEmpty b to → ⊥)
first_or_not b (Column j) =
    ⊎_elim
    (λ empty. ⊎_elim (λ (k, below, here, _). inr (λ first. first empty k below here)) (λ none. inl (λ _. none))
    (first_below (λ k. column b k ≡ []) (λ k. empty_or_not (column b k)) j))
    (λ held. inl (λ empty. absurd (held empty)))
    (empty_or_not (column b j))
first_or_not b (Cell j) =
    ⊎_elim (λ (k, below, here, _). inr (λ first. first k below here)) (λ none. inl none)
    (first_below (λ k. cell b k ≡ None) (λ k. none_or_not (cell b k)) j)
first_or_not b Home = inl tt

stays_or_not : (b : Board) (from to : Place) → Stays b from to ⊎ (Stays b from to → ⊥)
stays_or_not b (Column i) (Column j) =
    ⊎_elim
    (λ one. ⊎_elim (λ empty. inl (one, empty)) (λ held. inr (λ stays. held stays.1)) (empty_or_not (column b j)))
    (λ more. inr (λ stays. more stays.0))
    (cases_eq (length (column b i)) 1)
stays_or_not b (Column i) (Cell j) = inr (λ stays. stays)
stays_or_not b (Column i) Home = inr (λ stays. stays)
stays_or_not b (Cell i) to = inr (λ stays. stays)
stays_or_not b Home to = inr (λ stays. stays)

lone_below_or_not : (g : GameRules) (b : Board) (n : ℕ) → IsLoneBelow g b n ⊎ (IsLoneBelow g b n → ⊥)
lone_below_or_not g b n =
    ⊎_elim (λ (k, below, lone, _). inl (k, below, lone)) (λ none. inr (λ (k, below, lone). none k below lone))
    (first_below (λ k. IsLone g (column b k)) (λ k. lone_or_not g (column b k)) n)

-- whether the move is to be listed
listed_or_not : (g : GameRules) (b : Board) (from to : Place)
    → IsListed g b (record { from = from; to = to }) ⊎ (IsListed g b (record { from = from; to = to }) → ⊥)
listed_or_not g b from to =
    ⊎_elim
    (λ allowed. ⊎_elim
    (λ first. ⊎_elim
    (λ stays. ⊎_elim (λ lone. inr (λ ok. ok.stays stays lone))
    (λ none. inl (record { allowed = allowed; first = first; stays = λ _ lone. none lone }))
    (lone_below_or_not g b (place_number from)))
    (λ leaves. inl (record { allowed = allowed; first = first; stays = λ stays _. leaves stays }))
    (stays_or_not b from to))
    (λ no. inr (λ ok. no ok.first))
    (first_or_not b to))
    (λ no. inr (λ ok. no ok.allowed))
    (allows_or_not g b from to)

-- each number below 13 is a place's
place_of : (n : ℕ) → n < 13 → (to : Place) × IsThere to × (place_number to ≡ n)
place_of n below =
    ⊎_elim (λ column_. (Column n, column_, refl))
    (λ past. ⊎_elim (λ held. (Cell (n - 8), omega arith, omega arith)) (λ last. (Home, tt, omega arith)) (cases_lt n 12))
    (cases_lt n 8)

-- the moves of a place to the first places
moves_to : (g : GameRules) (b : Board) (from : Place) → IsPosition b → IsSource from → (n : ℕ) → n ≤ 13
    → (ms : List Move) × AddsDistinct g b from (place_number from * 13) (place_number from * 13 + n) [] ms
moves_to g b from p source zero most =
    let low = place_number from * 13 in
    let same : low ≡ low + 0 = omega arith in
    ([], adds_none g b from low (low + 0) [] (λ before. subst (λ k. ListsDistinctBelow g b k before) same))
moves_to g b from p source (suc n) most =
    let low = place_number from * 13 in
    let (ms, adds) = moves_to g b from p source n (omega arith) in
    let (to, there, number) = place_of n (omega arith) in
    let m : Move = record { from = from; to = to } in
    let next : low + (n + 1) ≡ low + suc n = omega arith in
    ⊎_elim
    (λ ok. (
      ms ++ m ∷ [],
      subst (λ k. AddsDistinct g b from low k [] (ms ++ m ∷ [])) next
          (adds_both g b from low (low + n) (low + (n + 1)) [] ms (ms ++ m ∷ []) adds
          (adds_move g b from to (low + n) (low + (n + 1)) ms (ms ++ m ∷ []) refl
          (λ before lists. place_adds g b from to n before (before ++ m ∷ []) p source there number lists ok refl))),
    ))
    (λ no. (
      ms,
      subst (λ k. AddsDistinct g b from low k [] ms) next
          (adds_both g b from low (low + n) (low + (n + 1)) [] ms ms adds
          (adds_none g b from (low + n) (low + (n + 1)) ms
          (λ before lists. place_passes g b from to n before p source there number lists no))),
    ))
    (listed_or_not g b from to)

-- the moves of a place
pub moves_of : (g : GameRules) (b : Board) (from : Place) → IsPosition b → IsSource from
    → (ms : List Move) × AddsDistinct g b from (place_number from * 13) (place_number from * 13 + 13) [] ms
moves_of g b from p source = moves_to g b from p source 13 (omega arith)
