-- What a move does to the places of the cards: the card that moves comes to where it goes, and no other card moves.
use Rattle.std.proofs.Common.{◌≡◌, ◌≢◌, ℕ, ◌-◌, ◌<◌, Option, Some, None, List, [], ◌∷◌, ◌++◌, length, set, get_or, refl, sym, ◌∙◌, ap, ⊎_elim, arith}
use Rattle.std.specs.Prelude.{slice_index}
use Rattle.std.proofs.lemmas.List.{get_or-set_same, get_or-set_other, length-append, append_assoc}
use Rattle.std.proofs.lemmas.Option.{slice_get-get_or}
use Rattle.std.proofs.lemmas.Bool.{cases_eq}
use Rattle.fc_cards.specs.Card.{rank, suit}
use Rattle.fc_cards.specs.declared.places.Place.{Place}
use Rattle.fc_cards.specs.declared.places.Place.TheVariants.{Column, Cell, Home}
use Rattle.fc_position.specs.Board.{Board, column, cell, playable, board_without, board_with, Receives, IsHome, IsNext, last_of, front_of}
use Rattle.fc_position.proofs.BoardLemmas.{front_last, column_there, columns-lifted}
use Rattle.fc_moves.specs.Step.{Joins}
use Rattle.fc_codes.specs.State.{StandsOn}
use Rattle.fc_codes.proofs.StateLemmas.{Keeps}

-- a card that isn't the last one stands before it
not_last : (w above front : List ℕ) (x u : ℕ) → w ++ x ∷ above ≡ front ++ u ∷ [] → x ≢ u
    → (rest : List ℕ) × (front ≡ w ++ x ∷ rest)
not_last [] above [] x u e other = absurd (other cc)
not_last [] above (f ∷ front) x u e other =
    let first : f ≡ x = cc in (front, ap (λ y. y ∷ front) first)
not_last (y ∷ w) above [] x u e other =
    let none : w ++ x ∷ above ≡ [] = cc in
    absurd (omega (arith, ap length none, length-append w (x ∷ above)))
not_last (y ∷ w) above (f ∷ front) x u e other =
    let first : f ≡ y = cc in
    let after : w ++ x ∷ above ≡ front ++ u ∷ [] = cc in
    let rest = not_last w above front x u after other in
    (rest.0, ap (λ z. z ∷ front) first ∙ ap (λ l. y ∷ l) rest.1)

-- boards whose columns are the same, but for one at whose end a card is put
record Grows (b c : Board) (i u : ℕ) : Type 0 where
  here : column c i ≡ column b i ++ u ∷ []
  others : (j : ℕ) → j ≢ i → column c j ≡ column b j

grows_stands : (b c : Board) (i u x : ℕ) (w : List ℕ) → Grows b c i u → StandsOn b w x → StandsOn c w x
grows_stands b c i u x w g p =
    ⊎_elim
    (λ same. record {
      number = i;
      above = p.above ++ u ∷ [];
      cards = g.here ∙ ap (λ l. l ++ u ∷ []) (ap (column b) (sym same) ∙ p.cards) ∙ append_assoc w (x ∷ p.above) (u ∷ []);
    })
    (λ other. record { number = p.number; above = p.above; cards = g.others p.number other ∙ p.cards })
    (cases_eq p.number i)

grows_back : (b c : Board) (i u x : ℕ) (w : List ℕ) → Grows b c i u → x ≢ u → StandsOn c w x → StandsOn b w x
grows_back b c i u x w g apart p =
    ⊎_elim
    (λ same. let rest = not_last w p.above (column b i) x u (sym p.cards ∙ ap (column c) same ∙ g.here) apart in
    record { number = i; above = rest.0; cards = rest.1 })
    (λ other. record { number = p.number; above = p.above; cards = sym (g.others p.number other) ∙ p.cards })
    (cases_eq p.number i)

-- the same of a card in a cell, where cells are the same but for one
cell_kept : (xs : List (Option ℕ)) (k j : ℕ) (v : Option ℕ) (x : ℕ) → get_or xs k None ≡ Some x → k ≢ j
    → get_or (set xs j v) k None ≡ Some x
cell_kept xs k j v x held other = get_or-set_other xs j k v None other ∙ held

lifted_grows : (b : Board) (i u : ℕ) → last_of (column b i) ≡ Some u → Grows (board_without b (Column i)) b i u
lifted_grows b i u last =
    let here : column (board_without b (Column i)) i ≡ front_of (column b i) =
    get_or-set_same b.columns i (front_of (column b i)) [] (column_there b i u last) in
    record {
      here = front_last (column b i) u last ∙ ap (λ l. l ++ u ∷ []) (sym here);
      others = λ j other. sym (get_or-set_other b.columns i j (front_of (column b i)) [] other);
    }

placed_grows : (b : Board) (j u : ℕ) → j < length b.columns → Grows b (board_with b u (Column j)) j u
placed_grows b j u inside = record {
  here = get_or-set_same b.columns j (column b j ++ u ∷ []) [] inside;
  others = λ k other. get_or-set_other b.columns j k (column b j ++ u ∷ []) [] other;
}

-- lifting a card moves no other
pub lifted_keeps : (b : Board) (from : Place) (u x : ℕ) → playable b from ≡ Some u → x ≢ u → Keeps b (board_without b from) x
lifted_keeps b (Column i) u x there apart = record {
  stands = λ w p. grows_back (board_without b (Column i)) b i u x w (lifted_grows b i u there) apart p;
  back = λ w p. grows_stands (board_without b (Column i)) b i u x w (lifted_grows b i u there) p;
  cells = λ q. record { number = q.number; held = q.held };
  homes = λ h. h;
}
lifted_keeps b (Cell i) u x there apart = record {
  stands = λ w p. record { number = p.number; above = p.above; cards = p.cards };
  back = λ w p. record { number = p.number; above = p.above; cards = p.cards };
  cells = λ q.
      let other : q.number ≢ i = λ same. apart (let one = q.held in let two = ap (cell b) same in cc) in
      record { number = q.number; held = cell_kept b.cells q.number i None x q.held other };
  homes = λ h. h;
}
lifted_keeps b Home u x there apart = absurd (cc there)

-- a card that goes home leaves the others that are home there
home_kept : (homes : List ℕ) (u x : ℕ) → length homes ≡ 4 → IsNext homes u → IsHome homes x → IsHome (set homes (suit u) (rank u)) x
home_kept homes u x four next h =
    ⊎_elim
    (λ same. let here : slice_index (set homes (suit u) (rank u)) (suit x) ≡ rank u =
    ap (slice_index (set homes (suit u) (rank u))) same ∙ get_or-set_same homes (suit u) (rank u) 0 (omega (arith, four)) in
    let before : slice_index homes (suit x) ≡ slice_index homes (suit u) = ap (slice_index homes) same in
    omega (arith, here, before, next, h))
    (λ other. let there : slice_index (set homes (suit u) (rank u)) (suit x) ≡ slice_index homes (suit x) =
    get_or-set_other homes (suit u) (suit x) (rank u) 0 other in
    omega (arith, there, h))
    (cases_eq (suit x) (suit u))

-- placing a card moves no other
pub placed_keeps : (b : Board) (u : ℕ) (to : Place) (x : ℕ) → length b.homes ≡ 4 → Receives b u to → x ≢ u
    → Keeps b (board_with b u to) x
placed_keeps b u (Column j) x four there apart = record {
  stands = λ w p. grows_stands b (board_with b u (Column j)) j u x w (placed_grows b j u there) p;
  back = λ w p. grows_back b (board_with b u (Column j)) j u x w (placed_grows b j u there) apart p;
  cells = λ q. record { number = q.number; held = q.held };
  homes = λ h. h;
}
placed_keeps b u (Cell j) x four (there, empty) apart = record {
  stands = λ w p. record { number = p.number; above = p.above; cards = p.cards };
  back = λ w p. record { number = p.number; above = p.above; cards = p.cards };
  cells = λ q.
      let other : q.number ≢ j = λ same. let one = q.held in let two = ap (cell b) same in cc (one, two, empty) in
      record { number = q.number; held = cell_kept b.cells q.number j (Some u) x q.held other };
  homes = λ h. h;
}
placed_keeps b u Home x four next apart = record {
  stands = λ w p. record { number = p.number; above = p.above; cards = p.cards };
  back = λ w p. record { number = p.number; above = p.above; cards = p.cards };
  cells = λ q. record { number = q.number; held = q.held };
  homes = home_kept b.homes u x four next;
}

pub keeps_both : (b c d : Board) (x : ℕ) → Keeps b c x → Keeps c d x → Keeps b d x
keeps_both b c d x k l = record {
  stands = λ w p. l.stands w (k.stands w p);
  back = λ w p. k.back w (l.back w p);
  cells = λ q. l.cells (k.cells q);
  homes = λ h. l.homes (k.homes h);
}

-- what can take a card can take it when the card is lifted
pub receives_still : (b : Board) (from to : Place) (u : ℕ) → Joins from to → Receives b u to → Receives (board_without b from) u to
receives_still b (Column i) (Column j) u joins there = omega (arith, there, columns-lifted b (Column i))
receives_still b (Column i) (Cell j) u joins r = r
receives_still b (Column i) Home u joins r = r
receives_still b (Cell i) (Column j) u joins r = r
receives_still b (Cell i) (Cell j) u joins r = absurd joins
receives_still b (Cell i) Home u joins r = r
receives_still b Home to u joins r = absurd joins

-- a column without a last card has no card
pub no_last : (cards : List ℕ) → last_of cards ≡ None → cards ≡ []
no_last [] none = refl
no_last (x ∷ xs) none =
    let there = slice_get-get_or (x ∷ xs) (length (x ∷ xs) - 1) x (omega arith) in absurd (cc (none, there))
