-- Listing the first of the moves to each class, place by place.
use Rattle.std.proofs.Common.{◌≡◌, ℕ, ◌+◌, ◌*◌, ◌<◌, ◌≤◌, ◌↔◌, Bool, true, Option, Some, None, List, [], ◌∷◌, ◌++◌, length, get_or, eqb, refl, sym, ◌∙◌, ap, subst, inl, inr, ⊎_elim, arith}
use Rattle.std.specs.Prelude.{Contains, IsTrue}
use Rattle.std.specs.Option.{option_eq}
use Rattle.std.proofs.lemmas.List.{length_push, get_or_append_left, get_or_push}
use Rattle.std.proofs.lemmas.List.Elements.{Contains-get_or, Contains-push_cases, Contains-append_left, Contains-push}
use Rattle.std.proofs.lemmas.Bool.{cases_lt, eq-eqb}
use Rattle.std.proofs.lemmas.Bool.Decides.{nat_tests}
use Rattle.fc_cards.specs.Card.{rank}
use Rattle.fc_cards.specs.declared.places.Place.{Place}
use Rattle.fc_cards.specs.declared.places.Place.TheVariants.{Column, Cell, Home}
use Rattle.fc_position.specs.Board.{Board, column, cell, playable, last_of, IsNext}
use Rattle.fc_position.specs.Position.{IsPosition}
use Rattle.fc_position.proofs.BoardLemmas.{column_there}
use Rattle.fc_moves.specs.declared.steps.Move.{Move}
use Rattle.fc_moves.specs.GameRules.{GameRules, IsGame, IsPair, Stands, Opens}
use Rattle.fc_moves.specs.MoveText.{IsThere, IsSource}
use Rattle.fc_moves.specs.Step.{Joins, Takes, place_number, move_number}
use Rattle.fc_moves.proofs.StepLemmas.{allowed_has_text, source_is_there, place_once, place_most, move_same}
use Rattle.fc_canonical.specs.inner.Distinct.{IsCellOf, IsOpening, GoesTo, IsFirstCell, IsFirstColumn, ListsDistinctBelow, IsListed, IsLaterLone, IsLoneBelow, Stays}
use Rattle.fc_canonical.proofs.ListedLemmas.{first_once, empty_or_not, no_last, joins_empty, allows_to, moves_on}

-- what was read as the last card of a column is its last
pub last_is : (cards other : List ℕ) (read value : Option ℕ) → cards ≡ other → read ≡ last_of cards → read ≡ value
    → last_of other ≡ value
last_is cards other read value same last is = ap last_of (sym same) ∙ sym last ∙ is

-- where no move with a number from n on, below n + k, is to be listed, the list has those below n + k
lists_past : (g : GameRules) (b : Board) (n k : ℕ) (ms : List Move) → ListsDistinctBelow g b n ms
    → ((m : Move) → IsListed g b m → n ≤ move_number m → move_number m < n + k → ⊥) → ListsDistinctBelow g b (n + k) ms
lists_past g b n k ms lists none = record {
  listed = λ m found. let a = lists.listed m found in (a.0, omega (arith, a.1));
  complete = λ m ok below.
      ⊎_elim (λ lt. lists.complete m ok lt) (λ le. absurd (none m ok le below)) (cases_lt (move_number m) n);
  rising = lists.rising;
}

-- the one move to be listed with a number from n on, below n + k, is added
lists_adds : (g : GameRules) (b : Board) (n k : ℕ) (ms : List Move) (m : Move) → ListsDistinctBelow g b n ms → IsListed g b m
    → n ≤ move_number m → move_number m < n + k
    → ((o : Move) → IsListed g b o → n ≤ move_number o → move_number o < n + k → o ≡ m)
    → ListsDistinctBelow g b (n + k) (ms ++ m ∷ [])
lists_adds g b n k ms m lists ok low high only = record {
  listed = λ o found.
      ⊎_elim (λ old. let a = lists.listed o old in (a.0, omega (arith, a.1)))
      (λ e. (subst (IsListed g b) e ok, omega (arith, ap move_number e, high))) (Contains-push_cases ms m o found);
  complete = λ o other below.
      ⊎_elim (λ lt. Contains-append_left ms (m ∷ []) o (lists.complete o other lt))
      (λ le. subst (Contains (ms ++ m ∷ [])) (sym (only o other le below)) (Contains-push ms m))
      (cases_lt (move_number o) n);
  rising = λ i j d lt last.
      let long : length (ms ++ m ∷ []) ≡ length ms + 1 = length_push ms m in
      let within : i < length ms = omega (arith, lt, last, long) in
      let left = ap move_number (get_or_append_left ms (m ∷ []) d i within) in
      ⊎_elim
      (λ inside. omega (arith, left, ap move_number (get_or_append_left ms (m ∷ []) d j inside), lists.rising i j d lt inside))
      (λ past. omega (
        arith,
        left,
        ap move_number (get_or_push ms m d j (omega (arith, last, long, past))),
        (lists.listed (get_or ms i d) (Contains-get_or ms i d within)).1,
        low,
      ))
      (cases_lt j (length ms));
}

-- a move from a place to places with numbers from a on, below c
record Between (from : Place) (a c : ℕ) (m : Move) : Type 0 where
  source : m.from ≡ from
  there : IsThere m.to
  low : a ≤ place_number m.to
  high : place_number m.to < c

between : (g : GameRules) (b : Board) (from : Place) (a k : ℕ) (m : Move) → IsPosition b → IsSource from → a + k ≤ 13
    → IsListed g b m → place_number from * 13 + a ≤ move_number m → move_number m < place_number from * 13 + a + k
    → Between from a (a + k) m
between g b from a k m p source most ok low high =
    let text = allowed_has_text g b m p ok.allowed in
    let last = place_most m.to text.to in
    let same : m.from ≡ from = place_once m.from from (source_is_there m.from text.from) (source_is_there from source)
    (omega (arith, most, low, high, last)) in
    record {
      source = same;
      there = text.to;
      low = omega (arith, ap place_number same, low);
      high = omega (arith, ap place_number same, high);
    }

-- the move to the next place is added
pub place_adds : (g : GameRules) (b : Board) (from to : Place) (n : ℕ) (ms new : List Move) → IsPosition b → IsSource from
    → IsThere to → place_number to ≡ n → ListsDistinctBelow g b (place_number from * 13 + n) ms
    → IsListed g b (record { from = from; to = to }) → new ≡ ms ++ (record { from = from; to = to }) ∷ []
    → ListsDistinctBelow g b (place_number from * 13 + (n + 1)) new
place_adds g b from to n ms new p source there number lists ok items =
    let m : Move = record { from = from; to = to } in
    let next : place_number from * 13 + n + 1 ≡ place_number from * 13 + (n + 1) = omega arith in
    let most = place_most to there in
    rw items (subst (λ k. ListsDistinctBelow g b k (ms ++ m ∷ [])) next
    (lists_adds g b (place_number from * 13 + n) 1 ms m lists ok (omega (arith, number)) (omega (arith, number)) (λ o other low high.
    let at = between g b from n 1 o p source (omega (arith, number, most)) other low high in
    move_same o m at.source (place_once o.to to at.there there (omega (arith, at.low, at.high, number))))))

-- the next place is passed over
pub place_passes : (g : GameRules) (b : Board) (from to : Place) (n : ℕ) (ms : List Move) → IsPosition b → IsSource from
    → IsThere to → place_number to ≡ n → ListsDistinctBelow g b (place_number from * 13 + n) ms
    → (IsListed g b (record { from = from; to = to }) → ⊥) → ListsDistinctBelow g b (place_number from * 13 + (n + 1)) ms
place_passes g b from to n ms p source there number lists refused =
    let m : Move = record { from = from; to = to } in
    let next : place_number from * 13 + n + 1 ≡ place_number from * 13 + (n + 1) = omega arith in
    let most = place_most to there in
    subst (λ k. ListsDistinctBelow g b k ms) next
    (lists_past g b (place_number from * 13 + n) 1 ms lists (λ o other low high.
    let at = between g b from n 1 o p source (omega (arith, number, most)) other low high in
    let same : o ≡ m = move_same o m at.source (place_once o.to to at.there there (omega (arith, at.low, at.high, number))) in
    refused (subst (IsListed g b) same other)))

-- a place with a number from 8 on, below 12, is a cell
cell_between : (to : Place) → IsThere to → 8 ≤ place_number to → place_number to < 12 → (j : ℕ) × (to ≡ Cell j)
cell_between (Column i) there low high = absurd (omega (arith, there, low))
cell_between (Cell i) there low high = (i, refl)
cell_between Home there low high = absurd (omega (arith, high))

-- a place with a number below 8 is a column
column_below : (to : Place) → IsThere to → place_number to < 8 → (j : ℕ) × (j < 8) × (to ≡ Column j)
column_below (Column i) there low = (i, low, refl)
column_below (Cell i) there low = absurd (omega (arith, low))
column_below Home there low = absurd (omega (arith, low))

-- where the card is listed to none of some columns, they are passed over
pub columns_pass : (g : GameRules) (b : Board) (from : Place) (n d : ℕ) (ms : List Move) → IsPosition b → IsSource from → n + d ≤ 8
    → ((j : ℕ) → n ≤ j → j < n + d → IsListed g b (record { from = from; to = Column j }) → ⊥)
    → ListsDistinctBelow g b (place_number from * 13 + n) ms → ListsDistinctBelow g b (place_number from * 13 + (n + d)) ms
columns_pass g b from n d ms p source few none lists =
    let next : place_number from * 13 + n + d ≡ place_number from * 13 + (n + d) = omega arith in
    subst (λ k. ListsDistinctBelow g b k ms) next
    (lists_past g b (place_number from * 13 + n) d ms lists (λ o other low high.
    let at = between g b from n d o p source (omega (arith, few)) other low high in
    let is = column_below o.to at.there (omega (arith, at.high, few)) in
    let m : Move = record { from = from; to = Column is.0 } in
    let same : o ≡ m = move_same o m at.source is.2 in
    let number : place_number o.to ≡ is.0 = ap place_number is.2 in
    none is.0 (omega (arith, at.low, number)) (omega (arith, at.high, number)) (subst (IsListed g b) same other)))

-- the cells' turn: the move to one is added, or there is none
a_cell : (g : GameRules) (b : Board) (from : Place) (held : Option ℕ) (o : Move) → IsPosition b → IsSource from
    → IsCellOf g b from held → IsListed g b o → place_number from * 13 + 8 ≤ move_number o
    → move_number o < place_number from * 13 + 8 + 4
    → (j : ℕ) × (held ≡ Some j) × (o ≡ record { from = from; to = Cell j })
a_cell g b from held o p source told ok low high =
    let at = between g b from 8 4 o p source (omega arith) ok low high in
    let is = cell_between o.to at.there at.low (omega (arith, at.high)) in
    let m : Move = record { from = from; to = Cell is.0 } in
    let same : o ≡ m = move_same o m at.source is.1 in
    (is.0, (told is.0).1 (subst (IsListed g b) same ok), same)

pub cell_adds : (g : GameRules) (b : Board) (from : Place) (j : ℕ) (ms new : List Move) → IsPosition b → IsSource from
    → IsCellOf g b from (Some j) → ListsDistinctBelow g b (place_number from * 13 + 8) ms
    → new ≡ ms ++ (record { from = from; to = Cell j }) ∷ [] → ListsDistinctBelow g b (place_number from * 13 + 12) new
cell_adds g b from j ms new p source told lists items =
    let m : Move = record { from = from; to = Cell j } in
    let ok = (told j).0 refl in
    let there : j < 4 = (allowed_has_text g b m p ok.allowed).to in
    let next : place_number from * 13 + 8 + 4 ≡ place_number from * 13 + 12 = omega arith in
    rw items (subst (λ k. ListsDistinctBelow g b k (ms ++ m ∷ [])) next
    (lists_adds g b (place_number from * 13 + 8) 4 ms m lists ok (omega arith) (omega (arith, there)) (λ o other low high.
    let is = a_cell g b from (Some j) o p source told other low high in
    let same : is.0 ≡ j = cc (is.1) in
    is.2 ∙ ap (λ (n : ℕ). let r : Move = record { from = from; to = Cell n } in r) same)))

pub cell_passes : (g : GameRules) (b : Board) (from : Place) (ms : List Move) → IsPosition b → IsSource from
    → IsCellOf g b from None → ListsDistinctBelow g b (place_number from * 13 + 8) ms
    → ListsDistinctBelow g b (place_number from * 13 + 12) ms
cell_passes g b from ms p source told lists =
    let next : place_number from * 13 + 8 + 4 ≡ place_number from * 13 + 12 = omega arith in
    subst (λ k. ListsDistinctBelow g b k ms) next (lists_past g b (place_number from * 13 + 8) 4 ms lists (λ o other low high.
    let is = a_cell g b from None o p source told other low high in absurd (cc (is.1))))

-- nothing can be taken from this place, so all its moves are passed over
pub source_passes : (g : GameRules) (b : Board) (from : Place) (ms : List Move) → IsPosition b → IsSource from
    → playable b from ≡ None → ListsDistinctBelow g b (place_number from * 13) ms → ListsDistinctBelow g b (place_number from * 13 + 13) ms
source_passes g b from ms p source none lists =
    lists_past g b (place_number from * 13) 13 ms lists (λ o other low high.
    let at = between g b from 0 13 o p source (omega arith) other (omega (arith, low)) (omega (arith, high)) in
    let there = other.allowed.1.playable in
    absurd (cc (sym there ∙ ap (playable b) at.source ∙ none)))

-- no card stands on itself, so a card that stands on a column's last comes from elsewhere
joins_standing : (g : GameRules) (b : Board) (from : Place) (u l j : ℕ) → IsGame g → playable b from ≡ Some u
    → last_of (column b j) ≡ Some l → Stands g u l → Joins from (Column j)
joins_standing g b (Column i) u l j game there last (k, below, e) =
    let pair = subst IsPair e (game.pairs k (u, l) below) in
    λ same. let card : u ≡ l = let back = ap (λ n. last_of (column b n)) same in cc in
    absurd (omega (arith, pair.2, ap rank card))
joins_standing g b (Cell i) u l j game there last stands = tt
joins_standing g b Home u l j game there last stands = absurd (cc there)

-- a test of an optional number for being this one
pub equal_is : (opening : Option ℕ) (j : ℕ) (t : Bool) → t ≡ option_eq eqb opening (Some j) → IsTrue t ↔ (opening ≡ Some j)
equal_is None j t e = (λ holds. absurd (cc (sym e ∙ holds)), λ f. absurd (cc f))
equal_is (Some k) j t e = (
  λ holds. let h : eqb k j ≡ true = sym e ∙ holds in
      let same : k ≡ j = grind (arith, nat_tests) in ap (λ (n : ℕ). Some n) same,
  λ f. let same : k ≡ j = cc f in e ∙ eq-eqb k j same,
)

-- a card is listed to a column on whose last card it stands
pub stands_listed : (g : GameRules) (b : Board) (from : Place) (u l j : ℕ) → IsPosition b → IsGame g → playable b from ≡ Some u
    → j < 8 → last_of (column b j) ≡ Some l → Stands g u l → IsListed g b (record { from = from; to = Column j })
stands_listed g b from u l j p game there inside last stands =
    let takes : Takes g b u (Column j) = (omega (arith, inside, p.columns), inr (l, last, stands)) in
    record {
      allowed = allows_to g b from (Column j) u there (joins_standing g b from u l j game there last stands) takes;
      first = λ empty. absurd (no_last (column b j) l empty last);
      stays = λ stays _. moves_on g b from (Column j) u there takes
          (λ k e empty. let same : j ≡ k = cc e in no_last (column b j) l (ap (column b) same ∙ empty) last) stays;
    }

-- a card is listed to a column where it stands on the last card, and to an empty one where this is so
pub goes_listed : (g : GameRules) (b : Board) (from : Place) (u j : ℕ) (opening : Option ℕ) (t opens : Bool) → IsPosition b
    → IsGame g → playable b from ≡ Some u → j < 8 → IsOpening g b from opening → (IsTrue opens ↔ (opening ≡ Some j))
    → (IsTrue t ↔ GoesTo g (column b j) u (IsTrue opens)) → IsTrue t ↔ IsListed g b (record { from = from; to = Column j })
goes_listed g b from u j opening t opens p game there inside told is goes = (
  λ holds. ⊎_elim (λ (empty, open_). (told j empty).0 (is.0 open_))
      (λ (l, last, stands). stands_listed g b from u l j p game there inside last stands)
      (goes.0 holds),
  λ ok. goes.1 (⊎_elim (λ empty. inl (empty, is.1 ((told j empty).1 ok)))
      (λ held. ⊎_elim (λ (empty, _). absurd (held empty))
      (λ (l, last, stands). let card : ok.allowed.1.card ≡ u = let e = ok.allowed.1.playable in cc in
      inr (l, last, subst (λ c. Stands g c l) card stands)) ok.allowed.1.takes.1)
      (empty_or_not (column b j))),
)

-- a column's only card behind another that opens a column is of a later lone column, and no other is
later_lone : (g : GameRules) (b : Board) (from : Place) (u j : ℕ) → IsPosition b → playable b from ≡ Some u
    → Stays b from (Column j) → IsLoneBelow g b (place_number from) → IsLaterLone g b from
later_lone g b (Column i) u j p there stays below = (omega (arith, column_there b i u there, p.columns), stays.0, below)
later_lone g b (Cell i) u j p there stays below = absurd stays
later_lone g b Home u j p there stays below = absurd stays

-- the first empty column is the one to go to, where the card may go there and its column isn't a later lone one
pub opening_first : (g : GameRules) (b : Board) (from : Place) (u j : ℕ) → IsPosition b → playable b from ≡ Some u
    → IsFirstColumn b (Some j) → Opens g u → (IsLaterLone g b from → ⊥) → IsOpening g b from (Some j)
opening_first g b from u j p there first opens early k empty = (
  λ e. let same : j ≡ k = cc e in
      subst (λ n. IsListed g b (record { from = from; to = Column n })) same (record {
        allowed = allows_to g b from (Column j) u there (joins_empty b from u j there first.1)
            (omega (arith, first.0, p.columns), inl (first.1, opens));
        first = λ _. first.2;
        stays = λ stays below. early (later_lone g b from u j p there stays below);
      }),
  λ ok. let same : j ≡ k = first_once (λ n. column b n ≡ []) j k first.1 empty first.2 (ok.first empty) in
      ap (λ (n : ℕ). Some n) same,
)

-- the first empty cell of the game is where the last card of a column goes, and a card of a cell goes to none
pub cell_of_column : (g : GameRules) (b : Board) (i u : ℕ) (held : Option ℕ) → IsPosition b → IsGame g
    → last_of (column b i) ≡ Some u → IsFirstCell b g.cells held → IsCellOf g b (Column i) held
cell_of_column g b i u None p game there none j = (
  λ e. absurd (cc e),
  λ ok. absurd (none j ok.allowed.1.takes.0 ok.allowed.1.takes.2),
)
cell_of_column g b i u (Some k) p game there first j = (
  λ e. let same : k ≡ j = cc e in
      subst (λ n. IsListed g b (record { from = Column i; to = Cell n })) same (record {
        allowed = allows_to g b (Column i) (Cell k) u there tt
            (first.0, omega (arith, first.0, game.cells, p.cells), first.1);
        first = first.2;
        stays = λ stays _. absurd stays;
      }),
  λ ok. let same : k ≡ j = first_once (λ n. cell b n ≡ None) k j first.1 ok.allowed.1.takes.2 first.2 ok.first in
      ap (λ (n : ℕ). Some n) same,
)

-- a card of a column or a cell may go home
joins_home : (from : Place) → IsSource from → Joins from Home
joins_home (Column i) source = tt
joins_home (Cell i) source = tt
joins_home Home source = absurd source

-- a card is listed home where it is next
pub home_listed : (g : GameRules) (b : Board) (from : Place) (u : ℕ) → IsSource from → playable b from ≡ Some u
    → IsNext b.homes u ↔ IsListed g b (record { from = from; to = Home })
home_listed g b from u source there = (
  λ next. record {
    allowed = allows_to g b from Home u there (joins_home from source) next;
    first = tt;
    stays = λ stays _. moves_on g b from Home u there next (λ j e _. absurd (cc e)) stays;
  },
  λ ok. let card : ok.allowed.1.card ≡ u = let e = ok.allowed.1.playable in cc in
      subst (IsNext b.homes) card ok.allowed.1.takes,
)
