-- Listing the allowed moves by rising number.
use Rattle.std.proofs.Common.{◌≡◌, ℕ, ◌+◌, ◌-◌, ◌*◌, ◌≤◌, ◌<◌, None, List, [], ◌∷◌, ◌++◌, length, map, get_or, cond, ltb, min, sym, ◌∙◌, ap, subst, ⊎_elim, arith}
use Rattle.std.specs.Prelude.{slice_index, Contains}
use Rattle.std.specs.List.Sorted.{IsStrictlyIncreasing}
use Rattle.std.proofs.lemmas.List.{map_push, length_push, length-map, get_or_append_left, get_or_push, get_or-map}
use Rattle.std.proofs.lemmas.List.Elements.{Contains-push_cases, Contains-append_left, Contains-push, Contains-get_or}
use Rattle.std.proofs.lemmas.Bool.{cases_lt}
use Rattle.std.proofs.lemmas.Bool.Decides.{nat_tests}
use Rattle.fc_cards.specs.declared.places.Place.{Place}
use Rattle.fc_cards.specs.declared.places.Place.TheVariants.{Column, Cell, Home}
use Rattle.fc_position.specs.Board.{Board, playable}
use Rattle.fc_position.specs.Position.{IsPosition}
use Rattle.fc_moves.specs.declared.steps.Move.{Move}
use Rattle.fc_moves.specs.GameRules.{GameRules}
use Rattle.fc_moves.specs.MoveText.{IsThere, IsSource, HasText}
use Rattle.fc_moves.specs.Step.{Allows, Joins, ListsMoves, place_number, move_number}
use Rattle.fc_moves.specs.inner.Step.{most_from, ListsBelow}
use Rattle.fc_moves.proofs.StepLemmas.{allowed_has_text, move_once, place_once, source_is_there, place_most, source_most}

-- a greater number at the end of a rising list keeps it rising
rising_push : (xs : List ℕ) (y : ℕ) → IsStrictlyIncreasing xs → ((k : ℕ) → k < length xs → slice_index xs k < y)
    → IsStrictlyIncreasing (xs ++ y ∷ [])
rising_push xs y rising less k within =
    let size = length_push xs y in
    let before : slice_index (xs ++ y ∷ []) k ≡ slice_index xs k =
    get_or_append_left xs (y ∷ []) 0 k (omega (arith, size)) in
    ⊎_elim
    (λ lt. let after : slice_index (xs ++ y ∷ []) (k + 1) ≡ slice_index xs (k + 1) =
    get_or_append_left xs (y ∷ []) 0 (k + 1) lt in
    omega (arith, before, after, rising k lt))
    (λ le. let after : slice_index (xs ++ y ∷ []) (k + 1) ≡ y = get_or_push xs y 0 (k + 1) (omega (arith, size, le)) in
    omega (arith, before, after, less k (omega (arith, size))))
    (cases_lt (k + 1) (length xs))

-- where no move with a number from n on, below n + k, is allowed, the list has those below n + k
pub lists_past : (g : GameRules) (b : Board) (n k : ℕ) (ms : List Move) → ListsBelow g b n ms
    → ((m : Move) → Allows g b m → n ≤ move_number m → move_number m < n + k → ⊥) → ListsBelow g b (n + k) ms
lists_past g b n k ms lists none = record {
  allowed = λ m found. let a = lists.allowed m found in (a.0, omega (arith, a.1));
  complete = λ m ok below.
      ⊎_elim (λ lt. lists.complete m ok lt) (λ le. absurd (none m ok le below)) (cases_lt (move_number m) n);
  rising = lists.rising;
}

-- the next allowed move is added
pub lists_next : (g : GameRules) (b : Board) (n : ℕ) (ms : List Move) (m : Move) → IsPosition b → ListsBelow g b n ms
    → Allows g b m → move_number m ≡ n → ListsBelow g b (n + 1) (ms ++ m ∷ [])
lists_next g b n ms m p lists ok number = record {
  allowed = λ other found.
      ⊎_elim (λ old. let a = lists.allowed other old in (a.0, omega (arith, a.1)))
      (λ e. (subst (Allows g b) e ok, omega (arith, ap move_number e, number))) (Contains-push_cases ms m other found);
  complete = λ other allowed below.
      ⊎_elim (λ lt. Contains-append_left ms (m ∷ []) other (lists.complete other allowed lt))
      (λ le. let same : m ≡ other =
      move_once m other (allowed_has_text g b m p ok) (allowed_has_text g b other p allowed) (omega (arith, number)) in
      subst (Contains (ms ++ m ∷ [])) same (Contains-push ms m)) (cases_lt (move_number other) n);
  rising = rw map_push (rising_push (map move_number ms) (move_number m) lists.rising (λ k within.
      let inside : k < length ms = omega (arith, length-map ms move_number) in
      let here = lists.allowed (get_or ms k m) (Contains-get_or ms k m inside) in
      omega (arith, get_or-map move_number ms k m 0 inside, here.1, number)));
}

-- the move with this number is not allowed, so it is passed over
pub lists_skip : (g : GameRules) (b : Board) (n : ℕ) (ms : List Move) (m : Move) → IsPosition b → HasText m
    → ListsBelow g b n ms → (Allows g b m → ⊥) → move_number m ≡ n → ListsBelow g b (n + 1) ms
lists_skip g b n ms m p text lists refused number =
    lists_past g b n 1 ms lists (λ other ok low high.
    let same : other ≡ m = move_once other m (allowed_has_text g b other p ok) text (omega (arith, number)) in
    refused (subst (Allows g b) same ok))

-- nothing can be taken from this place, so all its moves are passed over
pub lists_empty : (g : GameRules) (b : Board) (n : ℕ) (ms : List Move) (from : Place) → IsPosition b → IsThere from
    → place_number from ≡ n → playable b from ≡ None → ListsBelow g b (n * 13) ms → ListsBelow g b ((n + 1) * 13) ms
lists_empty g b n ms from p there number none lists =
    let last : n * 13 + 13 ≡ (n + 1) * 13 = omega arith in
    subst (λ k. ListsBelow g b k ms) last (lists_past g b (n * 13) 13 ms lists (λ m ok low high.
    let text = allowed_has_text g b m p ok in
    let most = place_most m.to text.to in
    let same : m.from ≡ from =
    place_once m.from from (source_is_there m.from text.from) there (omega (arith, number, low, high, most)) in
    let card = ok.1.playable in
    absurd (cc (sym card ∙ ap (playable b) same ∙ none))))

-- every move has a number below those of twelve sources
pub lists_all : (g : GameRules) (b : Board) (ms : List Move) → IsPosition b → ListsBelow g b (12 * 13) ms → ListsMoves g b ms
lists_all g b ms p lists = record {
  allowed = λ m found. (lists.allowed m found).0;
  complete = λ m ok.
      let text = allowed_has_text g b m p ok in
      let low = source_most m.from text.from in
      let high = place_most m.to text.to in
      lists.complete m ok (omega (arith, low, high));
  rising = lists.rising;
}

-- how many of the first places, by number, a card may go to from a place
abbrev pub joined : Place → ℕ → ℕ
joined (Column i) n = n - cond (ltb i n) 1 0
joined (Cell i) n = min n 8 + (n - 12)
joined Home n = 0

-- one more place to go to is one more of them
pub joined-next : (from to : Place) (n : ℕ) → IsSource from → IsThere to → place_number to ≡ n → Joins from to
    → joined from (n + 1) ≡ joined from n + 1
joined-next (Column i) (Column j) n s t e joins = let apart : i ≡ n → ⊥ = λ q. joins (omega (arith, q, e)) in grind (arith, nat_tests)
joined-next (Column i) (Cell j) n s t e joins = let big : 8 ≤ n = omega (arith, e) in let small : i < 8 = s in grind (arith, nat_tests)
joined-next (Column i) Home n s t e joins = let big : 12 ≡ n = e in let small : i < 8 = s in grind (arith, nat_tests)
joined-next (Cell i) (Column j) n s t e joins = let small : n < 8 = omega (arith, e, t) in omega arith
joined-next (Cell i) (Cell j) n s t e joins = absurd joins
joined-next (Cell i) Home n s t e joins = let big : 12 ≡ n = e in omega arith
joined-next Home to n s t e joins = absurd s

-- passing a place doesn't lower the count, and there are no more than `most_from`
pub joined-le : (from : Place) (n : ℕ) → joined from n ≤ joined from (n + 1)
joined-le (Column i) n = grind (arith, nat_tests)
joined-le (Cell i) n = omega arith
joined-le Home n = omega arith

-- how many moves the sources before this one can have, and this one
abbrev pub most_before : ℕ → ℕ
most_before n = 12 * min n 8 + 9 * (n - 8)

pub most_before-next : (from : Place) (n : ℕ) → IsThere from → place_number from ≡ n → n < 12
    → most_before n + most_from from ≡ most_before (n + 1)
most_before-next (Column i) n t e below = let small : n < 8 = omega (arith, e, t) in omega arith
most_before-next (Cell i) n t e below = let big : 8 ≤ n = omega (arith, e) in omega arith
most_before-next Home n t e below = absurd (omega (arith, e))

-- what a turn over the places to go to keeps: the list so far, and how long it may be
pub record Turn (g : GameRules) (b : Board) (from : Place) (start n : ℕ) (ms : List Move) : Type 0 where
  pub listed : ListsBelow g b (place_number from * 13 + n) ms
  pub count : length ms ≤ start + joined from n

-- a turn that adds the move to the next place
pub turn_adds : (g : GameRules) (b : Board) (from to : Place) (start n : ℕ) (ms new : List Move) → IsPosition b
    → IsSource from → IsThere to → place_number to ≡ n → Turn g b from start n ms
    → Joins from to → Allows g b (record { from = from; to = to }) → new ≡ ms ++ (record { from = from; to = to }) ∷ []
    → Turn g b from start (n + 1) new
turn_adds g b from to start n ms new p source there e turn joins ok items =
    let m : Move = record { from = from; to = to } in
    let next : place_number from * 13 + n + 1 ≡ place_number from * 13 + (n + 1) = omega arith in
    rw items (record {
      listed =
          subst (λ k. ListsBelow g b k (ms ++ m ∷ [])) next
          (lists_next g b (place_number from * 13 + n) ms m p turn.listed ok (omega (arith, e)));
      count = omega (arith, length_push ms m, turn.count, joined-next from to n source there e joins);
    })

-- a turn that passes over a move that isn't allowed
pub turn_passes : (g : GameRules) (b : Board) (from to : Place) (start n : ℕ) (ms : List Move) → IsPosition b
    → IsSource from → IsThere to → place_number to ≡ n → Turn g b from start n ms
    → (Allows g b (record { from = from; to = to }) → ⊥) → Turn g b from start (n + 1) ms
turn_passes g b from to start n ms p source there e turn refused =
    let m : Move = record { from = from; to = to } in
    let next : place_number from * 13 + n + 1 ≡ place_number from * 13 + (n + 1) = omega arith in
    record {
      listed =
          subst (λ k. ListsBelow g b k ms) next
          (lists_skip g b (place_number from * 13 + n) ms m p (record { from = source; to = there }) turn.listed refused (omega (arith, e)));
      count = omega (arith, turn.count, joined-le from n);
    }
