-- What the parts of a certificate say, by where they stand.
use Rattle.std.proofs.Common.{◌≡◌, ◌==◌, ℕ, zero, suc, ◌+◌, ◌-◌, ◌*◌, ◌/◌, ◌<◌, ◌≤◌, ◌^◌, true, false, cond, nat_lt, List, [], ◌∷◌, ◌++◌, length, take, drop, get_or, refl, sym, ◌∙◌, ap, subst, append_assoc, arith}
use Rattle.std.specs.Prelude.{All, slice_range}
use Rattle.std.specs.Int.{w32, from_be_bytes}
use Rattle.std.specs.List.{flat_map}
use Rattle.std.proofs.lemmas.Bool.Decides.{nat_tests}
use Rattle.std.proofs.lemmas.List.{length-append, take_at, drop_at}
use Rattle.std.proofs.lemmas.List.Elements.{All-head, All-tail}
use Rattle.std.proofs.lemmas.Nat.{from_be_bytes-to_be_bytes_4}
use Rattle.fc_cards.specs.declared.places.Place.{Place}
use Rattle.fc_cards.specs.declared.places.Place.TheVariants.{Column, Cell, Home}
use Rattle.fc_moves.specs.declared.steps.Move.{Move}
use Rattle.fc_moves.specs.MoveText.{place_letter, move_text, IsThere, HasText}
use Rattle.fc_moves.proofs.StepLemmas.{move_same, source_is_there}
use Rattle.fc_cert.specs.declared.contents.Kind.{Kind}
use Rattle.fc_cert.specs.declared.contents.Kind.TheVariants.{Shortest, CannotWin, Between}
use Rattle.fc_cert.specs.Content.{Content, IsRecord, MayList, four_bytes, record_bytes}
use Rattle.fc_cert.proofs.OnceLemmas.{cost_small}
use Rattle.fc_cert.specs.Layout.{content_of, moves_of, place_of, row_of, rows_ending}
use Rattle.fc_cert.specs.inner.Layout.{AreParts, start_of, ends_from}

-- a place's letter says the place
place_back : (p : Place) → IsThere p → place_of (place_letter p) ≡ p
place_back (Column i) there =
    let home : (49 + i == 104) ≡ false = grind (arith, nat_tests) in
    let low : nat_lt (49 + i) 97 ≡ true = grind (arith, nat_tests) in
    ap (λ t. cond t Home (cond (nat_lt (49 + i) 97) (Column (49 + i - 49)) (Cell (49 + i - 97)))) home
    ∙ ap (λ t. cond t (Column (49 + i - 49)) (Cell (49 + i - 97))) low ∙ ap (λ k. Column k) (omega arith)
place_back (Cell i) there =
    let home : (97 + i == 104) ≡ false = grind (arith, nat_tests) in
    let high : nat_lt (97 + i) 97 ≡ false = grind (arith, nat_tests) in
    ap (λ t. cond t Home (cond (nat_lt (97 + i) 97) (Column (97 + i - 49)) (Cell (97 + i - 97)))) home
    ∙ ap (λ t. cond t (Column (97 + i - 49)) (Cell (97 + i - 97))) high ∙ ap (λ k. Cell k) (omega arith)
place_back Home there = refl

-- the texts of moves say the moves
moves_back : (moves : List Move) → All HasText moves → moves_of (flat_map move_text moves) ≡ moves
moves_back [] all = refl
moves_back (m ∷ moves) all =
    let text = All-head HasText m moves all in
    let first = move_same (record { from = place_of (place_letter m.from); to = place_of (place_letter m.to) }) m
    (place_back m.from (source_is_there m.from text.from)) (place_back m.to text.to) in
    ap (λ n. n ∷ moves_of (flat_map move_text moves)) first ∙ ap (λ l. m ∷ l) (moves_back moves (All-tail HasText m moves all))

-- each of the texts has two bytes
pub texts_long : (moves : List Move) → length (flat_map move_text moves) ≡ length moves * 2
texts_long [] = refl
texts_long (m ∷ moves) = let rest = texts_long moves in omega (arith, rest)

-- the text of the move with this number
pub text_there : (moves : List Move) (i : ℕ) (d : Move) → i < length moves
    → take 2 (drop (i * 2) (flat_map move_text moves)) ≡ move_text (get_or moves i d)
text_there [] i d lt = absurd (omega (arith, lt))
text_there (m ∷ moves) zero d lt = refl
text_there (m ∷ moves) (suc i) d lt =
    let two : suc i * 2 ≡ suc (suc (i * 2)) = omega arith in
    ap (λ k. take 2 (drop k (flat_map move_text (m ∷ moves)))) two ∙ text_there moves i d (omega (arith, lt))

-- a record's bytes say its key and its cost
pub row_back : (row : List ℕ × ℕ) → row.1 < 2 ^ 32 → row_of (record_bytes row) ≡ row
row_back row small =
    ap (λ key. (key, from_be_bytes w32 (take 4 (record_bytes row)))) (drop_at (four_bytes row.1) row.0 4 refl)
    ∙ ap (λ l. (row.0, from_be_bytes w32 l)) (take_at (four_bytes row.1) row.0 4 refl)
    ∙ ap (λ n. (row.0, n)) (from_be_bytes-to_be_bytes_4 row.1 small)

-- what stands between two fronts
slice_here : (front here rest : List ℕ)
    → slice_range (front ++ (here ++ rest)) (length front) (length front + length here) ≡ here
slice_here front here rest =
    let count : length here ≡ length front + length here - length front = omega arith in
    ap (take (length front + length here - length front)) (drop_at front (here ++ rest) (length front) refl)
    ∙ take_at here rest (length front + length here - length front) count

module _ (cells : ℕ) (kind : Kind) where
  -- the bytes of records, behind whatever, say the records
  rows_back : (front : List ℕ) (rows : List (List ℕ × ℕ)) → All (IsRecord cells kind) rows
      → rows_ending (front ++ flat_map record_bytes rows) (length front) (ends_from (length front) rows) ≡ rows
  rows_back front [] all = refl
  rows_back front (row ∷ rows) all =
      let bytes = record_bytes row in
      let rest = flat_map record_bytes rows in
      let whole = front ++ (bytes ++ rest) in
      let next = length front + length bytes in
      let back = rows_back (front ++ bytes) rows (All-tail (IsRecord cells kind) row rows all) in
      let others : rows_ending whole next (ends_from next rows) ≡ rows =
      subst (λ k. rows_ending whole k (ends_from k rows) ≡ rows) (length-append front bytes)
      (subst (λ l. rows_ending l (length (front ++ bytes)) (ends_from (length (front ++ bytes)) rows) ≡ rows)
      (append_assoc front bytes rest) back) in
      let small = cost_small kind row.1 (All-head (IsRecord cells kind) row rows all).cost in
      ap (λ r. row_of r ∷ rows_ending whole next (ends_from next rows)) (slice_here front bytes rest)
      ∙ ap (λ r. r ∷ rows_ending whole next (ends_from next rows)) (row_back row small) ∙ ap (λ l. row ∷ l) others

  -- there are as many places where records end as records
  pub ends_long : (here : ℕ) (rows : List (List ℕ × ℕ)) → length (ends_from here rows) ≡ length rows
  ends_long here [] = refl
  ends_long here (row ∷ rows) = ap suc (ends_long (here + length (record_bytes row)) rows)

-- a record behind the first begins where the one before it ends
start_next : (from n : ℕ) (ends : List ℕ) (i : ℕ) → start_of from (n ∷ ends) (suc i) ≡ start_of n ends i
start_next from n ends zero = refl
start_next from n ends (suc i) = refl

-- the bytes of the record with this number stand between where the one before it ends and where it ends
pub record LiesBetween (bytes : List ℕ) (from to : ℕ) (here : List ℕ) : Type 0 where
  pub before : from ≤ to
  pub within : to ≤ length bytes
  pub bytes_are : slice_range bytes from to ≡ here

record_there : (front : List ℕ) (rows : List (List ℕ × ℕ)) (i : ℕ) (d : List ℕ × ℕ) → i < length rows
    → LiesBetween (front ++ flat_map record_bytes rows) (start_of (length front) (ends_from (length front) rows) i)
    (get_or (ends_from (length front) rows) i 0) (record_bytes (get_or rows i d))
record_there front [] i d lt = absurd (omega (arith, lt))
record_there front (row ∷ rows) zero d lt =
    let bytes = record_bytes row in
    let rest = flat_map record_bytes rows in record {
      before = omega arith;
      within = omega (arith, length-append front (bytes ++ rest), length-append bytes rest);
      bytes_are = slice_here front bytes rest;
    }
record_there front (row ∷ rows) (suc i) d lt =
    let bytes = record_bytes row in
    let rest = flat_map record_bytes rows in
    let next = length front + length bytes in
    let there = record_there (front ++ bytes) rows i d (omega (arith, lt)) in
    let at = subst (λ k. LiesBetween (front ++ (bytes ++ rest)) (start_of k (ends_from k rows) i) (get_or (ends_from k rows) i 0)
    (record_bytes (get_or rows i d))) (length-append front bytes)
    (subst (λ l. LiesBetween l (start_of (length (front ++ bytes)) (ends_from (length (front ++ bytes)) rows) i)
    (get_or (ends_from (length (front ++ bytes)) rows) i 0) (record_bytes (get_or rows i d))) (append_assoc front bytes rest) there) in
    subst (λ k. LiesBetween (front ++ (bytes ++ rest)) k (get_or (ends_from next rows) i 0) (record_bytes (get_or rows i d)))
    (sym (start_next (length front) next (ends_from next rows) i)) at

-- moves of a certificate have texts
listed_texts : (kind : Kind) (moves : List Move) → MayList kind moves → moves_of (flat_map move_text moves) ≡ moves
listed_texts Shortest moves may = moves_back moves may.1
listed_texts Between moves may = moves_back moves may.1
listed_texts CannotWin moves may = subst (λ l. moves_of (flat_map move_text l) ≡ l) (sym may) refl

-- and they are few
list_few : (kind : Kind) (moves : List Move) → MayList kind moves → length moves < 2 ^ 32
list_few Shortest moves may = may.0
list_few Between moves may = may.0
list_few CannotWin moves may = let none = ap length may in omega (arith, none)

listed_has_text : (kind : Kind) (moves : List Move) → MayList kind moves → (i : ℕ) (d : Move) → i < length moves
    → HasText (get_or moves i d)
listed_has_text Shortest moves may i d lt = may.1 i d lt
listed_has_text Between moves may i d lt = may.1 i d lt
listed_has_text CannotWin moves may i d lt = let none = ap length may in absurd (omega (arith, none, lt))

-- the parts of a content are those that say it
pub content_back : (c : Content) (t r e : List ℕ) → AreParts c t r e → content_of c.head t r e ≡ c
content_back c t r e parts =
    let moves : moves_of t ≡ c.moves = ap moves_of parts.texts ∙ listed_texts c.head.kind c.moves parts.content.moves in
    let rows : rows_ending r 0 e ≡ c.rows =
    ap (λ l. rows_ending l 0 e) parts.records ∙ ap (rows_ending (flat_map record_bytes c.rows) 0) parts.ends
    ∙ rows_back c.head.cells c.head.kind [] c.rows parts.content.rows in
    λ i. record { head = c.head; moves = moves i; rows = rows i }

pub parts_back : (c : Content) (t r e : List ℕ) → AreParts c t r e → AreParts (content_of c.head t r e) t r e
parts_back c t r e parts = subst (λ d. AreParts d t r e) (sym (content_back c t r e parts)) parts

module _ (c : Content) (t r e : List ℕ) (parts : AreParts c t r e) where
  -- as many places where records end as records, and two bytes for each move
  pub places_many : length e ≡ length c.rows
  places_many = ap length parts.ends ∙ ends_long c.head.cells c.head.kind 0 c.rows

  pub bytes_many : length t ≡ length c.moves * 2
  bytes_many = ap length parts.texts ∙ texts_long c.moves

  -- few enough to be counted in four bytes
  pub rows_few : length e < 2 ^ 32
  rows_few = omega (arith, places_many, parts.content.count)

  pub moves_few : length t / 2 < 2 ^ 32
  moves_few = omega (arith, bytes_many, list_few c.head.kind c.moves parts.content.moves)

  pub moves_many : length t / 2 ≡ length c.moves
  moves_many = omega (arith, bytes_many)

  -- the text of a move stands at twice its number
  pub text_at : (i : ℕ) (d : Move) → i < length c.moves → take 2 (drop (i * 2) t) ≡ move_text (get_or c.moves i d)
  text_at i d lt = ap (λ l. take 2 (drop (i * 2) l)) parts.texts ∙ text_there c.moves i d lt

  pub has_text : (i : ℕ) (d : Move) → i < length c.moves → HasText (get_or c.moves i d)
  has_text i d lt = listed_has_text c.head.kind c.moves parts.content.moves i d lt

  -- the record with a number stands where its places say, and its cost is small
  pub record_at_places : (i : ℕ) (d : List ℕ × ℕ) → i < length c.rows
      → LiesBetween r (start_of 0 e i) (get_or e i 0) (record_bytes (get_or c.rows i d))
  record_at_places i d lt =
      subst (λ l. LiesBetween r (start_of 0 l i) (get_or l i 0) (record_bytes (get_or c.rows i d))) (sym parts.ends)
      (subst (λ l. LiesBetween l (start_of 0 (ends_from 0 c.rows) i) (get_or (ends_from 0 c.rows) i 0) (record_bytes (get_or c.rows i d)))
      (sym parts.records) (record_there [] c.rows i d lt))

  pub cost_at : (i : ℕ) (d : List ℕ × ℕ) → i < length c.rows → (get_or c.rows i d).1 < 2 ^ 32
  cost_at i d lt = cost_small c.head.kind (get_or c.rows i d).1 (parts.content.rows i d lt).cost
