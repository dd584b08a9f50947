-- The lines of a printed board have room in 400 bytes.
use Rattle.std.proofs.Common.{◌≡◌, ℕ, ◌+◌, ◌*◌, ◌≤◌, ◌<◌, Option, Some, None, List, [], ◌∷◌, ◌++◌, length, take, get_or, map, ◌∙◌, ap, append_assoc, arith}
use Rattle.std.specs.Prelude.{sum_by}
use Rattle.std.specs.List.{flat_map}
use Rattle.std.proofs.lemmas.List.{append-nil, map-append, take_more, length-append, length-take, length-take-le}
use Rattle.std.proofs.lemmas.List.Concat.{flat_map-append}
use Rattle.std.proofs.lemmas.List.Sums.{sum_by-cons, sum_by_more_le}
use Rattle.fc_cards.specs.Texts.{card_text, with_line_end}
use Rattle.fc_position.specs.Board.{Board, column}
use Rattle.fc_position.specs.Position.{IsPosition}
use Rattle.fc_position.proofs.BoardLemmas.{cards_most}
use Rattle.fc_text.specs.Printed.{cell_text, entries_text, foundations_text, cells_text, column_text, board_text}

-- what is appended twice
pub appended : (o t u a b : List ℕ) → t ≡ o ++ a → u ≡ t ++ b → u ≡ o ++ (a ++ b)
appended o t u a b p q = q ∙ ap (λ x. x ++ b) p ∙ append_assoc o a b

-- cells take three bytes each at most, cards three
pub length-cells : (held : List (Option ℕ)) → length (entries_text (map cell_text held)) ≤ 3 * length held
length-cells [] = omega arith
length-cells (None ∷ rest) = let more = length-cells rest in omega arith
length-cells (Some c ∷ rest) = let more = length-cells rest in omega arith

pub length-cards : (cards : List ℕ) → length (entries_text (map card_text cards)) ≡ 3 * length cards
length-cards [] = omega arith
length-cards (c ∷ rest) = let more = length-cards rest in omega arith

length-ended : (line : List ℕ) → length (with_line_end line) ≡ length line + 1
length-ended line = length-append line (10 ∷ [])

-- the lines of columns take three bytes a card, and two more each
length-columns : (columns : List (List ℕ))
    → length (flat_map with_line_end (map column_text columns)) ≡ 3 * sum_by (λ v. length v) columns + 2 * length columns
length-columns [] = omega arith
length-columns (x ∷ xs) =
    let rest = length-columns xs in
    let all = sum_by-cons (λ (v : List ℕ). length v) x xs in
    let cards = length-cards x in
    let one = length-ended (column_text x) in
    let two = length-append (with_line_end (column_text x)) (flat_map with_line_end (map column_text xs)) in
    omega arith

-- the first lines of a printed board, with so many columns
abbrev pub lines_text : ℕ → Board → List (List ℕ) → List ℕ
lines_text n b columns = flat_map with_line_end (foundations_text b ∷ cells_text n b ∷ map column_text columns)

pub length-lines_text : (n : ℕ) (b : Board) (columns : List (List ℕ)) → n ≤ 4
    → length (lines_text n b columns) ≤ 52 + 3 * sum_by (λ v. length v) columns + 2 * length columns
length-lines_text n b columns few =
    let held = length-cells (take n b.cells) in
    let most = length-take n b.cells in
    let rest = length-columns columns in
    let one = length-ended (cells_text n b) in
    let two = length-append (with_line_end (cells_text n b)) (flat_map with_line_end (map column_text columns)) in
    omega arith

-- the text is short
pub length-board_text : (n : ℕ) (b : Board) → IsPosition b → n ≤ 4 → length (board_text n b) ≤ 224
length-board_text n b p few =
    let most = cards_most b p in
    let all = length-lines_text n b b.columns few in
    omega (arith, p.columns)

-- after the lines of some columns there is room for the next
pub room_for_column : (n : ℕ) (b : Board) (i : ℕ) → IsPosition b → n ≤ 4 → i < length b.columns
    → length (lines_text n b (take i b.columns)) + 3 * length (column b i) + 2 ≤ 400
room_for_column n b i p few below =
    let lines = length-lines_text n b (take i b.columns) few in
    let most = cards_most b p in
    let both = sum_by_more_le (λ (v : List ℕ). length v) b.columns i [] below in
    let some_of = length-take-le i b.columns (omega arith) in
    omega (arith, p.columns)

-- the line of one more column
pub lines_text-more : (n : ℕ) (b : Board) (columns : List (List ℕ)) (i : ℕ) → i < length columns
    → lines_text n b (take (i + 1) columns) ≡ lines_text n b (take i columns) ++ with_line_end (column_text (get_or columns i []))
lines_text-more n b columns i below =
    let x = get_or columns i [] in
    let front = foundations_text b ∷ cells_text n b ∷ map column_text (take i columns) in
    ap (lines_text n b) (take_more columns i [] below)
    ∙ ap (λ ls. flat_map with_line_end (foundations_text b ∷ cells_text n b ∷ ls)) (map-append column_text (take i columns) (x ∷ []))
    ∙ flat_map-append with_line_end front (column_text x ∷ [])
    ∙ ap (λ t. flat_map with_line_end front ++ t) (append-nil (with_line_end (column_text x)))
