-- The height of a position's columns, and the steps of the loops that draw them.
use Rattle.std.proofs.Common.{◌≡◌, ℕ, ◌+◌, ◌-◌, ◌≤◌, ◌<◌, List, [], ◌∷◌, ◌++◌, length, take, get_or, suc, ◌∙◌, ap, sym, append_assoc, arith}
use Rattle.std.specs.Prelude.{max, slice_get, sum_by}
use Rattle.std.proofs.lemmas.List.{flat_map_more, take_more}
use Rattle.std.proofs.lemmas.List.Sums.{sum_by-cons}
use Rattle.fc_cards.specs.Texts.{with_line_end}
use Rattle.fc_position.specs.Board.{Board}
use Rattle.fc_position.specs.Position.{IsPosition}
use Rattle.fc_position.proofs.BoardLemmas.{cards_most}
use Rattle.fc_show.specs.declared.styles.Style.{Style}
use Rattle.fc_show.specs.Drawing.{height, place_entry, row, rows}

-- the height with one more column behind the others
height-push : (xs : List (List ℕ)) (x : List ℕ) → height (xs ++ x ∷ []) ≡ max (height xs) (length x)
height-push [] x = omega arith
height-push (y ∷ ys) x = let more = height-push ys x in omega arith

-- no column has more cards than all of them have
height-most : (columns : List (List ℕ)) → height columns ≤ sum_by (λ v. length v) columns
height-most [] = omega arith
height-most (x ∷ xs) =
    let more = height-most xs in
    let all = sum_by-cons (λ (v : List ℕ). length v) x xs in
    omega arith

-- the height of the first columns with one more
pub height_more : (columns : List (List ℕ)) (i : ℕ) → i < length columns
    → height (take (i + 1) columns) ≡ max (height (take i columns)) (length (get_or columns i []))
height_more columns i below =
    ap height (take_more columns i [] below) ∙ height-push (take i columns) (get_or columns i [])

-- a column of a position has at most 52 cards
pub height_position : (b : Board) → IsPosition b → height b.columns ≤ 52
height_position b p = omega (arith, height-most b.columns, cards_most b p)

-- the cards of one more column of a row
pub row_more : (o t u : List ℕ) (style : Style) (columns : List (List ℕ)) (i k : ℕ) → k < length columns
    → t ≡ o ++ row style (take k columns) i
    → u ≡ t ++ place_entry style (slice_get (get_or columns k []) i)
    → u ≡ o ++ row style (take (k + 1) columns) i
row_more o t u style columns i k below before after =
    let f = λ (cards : List ℕ). place_entry style (slice_get cards i) in
    let x = get_or columns k [] in
    let all = ap (λ cs. o ++ row style cs i) (take_more columns k [] below) in
    let more = flat_map_more f [] (take k columns) x in
    let joined = append_assoc o (row style (take k columns) i) (f x) in
    after ∙ ap (λ s. s ++ f x) before ∙ joined ∙ ap (λ s. o ++ s) more ∙ sym all

-- after one more row what is left are the rows after it
pub rows_more : (t u whole : List ℕ) (style : Style) (columns : List (List ℕ)) (i most : ℕ) → i < most
    → t ++ rows style columns i (most - i) ≡ whole
    → u ≡ t ++ with_line_end (row style columns i)
    → u ++ rows style columns (i + 1) (most - (i + 1)) ≡ whole
rows_more t u whole style columns i most below before after =
    let next : most - i ≡ suc (most - (i + 1)) = omega arith in
    let rest = rows style columns (i + 1) (most - (i + 1)) in
    let joined = append_assoc t (with_line_end (row style columns i)) rest in
    let split = ap (λ n. t ++ rows style columns i n) next in
    ap (λ s. s ++ rest) after ∙ joined ∙ sym split ∙ before
