-- The words of a text hold no gaps, and lines that are ended are read one by one.
use Rattle.std.proofs.Common.{◌≡◌, ℕ, zero, suc, ◌-◌, ◌*◌, ◌<◌, ◌==◌, false, cond, Option, Some, None, List, [], ◌∷◌, ◌++◌, length, map, take, drop, get_or, refl, ◌∙◌, ap, append_assoc, arith}
use Rattle.std.specs.Prelude.{filter, slice_index}
use Rattle.std.specs.List.{flat_map}
use Rattle.std.proofs.lemmas.Bool.{cond_both, ltb-false}
use Rattle.std.proofs.lemmas.Bool.Decides.{nat_tests}
use Rattle.fc_cards.specs.Texts.{with_line_end}
use Rattle.fc_position.specs.Board.{front_of}
use Rattle.fc_text.specs.Line.{begin_part, is_line_end, is_token, lines_of, parts_of, without_return}
use Rattle.fc_text.proofs.PrintedPieces.{AllAbove, ArePrinted}
use Rattle.fc_row_text.specs.RowText.{RowLine, entry_at, entry_of, word_at, words_of}
use Rattle.fc_row_text.specs.declared.spans.Span.{Span}
use Rattle.fc_row_text.specs.Places.{is_row_gap}

-- each byte of each part is above the space
abbrev pub AreAbove : List (List ℕ) → Type 0
AreAbove [] = Unit {0}
AreAbove (part ∷ parts) = AllAbove 32 part × AreAbove parts

begun-above : (b : ℕ) (parts : List (List ℕ)) → 32 < b → AreAbove parts → AreAbove (begin_part b parts)
begun-above b [] above all = ((above, tt), tt)
begun-above b (part ∷ parts) above all = ((above, all.0), all.1)

parts-above : (text : List ℕ) → AreAbove (parts_of is_row_gap text)
parts-above [] = tt
parts-above (b ∷ text) =
    cond_both (is_row_gap b) ([] ∷ parts_of is_row_gap text) (begin_part b (parts_of is_row_gap text)) AreAbove
    (λ _. (tt, parts-above text))
    (λ other. begun-above b (parts_of is_row_gap text) (omega (arith, ltb-false b 33 other)) (parts-above text))

kept-printed : (parts : List (List ℕ)) → AreAbove parts → ArePrinted (filter is_token parts)
kept-printed [] all = tt
kept-printed ([] ∷ parts) all = kept-printed parts all.1
kept-printed ((b ∷ part) ∷ parts) all = (all.0, kept-printed parts all.1)

-- what stands at a place of words
word-above : (words : List (List ℕ)) (k : ℕ) → ArePrinted words → AllAbove 32 (get_or words k [])
word-above [] k p = tt
word-above ([] ∷ words) zero p = tt
word-above ((b ∷ word) ∷ words) zero p = p.0
word-above (word ∷ words) (suc k) p = word-above words k p.1

-- a word holds no gap, nor does an entry
pub word_at-above : (k : ℕ) (text : List ℕ) → AllAbove 32 (word_at k text)
word_at-above k text = word-above (words_of text) k (kept-printed (parts_of is_row_gap text) (parts-above text))

entry-above : (o : Option Span) (line : List ℕ) → AllAbove 32 (entry_of o line)
entry-above None line = tt
entry-above (Some word) line = word_at-above (word.number - 1) line

pub entry_at-above : (k : ℕ) (told : RowLine) → AllAbove 32 (entry_at k told)
entry_at-above k told = entry-above (get_or told.reading.entries k None) told.line

-- so the first bytes of a word
pub take-above : (m n : ℕ) (bytes : List ℕ) → AllAbove m bytes → AllAbove m (take n bytes)
take-above m zero bytes p = tt
take-above m (suc n) [] p = tt
take-above m (suc n) (b ∷ bytes) p = (p.0, take-above m n bytes p.1)

pub above-lower : (bytes : List ℕ) → AllAbove 32 bytes → AllAbove 31 bytes
above-lower [] p = tt
above-lower (b ∷ bytes) p = let here = p.0 in (omega arith, above-lower bytes p.1)

-- a line holds no LF
abbrev pub NoEnd : List ℕ → Type 0
NoEnd [] = Unit {0}
NoEnd (b ∷ bytes) = (is_line_end b ≡ false) × NoEnd bytes

abbrev pub NoEnds : List (List ℕ) → Type 0
NoEnds [] = Unit {0}
NoEnds (line ∷ lines) = NoEnd line × NoEnds lines

pub no_end-above : (bytes : List ℕ) → AllAbove 31 bytes → NoEnd bytes
no_end-above [] p = tt
no_end-above (b ∷ bytes) p = let above = p.0 in (grind (arith, nat_tests), no_end-above bytes p.1)

no_end-take : (n : ℕ) (bytes : List ℕ) → NoEnd bytes → NoEnd (take n bytes)
no_end-take zero bytes p = tt
no_end-take (suc n) [] p = tt
no_end-take (suc n) (b ∷ bytes) p = (p.0, no_end-take n bytes p.1)

no_ends-begun : (b : ℕ) (parts : List (List ℕ)) → is_line_end b ≡ false → NoEnds parts → NoEnds (begin_part b parts)
no_ends-begun b [] other none = ((other, tt), tt)
no_ends-begun b (part ∷ parts) other none = ((other, none.0), none.1)

no_ends-parts : (text : List ℕ) → NoEnds (parts_of is_line_end text)
no_ends-parts [] = tt
no_ends-parts (b ∷ text) =
    cond_both (is_line_end b) ([] ∷ parts_of is_line_end text) (begin_part b (parts_of is_line_end text)) NoEnds
    (λ _. (tt, no_ends-parts text)) (λ other. no_ends-begun b (parts_of is_line_end text) other (no_ends-parts text))

no_ends-returns : (lines : List (List ℕ)) → NoEnds lines → NoEnds (map without_return lines)
no_ends-returns [] none = tt
no_ends-returns (line ∷ lines) none = (
  cond_both _ (front_of line) line NoEnd (λ _. no_end-take (length line - 1) line none.0) (λ _. none.0),
  no_ends-returns lines none.1,
)

-- nor do the lines of a text
pub no_ends-lines : (text : List ℕ) → NoEnds (lines_of text)
no_ends-lines text = no_ends-returns (parts_of is_line_end text) (no_ends-parts text)

part-ended : (line rest : List ℕ) → NoEnd line → parts_of is_line_end (line ++ 10 ∷ rest) ≡ line ∷ parts_of is_line_end rest
part-ended [] rest none = refl
part-ended (b ∷ line) rest none =
    ap (λ t. cond t ([] ∷ parts_of is_line_end (line ++ 10 ∷ rest)) (begin_part b (parts_of is_line_end (line ++ 10 ∷ rest)))) none.0
    ∙ ap (begin_part b) (part-ended line rest none.1)

-- lines that are ended are the lines of their text
pub lines-ended : (lines : List (List ℕ)) → NoEnds lines → parts_of is_line_end (flat_map with_line_end lines) ≡ lines
lines-ended [] none = refl
lines-ended (line ∷ lines) none =
    ap (parts_of is_line_end) (append_assoc line (10 ∷ []) (flat_map with_line_end lines))
    ∙ part-ended line (flat_map with_line_end lines) none.0 ∙ ap (λ ls. line ∷ ls) (lines-ended lines none.1)

-- a line without control bytes doesn't end with a CR
no_return : (line : List ℕ) (i : ℕ) → AllAbove 31 line → (slice_index line i == 13) ≡ false
no_return [] i p = refl
no_return (b ∷ bytes) zero p = let above = p.0 in grind (arith, nat_tests)
no_return (b ∷ bytes) (suc i) p = no_return bytes i p.1

pub without_return-same : (line : List ℕ) → AllAbove 31 line → without_return line ≡ line
without_return-same line p = rw (no_return line (length line - 1) p) refl
