-- A text that spells a position keeps its meaning.
use Rattle.std.proofs.Common.{◌≡◌, ℕ, List, ◌∷◌, refl, sym, ◌∙◌, ap, subst, arith}
use Rattle.std.specs.Prelude.{All}
use Rattle.std.specs.List.{join_with_byte, slice_split}
use Rattle.std.proofs.lemmas.List.Elements.{All-head}
use Rattle.std.proofs.lemmas.List.Splits.{join_with_byte-slice_split}
use Rattle.fc_position.specs.Board.{Board}
use Rattle.fc_text.specs.Board.{Spells}
use Rattle.fc_text.specs.Line.{is_line_end}
use Rattle.fc_typed.specs.Tidy.{after_mark, tidy_lines, without_signs}
use Rattle.fc_typed.specs.Comment.{without_comments}
use Rattle.fc_typed.specs.Respelled.{respelled_text}
use Rattle.fc_typed.specs.Unit.{in_bytes}
use Rattle.fc_typed.specs.Laws.{MeaningsStay, SpelledTextsStay}
use Rattle.fc_typed.specs.Title.{without_title}
use Rattle.fc_typed.proofs.ReadLemmas.{IsLow, end_low, low_below, parts_all, spelled_shown}
use Rattle.fc_typed.proofs.SaidLemmas.{low_part}
use Rattle.fc_typed.proofs.UnitLemmas.{high_stays, in_bytes_stays}
use Rattle.fc_typed.proofs.MeaningLemmas.{pieces_keep, text_keeps, text_says, text_stays}
use Rattle.fc_typed.proofs.TitleLemmas.{Untitled, untitled_part, untitled_stay}

-- it has no title
text_untitled : (cells : ℕ) (text : List ℕ) (b : Board) → Spells cells (tidy_lines text) b → without_title text ≡ text
text_untitled cells text b spells =
    let pieces = slice_split is_line_end text in
    ap (join_with_byte 10) (untitled_stay pieces (pieces_keep Untitled untitled_part cells text b spells refl))
    ∙ join_with_byte-slice_split 10 text

-- it is ASCII alone, so it was in bytes
text_low : (cells : ℕ) (text : List ℕ) (b : Board) → Spells cells (tidy_lines text) b → All IsLow text
text_low cells text b spells = parts_all IsLow is_line_end end_low text (text_keeps (All IsLow) low_part cells text b spells)

text_in_bytes : (cells : ℕ) (text : List ℕ) (b : Board) → Spells cells (tidy_lines (without_signs 0 (after_mark text))) b
    → in_bytes text ≡ text
text_in_bytes cells text b spells =
    let low = text_low cells (without_signs 0 (after_mark text)) b spells in
    in_bytes_stays text (λ a bytes e high.
    let rest = without_signs 0 bytes in
    let first : without_signs 0 (after_mark text) ≡ a ∷ rest =
    ap (λ t. without_signs 0 (after_mark t)) e ∙ high_stays a bytes high in
    let here = low_below a (All-head IsLow a rest (subst (All IsLow) first low)) in
    omega (arith, here, high))

-- so no text changes its meaning
pub meanings_stay : MeaningsStay
meanings_stay cells text b spells =
    let shown = without_signs 0 (after_mark text) in
    ap (λ t. tidy_lines (respelled_text (without_title (without_comments (without_signs 0 (after_mark t)))))) (text_in_bytes cells text b spells)
    ∙ ap (λ t. tidy_lines (respelled_text (without_title t))) (text_says cells shown b spells)
    ∙ ap (λ t. tidy_lines (respelled_text t)) (text_untitled cells shown b spells) ∙ ap tidy_lines (text_stays cells shown b spells)

-- a text that spells a position is tidy already
pub spelled_stays : SpelledTextsStay
spelled_stays cells text b spells =
    let shown = spelled_shown cells text b spells in
    meanings_stay cells text b (subst (λ t. Spells cells t b) (sym shown) spells) ∙ shown
