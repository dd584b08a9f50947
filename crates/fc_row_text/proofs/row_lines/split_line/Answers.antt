use Rattle.std.proofs.Common.{◌-◌, ◌∷◌, length, map, take, drop, sym, ◌∙◌, ap, arith}
use Rattle.std.proofs.lemmas.List.{take_rest, nil_from_length}
use Rattle.fc_text.specs.Line.{is_line_end, lines_of, parts_of, without_return}
use Rattle.fc_text.proofs.PartLemmas.{split_line-is}
use Rattle.fc_row_text.proofs.row_lines.split_line.Goals as goal

pub returns-in-empty : goal.returns-in-empty
returns-in-empty c =
    let text = c.args.text.now in
    let line = c.split_at.result.0.now in
    let rest = c.split_at.result.1.now in
    let none = nil_from_length rest (omega arith) in
    ap (map without_return)
    (split_line-is is_line_end text line rest c.requires.some
    (c.split_at.ensures.front ∙ ap (λ n. take n text) c.line_len.ensures.value)
    (c.split_at.ensures.back ∙ ap (λ n. drop n text) c.line_len.ensures.value)
    ∙ ap (λ r. line ∷ parts_of is_line_end (drop 1 r)) none
    ∙ ap (λ r. line ∷ parts_of is_line_end r) (sym none))
    ∙ ap (λ l. l ∷ lines_of rest) (sym c.without_return.ensures)

pub returns-in-len1-up : goal.returns-in-len1-up
returns-in-len1-up c =
    let text = c.args.text.now in
    let line = c.split_at.result.0.now in
    let rest = c.split_at.result.1.now in
    ap (map without_return)
    (split_line-is is_line_end text line rest c.requires.some
    (c.split_at.ensures.front ∙ ap (λ n. take n text) c.line_len.ensures.value)
    (c.split_at.ensures.back ∙ ap (λ n. drop n text) c.line_len.ensures.value)
    ∙ ap (λ r. line ∷ parts_of is_line_end r) (sym (take_rest rest 1)))
    ∙ ap (λ l. l ∷ lines_of (take (length rest - 1) (drop 1 rest))) (sym c.without_return-in-len1-up.ensures)
