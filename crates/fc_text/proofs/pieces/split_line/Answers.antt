use Rattle.std.proofs.Common.{◌∷◌, take, drop, sym, ◌∙◌, ap, arith}
use Rattle.std.proofs.lemmas.List.{take_rest, nil_from_length}
use Rattle.fc_text.specs.Line.{parts_of, is_line_end}
use Rattle.fc_text.proofs.PartLemmas.{split_line-is}
use Rattle.fc_text.proofs.pieces.split_line.Goals as goal

pub returns-in-empty : goal.returns-in-empty
returns-in-empty c =
    let text = c.args.text.now in
    let line = c.split_at.result.0.now in
    let rest = c.split_at.result.1.now in
    let none = nil_from_length rest (omega arith) in
    split_line-is is_line_end text line rest c.requires.some
    (c.split_at.ensures.front ∙ ap (λ n. take n text) c.line_len.ensures.value)
    (c.split_at.ensures.back ∙ ap (λ n. drop n text) c.line_len.ensures.value)
    ∙ ap (λ r. line ∷ parts_of is_line_end (drop 1 r)) none
    ∙ ap (λ r. line ∷ parts_of is_line_end r) (sym none)

pub returns-in-len1-up : goal.returns-in-len1-up
returns-in-len1-up c =
    let text = c.args.text.now in
    let line = c.split_at.result.0.now in
    let rest = c.split_at.result.1.now in
    split_line-is is_line_end text line rest c.requires.some
    (c.split_at.ensures.front ∙ ap (λ n. take n text) c.line_len.ensures.value)
    (c.split_at.ensures.back ∙ ap (λ n. drop n text) c.line_len.ensures.value)
    ∙ ap (λ r. line ∷ parts_of is_line_end r) (sym (take_rest rest 1))
