use Rattle.std.proofs.Common.{ℕ, List, ◌+◌, Some, [], length, map, get_or, drop, sym, ◌∙◌, ap}
use Rattle.std.proofs.lemmas.List.{take_rest}
use denote.Bor.{Bor}
use Rattle.fc_text.specs.Line.{after_name}
use Rattle.fc_text.proofs.PieceLemmas.{after_name-fits, after_name-other, name_here}
use Rattle.fc_typed.proofs.names.after_name.Goals as goal

pub returns-then-begins_with-clause-value : goal.returns-then-begins_with-clause-value
returns-then-begins_with-clause-value c =
    let d : Bor (List ℕ) = record { ref_ptr = (0, 0); now = [] } in
    let name = (get_or c.args.names.now c.loop-name.name-index d).now in
    let others = drop (c.loop-name.name-index + 1) (map (λ n. n.now) c.args.names.now) in
    ap (λ x. Some x) (take_rest c.args.piece.now (length name))
    ∙ sym (after_name-fits name others c.args.piece.now (sym c.begins_with.ensures ∙ c.if-begins_with.true))
    ∙ sym (name_here (λ names. after_name names c.args.piece.now) c.args.names.now c.loop-name.name-index d c.loop-name-test.true)
    ∙ c.loop-name.invariant

pub loop-name-preserved : goal.loop-name-preserved
loop-name-preserved c =
    let d : Bor (List ℕ) = record { ref_ptr = (0, 0); now = [] } in
    let name = (get_or c.args.names.now c.loop-name.name-index d).now in
    let others = drop (c.loop-name.name-index + 1) (map (λ n. n.now) c.args.names.now) in
    sym (after_name-other name others c.args.piece.now (sym c.begins_with.ensures ∙ c.if-begins_with.false))
    ∙ sym (name_here (λ names. after_name names c.args.piece.now) c.args.names.now c.loop-name.name-index d c.loop-name-test.true)
    ∙ c.loop-name.invariant
