use Rattle.std.proofs.Common.{ℕ, [], ◌∷◌, ◌++◌, ◌∙◌, ap, subst, arith}
use Rattle.std.specs.Prelude.{codes}
use Rattle.std.proofs.lemmas.Result.{IfErr-weaker, on_ok_weaker}
use Rattle.fc_row_text.specs.RowText.{cells_head, word_at}
use Rattle.fc_row_text.specs.inner.RowLine.{IsFull}
use Rattle.fc_row_text.proofs.PushLemmas.{full_front, full_next, handed_on, pushed_next, range_all, range_full, range_pushed, range_start}
use Rattle.fc_row_text.proofs.heads.push_cells.Goals as goal

pub loop-i-init : goal.loop-i-init
loop-i-init c =
    range_start (λ i. 32 ∷ word_at i c.args.line.now) c.args.bytes.now.items _ (codes "Freecells:") c.args.cells c.in_ok-push.ensures.pushed

pub returns-in_err-push_word-clause-full : goal.returns-in_err-push_word-clause-full
returns-in_err-push_word-clause-full c =
    let f = λ (i : ℕ). 32 ∷ word_at i c.args.line.now in
    let old = c.args.bytes.now.items in
    let mid = c.loop-i.bytes.items in
    let text = cells_head c.args.cells c.args.line.now in
    let fault = c.in_err-push_word.field-0.0 in
    let here = subst (λ t. IsFull mid (32 ∷ t) fault) c.word_at.ensures c.in_err-push_word.ensures.full in
    handed_on (IsFull old (text ++ 10 ∷ [])) c.from_residual-in_err-push_word.result fault c.from_residual-in_err-push_word.ensures.1
    (full_front old text (10 ∷ []) fault (range_full f old text mid c.loop-i.i c.args.cells fault c.loop-i-test.true c.loop-i.invariant here))

pub loop-i-preserved : goal.loop-i-preserved
loop-i-preserved c =
    let f = λ (i : ℕ). 32 ∷ word_at i c.args.line.now in
    range_pushed f _ c.loop-i.bytes.items _ c.loop-i.i c.args.cells c.loop-i-test.true c.loop-i.invariant
    (c.in_ok-push_word.ensures.pushed ∙ ap (λ t. c.loop-i.bytes.items ++ 32 ∷ t) c.word_at.ensures)

pub returns-clause-pushed : goal.returns-clause-pushed
returns-clause-pushed c =
    let f = λ (i : ℕ). 32 ∷ word_at i c.args.line.now in
    let all = range_all f _ c.loop-i.bytes.items c.loop-i.i c.args.cells (omega arith) c.loop-i.invariant in
    on_ok_weaker c.push-2.result (λ last. pushed_next c.args.bytes.now.items _ _ (cells_head c.args.cells c.args.line.now) (10 ∷ []) all last)
    c.push-2.ensures.pushed

pub returns-clause-full : goal.returns-clause-full
returns-clause-full c =
    let f = λ (i : ℕ). 32 ∷ word_at i c.args.line.now in
    let text = cells_head c.args.cells c.args.line.now in
    let all = range_all f _ c.loop-i.bytes.items c.loop-i.i c.args.cells (omega arith) c.loop-i.invariant in
    IfErr-weaker c.push-2.result (IsFull c.loop-i.bytes.items (10 ∷ [])) (IsFull c.args.bytes.now.items (text ++ 10 ∷ []))
    (λ fault last. full_next c.args.bytes.now.items _ text (10 ∷ []) fault all last) c.push-2.ensures.full
