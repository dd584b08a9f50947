use Rattle.fc_review.proofs.SpanLemmas.{span_on_lost, span_on_open, span_on_won, tells_left}
use Rattle.fc_review.proofs.spans.Span.with.Goals as goal

pub returns-in-CannotWin-clause-span : goal.returns-in-CannotWin-clause-span
returns-in-CannotWin-clause-span c = λ asked count span lies. span_on_lost asked count c.args.self.won c.args.self.between c.args.self.lost c.args.known _
    c.in-CannotWin.is c.open_before.ensures.kept span lies

pub returns-in-GaveUp-clause-span : goal.returns-in-GaveUp-clause-span
returns-in-GaveUp-clause-span c = λ asked count span lies. span_on_open asked count c.args.self.won c.args.self.between c.args.self.lost c.args.known
    c.in-GaveUp.field-0 _ c.in-GaveUp.is c.open_with.ensures.joined span lies

pub returns-in_default-clause-span : goal.returns-in_default-clause-span
returns-in_default-clause-span c = λ asked count span lies. span_on_won asked count c.args.self.won c.args.self.between c.args.self.lost c.args.known _
    (tells_left c.args.known.verdict c.in_default.not-CannotWin c.in_default.not-GaveUp) c.open_behind.ensures.kept span lies
