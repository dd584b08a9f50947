use Rattle.std.proofs.Common.{arith}
use Rattle.fc_review.proofs.ReviewLemmas.{unsettled_between, unsettled_none, unsettled_won}
use Rattle.fc_review.proofs.reviews.Review.losing_move.Goals as goal

pub returns-in_default-clause-known : goal.returns-in_default-clause-known
returns-in_default-clause-known c = λ q b moves is. unsettled_between q b moves c.args.self.now c.in-Some-Some.won c.in-Some-Some.lost c.in-Some-Some.is-0 c.in-Some-Some.is-1
    (λ e. c.if-lost-won-eq1.false (omega (arith, e))) is

pub returns-in_default-2-clause-known : goal.returns-in_default-2-clause-known
returns-in_default-2-clause-known c = λ q b moves is. unsettled_between q b moves c.args.self.now c.in-Some-Some.won c.in-Some-Some.lost c.in-Some-Some.is-0 c.in-Some-Some.is-1
    (λ e. let below = c.if-won-lost.false in omega (arith, e, below)) is

pub returns-in_default-3-clause-known : goal.returns-in_default-3-clause-known
returns-in_default-3-clause-known c = λ q b moves is. unsettled_won q b moves c.args.self.now c.in_default.field-0-0 c.in_default.is-0 c.in_default.is-1 is

pub returns-in_default-4-clause-known : goal.returns-in_default-4-clause-known
returns-in_default-4-clause-known c = λ q b moves is. unsettled_none q b moves c.args.self.now c.in_default.is-0 is
