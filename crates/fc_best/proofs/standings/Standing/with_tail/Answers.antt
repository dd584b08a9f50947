use Rattle.std.proofs.Common.{subst}
use Rattle.std.specs.Prelude.{None}
use Rattle.fc_best.specs.inner.Watch.{IsAfter}
use Rattle.fc_best.proofs.TailLemmas.{tail_rises, tail_stands}
use Rattle.fc_best.proofs.standings.Standing.with_tail.Goals as goal

pub returns-clause-stands : goal.returns-clause-stands
returns-clause-stands c q b stands is =
    let tail = c.args.tail in
    let far = c.progress_after-far.result in
    let after = subst (λ n. IsAfter tail.far None n far) c.limit_of.ensures.value c.progress_after-far.ensures.after in
    tail_stands q b c.args.self tail c.shorter-list.result far stands is c.requires.room c.shorter-list.ensures.shorter after

pub returns-clause-rises : goal.returns-clause-rises
returns-clause-rises c q b stands is =
    let tail = c.args.tail in
    let far = c.progress_after-far.result in
    let after = subst (λ n. IsAfter tail.far None n far) c.limit_of.ensures.value c.progress_after-far.ensures.after in
    tail_rises q b c.args.self tail c.shorter-list.result far stands is c.shorter-list.ensures.shorter after
