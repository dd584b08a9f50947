use Rattle.std.proofs.Common.{◌≡◌, length, ap, arith, rules}
use Rattle.std.specs.Prelude.{max}
use Rattle.std.proofs.lemmas.List.{take_all}
use Rattle.fc_position.specs.Board.{column}
use Rattle.fc_show.specs.Drawing.{height}
use Rattle.fc_show.proofs.DrawingLemmas.{height_more, height_position}
use Rattle.fc_show.proofs.drawings.height.Goals as goal

pub loop-i-preserved : goal.loop-i-preserved
loop-i-preserved c =
    let more = height_more c.args.position.now.columns c.loop-i.i (omega (arith, c.column.ensures.whole.columns)) in
    let long : length c.column.result.now ≡ length (column c.args.position.now c.loop-i.i) = ap length c.column.ensures.value in
    let best : c.max-most.result ≡ max c.loop-i.most (length c.column.result.now) = search rules in
    record { value = omega arith; whole = λ _. c.column.ensures.whole }

pub returns-clause-most : goal.returns-clause-most
returns-clause-most c =
    let whole = c.loop-i.invariant.whole (omega arith) in
    let all = take_all c.loop-i.i c.args.position.now.columns (omega (arith, whole.columns)) in
    omega (arith, ap height all, height_position c.args.position.now whole)
