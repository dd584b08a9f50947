use Rattle.std.proofs.Common.{rules, refl, subst, sym}
use Rattle.fc_board_runs.specs.Devices.{Device, GivesWhole, change}
use Rattle.fc_runs.specs.Checking.{IsRefusalOf}
use Rattle.fc_runs.proofs.RefusalLemmas.{refused}
use Rattle.fc_runs.proofs.checking.run_check_of.Goals as goal

pub returns-in-Err-check-clause-fault : goal.returns-in-Err-check-clause-fault
returns-in-Err-check-clause-fault g c =
    let cert : Device = change g.C.Source.told g.C.Source.has_failed c.args.cert.now c.read_to_vec.new.source in
    let sink : Device = change g.K.Sink.held g.K.Sink.has_failed c.args.out.now c.args.out.now in
    let given : GivesWhole cert c.as_slice.result.now = search rules in
    subst (IsRefusalOf (g.G.Game.game c.args.game.now) c.args.start.now cert sink) (sym c.check_fault.ensures.value)
    (refused (g.G.Game.game c.args.game.now) c.args.start.now cert sink c.as_slice.result.now c.in-Err-check.fault given refl
    c.in-Err-check.ensures.fault)
