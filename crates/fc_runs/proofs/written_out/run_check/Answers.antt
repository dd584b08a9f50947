use Rattle.std.proofs.Common.{rules}
use Rattle.fc_board_runs.specs.Devices.{Device, GivesBoard, change}
use Rattle.fc_runs.proofs.RefusalLemmas.{checked_given, refused_given}
use Rattle.fc_runs.proofs.written_out.run_check.Goals as goal

pub returns-clause-checked : goal.returns-clause-checked
returns-clause-checked g c =
    let board : Device = change g.B.Source.told g.B.Source.has_failed c.args.board.now c.read_position.new.board in
    let given : GivesBoard (g.G.Game.game c.args.game.now).cells board c.in_ok-start.start = search rules in
    checked_given (g.G.Game.game c.args.game.now) c.in_ok-start.start board _ _ given _ c.run_check_of.ensures.checked

pub returns-clause-fault : goal.returns-clause-fault
returns-clause-fault g c =
    let board : Device = change g.B.Source.told g.B.Source.has_failed c.args.board.now c.read_position.new.board in
    let given : GivesBoard (g.G.Game.game c.args.game.now).cells board c.in_ok-start.start = search rules in
    refused_given (g.G.Game.game c.args.game.now) c.in_ok-start.start board _ _ given _ c.run_check_of.ensures.fault
