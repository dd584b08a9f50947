use Rattle.std.proofs.Common.{◌≡◌}
use Rattle.fc_position.specs.Board.{Board, places}
use Rattle.fc_position.specs.Tally.{IsFaultOf}
use Rattle.fc_text.specs.Spelling.{SpellsBoard}
use Rattle.fc_position.specs.Board.{board_of}
use Rattle.fc_text.proofs.FinishLemmas.{map_err, map_ok, parts_fault, spelled_fault, spelled_position}
use Rattle.fc_text.proofs.drafts.Draft.finish.Goals as goal

-- src/drafts.rt:144:13
pub returns-in-Some-clause-fault : goal.returns-in-Some-clause-fault
returns-in-Some-clause-fault c lines old =
    spelled_fault lines c.args.self c.add_homes.new.self c.in-Some.fault old c.add_homes.ensures.added c.in-Some.ensures.fault

-- src/drafts.rt:135:5
pub returns-clause-spelled : goal.returns-clause-spelled
returns-clause-spelled c lines old =
    map_ok (λ p. p ≡ board_of c.args.self.columns c.args.self.cells c.args.self.homes) (SpellsBoard lines) c.from_parts.result
    c.from_parts.ensures.position
    (λ p same. spelled_position lines c.args.self c.add_homes.new.self p old c.add_homes.ensures.added c.in_default.ensures.none same)

-- src/drafts.rt:135:5
pub returns-clause-fault : goal.returns-clause-fault
returns-clause-fault c lines old =
    map_err (IsFaultOf (places (board_of c.args.self.columns c.args.self.cells c.args.self.homes)))
    (λ fault. (b : Board) × SpellsBoard lines b × IsFaultOf (places b) fault) c.from_parts.result c.from_parts.ensures.fault
    (λ fault here. parts_fault lines c.args.self c.add_homes.new.self fault old c.add_homes.ensures.added c.in_default.ensures.none here)
