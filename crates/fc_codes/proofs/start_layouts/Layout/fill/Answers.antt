use Rattle.std.proofs.Common.{subst}
use Rattle.fc_position.specs.Position.{IsPosition}
use Rattle.fc_codes.proofs.LawLemmas.{is_spelled}
use Rattle.fc_codes.proofs.StackLemmas.{all_done}
use Rattle.fc_codes.proofs.start_layouts.Layout.fill.Goals as goal

pub returns : goal.returns
returns c =
    let (b, p, k) = c.requires.code in
    let s = c.args.self.now in
    let code = c.args.code.now in
    let first = c.fill_first-count in
    record {
      value = all_done s code first.result first.new.columns c.clear_from.new.columns first.ensures.count c.clear_from.ensures.eight
          (is_spelled s b code (subst IsPosition c.self.view_is c.self.invariant.whole) p k).position.columns first.ensures.done
          c.clear_from.ensures.kept c.clear_from.ensures.cleared;
    }
