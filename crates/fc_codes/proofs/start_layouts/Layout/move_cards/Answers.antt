use Rattle.std.proofs.Common.{subst, arith}
use Rattle.fc_position.specs.Position.{IsPosition}
use Rattle.fc_codes.proofs.PassedLemmas.{seats_told}
use Rattle.fc_codes.proofs.start_layouts.Layout.move_cards.Goals as goal

pub returns : goal.returns
returns c =
    let (b, p, k) = c.requires.code in
    record {
      value = seats_told c.args.self.now b c.args.code.now (subst IsPosition c.self.view_is c.self.invariant.whole) p k 63
          c.move_word-3.new.seats (omega arith) c.move_word-3.ensures.value;
    }
