use Rattle.std.proofs.Common.{ap, min, ◌∙◌}
use Rattle.std.specs.Int.{bit_at}
use Rattle.std.proofs.lemmas.Nat.Bits.{bit_at_and, bit_at_ones, bit_at-lt}
use Rattle.fc_bound.proofs.BitLemmas.{min_one}
use Rattle.fc_bound.proofs.FamilyKnown.{of_cards}
use Rattle.fc_bound.proofs.rings.Shown.of_cards.Goals as goal

pub returns-clause-shown : goal.returns-clause-shown
returns-clause-shown c kind b p shown = of_cards kind b c.args.self.number c.args.self.note p shown

pub returns-clause-same : goal.returns-clause-same
returns-clause-same c d below =
    bit_at_and c.args.self.note 4503599627370495 d ∙ ap (min (bit_at c.args.self.note d)) (bit_at_ones 52 d below)
    ∙ min_one (bit_at c.args.self.note d) (bit_at-lt c.args.self.note d)
