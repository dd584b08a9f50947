use Rattle.std.proofs.Common.{refl}
use Rattle.fc_bound.specs.declared.bits.TheConstants.{HIGHER}
use Rattle.fc_bound.proofs.BitLemmas.{higher_bits}
use Rattle.fc_bound.proofs.bits.higher_cards.Goals as goal

pub returns : goal.returns
returns c = record { value = higher_bits HIGHER c.args.index refl c.requires.below }
