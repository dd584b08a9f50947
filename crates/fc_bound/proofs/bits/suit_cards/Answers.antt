use Rattle.std.proofs.Common.{◌%◌, refl, arith}
use Rattle.fc_bound.specs.declared.bits.TheConstants.{SUITS}
use Rattle.fc_bound.proofs.LowLemmas.{suit_bits}
use Rattle.fc_bound.proofs.bits.suit_cards.Goals as goal

pub returns : goal.returns
returns c = record { value = suit_bits SUITS (c.args.index % 4) refl (omega arith) }
