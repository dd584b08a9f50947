use Rattle.std.proofs.Common.{length}
use Rattle.fc_sequences.proofs.carries.+carry_over.Given as goal

abbrev pub decreases-carry_over : goal.decreases-carry_over
decreases-carry_over g l = length l.columns.now
