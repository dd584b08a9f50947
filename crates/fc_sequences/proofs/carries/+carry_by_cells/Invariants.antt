use Rattle.fc_sequences.proofs.carries.+carry_by_cells.Given as goal

abbrev pub decreases-carry_by_cells : goal.decreases-carry_by_cells
decreases-carry_by_cells g l = l.load.count
