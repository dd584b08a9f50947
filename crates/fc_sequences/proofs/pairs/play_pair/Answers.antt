use Rattle.fc_moves.proofs.StepLemmas.{step_keeps}
use Rattle.fc_sequences.proofs.GetLemmas.{on_ok}
use Rattle.fc_sequences.proofs.pairs.play_pair.Goals as goal

pub returns-in_default-clause-whole : goal.returns-in_default-clause-whole
returns-in_default-clause-whole g c = on_ok c.step.result _ (step_keeps _ _ _ _ c.requires.fits c.step.ensures.step)
