use Rattle.fc_typed.proofs.GuessLemmas.{each_lacks}
use Rattle.fc_typed.proofs.guesses.lacked_counts.Goals as goal

pub returns : goal.returns
returns c =
    each_lacks c.args.text.now _ _ _ _ c.lacked_count.ensures c.lacked_count-2.ensures c.lacked_count-3.ensures c.lacked_count-4.ensures
