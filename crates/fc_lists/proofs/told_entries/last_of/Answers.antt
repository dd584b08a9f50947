use Rattle.fc_replay.specs.Token.{move_tokens}
use Rattle.fc_lists.proofs.ToldLemmas.{last_on}
use Rattle.fc_lists.proofs.told_entries.last_of.Goals as goal

pub loop-word-preserved : goal.loop-word-preserved
loop-word-preserved c =
    last_on (move_tokens c.args.text.now) c.loop-word.invariant.0 (move_tokens c.next-in-loop-word.new.self.rest.now) c.loop-word.last.now c.in-Some.word.now
    (move_tokens c.loop-word.word-iterator.rest.now) c.loop-word.invariant.1 c.in-Some.ensures.steps
