use Rattle.std.proofs.Common.{◌∙◌, sym, ap}
use Rattle.fc_replay.specs.Token.{move_tokens}
use Rattle.fc_lists.specs.Plays.{wanted_tokens}
use Rattle.fc_lists.proofs.ExpandedLemmas.{whole_front}
use Rattle.fc_lists.proofs.list_plays.most_entries.Goals as goal

pub returns-in-Line-clause-taken : goal.returns-in-Line-clause-taken
returns-in-Line-clause-taken c =
    let tokens = move_tokens c.args.text.now in
    whole_front c.args.text.now 1048576 c.requires.short ∙ ap (λ a. wanted_tokens a tokens) (sym c.in-Line.is)
