use Rattle.std.proofs.Common.{None, get_or, rules}
use Rattle.std.proofs.lemmas.List.FromFn.{fill_by_all}
use Rattle.fc_row_text.specs.Places.{word_under}
use Rattle.fc_row_text.proofs.readings.words_under.Goals as goal

pub returns : goal.returns
returns c = fill_by_all (λ k. word_under (get_or c.args.places.now k None) c.args.words.now) c.loop-column.entries 8 None c.loop-column.invariant.0 (search rules)
