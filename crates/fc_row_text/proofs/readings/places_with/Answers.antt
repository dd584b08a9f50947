use Rattle.std.proofs.Common.{None, get_or, rules}
use Rattle.std.proofs.lemmas.List.FromFn.{fill_by_all}
use Rattle.std.specs.Option.{option_or}
use Rattle.fc_row_text.proofs.readings.places_with.Goals as goal

pub returns : goal.returns
returns c = fill_by_all (λ k. option_or (get_or c.args.entries.now k None) (get_or c.args.above.now k None)) c.loop-column.places 8 None c.loop-column.invariant.0 (search rules)
