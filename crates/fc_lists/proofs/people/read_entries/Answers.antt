use Rattle.std.proofs.Common.{◌∙◌, ap}
use Rattle.fc_lists.proofs.HeldLemmas.{begun}
use Rattle.fc_lists.proofs.people.read_entries.Goals as goal

pub loop-token-init : goal.loop-token-init
loop-token-init c =
    begun c.args.list.now c.into_iter-token-iterator.result.rest.now c.new-entries.result.items c.new-entries.ensures.items
    (ap (λ i. i.rest.now) c.into_iter-token-iterator.ensures.into_iter_gives ∙ c.new-token-items.ensures.rest)
