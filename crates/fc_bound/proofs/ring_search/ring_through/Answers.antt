use Rattle.std.proofs.Common.{get_or, ◌∙◌, ap, ⊎_elim}
use Rattle.std.specs.Int.{bit_at}
use Rattle.std.proofs.lemmas.Bool.{cases_eq}
use Rattle.fc_bound.specs.Rows.{no_row}
use Rattle.fc_bound.proofs.TiedLemmas.{in_first}
use Rattle.fc_bound.proofs.ring_search.ring_through.Goals as goal

pub returns-then-pair-ne0-clause-within : goal.returns-then-pair-ne0-clause-within
returns-then-pair-ne0-clause-within c d set =
    let able = c.args.able in
    ⊎_elim (λ same. ap (bit_at able) same ∙ c.requires.own)
    (λ ne. in_first able (get_or c.args.rows.now c.args.card no_row).waiting d (c.pair-pair.ensures.within d set ne))
    (cases_eq d c.args.card)
