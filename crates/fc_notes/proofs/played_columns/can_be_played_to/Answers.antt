use Rattle.std.proofs.Common.{inr, ⊎_elim}
use Rattle.fc_notes.proofs.played_columns.can_be_played_to.Goals as goal

pub returns-else-is_played : goal.returns-else-is_played
returns-else-is_played c = record {
  value = (
    λ yes. inr (c.is_played-else-is_played.ensures.value.0 yes),
    λ can. ⊎_elim (λ by_colours. let yes = c.is_played.ensures.value.1 by_colours in absurd (cc))
        c.is_played-else-is_played.ensures.value.1 can,
  );
}
