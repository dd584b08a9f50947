use Rattle.std.proofs.Common.{sym, ap, ◌∙◌}
use Rattle.std.specs.List.{list_any}
use Rattle.fc_bound.specs.Bound.{is_lower}
use Rattle.fc_bound.proofs.MovedLemmas.{told_column, told_other}
use Rattle.fc_bound.proofs.bounds.is_held_back.Goals as goal

pub returns-in-Column-Some-clause-value : goal.returns-in-Column-Some-clause-value
returns-in-Column-Some-clause-value c =
    told_column c.args.position.now c.args.from c.in-Column-Some.i c.in-Column-Some.card c.has_lower.result c.in-Column-Some.ensures.whole
    c.in-Column-Some.is-0 (sym c.playable.ensures.value ∙ c.in-Column-Some.is-1) (c.has_lower.ensures.value ∙ ap (list_any (is_lower c.in-Column-Some.card)) c.column.ensures.value)

pub returns-in_default-2 : goal.returns-in_default-2
returns-in_default-2 c = record {
  value = told_other c.args.position.now c.args.from c.playable.ensures.whole (λ i u at there. c.in_default.not-Column-0 i at);
  whole = c.playable.ensures.whole;
}
