use Rattle.std.proofs.Common.{map, sym, ◌∙◌, subst}
use Rattle.fc_frontier.specs.inner.Queue.{IsPlaceOfLeast}
use Rattle.fc_frontier.specs.inner.Tie.{placed_of}
use Rattle.fc_frontier.proofs.PlaceLemmas.{next-least, next-taken}
use Rattle.fc_frontier.proofs.tie_lists.TieList.pop_least.Goals as goal

pub returns-clause-order : goal.returns-clause-order
returns-clause-order c =
    next-taken c.self.inside.entries.items c.remove.new.self.items c.in_ok-place.place c.remove.result c.pair.result c.args.self.now
    c.self.invariant
    (subst (λ es. IsPlaceOfLeast (map placed_of es) c.in_ok-place.place) c.as_slice.ensures.value c.in_ok-place.ensures.place)
    c.remove.ensures.value c.pair.ensures.value c.remove.ensures.items c.self.view_is

pub returns-clause-least : goal.returns-clause-least
returns-clause-least c =
    next-least c.self.inside.entries.items c.in_ok-place.place c.remove.result c.pair.result c.args.self.now c.self.invariant
    (subst (λ es. IsPlaceOfLeast (map placed_of es) c.in_ok-place.place) c.as_slice.ensures.value c.in_ok-place.ensures.place)
    c.remove.ensures.value c.pair.ensures.value c.self.view_is

pub returns-clause-none : goal.returns-clause-none
returns-clause-none c = (λ e. absurd (cc), λ e. absurd (let h = sym (returns-clause-order c).order ∙ e in cc))
