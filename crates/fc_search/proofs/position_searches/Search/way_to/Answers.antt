use Rattle.std.proofs.Common.{◌≡◌, ◌∷◌, [], reverse, sym, ◌∙◌, ap, subst}
use Rattle.std.proofs.lemmas.List.{reverse-append}
use Rattle.fc_best_first.proofs.KeptLemmas.{stands_within}
use Rattle.fc_search.specs.inner.Walk.{IsWay}
use Rattle.fc_search.proofs.WalkLemmas.{parent_less}
use Rattle.fc_search.proofs.position_searches.Search.way_to.Goals as goal

pub loop-parent-preserved : goal.loop-parent-preserved
loop-parent-preserved g c =
    let q = c.args.self.now.problem in
    let s = c.args.self.now.store in
    let from = c.in-Some.ensures.value in
    let up = parent_less q s c.requires.sound c.loop-parent.number
    c.in-Some.parent from.0 from.1 from.2 from.3 from.4 in
    let more : reverse c.push.new.self.items ≡ c.loop-parent.number ∷ reverse c.loop-parent.way.items =
    ap reverse c.in_ok-push.ensures.items ∙ reverse-append c.loop-parent.way.items (c.loop-parent.number ∷ []) in (
      stands_within s c.in-Some.parent up.0 up.1 up.2,
      subst (λ l. IsWay s c.in-Some.parent l c.args.number) (sym more)
          ((from.0, from.1, from.2, from.3, from.4), c.loop-parent.invariant.1),
    )
