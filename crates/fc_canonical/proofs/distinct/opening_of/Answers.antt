use Rattle.std.proofs.Common.{sym, ◌∙◌, subst}
use Rattle.fc_canonical.specs.inner.Distinct.{IsFirstColumn}
use Rattle.fc_canonical.proofs.ListingLemmas.{opening_first}
use Rattle.fc_canonical.proofs.distinct.opening_of.Goals as goal

pub returns-then-not-is_later_lone : goal.returns-then-not-is_later_lone
returns-then-not-is_later_lone g c = record {
  value = opening_first (g.G.Game.game c.args.game.now) c.args.position.now c.args.from c.args.card c.in_ok-j.j c.requires.whole
      c.requires.card
      (subst (IsFirstColumn c.args.position.now) c.in_ok-j.was c.requires.column) (c.opens.ensures.value.0 c.if-opens.true)
      (λ later. let holds = c.is_later_lone.ensures.value.1 later in absurd (cc (sym c.if-not-is_later_lone.true ∙ holds)));
  empty = (subst (IsFirstColumn c.args.position.now) c.in_ok-j.was c.requires.column).1;
}
