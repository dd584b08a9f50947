use Rattle.std.proofs.Common.{◌<◌, Some, cond, eqb, subst}
use Rattle.std.proofs.lemmas.List.{take_all}
use Rattle.std.proofs.lemmas.List.Elements.{All-more}
use Rattle.fc_position.specs.Board.{count_in_cell}
use Rattle.fc_position.specs.Tally.{Adds, AllCards}
use Rattle.fc_position.proofs.TallyLemmas.{adds_next}
use Rattle.fc_position.proofs.tallies.Tally.add_column.Goals as goal

pub loop-card-preserved : goal.loop-card-preserved
loop-card-preserved c = record {
  added =
      adds_next (λ k x. cond (eqb x k) 1 0) c.args.cards.now c.loop-card.card-index c.card-item.result c.args.self.now c.loop-card.self c.add.new.self c.loop-card-test.true c.loop-card.invariant.added
      (subst (λ x. Adds (λ k. count_in_cell k (Some x)) c.loop-card.self c.add.new.self) c.card-item.is c.add.ensures.added);
  below = All-more (λ k. k < 52) c.args.cards.now c.loop-card.card-index c.card-item.result c.loop-card-test.true c.loop-card.invariant.below
      (subst (λ x. x < 52) c.card-item.is c.add.ensures.below);
}

pub returns-clause-below : goal.returns-clause-below
returns-clause-below c =
    subst AllCards (take_all c.loop-card.card-index c.args.cards.now c.loop-card-test.false) c.loop-card.invariant.below
