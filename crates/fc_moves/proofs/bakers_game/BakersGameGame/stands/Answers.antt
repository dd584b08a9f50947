use Rattle.std.proofs.Common.{arith}
use Rattle.std.specs.Prelude.{◌==◌}
use Rattle.std.proofs.lemmas.Bool.Decides.{nat_tests}
use Rattle.fc_cards.specs.Card.{suit}
use Rattle.fc_moves.proofs.GameLemmas.{bakers_game-stands, other_ranks, suits_read}
use Rattle.fc_moves.proofs.bakers_game.BakersGameGame.stands.Goals as goal

pub returns-then-rank : goal.returns-then-rank
returns-then-rank c = record {
  value =
      bakers_game-stands c.args.self.now.cells c.args.upper c.args.lower c.eq.result (omega (arith, c.rank.ensures.within.greatest)) (omega (arith, c.rank-2.ensures.within.greatest)) (suits_read c.eq.result c.suit.result c.suit-then-rank.result (suit c.args.upper) (suit c.args.lower) c.eq.ensures c.suit.ensures c.suit-then-rank.ensures) (omega arith);
}

pub returns-else-rank : goal.returns-else-rank
returns-else-rank c = record {
  value = (λ yes. absurd (grind (arith, nat_tests)), λ found. absurd (other_ranks (λ x y. suit x == suit y) c.args.upper c.args.lower (λ e. c.if-rank.false (omega (arith, e))) found));
}
