use Rattle.std.proofs.Common.{◌≡◌, refl, ⊎_elim, arith}
use Rattle.std.specs.Prelude.{◌==◌}
use Rattle.std.proofs.lemmas.Bool.{cases_lt}
use Rattle.fc_cards.specs.Card.{rank, suit}
use Rattle.fc_moves.proofs.GameLemmas.{hosts_in_suit, no_hosts}
use Rattle.fc_moves.proofs.bakers_game.BakersGameGame.hosts_of.Goals as goal

pub returns-in-Some-clause-exact : goal.returns-in-Some-clause-exact
returns-in-Some-clause-exact c u =
    let rank = c.in-Some.ensures.valid.0 refl in
    let below = c.rank.ensures.within in
    rw (c.push.ensures.items, c.new-cards.ensures)
    (hosts_in_suit c.args.self.now.cells c.args.card c.in-Some.lower (omega (arith, below.greatest)) (omega (arith, rank.least)) (omega (arith, c.in-Some.ensures.value, c.suit.ensures)) u)

pub returns-in_default-clause-exact : goal.returns-in_default-clause-exact
returns-in_default-clause-exact c u =
    let below = c.rank.ensures.within in
    let ace : rank c.args.card ≡ 1 =
    ⊎_elim
    (λ more. absurd (cc (c.in_default.ensures.valid.1 (record { least = omega arith; greatest = omega (arith, below.greatest) }))))
    (λ one. omega arith) (cases_lt 1 (rank c.args.card)) in
    rw c.new-cards.ensures (no_hosts (λ a b. suit a == suit b) c.args.card ace u)
