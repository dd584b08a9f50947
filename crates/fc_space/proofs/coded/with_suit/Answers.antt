use Rattle.std.proofs.Common.{◌≡◌, ◌+◌, ◌*◌, refl, sym, ◌∙◌, subst, arith}
use Rattle.fc_cards.specs.Suit.{suit_index}
use Rattle.fc_space.proofs.SentLemmas.{SoFar, not_none, none_yet, one_rank, all_ranks, suit_below}
use Rattle.fc_space.proofs.coded.with_suit.Goals.{in-Some, in_default}
use Rattle.fc_space.proofs.coded.with_suit.Goals as goal

pub loop-rank-init : goal.loop-rank-init
loop-rank-init c = (none_yet c.args.code (suit_index c.args.suit) c.args.low, λ _. refl)

pub loop-rank-preserved : goal.loop-rank-preserved
loop-rank-preserved c =
    let u = suit_index c.args.suit in
    let r = c.loop-rank.rank in
    let under = c.loop-rank-test.true in
    let high = c.requires.most in
    elim c.match-new.branch [
      | in-Some w ↦
          let value = w.in-Some.ensures.value in
          let card : w.in-Some.card ≡ r * 4 + u = omega (arith, value) in
          let more = one_rank c.args.code c.loop-rank.code u c.args.low r w.in-Some.card w.at_home-code.ensures.count
          (suit_below c.args.suit) c.loop-rank.auto.rank (omega (arith, under, high)) card c.loop-rank.invariant.0 in
          let same = sym w.at_home-code.ensures.state ∙ sym w.code-is in (
            subst (λ l. SoFar c.args.code l u c.args.low (r + 1)) same more,
            λ le. absurd (let from = c.loop-rank.auto.rank in omega (arith, le, from, under)),
          )
      | in_default w ↦
          let some = c.new.ensures.valid.1 (record { least = omega arith; greatest = omega (arith, under, high) }) in
          absurd (not_none c.new.result some w.in_default.is)
    ]

pub returns-clause-value : goal.returns-clause-value
returns-clause-value c =
    λ d below.
    all_ranks c.args.code c.loop-rank.code (suit_index c.args.suit) c.args.low c.args.high c.loop-rank.rank d c.loop-rank.invariant.0
    c.loop-rank-test.false c.loop-rank.auto.rank-end c.loop-rank.invariant.1 below
