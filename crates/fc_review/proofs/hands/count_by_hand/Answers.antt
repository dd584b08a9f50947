use Rattle.std.proofs.Common.{◌≡◌, ◌-◌, subst, arith}
use Rattle.fc_sequences.proofs.LawLemmas.{gathered_board}
use Rattle.fc_review.specs.Hands.{AreByHand}
use Rattle.fc_review.proofs.HandLemmas.{by_hand}
use Rattle.fc_review.proofs.hands.count_by_hand.Goals as goal

pub goers-alone-requires : goal.goers-alone-requires
goers-alone-requires g c =
    let gathered = c.in_ok-entries.ensures.gathered in
    record { run = (gathered.0, (gathered_board _ _ _ _ _ gathered.1).0) }

pub overflow_sub-result : goal.overflow_sub-result
overflow_sub-result g c =
    let gathered = c.in_ok-entries.ensures.gathered in
    let left = by_hand _ _ _ _ _ _ _ c.requires.position gathered.1 c.goers-alone.ensures.count in
    omega (arith, left.2, c.len.ensures)

pub returns-clause-count : goal.returns-clause-count
returns-clause-count g c =
    let gathered = c.in_ok-entries.ensures.gathered in
    let left = by_hand _ _ _ _ _ _ _ c.requires.position gathered.1 c.goers-alone.ensures.count in
    let count : left.0 ≡ c.len.result - c.goers-alone.result = omega (arith, left.2, c.len.ensures) in (
      c.in_ok-entries.entries.items,
      gathered.0,
      gathered.1,
      subst (λ n. AreByHand c.args.rule (g.G.Game.game c.args.game.now) c.args.start.now c.in_ok-entries.entries.items n) count left.1,
    )
