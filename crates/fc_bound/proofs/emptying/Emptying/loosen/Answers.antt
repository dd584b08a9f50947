use Rattle.std.proofs.Common.{sym, ◌∙◌, ap}
use Rattle.std.specs.Int.{bit_at}
use Rattle.fc_bound.proofs.TiedLemmas.{in_first, in_second}
use Rattle.fc_bound.proofs.emptying.Emptying.loosen.Goals as goal

pub loop-loose-smaller : goal.loop-loose-smaller
loop-loose-smaller c =
    let s = c.loop-loose.self in
    let card = c.least_card-card.result in
    let last = in_first s.lasts s.free card (sym (ap (λ n. bit_at n card) c.loop-loose.invariant) ∙ c.least_card-card.ensures.set) in
    c.take.ensures.less (in_second s.lasts s.all card (ap (λ n. bit_at n card) s.left ∙ last))
