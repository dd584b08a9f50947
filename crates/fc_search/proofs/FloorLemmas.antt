-- The floor of a search as a number of moves.
use Rattle.std.proofs.Common.{◌≡◌, ℕ, ◌+◌, ◌*◌, ◌<◌, ◌≤◌, ◌∙◌, ap, arith}
use Rattle.std.specs.Int.{div_ceil}
use Rattle.std.proofs.Math.Nat.{lt_of_mul-lt-mul_left, mul_comm}
use Rattle.std.proofs.lemmas.Grind.{div_ceil_times}

-- what a floor divided by a weight is, rounded up
pub ceiling : (floor weight by least : ℕ) → by ≡ weight → 1 ≤ weight → least ≡ div_ceil floor by
    → (floor ≤ weight * least) × (weight * least < floor + weight)
ceiling floor weight by least is positive ceil =
    let told : least ≡ div_ceil floor weight = ceil ∙ ap (div_ceil floor) is in
    let near = div_ceil_times floor weight positive in
    let turned : weight * least ≡ div_ceil floor weight * weight = ap (λ n. weight * n) told ∙ mul_comm weight (div_ceil floor weight) in
    (omega (arith, near.0, turned), omega (arith, near.1, turned))

-- the floor of a search, divided by the weight and rounded up, is no more than any list that wins has moves
pub floor_below : (weight floor least long : ℕ) → floor ≤ weight * long → weight * least < floor + weight → least ≤ long
floor_below weight floor least long under near =
    let more : weight * (long + 1) ≡ weight * long + weight = omega arith in
    let below : weight * least < weight * (long + 1) = omega (arith, under, near, more) in
    let lt = lt_of_mul-lt-mul_left weight below in
    omega (arith, lt)
