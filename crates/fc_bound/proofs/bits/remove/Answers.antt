use Rattle.std.proofs.Common.{◌*◌, ◌%◌, ◌^◌, bit_and, w64}
use Rattle.std.specs.Int.{bit_not}
use Rattle.std.proofs.lemmas.Nat.{and_le_l}
use Rattle.fc_bound.proofs.BitLemmas.{bit_removed, less_removed, gone}
use Rattle.fc_bound.proofs.bits.remove.Goals as goal

pub returns : goal.returns
returns c =
    let n = c.args.bits in
    let k = c.args.c in
    let is = bit_removed n k c.ranges.bits.fits c.requires.below in
    record {
      value = is;
      less = λ set. less_removed n (bit_and n (bit_not w64 (1 * 2 ^ k % 2 ^ 64))) k (and_le_l n (bit_not w64 (1 * 2 ^ k % 2 ^ 64))) set
          (gone n (bit_and n (bit_not w64 (1 * 2 ^ k % 2 ^ 64))) k is);
    }
