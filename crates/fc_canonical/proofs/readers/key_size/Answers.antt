use Rattle.std.proofs.Common.{◌∙◌, ap, arith, take}
use Rattle.fc_canonical.proofs.SizeLemmas.{size_told}
use Rattle.fc_canonical.proofs.readers.key_size.Goals as goal

pub longest_key_without-requires-clause-few : goal.longest_key_without-requires-clause-few
longest_key_without-requires-clause-few c =
    let (b, n, key) = c.requires.key in
    let told = size_told c.args.bytes.now c.split_at.result.0.now c.split_at-2.result.0.now b n key c.split_at.ensures.front
    (c.split_at-2.ensures.front ∙ ap (take 4) c.split_at.ensures.back) in
    omega (arith, told)

pub returns : goal.returns
returns c = record {
  value = λ b n key.
      let told = size_told c.args.bytes.now c.split_at.result.0.now c.split_at-2.result.0.now b n key c.split_at.ensures.front
      (c.split_at-2.ensures.front ∙ ap (take 4) c.split_at.ensures.back) in
      let size = c.longest_key_without.ensures.value in
      omega (arith, told, size);
}
