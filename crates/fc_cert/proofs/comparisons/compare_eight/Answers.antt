use Rattle.std.proofs.Common.{◌∙◌, arith, rules}
use Rattle.fc_cert.proofs.CompareLemmas.{by_eight}
use Rattle.fc_cert.proofs.comparisons.compare_eight.Goals as goal

pub returns : goal.returns
returns c = record {
  value = c.cmp.ensures ∙ by_eight c.args.a.now c.args.b.now c.from_be_bytes.result c.from_be_bytes-2.result
      (omega arith) (omega arith) (λ i. search rules) (λ i. search rules)
      c.from_be_bytes.ensures c.from_be_bytes-2.ensures;
}
