use Rattle.std.proofs.Common.{sym, ◌∙◌, ap, arith}
use Rattle.std.specs.Ordering.{is_eq}
use Rattle.fc_cert.proofs.ChainLemmas.{sought_in_vain, sought_next}
use Rattle.fc_cert.proofs.FindLemmas.{key_differs, key_found}
use Rattle.fc_cert.proofs.certificates.Certificate.find.Goals as goal

pub returns-then-is_eq : goal.returns-then-is_eq
returns-then-is_eq c = record {
  value = key_found c.args.self.now.rows c.args.key.now c.in-Some.i c.record_at-cost.result.0.now c.record_at-cost.result.1
      c.record_at-cost.ensures.value (ap is_eq (sym c.compare.ensures.value) ∙ sym c.is_eq.ensures ∙ c.if-is_eq.true);
}

pub loop-i-preserved : goal.loop-i-preserved
loop-i-preserved c =
    sought_next c.args.self.now.rows c.args.key.now c.loop-i.link c.in-Some.i c.link_at-link.result c.record_at-cost.result.1
    c.record_at-cost.result.0.now c.loop-i.invariant (omega (arith, c.in-Some.ensures)) c.record_at-cost.ensures.value
    (key_differs c.args.key.now c.record_at-cost.result.0.now (ap is_eq (sym c.compare.ensures.value) ∙ sym c.is_eq.ensures ∙ c.if-is_eq.false))
    c.link_at-link.ensures.last

pub returns : goal.returns
returns c = record {
  value = sought_in_vain c.args.self.now.rows c.args.key.now c.loop-i.link c.loop-i.invariant (omega (arith, c.in_default.ensures));
}
