use Rattle.std.proofs.Common.{◌≡◌, ◌+◌, ◌*◌, List, ℕ, length}
use Rattle.fc_cert.specs.Content.{Content}
use Rattle.fc_cert.specs.declared.chains.TheConstants.{WINDOW}
use Rattle.fc_cert.specs.inner.Chains.{AreChained}
use Rattle.fc_cert.specs.inner.Layout.{AreParts}
use Rattle.fc_cert.proofs.chains.links_of.Given as goal

-- the records so far are chained
abbrev pub invariant-loop-i : goal.invariant-loop-i
invariant-loop-i l = record {
  long : length l.links.items ≡ 2 * length l.ends + WINDOW;
  chained : (c : Content) (t : List ℕ) → AreParts c t l.records l.ends → AreChained c.rows l.i l.links.items;
}
