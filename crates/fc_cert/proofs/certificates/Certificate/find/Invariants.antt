use Rattle.fc_cert.proofs.ChainLemmas.{IsSought}
use Rattle.fc_cert.proofs.certificates.Certificate.find.Given as goal

-- no row from the link on has the key
abbrev pub invariant-loop-i : goal.invariant-loop-i
invariant-loop-i l = IsSought l.self.rows l.key l.link

abbrev pub decreases-loop-i : goal.decreases-loop-i
decreases-loop-i l = l.link
