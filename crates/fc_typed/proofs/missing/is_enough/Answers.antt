use Rattle.std.proofs.Common.{sym, subst, IsTrue, ◌↔◌, ℕ, ◌≤◌}
use Rattle.std.specs.Prelude.{leb}
use Rattle.fc_cards.specs.Card.{rank}
use Rattle.fc_cards.specs.Texts.{IsRank, IsRankText}
use Rattle.fc_typed.proofs.MissingLemmas.{enough_is}
use Rattle.fc_typed.proofs.missing.is_enough.Goals as goal

pub returns-in-Some : goal.returns-in-Some
returns-in-Some c =
    subst (λ r. IsTrue (leb r c.in-Some.rank) ↔ ((n : ℕ) × IsRank n × IsRankText n c.args.text.now × (rank c.args.card ≤ n)))
    (sym c.rank.ensures.value) (enough_is c.args.card c.in-Some.rank c.args.text.now c.in-Some.ensures.read)

pub returns-in-None : goal.returns-in-None
returns-in-None c = (λ t. absurd (cc t), λ (n, is, spelled, enough). absurd (c.in-None.ensures.refused n is spelled))
