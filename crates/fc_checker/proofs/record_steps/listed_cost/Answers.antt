use Rattle.std.proofs.Common.{ℕ, List, subst}
use Rattle.std.specs.Prelude.{Contains, MatchOption}
use Rattle.fc_checker.proofs.ListedLemmas.{found}
use Rattle.fc_checker.proofs.record_steps.listed_cost.Goals as goal

pub returns : goal.returns
returns c =
    let content = c.args.certificate.now in
    let key = c.key.result.items in
    let answer = subst (λ (k : List ℕ). MatchOption c.find.result ((cost : ℕ) → Contains content.rows (k, cost) → ⊥) (λ cost. Contains content.rows (k, cost)))
    c.as_slice.ensures.value c.find.ensures.value in
    record { value = found content c.requires.content c.args.position.now c.key.ensures.whole key c.key.ensures.value c.find.result answer }
