use Rattle.std.proofs.Common.{ℕ, Option, sym, ◌∙◌, subst, inl, inr, arith}
use Rattle.fc_codes.specs.State.{IsStateOf}
use Rattle.fc_codes.specs.inner.Landed.{IsOver}
use Rattle.fc_codes.proofs.ToldLemmas.{over_table, over_card, over_none}
use Rattle.fc_codes.proofs.start_layouts.Layout.state_over.Goals as goal

pub returns-in_default-clause-value : goal.returns-in_default-clause-value
returns-in_default-clause-value c =
    let s = c.args.self.now in
    λ b o. subst (IsStateOf s b c.args.card) (sym c.state_on_table.ensures.value)
    (over_table s b c.args.code.now c.args.card c.state_on_table.ensures.whole
    (subst (λ (x : Option ℕ). IsOver s b c.args.code.now x c.args.card) c.in_default.is o))

pub returns-then-state-eq0-clause-value : goal.returns-then-state-eq0-clause-value
returns-then-state-eq0-clause-value c =
    let s = c.args.self.now in
    let value = c.state_on_card-state.ensures.value in
    λ b o. subst (IsStateOf s b c.args.card) (sym value)
    (over_card s b c.args.code.now c.in-Some.host c.args.card c.state_on_card-state.ensures.whole
    (subst (λ (x : Option ℕ). IsOver s b c.args.code.now x c.args.card) c.in-Some.is o) (inl (sym value ∙ c.if-state-eq0.true)))

pub returns-then-rank-clause-value : goal.returns-then-rank-clause-value
returns-then-rank-clause-value c =
    let s = c.args.self.now in
    let value = c.state_on_card-state.ensures.value in
    λ b o. subst (IsStateOf s b c.args.card) (sym value)
    (over_card s b c.args.code.now c.in-Some.host c.args.card c.state_on_card-state.ensures.whole
    (subst (λ (x : Option ℕ). IsOver s b c.args.code.now x c.args.card) c.in-Some.is o)
    (inr (omega (arith, c.if-rank.true, c.rank.ensures.value, c.rank-2.ensures.value))))

pub returns-else-rank-clause-none : goal.returns-else-rank-clause-none
returns-else-rank-clause-none c =
    let s = c.args.self.now in
    let value = c.state_on_card-state.ensures.value in
    λ b o. over_none s b c.args.code.now c.in-Some.host c.args.card c.state_on_card-state.ensures.whole
    (subst (λ (x : Option ℕ). IsOver s b c.args.code.now x c.args.card) c.in-Some.is o) (λ zero_. c.if-state-eq0.false (value ∙ zero_))
    (λ e. c.if-rank.false (omega (arith, e, c.rank.ensures.value, c.rank-2.ensures.value)))
