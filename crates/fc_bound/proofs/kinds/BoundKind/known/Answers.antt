use mir.Val.{bool_byte}
use Rattle.std.proofs.Common.{◌≡◌, ℕ, ◌+◌, cond, Some, refl, sym, ◌∙◌, ap, subst}
use Rattle.fc_bound.specs.Bound.{is_held_back}
use Rattle.fc_bound.specs.Kinds.{IsShown}
use Rattle.fc_bound.proofs.FamilyAfter.{after_put, after_home}
use Rattle.fc_bound.proofs.FamilyKnown.{lift_known}
use Rattle.fc_bound.proofs.FareLemmas.{byte_is}
use Rattle.fc_bound.proofs.kinds.BoundKind.known.Goals as goal

pub returns-in-Home : goal.returns-in-Home
returns-in-Home c = record {
  known = λ g b z step p is held there shown.
      let a = c.args in
      let kept = c.saturating_sub-kept in
      let lift = lift_known a.self b a.m.from a.card a.shown.number a.shown.note kept.result a.held c.is_noted.result p
      (step.playable ∙ ap (λ (n : ℕ). Some n) is) held c.is_noted.ensures.value c.else-is_noted.either kept.ensures shown in
      subst (λ n. IsShown a.self z n a.shown.note) (sym c.saturating_sub-number.ensures)
      (after_home a.self g b z a.m a.card kept.result a.shown.note step p is c.in-Home.is lift);
  plain = λ _. refl;
  told = λ _. refl;
}

pub returns-in_default : goal.returns-in_default
returns-in_default c = record {
  known = λ g b z step p is held there shown.
      let a = c.args in
      let kept = c.saturating_sub-kept in
      let lift = lift_known a.self b a.m.from a.card a.shown.number a.shown.note kept.result a.held c.is_noted.result p
      (step.playable ∙ ap (λ (n : ℕ). Some n) is) held c.is_noted.ensures.value c.else-is_noted.either kept.ensures shown in
      let counted : ◌≡◌ {A = ℕ} (cond (is_held_back z a.card) 1 0) (bool_byte a.there) =
      sym (byte_is a.there ∙ ap (λ t. cond t 1 0) (there c.in_default.not-Home)) in
      subst (λ n. IsShown a.self z (kept.result + n) a.shown.note) counted
      (after_put a.self g b z a.m a.card kept.result a.shown.note step p is c.in_default.not-Home lift);
  plain = λ _. refl;
  told = λ _. refl;
}
