use Rattle.std.proofs.Common.{◌≡◌, ℕ, ◌-◌, Some, None, List, [], ◌∷◌, length, get_or, sym, ◌∙◌, ap, refl, subst, arith}
use Rattle.std.proofs.lemmas.Option.{slice_get-get_or}
use Rattle.fc_position.specs.Board.{column, last_of, playable}
use Rattle.fc_codes.specs.Moved.{Moves}
use Rattle.fc_space.proofs.coded.code_after.Goals as goal

pub returns-in-Column-Some : goal.returns-in-Column-Some
returns-in-Column-Some c = record {
  value = λ b z card landing moves.
      let l = c.args.landing.now in
      let same : card ≡ l.card = let x = sym moves.playable ∙ landing.card in cc in
      c.on_card.ensures.value b z l.m c.in-Column-Some.field-0-0 (subst (λ u. Moves c.args.layout.now c.args.code.now u b l.m z) same moves)
      c.in-Column-Some.is-0 (ap (playable b) (sym c.in-Column-Some.is-0) ∙ landing.host ∙ c.in-Column-Some.is-1);
}

pub returns-in-Column-None : goal.returns-in-Column-None
returns-in-Column-None c = record {
  value = λ b z card landing moves.
      let l = c.args.landing.now in
      let j = c.in-Column-None.field-0-0 in
      let same : card ≡ l.card = let x = sym moves.playable ∙ landing.card in cc in
      c.on_table.ensures.value b z l.m j (subst (λ u. Moves c.args.layout.now c.args.code.now u b l.m z) same moves) c.in-Column-None.is-0
      (empty (column b j) (ap (playable b) (sym c.in-Column-None.is-0) ∙ landing.host ∙ c.in-Column-None.is-1));
}
  where
    empty : (x : List ℕ) → last_of x ≡ None → x ≡ []
    empty [] none = refl
    empty (d ∷ x) none =
        let some : Some (get_or (d ∷ x) (length (d ∷ x) - 1) 0) ≡ None = sym (slice_get-get_or (d ∷ x) (length (d ∷ x) - 1) 0 (omega arith)) ∙ none in absurd (cc)

pub returns-in-Cell-default : goal.returns-in-Cell-default
returns-in-Cell-default c = record {
  value = λ b z card landing moves.
      let l = c.args.landing.now in
      let same : card ≡ l.card = let x = sym moves.playable ∙ landing.card in cc in
      c.in_cell.ensures.value c.args.layout.now b z l.m c.in-Cell-default.field-0-0
      (subst (λ u. Moves c.args.layout.now c.args.code.now u b l.m z) same moves) c.in-Cell-default.is-0;
}
