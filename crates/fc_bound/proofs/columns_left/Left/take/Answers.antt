use Rattle.std.proofs.Common.{[], get_or, max, length, ap, sym, subst, ◌∙◌, arith}
use Rattle.std.specs.Int.{bit_at}
use Rattle.std.proofs.lemmas.List.{length-map}
use Rattle.std.proofs.lemmas.Nat.Bits.{bit_at_or}
use Rattle.fc_position.specs.Board.{last_of}
use Rattle.fc_bound.specs.Clearing.{without}
use Rattle.fc_bound.specs.Knots.{ends_among}
use Rattle.fc_bound.specs.Rows.{no_row}
use Rattle.fc_bound.specs.inner.Rows.{AreApart, left_of}
use Rattle.fc_bound.proofs.TakeLemmas.{left_card, left_less}
use Rattle.fc_bound.proofs.LeftLemmas.{left_apart, taken_without}
use Rattle.fc_bound.proofs.columns_left.Left.take.Goals as goal

pub bounds-self-inside-u : goal.bounds-self-inside-u
bounds-self-inside-u c =
    omega (arith, left_card c.self.inside.position.now c.self.inside.all c.args.u c.self.invariant.whole (ap (λ v. ends_among v c.args.u) c.self.view_is ∙ c.requires.last))

pub remove-self-inside-requires : goal.remove-self-inside-requires
remove-self-inside-requires c = record {
  below = omega (arith, left_card c.self.inside.position.now c.self.inside.all c.args.u c.self.invariant.whole (ap (λ v. ends_among v c.args.u) c.self.view_is ∙ c.requires.last));
}

pub remove-requires : goal.remove-requires
remove-requires c = record {
  below = omega (arith, left_card c.self.inside.position.now c.self.inside.all c.args.u c.self.invariant.whole (ap (λ v. ends_among v c.args.u) c.self.view_is ∙ c.requires.last));
}

pub invariant_of-self : goal.invariant_of-self
invariant_of-self c =
    let beneath = (get_or c.self.inside.rows.now c.args.u no_row).beneath in
    left_less c.self.inside.position.now c.self.inside.rows.now c.self.inside.held c.self.inside.all c.self.inside.lasts c.args.u
    c.remove-self-inside.result _ c.self.invariant (ap (λ v. ends_among v c.args.u) c.self.view_is ∙ c.requires.last) c.remove-self-inside.ensures.value
    (λ d. bit_at_or c.remove.result beneath d ∙ ap (λ n. max n (bit_at beneath d)) (c.remove.ensures.value d))

pub returns-clause-value : goal.returns-clause-value
returns-clause-value c = λ i last.
    taken_without c.self.inside.position.now c.self.inside.all i c.args.u c.remove-self-inside.result c.self.invariant.whole c.remove-self-inside.ensures.value
    (ap (λ v. last_of (get_or v i [])) c.self.view_is ∙ last)
    ∙ ap (λ v. without v i) c.self.view_is

pub returns-clause-apart : goal.returns-clause-apart
returns-clause-apart c =
    subst AreApart c.self.view_is (left_apart c.self.inside.position.now c.self.inside.all c.self.invariant.whole)

pub returns-clause-eight : goal.returns-clause-eight
returns-clause-eight c =
    ap length (sym c.self.view_is) ∙ length-map c.self.inside.position.now.columns (left_of c.self.inside.all) ∙ c.self.invariant.whole.columns

pub returns-clause-below : goal.returns-clause-below
returns-clause-below c =
    left_card c.self.inside.position.now c.self.inside.all c.args.u c.self.invariant.whole (ap (λ v. ends_among v c.args.u) c.self.view_is ∙ c.requires.last)
