use Rattle.std.proofs.Common.{◌≡◌, ◌-◌, ℕ, suc, [], ◌∷◌, Some, length, reverse, refl, sym, ◌∙◌, ap, subst, arith}
use Rattle.std.specs.Prelude.{slice_get}
use Rattle.std.proofs.lemmas.List.{reverse-append}
use Rattle.std.proofs.lemmas.Option.{slice_get_read}
use Rattle.fc_sequences.specs.inner.Layers.{PlaysAll}
use Rattle.fc_sequences.proofs.EndLemmas.{linked_long}
use Rattle.fc_sequences.proofs.PathLemmas.{IsBack, back_first, back_last, back_links}
use Rattle.fc_sequences.proofs.list_expansions.counts_to.Goals as goal

pub loop-left-init : goal.loop-left-init
loop-left-init c = (
  omega arith,
  λ g b ps boards d linked stands.
      back_first g b ps c.args.layers.now boards d (length c.args.layers.now) c.args.place _ linked stands refl (ap reverse c.new-counts.ensures.items),
)

pub origin-parent-requires : goal.origin-parent-requires
origin-parent-requires c =
    let (g, b, ps, boards, d, linked, stands) = c.requires.linked in
    let back = c.loop-left.invariant.1 g b ps boards d linked stands in
    let one : c.loop-left.left ≡ suc (c.loop-left.left - 1) = omega arith in
    let layer : slice_get c.args.layers.now (c.loop-left.left - 1) ≡ Some c.index-layers-left.result =
    slice_get_read c.args.layers.now (length c.args.layers.now) (c.loop-left.left - 1) c.index-layers-left.result refl (omega (arith, c.loop-left.invariant.0)) c.index-layers-left.is in
    let links = back_links g b ps c.args.layers.now d (c.loop-left.left - 1) c.loop-left.here (reverse c.loop-left.counts.items) c.index-layers-left.result
    (subst (λ n. IsBack g b ps c.args.layers.now d n c.loop-left.here (reverse c.loop-left.counts.items)) one back) layer
    (linked_long g (b ∷ []) boards ps c.args.layers.now linked) in
    record { there = ((links.0, links.1), links.2) }

pub loop-left-preserved : goal.loop-left-preserved
loop-left-preserved c = (
  omega (arith, c.loop-left.invariant.0),
  λ g b ps boards d linked stands.
      let back = c.loop-left.invariant.1 g b ps boards d linked stands in
      let one : c.loop-left.left ≡ suc (c.loop-left.left - 1) = omega arith in
      let layer : slice_get c.args.layers.now (c.loop-left.left - 1) ≡ Some c.index-layers-left.result =
      slice_get_read c.args.layers.now (length c.args.layers.now) (c.loop-left.left - 1) c.index-layers-left.result refl (omega (arith, c.loop-left.invariant.0)) c.index-layers-left.is in
      let links = back_links g b ps c.args.layers.now d (c.loop-left.left - 1) c.loop-left.here (reverse c.loop-left.counts.items) c.index-layers-left.result
      (subst (λ n. IsBack g b ps c.args.layers.now d n c.loop-left.here (reverse c.loop-left.counts.items)) one back) layer
      (linked_long g (b ∷ []) boards ps c.args.layers.now linked) in
      let same : (links.0, links.1) ≡ c.origin-parent.result = cc (sym links.2 ∙ c.origin-parent.ensures.value) in
      let more : c.origin-parent.result.1 ∷ reverse c.loop-left.counts.items ≡ reverse c.push.new.self.items =
      sym (ap reverse c.in_ok-push.ensures.items ∙ reverse-append c.loop-left.counts.items (c.origin-parent.result.1 ∷ [])) in
      subst (IsBack g b ps c.args.layers.now d (c.loop-left.left - 1) c.origin-parent.result.0) more
      (subst (λ (t : ℕ × ℕ). IsBack g b ps c.args.layers.now d (c.loop-left.left - 1) t.0 (t.1 ∷ reverse c.loop-left.counts.items)) same links.3),
)

pub returns : goal.returns
returns c = record {
  counts = λ g b ps boards d linked stands.
      let none : c.loop-left.left ≡ 0 = omega arith in
      subst (λ ks. PlaysAll g b ps ks d) (sym c.reverse.ensures.items)
      (back_last g b ps c.args.layers.now d c.loop-left.here (reverse c.loop-left.counts.items)
      (subst (λ n. IsBack g b ps c.args.layers.now d n c.loop-left.here (reverse c.loop-left.counts.items)) none (c.loop-left.invariant.1 g b ps boards d linked stands)));
}
