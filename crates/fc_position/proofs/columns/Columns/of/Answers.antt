use Rattle.fc_position.proofs.LayoutLemmas.{eight}
use Rattle.fc_position.proofs.columns.Columns.of.Goals as goal

pub returns : goal.returns
returns c =
    rw (
      c.of.ensures.value,
      c.of-2.ensures.value,
      c.of-3.ensures.value,
      c.of-4.ensures.value,
      c.of-5.ensures.value,
      c.of-6.ensures.value,
      c.of-7.ensures.value,
      c.of-8.ensures.value,
      c.as_slice.ensures.value,
      c.as_slice-2.ensures.value,
      c.as_slice-3.ensures.value,
      c.as_slice-4.ensures.value,
      c.as_slice-5.ensures.value,
      c.as_slice-6.ensures.value,
      c.as_slice-7.ensures.value,
      c.as_slice-8.ensures.value,
    )
    (eight (λ v. v.items) c.args.parts.now c.index-parts-0.result c.index-parts-1.result c.index-parts-2.result c.index-parts-3.result c.index-parts-4.result c.index-parts-5.result c.index-parts-6.result c.index-parts-7.result c.type_inv.parts)
