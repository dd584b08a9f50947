use Rattle.std.proofs.Common.{◌≡◌, ◌++◌, ◌<◌, ◌^◌, ℕ, List, [], length, sym, ◌∙◌, ap, subst, arith}
use Rattle.std.specs.Prelude.{IfSome}
use Rattle.std.proofs.lemmas.Option.{get_or_from_slice_get}
use Rattle.fc_canonical.proofs.ReadLemmas.{surely}
use Rattle.fc_cert.specs.Content.{four_bytes}
use Rattle.fc_cert.specs.Layout.{row_of}
use Rattle.fc_cert.proofs.LayoutLemmas.{row_back}
use Rattle.fc_cert.proofs.record_layouts.key_in.Goals as goal

pub unwrap-cost-requires : goal.unwrap-cost-requires
unwrap-cost-requires c =
    let (content, texts, parts, within) = c.requires.parts in
    let (row, there, bytes, small) = c.record_in.ensures.value content texts parts within in
    surely c.split_number.result _ c.split_number.ensures.none (λ short. absurd (omega (arith, short, ap length bytes)))

pub returns : goal.returns
returns c = record {
  value = λ content texts parts within.
      let (row, there, bytes, small) = c.record_in.ensures.value content texts parts within in
      let cost = c.unwrap-cost.result.0 in
      let key = c.unwrap-cost.result.1.now in
      let found = subst (λ o. IfSome o (λ r. (c.record_in.result.now ≡ four_bytes r.0 ++ r.1.now) × (r.0 < 2 ^ 32)))
      c.unwrap-cost.ensures c.split_number.ensures.found in
      let same = sym (row_back (key, cost) found.1) ∙ ap row_of (sym found.0 ∙ bytes) ∙ row_back row small in
      ap (λ (r : List ℕ × ℕ). r.0) (same ∙ sym (get_or_from_slice_get content.rows c.args.i row ([], 0) there));
}
