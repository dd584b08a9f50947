use Rattle.std.proofs.Common.{◌≡◌, ◌++◌, ◌<◌, ◌^◌, Some, sym, ◌∙◌, ap, subst}
use Rattle.std.specs.Prelude.{IfSome}
use Rattle.fc_cert.specs.Content.{four_bytes}
use Rattle.fc_cert.specs.Layout.{row_of}
use Rattle.fc_cert.proofs.LayoutLemmas.{row_back}
use Rattle.fc_cert.proofs.certificates.Certificate.record_at.Goals as goal

pub returns : goal.returns
returns c =
    let (row, there, bytes, small) = c.record_bytes.ensures.value in
    let cost = c.unwrap-cost.result.0 in
    let key = c.unwrap-cost.result.1.now in
    let found = subst (λ o. IfSome o (λ r. (c.record_bytes.result.now ≡ four_bytes r.0 ++ r.1.now) × (r.0 < 2 ^ 32)))
    c.unwrap-cost.ensures c.split_number.ensures.found in
    let same = sym (row_back row small) ∙ ap row_of (sym bytes ∙ found.0) ∙ row_back (key, cost) found.1 in
    record { value = there ∙ ap (λ r. Some r) same }
