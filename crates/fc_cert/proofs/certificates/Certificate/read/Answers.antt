use Rattle.std.proofs.Common.{◌<◌, length, sym, ap, subst, arith}
use Rattle.fc_cert.specs.Content.{IsSpelled}
use Rattle.fc_cert.specs.Layout.{content_of}
use Rattle.fc_cert.specs.inner.Layout.{AreParts}
use Rattle.fc_cert.proofs.LawLemmas.{read_spelled}
use Rattle.fc_cert.proofs.LayoutLemmas.{content_back, parts_back, places_many}
use Rattle.fc_cert.proofs.PartsLemmas.{form_fault, parts_of, records_of, records_short}
use Rattle.fc_cert.proofs.FieldLemmas.{passed_on}
use Rattle.fc_cert.specs.Reading.{IsReadFault}
use Rattle.fc_cert.proofs.certificates.Certificate.read.Goals as goal

pub returns-in_err-parts-clause-fault : goal.returns-in_err-parts-clause-fault
returns-in_err-parts-clause-fault c =
    passed_on (IsReadFault c.args.bytes.now) c.from_residual.result c.in_err-parts.field-0.0 c.from_residual.ensures.1
    (form_fault c.args.bytes.now c.in_err-parts.field-0.0 c.in_err-parts.ensures.fault)

pub ends_of-requires-clause-limit : goal.ends_of-requires-clause-limit
ends_of-requires-clause-limit c =
    let (content, read, has) = c.in_ok-parts.ensures.read in
    let p = c.in_ok-parts.parts in
    records_short content c.args.bytes.now p.head p.texts.now p.records.now p.count (read_spelled c.args.bytes.now content read) has
    c.requires.limit

pub ends_of-requires-clause-rows : goal.ends_of-requires-clause-rows
ends_of-requires-clause-rows c =
    let (content, read, has) = c.in_ok-parts.ensures.read in
    let p = c.in_ok-parts.parts in
    (content.rows, records_of content c.args.bytes.now p.head p.texts.now p.records.now p.count (read_spelled c.args.bytes.now content read) has)

pub returns-in_default-clause-fault : goal.returns-in_default-clause-fault
returns-in_default-clause-fault c =
    let (content, read, has) = c.in_ok-parts.ensures.read in
    (content, read_spelled c.args.bytes.now content read, subst (λ n. 0 < n) has.count c.in_default.ensures.asked)

pub links_of-requires : goal.links_of-requires
links_of-requires c =
    let (content, read, has) = c.in_ok-parts.ensures.read in
    let p = c.in_ok-parts.parts in
    let spelled = read_spelled c.args.bytes.now content read in
    let ends = c.in-Ok.ensures.value content.rows (records_of content c.args.bytes.now p.head p.texts.now p.records.now p.count spelled has) in
    let parts = parts_of content c.args.bytes.now p.head p.texts.now p.records.now p.count spelled has c.in-Ok.ends.items ends in record {
      parts = (content, p.texts.now, subst (AreParts content p.texts.now p.records.now) (sym c.as_slice.ensures.value) parts);
    }

pub returns-in_default-links_of-clause-fault : goal.returns-in_default-links_of-clause-fault
returns-in_default-links_of-clause-fault c =
    let (content, read, has) = c.in_ok-parts.ensures.read in
    let p = c.in_ok-parts.parts in
    let spelled = read_spelled c.args.bytes.now content read in
    let ends = c.in-Ok.ensures.value content.rows (records_of content c.args.bytes.now p.head p.texts.now p.records.now p.count spelled has) in
    let parts = parts_of content c.args.bytes.now p.head p.texts.now p.records.now p.count spelled has c.in-Ok.ends.items ends in
    let many = places_many content p.texts.now p.records.now c.in-Ok.ends.items parts in
    let long = ap length c.as_slice.ensures.value in
    (content, spelled, omega (arith, c.in_default-links_of.ensures.asked, many, long))

pub invariant_of-result : goal.invariant_of-result
invariant_of-result c =
    let (content, read, has) = c.in_ok-parts.ensures.read in
    let p = c.in_ok-parts.parts in
    let spelled = read_spelled c.args.bytes.now content read in
    let ends = c.in-Ok.ensures.value content.rows (records_of content c.args.bytes.now p.head p.texts.now p.records.now p.count spelled has) in
    let parts = parts_of content c.args.bytes.now p.head p.texts.now p.records.now p.count spelled has c.in-Ok.ends.items ends in
    let laid = subst (λ h. AreParts (content_of h p.texts.now p.records.now c.in-Ok.ends.items) p.texts.now p.records.now c.in-Ok.ends.items)
    (sym has.head) (parts_back content p.texts.now p.records.now c.in-Ok.ends.items parts) in
    let whole = content_of p.head p.texts.now p.records.now c.in-Ok.ends.items in (
      laid,
      c.in-Ok-links_of.ensures.value whole p.texts.now (subst (AreParts whole p.texts.now p.records.now) (sym c.as_slice.ensures.value) laid),
    )

pub returns-clause-read : goal.returns-clause-read
returns-clause-read c =
    let (content, read, has) = c.in_ok-parts.ensures.read in
    let p = c.in_ok-parts.parts in
    let spelled = read_spelled c.args.bytes.now content read in
    let ends = c.in-Ok.ensures.value content.rows (records_of content c.args.bytes.now p.head p.texts.now p.records.now p.count spelled has) in
    let parts = parts_of content c.args.bytes.now p.head p.texts.now p.records.now p.count spelled has c.in-Ok.ends.items ends in
    subst (λ h. IsSpelled c.args.bytes.now (content_of h p.texts.now p.records.now c.in-Ok.ends.items)) (sym has.head)
    (subst (IsSpelled c.args.bytes.now) (sym (content_back content p.texts.now p.records.now c.in-Ok.ends.items parts)) spelled)
