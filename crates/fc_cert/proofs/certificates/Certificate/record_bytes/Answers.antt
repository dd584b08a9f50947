use Rattle.std.proofs.Common.{◌≡◌, ◌<◌, length, Some, sym, subst}
use Rattle.std.specs.Prelude.{slice_get}
use Rattle.fc_cert.specs.Layout.{content_of}
use Rattle.fc_cert.specs.inner.Layout.{AreParts}
use Rattle.fc_cert.proofs.certificates.Certificate.record_bytes.Goals as goal

pub record_in-requires : goal.record_in-requires
record_in-requires c =
    let s = c.self.inside in
    let content = content_of s.head s.texts.now s.records.now s.ends.items in
    let within = subst (λ v. c.args.i < length v.rows) (sym c.self.view_is) c.requires.within in
    let parts = subst (AreParts content s.texts.now s.records.now) (sym c.as_slice.ensures.value) c.self.invariant.0 in record {
      parts = (content, s.texts.now, parts, within);
    }

pub returns : goal.returns
returns c =
    let s = c.self.inside in
    let content = content_of s.head s.texts.now s.records.now s.ends.items in
    let within = subst (λ v. c.args.i < length v.rows) (sym c.self.view_is) c.requires.within in
    let parts = subst (AreParts content s.texts.now s.records.now) (sym c.as_slice.ensures.value) c.self.invariant.0 in
    let (row, there, bytes, small) = c.record_in.ensures.value content s.texts.now parts within in record {
      value = (row, subst (λ v. slice_get v.rows c.args.i ≡ Some row) c.self.view_is there, bytes, small);
    }
