use Rattle.std.proofs.Common.{◌<◌, ◌^◌, length, sym, ◌∙◌, ap, subst}
use Rattle.fc_cert.specs.Layout.{content_of}
use Rattle.fc_cert.proofs.LayoutLemmas.{places_many, rows_few}
use Rattle.fc_cert.proofs.certificates.Certificate.len.Goals as goal

pub overflow_cast-result : goal.overflow_cast-result
overflow_cast-result c =
    let s = c.self.inside in record {
      fits = subst (λ n. n < 2 ^ 32) (sym (c.len.ensures ∙ s.ends.ok.0))
          (rows_few (content_of s.head s.texts.now s.records.now s.ends.items) s.texts.now s.records.now s.ends.items c.self.invariant.0);
    }

pub returns-clause-value : goal.returns-clause-value
returns-clause-value c =
    let s = c.self.inside in
    c.len.ensures ∙ s.ends.ok.0 ∙ places_many (content_of s.head s.texts.now s.records.now s.ends.items) s.texts.now s.records.now s.ends.items c.self.invariant.0
    ∙ ap (λ v. length v.rows) c.self.view_is
