use Rattle.std.proofs.Common.{length, ap, ◌∙◌}
use Rattle.fc_cert.specs.Layout.{content_of}
use Rattle.fc_cert.proofs.LayoutLemmas.{moves_few, moves_many}
use Rattle.fc_cert.proofs.certificates.Certificate.move_count.Goals as goal

pub overflow_cast-result : goal.overflow_cast-result
overflow_cast-result c =
    let s = c.self.inside in record {
      fits = moves_few (content_of s.head s.texts.now s.records.now s.ends.items) s.texts.now s.records.now s.ends.items c.self.invariant.0;
    }

pub returns : goal.returns
returns c =
    let s = c.self.inside in record {
      value = moves_many (content_of s.head s.texts.now s.records.now s.ends.items) s.texts.now s.records.now s.ends.items c.self.invariant.0
          ∙ ap (λ v. length v.moves) c.self.view_is;
    }
