use Rattle.std.proofs.Common.{◌≡◌, ◌+◌, ◌<◌, length, slice_index, sym, ◌∙◌, ap, subst, arith}
use Rattle.std.proofs.lemmas.List.{get_or_default}
use Rattle.fc_cert.specs.Layout.{content_of}
use Rattle.fc_cert.specs.inner.Chains.{IsLast, place_of, places_of}
use Rattle.fc_cert.proofs.certificates.Certificate.last_of.Goals as goal

pub place_of-requires : goal.place_of-requires
place_of-requires c = record { few = omega (arith, c.len-count.ensures.value, c.len-count.ensures.content.count) }

pub index-requires : goal.index-requires
index-requires c =
    let s = c.self.inside in
    let content = content_of s.head s.texts.now s.records.now s.ends.items in
    let many : c.len-count.result ≡ length content.rows = c.len-count.ensures.value ∙ ap (λ v. length v.rows) (sym c.self.view_is) in
    let some : 0 < length content.rows = omega (arith, many, c.if-count-eq0.false) in
    let chained = c.self.invariant.1 some in
    let lt : c.len-count.result + c.place_of.result < length s.links.items = omega (arith, chained.count, c.place_of.ensures.below, many) in
    subst (λ n. c.len-count.result + c.place_of.result < n) (sym s.links.ok.0) lt

pub returns : goal.returns
returns c =
    let s = c.self.inside in
    let content = content_of s.head s.texts.now s.records.now s.ends.items in
    let rows = content.rows in
    let key = c.args.key.now in
    let many : c.len-count.result ≡ length rows = c.len-count.ensures.value ∙ ap (λ v. length v.rows) (sym c.self.view_is) in
    let some : 0 < length rows = omega (arith, many, c.if-count-eq0.false) in
    let chained = c.self.invariant.1 some in
    let place : c.place_of.result ≡ place_of (length rows) key = c.place_of.ensures.value ∙ ap (λ n. place_of n key) many in
    let below : place_of (length rows) key < length rows + 1024 = omega (arith, place, many, c.place_of.ensures.below) in
    let at : c.len-count.result + c.place_of.result ≡ length rows + place_of (length rows) key = omega (arith, place, many) in
    let lt : c.len-count.result + c.place_of.result < length s.links.items = omega (arith, chained.count, c.place_of.ensures.below, many) in
    let link = c.index.ensures ∙ get_or_default s.links.items (c.len-count.result + c.place_of.result) c.index.result.now 0 lt
    ∙ ap (slice_index s.links.items) at in
    let last = subst (IsLast (places_of rows) (place_of (length rows) key) (length rows)) (sym link) (chained.places_linked (place_of (length rows) key) below) in
    record {
      last = subst (λ v. IsLast (places_of v.rows) (place_of (length v.rows) key) (length v.rows) c.index.result.now) c.self.view_is last;
    }
