use Rattle.std.proofs.Common.{rules, ◌≡◌, ◌+◌, ◌*◌, ◌<◌, length, replicate, set, slice_index, refl, sym, ◌∙◌, ap, ap₂, subst, arith}
use Rattle.std.proofs.lemmas.List.{get_or_default, get_or-replicate, length-set}
use Rattle.fc_cert.specs.inner.Chains.{AreChained, place_of, places_of}
use Rattle.fc_cert.proofs.ChainLemmas.{none_chained, one_more_chained}
use Rattle.fc_cert.proofs.LayoutLemmas.{places_many}
use Rattle.fc_cert.proofs.chains.links_of.Goals as goal

pub returns-then-count-eq0-clause-value : goal.returns-then-count-eq0-clause-value
returns-then-count-eq0-clause-value c = λ content texts parts some.
    let many = places_many content texts c.args.records.now c.args.ends.now parts in absurd (omega (arith, many, some))

pub loop-i-init : goal.loop-i-init
loop-i-init c =
    let links = c.in_ok-links.links.items in
    let many = 2 * length c.args.ends.now + 1024 in
    let zeros : links ≡ replicate many 0 = c.in_ok-links.ensures.items_if_clones_equal (λ y is. search rules) in
    let long : length links ≡ many = sym c.in_ok-links.links.ok.0 ∙ c.in_ok-links.ensures.len in
    record {
      long = long;
      chained = λ content texts parts.
          let rows = places_many content texts c.args.records.now c.args.ends.now parts in
          none_chained content.rows links (omega (arith, long, rows))
          (λ i lt. ap (λ l. slice_index l i) zeros ∙ get_or-replicate many i 0 0 (omega (arith, lt, long)));
    }

pub key_in-requires : goal.key_in-requires
key_in-requires c =
    let (content, texts, parts) = c.requires.parts in
    let many = places_many content texts c.args.records.now c.args.ends.now parts in
    let within : c.loop-i.i < length content.rows = omega (arith, many) in record { parts = (content, texts, parts, within) }

pub loop-i-preserved : goal.loop-i-preserved
loop-i-preserved c =
    let links = c.loop-i.links.items in
    let k = c.loop-i.i in
    let head = length c.args.ends.now + c.place_of.result in
    let once = set links k c.index.result.now in
    record {
      long = length-set once head (k + 1) ∙ length-set links k c.index.result.now ∙ c.loop-i.invariant.long;
      chained = λ content texts parts.
          let rows = content.rows in
          let many = places_many content texts c.args.records.now c.args.ends.now parts in
          let within : k < length rows = omega (arith, many) in
          let place : c.place_of.result ≡ places_of rows k = c.place_of.ensures.value ∙ ap₂ place_of many (c.key_in.ensures.value content texts parts within) in
          let below : places_of rows k < length rows + 1024 = omega (arith, place, many, c.place_of.ensures.below) in
          let at : head ≡ length rows + places_of rows k = omega (arith, place, many) in
          let lt : head < length links = omega (arith, c.loop-i.invariant.long, c.place_of.ensures.below) in
          let link = c.index.ensures ∙ get_or_default links head c.index.result.now 0 lt in
          one_more_chained rows k head links once (set once head (k + 1)) (c.loop-i.invariant.chained content texts parts) within below at
          (ap (set links k) link) refl;
    }

pub returns-clause-value : goal.returns-clause-value
returns-clause-value c = λ content texts parts some.
    let many = places_many content texts c.args.records.now c.args.ends.now parts in
    let all : c.loop-i.i ≡ length content.rows = omega (arith, many) in
    subst (λ n. AreChained content.rows n c.loop-i.links.items) all (c.loop-i.invariant.chained content texts parts)
