use Rattle.std.proofs.Common.{◌-◌, ◌<◌, ◌≤◌, ℕ, List, [], length, take, drop, get_or, sym, ◌∙◌, ap, subst, arith}
use Rattle.std.proofs.lemmas.Option.{slice_get-get_or}
use Rattle.fc_cert.proofs.LayoutLemmas.{cost_at, places_many, record_at_places}
use Rattle.fc_cert.proofs.record_layouts.record_in.Goals as goal

pub start_of-from-requires : goal.start_of-from-requires
start_of-from-requires c =
    let (content, texts, parts, within) = c.requires.parts in
    let many = places_many content texts c.args.records.now c.args.ends.now parts in record { within = omega (arith, many, within) }

pub bounds-ends-i : goal.bounds-ends-i
bounds-ends-i c =
    let (content, texts, parts, within) = c.requires.parts in
    let many = places_many content texts c.args.records.now c.args.ends.now parts in
    let lt : c.args.i < length c.args.ends.now = omega (arith, many, within) in
    lt

pub slice_bounds-result-count : goal.slice_bounds-result-count
slice_bounds-result-count c =
    let (content, texts, parts, within) = c.requires.parts in
    let stands = record_at_places content texts c.args.records.now c.args.ends.now parts c.args.i ([], 0) within in
    subst (λ n. n ≤ get_or c.args.ends.now c.args.i 0) (sym c.start_of-from.ensures.value) stands.before

pub slice_bounds-result-start : goal.slice_bounds-result-start
slice_bounds-result-start c = slice_bounds-result-count c

pub slice_bounds-result-end : goal.slice_bounds-result-end
slice_bounds-result-end c =
    let (content, texts, parts, within) = c.requires.parts in
    let stands = record_at_places content texts c.args.records.now c.args.ends.now parts c.args.i ([], 0) within in
    let le : get_or c.args.ends.now c.args.i 0 ≤ length c.args.records.now = stands.within in
    le

pub returns : goal.returns
returns c = record {
  value = λ content texts parts within.
      let d : List ℕ × ℕ = ([], 0) in
      let stands = record_at_places content texts c.args.records.now c.args.ends.now parts c.args.i d within in (
        get_or content.rows c.args.i d,
        slice_get-get_or content.rows c.args.i d within,
        ap (λ n. take (get_or c.args.ends.now c.args.i 0 - n) (drop n c.args.records.now)) c.start_of-from.ensures.value ∙ stands.bytes_are,
        cost_at content texts c.args.records.now c.args.ends.now parts c.args.i d within,
      );
}
