use Rattle.std.proofs.Common.{◌≡◌, ℕ, List, length, take, refl, ap, sym, arith, length-append}
use Rattle.std.specs.List.{flat_map}
use Rattle.std.proofs.lemmas.Option.{get_or_from_slice_get, slice_get_within}
use Rattle.fc_cert.specs.Content.{four_bytes, record_bytes}
use Rattle.fc_cert.proofs.WritingLemmas.{one_more}
use Rattle.fc_cert.proofs.lengths.records_length.Goals as goal

pub loop-i-preserved : goal.loop-i-preserved
loop-i-preserved c =
    let rows = c.args.table.now.rows in
    let i = c.loop-i.i in
    let row : List ℕ × ℕ = (c.key.result.items, c.key.ensures.value.0) in
    let there = c.key.ensures.value.1 in
    let more = one_more record_bytes rows i row row (slice_get_within rows i row there) (sym (get_or_from_slice_get rows i row row there)) in
    let piece = length-append (flat_map record_bytes (take i rows)) (record_bytes row) in
    let so_far = c.loop-i.invariant.0 in
    let most = c.loop-i.invariant.1 in
    let size = c.len.ensures.value in
    let four : length (four_bytes row.1) ≡ 4 = refl in
    let own = length-append (four_bytes row.1) row.0 in
    (omega (arith, ap length more, piece, so_far, size, four, own), omega (arith, most, size, c.key.type_inv))
