use Rattle.std.proofs.Common.{ℕ, ◌≤◌, ◌∙◌, List, length, sym, ap, arith}
use Rattle.std.specs.List.{flat_map}
use Rattle.std.proofs.lemmas.Option.{get_or_from_slice_get, slice_get_within}
use Rattle.fc_cert.specs.Content.{four_bytes, record_bytes}
use Rattle.fc_cert.proofs.WritingLemmas.{cut_piece, cut_told, cut_at_head, gathers_on, gathers_end, gathers_next, gathers_cut_next, row_read}
use Rattle.fc_cert.proofs.certificate_writers.write_rows.Goals as goal

pub returns-in_err-write_all : goal.returns-in_err-write_all
returns-in_err-write_all g c =
    let rows = c.args.table.now.rows in
    let write = c.in_err-write_all in
    record {
      ends = cut_told _ _ _ c.from_residual.result c.from_residual.ensures.0
          (cut_at_head (four_bytes (length rows)) (flat_map record_bytes rows) (c.to_be_bytes.ensures ∙ ap four_bytes c.len.ensures.value)
          (cut_piece write.ensures.front write.ensures.fault.0 write.ensures.unmoved));
    }

pub returns-in_err-make_room : goal.returns-in_err-make_room
returns-in_err-make_room g c =
    let rows = c.args.table.now.rows in
    let residual = c.from_residual-in_err-make_room in
    record {
      ends = cut_told _ _ _ residual.result residual.ensures.0
          (gathers_cut_next record_bytes (four_bytes (length rows)) rows c.loop-i.i c.loop-i.invariant c.in_err-make_room.ensures.cut);
    }

pub loop-i-preserved : goal.loop-i-preserved
loop-i-preserved g c =
    let rows = c.args.table.now.rows in
    let i = c.loop-i.i in
    let row : List ℕ × ℕ = (c.key.result.items, c.cost.result) in
    let there = row_read rows i row.0 c.cost.ensures.value.0 row.1 c.key.ensures.value.0 c.key.ensures.value.1 c.cost.ensures.value.1 in
    gathers_next record_bytes (four_bytes (length rows)) rows i row row (slice_get_within rows i row there)
    (sym (get_or_from_slice_get rows i row row there)) c.push_record.ensures.value
    (gathers_on c.loop-i.invariant c.in_ok-make_room.ensures.moved)

pub returns : goal.returns
returns g c =
    let rows = c.args.table.now.rows in
    let write = c.write_all-2 in
    let past : length rows ≤ c.loop-i.i = let e = c.loop-i-test.false in let n = c.len-i-end.ensures.value in omega (arith, e, n) in
    record {
      ends = gathers_end record_bytes (four_bytes (length rows)) rows c.loop-i.i write.result past c.as_slice.ensures.value
          c.loop-i.invariant write.ensures.front write.ensures.whole write.ensures.fault write.ensures.unmoved;
    }
