use Rattle.std.proofs.Common.{length, get_or, refl}
use Rattle.std.specs.List.{flat_map}
use Rattle.fc_cards.specs.declared.places.Place.TheVariants.{Column}
use Rattle.fc_moves.specs.declared.steps.Move.{Move}
use Rattle.fc_moves.specs.MoveText.{move_text}
use Rattle.fc_cert.specs.Content.{four_bytes}
use Rattle.fc_cert.proofs.WritingLemmas.{cut_piece, cut_told, cut_at_head, cut_next}
use Rattle.fc_cert.proofs.certificate_writers.write_moves.Goals as goal

pub returns-in_err-write_all : goal.returns-in_err-write_all
returns-in_err-write_all g c =
    let moves = c.args.moves.now in
    let write = c.in_err-write_all in
    record {
      ends = cut_told _ _ _ c.from_residual.result c.from_residual.ensures.0
          (cut_at_head (four_bytes (length moves)) (flat_map move_text moves) c.to_be_bytes.ensures
          (cut_piece write.ensures.front write.ensures.fault.0 write.ensures.unmoved));
    }

pub returns-in_err-write_all-2 : goal.returns-in_err-write_all-2
returns-in_err-write_all-2 g c =
    let moves = c.args.moves.now in
    let i = c.loop-m.m-index in
    let d : Move = record { from = Column 0; to = Column 0 } in
    let write = c.in_err-write_all-2 in
    let residual = c.from_residual-in_err-write_all-2 in
    record {
      ends = cut_told _ _ _ residual.result residual.ensures.0
          (cut_next move_text (four_bytes (length moves)) moves i (get_or moves i d) d c.loop-m-test.true (refl {a = get_or moves i d}) c.move_text.ensures.value
          c.loop-m.invariant (cut_piece write.ensures.front write.ensures.fault.0 write.ensures.unmoved));
    }
