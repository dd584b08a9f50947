use Rattle.std.proofs.Common.{sym, ◌∙◌, ap}
use Rattle.fc_cert.specs.Claim.{written_form}
use Rattle.fc_cert.proofs.WritingLemmas.{cut_piece, cut_told, whole_piece, third_cut, third_ends}
use Rattle.fc_cert.proofs.certificate_writers.write_head.Goals as goal

pub returns-in_err-write_all-in-Third : goal.returns-in_err-write_all-in-Third
returns-in_err-write_all-in-Third g c =
    let form = sym (c.in-Third.ensures.value ∙ ap (λ b. written_form b c.args.kind) c.bound.ensures.value) in
    let write = c.in_err-write_all-in-Third in
    record {
      ends = cut_told _ _ _ c.from_residual.result c.from_residual.ensures.0
          (third_cut (g.G.Game.game c.args.game.now) c.args.table.now c.args.kind c.args.floor form c.third_head-head.ensures.value
          (cut_piece write.ensures.front write.ensures.fault.0 write.ensures.unmoved));
    }

pub returns-in_ok-write_all-in-Third : goal.returns-in_ok-write_all-in-Third
returns-in_ok-write_all-in-Third g c =
    let form = sym (c.in-Third.ensures.value ∙ ap (λ b. written_form b c.args.kind) c.bound.ensures.value) in
    let write = c.in_ok-write_all-in-Third in
    record {
      ends = third_ends _ (g.G.Game.game c.args.game.now) c.args.table.now c.args.kind c.args.floor form c.third_head-head.ensures.value
          (whole_piece write.ensures.whole write.ensures.fault.1 write.ensures.stays) c.write_floor.result c.write_floor.ensures.ends;
    }
