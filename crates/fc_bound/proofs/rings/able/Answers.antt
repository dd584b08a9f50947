use Rattle.std.proofs.Common.{◌<◌, ◌^◌, bit_or, w64, arith}
use Rattle.std.specs.Int.{bit_not}
use Rattle.std.proofs.lemmas.Nat.{and_le_l, or_lt}
use Rattle.fc_bound.proofs.FamilyShown.{all_small, held_small}
use Rattle.fc_bound.proofs.TiedLemmas.{card_below, in_first, in_second, not_in, or_none_first, or_none_second}
use Rattle.fc_bound.proofs.rings.able.Goals as goal

pub returns : goal.returns
returns c =
    let b = c.args.position.now in
    let t = c.args.table.now in
    let p = c.cell-cell.ensures.whole in
    let out = bit_or t.marks.held c.args.note in
    let small : t.marks.all < 2 ^ 52 = all_small b t p c.requires.table in
    let fits : out < 2 ^ 64 = or_lt 64 t.marks.held c.args.note (omega (arith, held_small b t p c.requires.table)) c.ranges.note.fits in
    record {
      whole = p;
      below = omega (arith, and_le_l t.marks.all (bit_not w64 out), small);
      stand = λ d set. in_first t.marks.all (bit_not w64 out) d set;
      free = λ d set.
          or_none_first t.marks.held c.args.note d (not_in out d fits
          (omega (arith, card_below t.marks.all d small (in_first t.marks.all (bit_not w64 out) d set)))
          (in_second t.marks.all (bit_not w64 out) d set));
      apart = λ d set.
          or_none_second t.marks.held c.args.note d (not_in out d fits
          (omega (arith, card_below t.marks.all d small (in_first t.marks.all (bit_not w64 out) d set)))
          (in_second t.marks.all (bit_not w64 out) d set));
    }
