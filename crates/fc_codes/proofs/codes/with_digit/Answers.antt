use Rattle.std.proofs.Common.{◌/◌, ◌*◌, ◌^◌, bit_and, arith}
use Rattle.fc_codes.proofs.WordLemmas.{digit_masked, digit_fits, taken_out, put_in, with_number-small}
use Rattle.fc_codes.proofs.codes.with_digit.Goals as goal

pub overflow_sub-result : goal.overflow_sub-result
overflow_sub-result c =
    let w = c.args.word in
    let i = c.args.place in
    let masked = digit_masked w i in
    let out = taken_out w i (bit_and (w / 2 ^ (3 * i)) 7) masked c.requires.place in
    omega (arith, out, digit_fits w i)

pub overflow_add-result : goal.overflow_add-result
overflow_add-result c =
    let w = c.args.word in
    let i = c.args.place in
    let put = put_in w i c.args.number (bit_and (w / 2 ^ (3 * i)) 7) (digit_masked w i) c.requires.number c.requires.place in
    let small = with_number-small 21 w i c.args.number c.requires.small c.requires.place c.requires.number in
    omega (arith, put, small)

pub returns : goal.returns
returns c =
    let w = c.args.word in
    let i = c.args.place in
    record {
      value = put_in w i c.args.number (bit_and (w / 2 ^ (3 * i)) 7) (digit_masked w i) c.requires.number c.requires.place;
    }
