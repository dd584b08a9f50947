use Rattle.std.proofs.Common.{◌<◌, length, map, take, ap, arith, length-append}
use Rattle.std.specs.List.{flat_map}
use Rattle.std.proofs.lemmas.List.Sorted.{length_permutation}
use Rattle.fc_position.specs.Board.{column}
use Rattle.fc_canonical.specs.Key.{column_bytes}
use Rattle.fc_canonical.proofs.WrittenLemmas.{eight_numbers, numbers_below, room_for_column}
use Rattle.fc_canonical.proofs.keys.write_columns.Goals as goal

pub column-requires : goal.column-requires
column-requires c =
    let inside : c.loop-number.number-index < length c.args.numbers.now =
    omega (arith, length_permutation eight_numbers c.args.numbers.now c.requires.columns) in record {
      there = numbers_below c.args.numbers.now c.requires.columns c.loop-number.number-index 0 inside;
    }

pub write_column-requires : goal.write_column-requires
write_column-requires c =
    let inside : c.loop-number.number-index < length c.args.numbers.now =
    omega (arith, length_permutation eight_numbers c.args.numbers.now c.requires.columns) in
    let before = flat_map column_bytes (map (column c.args.position.now) (take c.loop-number.number-index c.args.numbers.now)) in
    record {
      room = omega (
        arith,
        ap length c.column.ensures.value,
        ap length c.loop-number.invariant,
        length-append c.args.key.now.items before,
        c.requires.front,
        room_for_column c.args.position.now c.args.numbers.now c.loop-number.number-index c.requires.whole c.requires.columns inside,
      );
    }
