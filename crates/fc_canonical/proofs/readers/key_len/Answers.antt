use Rattle.std.proofs.Common.{drop, length, ap, arith}
use Rattle.std.specs.List.{flat_map}
use Rattle.std.proofs.lemmas.List.{length-drop, length-append}
use Rattle.fc_canonical.specs.Key.{column_bytes}
use Rattle.fc_canonical.proofs.ReadLemmas.{front_none, front_more, no_extent, extent_of}
use Rattle.fc_canonical.proofs.readers.key_len.Goals as goal

pub loop-init : goal.loop-init
loop-init c = front_none (drop 8 c.args.bytes.now) c.in_ok-rest.rest.now c.in_ok-rest.ensures.found.2

pub returns-in_err-after-clause-none : goal.returns-in_err-after-clause-none
returns-in_err-after-clause-none c =
    rw c.from_residual-in_err-after.ensures
    (no_extent c.args.bytes.now c.loop.rest.now c.loop.counter c.loop.invariant c.loop-test.true c.in_err-after.ensures.none)

pub loop-preserved : goal.loop-preserved
loop-preserved c =
    front_more (drop 8 c.args.bytes.now) c.loop.rest.now c.in_ok-after.after.now c.in_ok-after.field-0-0.now c.loop.counter
    c.loop.invariant c.in_ok-after.ensures.found

pub overflow_sub-result : goal.overflow_sub-result
overflow_sub-result c =
    omega (
      arith,
      length-drop 8 c.args.bytes.now,
      ap length c.loop.invariant.parts,
      length-append (flat_map column_bytes c.loop.invariant.columns) c.loop.rest.now,
    )

pub returns-clause-found : goal.returns-clause-found
returns-clause-found c =
    extent_of c.args.bytes.now c.loop.rest.now c.loop.counter c.in_ok-rest.ensures.found.0 c.loop.invariant (omega arith)
