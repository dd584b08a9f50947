use Rattle.std.proofs.Common.{get_or, arith}
use Rattle.std.proofs.lemmas.Nat.{and_le_l}
use Rattle.std.proofs.lemmas.Nat.Bits.{bit_at-lt, shr_and_one}
use Rattle.fc_bound.specs.Rows.{no_row}
use Rattle.fc_bound.specs.inner.Tied.{WaitsBy}
use Rattle.fc_bound.proofs.TiedLemmas.{in_first, in_second, lt64, two_tied, two_within}
use Rattle.fc_bound.proofs.ring_search.pair.Goals as goal

pub loop-rest-init : goal.loop-rest-init
loop-rest-init c =
    let waiting = (get_or c.args.rows.now c.args.card no_row).waiting in
    record {
      below = omega (arith, and_le_l c.args.others waiting, c.requires.others);
      within = in_first c.args.others waiting;
      wait = in_second c.args.others waiting;
    }

pub returns-then-rows-other-ne0-clause-tied : goal.returns-then-rows-other-ne0-clause-tied
returns-then-rows-other-ne0-clause-tied c =
    let rows = c.args.rows.now in
    let card = c.args.card in
    let other = c.least_card-other in
    let waiting = (get_or rows other.result no_row).waiting in
    let waits : WaitsBy rows card other.result = omega (arith, c.if-rows-other-ne0.true, shr_and_one waiting card, bit_at-lt waiting card) in
    two_tied rows card other.result (lt64 c.requires.card) (lt64 other.ensures.below) waits (c.loop-rest.invariant.wait other.result other.ensures.set)

pub returns-then-rows-other-ne0-clause-within : goal.returns-then-rows-other-ne0-clause-within
returns-then-rows-other-ne0-clause-within c =
    let other = c.least_card-other in
    two_within c.args.others c.args.card other.result (lt64 c.requires.card) (lt64 other.ensures.below)
    (c.loop-rest.invariant.within other.result other.ensures.set)
