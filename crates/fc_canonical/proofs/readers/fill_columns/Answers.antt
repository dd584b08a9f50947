use Rattle.std.proofs.Common.{arith}
use Rattle.std.proofs.lemmas.Option.{MatchOption-at_some}
use Rattle.fc_canonical.proofs.ReadLemmas.{front_filled, filled_next, filled_more, surely, no_column, next_holds}
use Rattle.fc_canonical.proofs.readers.fill_columns.Goals as goal

pub unwrap-requires : goal.unwrap-requires
unwrap-requires c =
    let front = front_filled c.args.bytes.now c.loop-i.rest.now c.loop-i.columns c.loop-i.i c.loop-i.invariant c.loop-i-test.true in
    let s = c.requires.spelled in
    surely c.split_column.result _ c.split_column.ensures.none
    (λ none. no_column c.args.bytes.now c.loop-i.rest.now c.loop-i.i front c.loop-i-test.true none s.0 s.1 s.2 s.3 s.4)

pub push_cards-requires-clause-cards : goal.push_cards-requires-clause-cards
push_cards-requires-clause-cards c =
    let front = front_filled c.args.bytes.now c.loop-i.rest.now c.loop-i.columns c.loop-i.i c.loop-i.invariant c.loop-i-test.true in
    let found = MatchOption-at_some _ _ c.unwrap.result c.unwrap.ensures c.split_column.ensures.found in
    let s = c.requires.spelled in
    (next_holds c.args.bytes.now c.loop-i.rest.now c.unwrap.result.0.now c.unwrap.result.1.now c.loop-i.i front c.loop-i-test.true
    found s.0 s.1 s.2 s.3 s.4).all

pub push_cards-requires-clause-room : goal.push_cards-requires-clause-room
push_cards-requires-clause-room c =
    let front = front_filled c.args.bytes.now c.loop-i.rest.now c.loop-i.columns c.loop-i.i c.loop-i.invariant c.loop-i-test.true in
    let found = MatchOption-at_some _ _ c.unwrap.result c.unwrap.ensures c.split_column.ensures.found in
    let s = c.requires.spelled in
    let holds = next_holds c.args.bytes.now c.loop-i.rest.now c.unwrap.result.0.now c.unwrap.result.1.now c.loop-i.i front
    c.loop-i-test.true found s.0 s.1 s.2 s.3 s.4 in
    omega (
      arith,
      holds.few,
      filled_next c.args.bytes.now c.loop-i.rest.now c.loop-i.columns c.loop-i.i c.index-columns-i.result c.loop-i.invariant
          c.loop-i-test.true,
    )

pub loop-i-preserved : goal.loop-i-preserved
loop-i-preserved c =
    let found = MatchOption-at_some _ _ c.unwrap.result c.unwrap.ensures c.split_column.ensures.found in
    filled_more c.args.bytes.now c.loop-i.rest.now c.unwrap.result.1.now c.unwrap.result.0.now c.loop-i.columns c.loop-i.i
    c.index-columns-i.result _ c.loop-i.invariant c.loop-i-test.true found c.push_cards.ensures.after
