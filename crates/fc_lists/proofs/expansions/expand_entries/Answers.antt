use Rattle.std.proofs.Common.{◌<◌, length, take, subst, sym, ◌∙◌}
use Rattle.fc_replay.specs.Token.{move_tokens}
use Rattle.fc_lists.specs.Plays.{IsUnplayed}
use Rattle.fc_lists.proofs.ExpandedLemmas.{expanded_of, unplayed_of}
use Rattle.fc_lists.proofs.PlayedLemmas.{expanded_texts}
use Rattle.fc_lists.proofs.expansions.expand_entries.Goals as goal

pub returns-in-Err-clause-fault : goal.returns-in-Err-clause-fault
returns-in-Err-clause-fault g c =
    let tokens = take c.args.most (move_tokens c.args.text.now) in
    subst (IsUnplayed (g.G.Game.game c.args.game.now) c.args.position.now tokens) (sym c.list_fault.ensures.value)
    (unplayed_of (g.G.Game.game c.args.game.now) c.args.position.now tokens c.in_ok-entries.entries.items c.as_slice.result.now c.as_slice.ensures.value
    c.in_ok-entries.ensures.spelled c.in-Err.fault c.in-Err.ensures.fault)

pub returns-then-len-clause-fault : goal.returns-then-len-clause-fault
returns-then-len-clause-fault g c =
    let tokens = take c.args.most (move_tokens c.args.text.now) in
    let (last, expanded, won) = c.in-Ok.ensures.expanded in
    let long : 4294967295 < length c.in-Ok.moves.items = subst (λ n. 4294967295 < n) (c.len.ensures ∙ c.in-Ok.moves.ok.0) c.if-len.true in (
      c.in-Ok.moves.items,
      expanded_of (g.G.Game.game c.args.game.now) c.args.position.now tokens c.in_ok-entries.entries.items c.as_slice.result.now c.as_slice.ensures.value
          c.in_ok-entries.ensures.spelled c.in-Ok.moves.items last expanded won c.in-Ok.ensures.few,
      long,
    )

pub returns-clause-expanded : goal.returns-clause-expanded
returns-clause-expanded g c =
    let tokens = take c.args.most (move_tokens c.args.text.now) in
    let (last, expanded, won) = c.in-Ok.ensures.expanded in
    expanded_of (g.G.Game.game c.args.game.now) c.args.position.now tokens c.in_ok-entries.entries.items c.as_slice.result.now c.as_slice.ensures.value
    c.in_ok-entries.ensures.spelled c.in-Ok.moves.items last expanded won c.in-Ok.ensures.few

pub returns-clause-texts : goal.returns-clause-texts
returns-clause-texts g c =
    let tokens = take c.args.most (move_tokens c.args.text.now) in
    let (last, expanded, won) = c.in-Ok.ensures.expanded in
    expanded_texts (g.G.Game.game c.args.game.now) c.args.position.now tokens c.in-Ok.moves.items c.requires.fits
    (expanded_of (g.G.Game.game c.args.game.now) c.args.position.now tokens c.in_ok-entries.entries.items c.as_slice.result.now c.as_slice.ensures.value
    c.in_ok-entries.ensures.spelled c.in-Ok.moves.items last expanded won c.in-Ok.ensures.few)
