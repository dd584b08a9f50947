use Rattle.std.proofs.Common.{◌≡◌, ◌∙◌, ◌+◌, ◌-◌, drop, length, refl, sym, subst, ap, arith, length-append}
use Rattle.std.proofs.lemmas.Bool.{false≢true}
use Rattle.fc_moves.specs.GameRules.{IsPositionOf}
use Rattle.fc_moves.proofs.StepLemmas.{step_keeps}
use Rattle.fc_lists.specs.Weaving.{IsRefusedEntry, Weaves, goes_on, passes}
use Rattle.fc_lists.proofs.WeaveLemmas.{begins_at, entries_at, played_at, played_run, played_texts, refused_at, weaves_listed}
use Rattle.fc_lists.proofs.weaving.weave_entries.Goals as goal

pub loop-e-init : goal.loop-e-init
loop-e-init g c = record {
  position = subst (IsPositionOf (g.G.Game.game c.args.game.now)) (sym c.copy-board.ensures.value) c.requires.position;
  woven = begins_at _ _ _ _ _ c.new-moves.ensures.items c.copy-board.ensures.value;
  count = refl;
  few = omega arith;
}

pub loop-e-preserved-then-is_home_before : goal.loop-e-preserved-then-is_home_before
loop-e-preserved-then-is_home_before g c =
    let game = g.G.Game.game c.args.game.now in
    let start = c.args.start.now in
    let list = c.args.list.now in
    let before = subst (λ l. Weaves game start list l (record { moves = c.loop-e.moves.items; listed = c.loop-e.listed }) c.loop-e.board)
    (entries_at list c.loop-e.e-index c.e-item.result c.loop-e-test.true c.e-item.is) c.loop-e.invariant.woven in
    let sent = c.in_ok-send_home_for.ensures in
    let few = c.loop-e.invariant.few in
    record {
      position = sent.position;
      woven = passes _ _ _ _ (sent.woven start list (drop (c.loop-e.e-index + 1) list) c.loop-e.listed before) (c.if-is_home_before.ensures.value.0 refl);
      count = ap (λ n. n + 1) c.loop-e.invariant.count;
      few = omega (arith, few);
    }

pub returns-in_default-clause-fault : goal.returns-in_default-clause-fault
returns-in_default-clause-fault g c =
    let game = g.G.Game.game c.args.game.now in
    let start = c.args.start.now in
    let list = c.args.list.now in
    let before = subst (λ l. Weaves game start list l (record { moves = c.loop-e.moves.items; listed = c.loop-e.listed }) c.loop-e.board)
    (entries_at list c.loop-e.e-index c.e-item.result c.loop-e-test.true c.e-item.is) c.loop-e.invariant.woven in
    let sent = c.in_ok-send_home_for.ensures in
    subst (λ n. IsRefusedEntry game start list (n + 1)) (sym c.loop-e.invariant.count)
    (refused_at game start list c.loop-e.e-index c.e-item.result _ c.send_home_for.new.board c.loop-e-test.true
    (sent.woven start list (drop (c.loop-e.e-index + 1) list) c.loop-e.listed before) c.in_default.ensures.allowed
    (λ passed. false≢true (c.if-is_home_before.ensures.value.1 passed)) sent.end)

pub loop-e-preserved : goal.loop-e-preserved
loop-e-preserved g c =
    let game = g.G.Game.game c.args.game.now in
    let start = c.args.start.now in
    let list = c.args.list.now in
    let before = subst (λ l. Weaves game start list l (record { moves = c.loop-e.moves.items; listed = c.loop-e.listed }) c.loop-e.board)
    (entries_at list c.loop-e.e-index c.e-item.result c.loop-e-test.true c.e-item.is) c.loop-e.invariant.woven in
    let sent = c.in_ok-send_home_for.ensures in
    let few = c.loop-e.invariant.few in
    record {
      position = step_keeps _ _ _ _ sent.position c.apply.ensures.step;
      woven = subst (λ l. Weaves game start list (drop (c.loop-e.e-index + 1) list) (record { moves = l; listed = c.loop-e.listed + 1 }) c.apply.new.position)
          (sym c.in-Ok.ensures.items)
          (goes_on _ _ _ _ _ _ (sent.woven start list (drop (c.loop-e.e-index + 1) list) c.loop-e.listed before) c.in-Some.ensures.allowed.0 c.apply.ensures.step);
      count = ap (λ n. n + 1) c.loop-e.invariant.count;
      few = omega (arith, few);
    }

pub overflow_sub-inserted : goal.overflow_sub-inserted
overflow_sub-inserted g c =
    let few = weaves_listed (g.G.Game.game c.args.game.now) c.args.start.now c.args.list.now (drop c.loop-e.e-index c.args.list.now)
    (record { moves = c.loop-e.moves.items; listed = c.loop-e.listed }) c.loop-e.board c.loop-e.invariant.woven in
    let size : length c.extend_from_slice.new.self.items ≡ length c.loop-e.moves.items + length c.as_slice.result.now =
    ap length c.in_ok-extend_from_slice.ensures.items ∙ length-append c.loop-e.moves.items c.as_slice.result.now in
    let all = c.len.ensures in omega (arith, few, size, all)

pub returns-clause-played : goal.returns-clause-played
returns-clause-played g c =
    played_at (g.G.Game.game c.args.game.now) c.args.start.now c.args.list.now c.loop-e.moves.items c.in_ok-homes.homes.items c.as_slice.result.now
    c.extend_from_slice.new.self.items c.loop-e.listed _ c.loop-e.board c.loop-e.e-index c.loop-e-test.false c.loop-e.invariant.woven
    c.in_ok-homes.ensures.ended c.in_ok-extend_from_slice.ensures.items c.as_slice.ensures.value (ap (λ n. n - c.loop-e.listed) (c.len.ensures ∙ c.extend_from_slice.new.self.ok.0))

pub returns-clause-run : goal.returns-clause-run
returns-clause-run g c =
    played_run (g.G.Game.game c.args.game.now) c.args.start.now c.args.list.now c.extend_from_slice.new.self.items (c.len.result - c.loop-e.listed)
    (played_at (g.G.Game.game c.args.game.now) c.args.start.now c.args.list.now c.loop-e.moves.items c.in_ok-homes.homes.items c.as_slice.result.now
    c.extend_from_slice.new.self.items c.loop-e.listed (c.len.result - c.loop-e.listed) c.loop-e.board c.loop-e.e-index c.loop-e-test.false c.loop-e.invariant.woven
    c.in_ok-homes.ensures.ended c.in_ok-extend_from_slice.ensures.items c.as_slice.ensures.value (ap (λ n. n - c.loop-e.listed) (c.len.ensures ∙ c.extend_from_slice.new.self.ok.0)))

pub returns-clause-texts : goal.returns-clause-texts
returns-clause-texts g c =
    played_texts (g.G.Game.game c.args.game.now) c.args.start.now c.args.list.now c.extend_from_slice.new.self.items (c.len.result - c.loop-e.listed) c.requires.position
    (played_at (g.G.Game.game c.args.game.now) c.args.start.now c.args.list.now c.loop-e.moves.items c.in_ok-homes.homes.items c.as_slice.result.now
    c.extend_from_slice.new.self.items c.loop-e.listed (c.len.result - c.loop-e.listed) c.loop-e.board c.loop-e.e-index c.loop-e-test.false c.loop-e.invariant.woven
    c.in_ok-homes.ensures.ended c.in_ok-extend_from_slice.ensures.items c.as_slice.ensures.value (ap (λ n. n - c.loop-e.listed) (c.len.ensures ∙ c.extend_from_slice.new.self.ok.0)))
