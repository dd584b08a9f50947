use Rattle.std.proofs.Common.{◌≡◌, ◌≤◌, ◌-◌, length, sym, ◌∙◌, ap, subst, rules, arith}
use Rattle.fc_moves.specs.GameRules.{IsPositionOf}
use Rattle.fc_moves.specs.Run.{Run}
use Rattle.fc_moves.proofs.StepLemmas.{run_keeps}
use Rattle.fc_home.specs.Settles.{SettlesBy}
use Rattle.fc_best_first.proofs.KeptLemmas.{stands_within, same_entry}
use Rattle.fc_search.specs.inner.Walk.{IsAtClass, frame_of_problem}
use Rattle.fc_space.specs.Ways.{LeadsWithin}
use Rattle.fc_codes.specs.State.{IsCodeOf}
use Rattle.fc_codes.specs.Spelled.{board_of_code}
use Rattle.fc_moves.proofs.ClassLemmas.{class-sym}
use Rattle.fc_search.proofs.RowLemmas.{stored_name}
use Rattle.fc_search.proofs.WalkLemmas.{walk_begins, walked_on, leads_on, next_on}
use Rattle.fc_search.proofs.position_searches.Search.moves_to.Goals as goal

pub loop-next-init : goal.loop-next-init
loop-next-init g c =
    let now = c.args.self.now in
    let sp = c.space-space.result.now in
    let e : record { game = g.G.Game.game sp.rules.game; method = record { rule = sp.rules.rule; bound = sp.rules.kind; strategy = c.self.inside.search.strategy }; start = sp.start; limit = c.self.inside.search.limit } ≡ now.problem =
    ap (λ v. record { game = g.G.Game.game v.rules.game; method = record { rule = v.rules.rule; bound = v.rules.kind; strategy = c.self.inside.search.strategy }; start = v.start; limit = c.self.inside.search.limit }) c.space-space.ensures.value
    ∙ ap (λ s. s.problem) c.self.view_is in
    let pp = subst (λ v. IsPositionOf v.game v.start) e sp.fits in
    let by = subst (λ v. SettlesBy v.game v.method.rule v.start c.settle-settling.result.items c.settle-settling.new.position) e
    (subst (λ b. SettlesBy (g.G.Game.game sp.rules.game) sp.rules.rule b c.settle-settling.result.items c.settle-settling.new.position)
    c.copy-position.ensures.value
    (subst (λ r. SettlesBy (g.G.Game.game sp.rules.game) r c.copy-position.result c.settle-settling.result.items c.settle-settling.new.position)
    c.get.ensures.value c.settle-settling.ensures.settled)) in
    let way = c.in_ok-last.ensures.way in
    let made : c.settle-settling.result.items ≡ c.in_ok-made.made.items =
    sym (c.in_ok-made.ensures.items ∙ c.as_slice.ensures.value) in
    let begins = walk_begins now.problem now.store c.known.ensures.names pp
    c.requires.sound c.in_ok-last.last c.settle-settling.result.items c.settle-settling.new.position way.0 by
    c.settle-settling.ensures.whole in (
      subst (λ l. IsAtClass now.problem.game now.store now.problem.start c.in_ok-last.last l c.settle-settling.new.position) made begins,
      way.1,
    )

pub at-requires : goal.at-requires
at-requires g c =
    let at = c.loop-next.invariant.0 in record { within = stands_within c.args.self.now.store c.loop-next.last at.0 at.1 at.2 }

pub at-requires-in-Some : goal.at-requires-in-Some
at-requires-in-Some g c =
    let now = c.args.self.now in
    let on = next_on now.store c.loop-next.last c.in-Some.next c.args.number c.loop-next.way.items c.pop.new.self.items
    c.in-Some.ensures.items c.loop-next.invariant.1 in
    record { within = stands_within now.store c.in-Some.next on.0.0 on.0.1 on.0.2 }

pub overflow_sub-most : goal.overflow_sub-most
overflow_sub-most g c =
    let now = c.args.self.now in
    let on = next_on now.store c.loop-next.last c.in-Some.next c.args.number c.loop-next.way.items c.pop.new.self.items
    c.in-Some.ensures.items c.loop-next.invariant.1 in
    let code = c.at-in-Some.result.0.now in
    let mark = c.at-in-Some.result.1 in
    let one = same_entry now.store c.in-Some.next on.0.0 code on.0.1 mark on.0.2 c.at-in-Some.ensures.stands in
    let leads = leads_on now.problem now.store c.known.ensures.names c.known.ensures.fits
    c.requires.sound c.loop-next.last c.in-Some.next c.loop-next.made.items c.loop-next.position code mark c.loop-next.invariant.0
    c.at-in-Some.ensures.stands (sym (ap (λ m. m.parent) one.1) ∙ on.0.3) on.0.4 in
    let size : length c.loop-next.made.items ≡ c.len.result = search rules in
    let le = leads.0 in omega (arith, le, size)

pub follow-requires-clause-from : goal.follow-requires-clause-from
follow-requires-clause-from g c =
    let now = c.args.self.now in
    let sp = c.space-space.result.now in
    let start : now.problem.start ≡ sp.start =
    ap (λ s. s.problem.start) (sym c.self.view_is) ∙ ap (λ s. s.start) (sym c.space-space.ensures.value) in
    let at = c.loop-next.invariant.0 in
    let one = same_entry now.store c.loop-next.last at.0 c.at.result.0.now at.1 c.at.result.1 at.2 c.at.ensures.stands in
    let is = stored_name now.problem now.store c.known.ensures.names c.known.ensures.fits c.requires.sound c.loop-next.last at.0 at.1 at.2 in
    let own = c.known.ensures.names.alike (board_of_code now.problem.start at.0) c.loop-next.position at.0 is.position.position
    (class-sym c.loop-next.position (board_of_code now.problem.start at.0) at.4) is.own in
    subst (λ s. IsCodeOf s c.loop-next.position c.at.result.0.now) start (subst (IsCodeOf now.problem.start c.loop-next.position) one.0 own)

pub follow-requires-clause-fits : goal.follow-requires-clause-fits
follow-requires-clause-fits g c =
    let now = c.args.self.now in
    let sp = c.space-space.result.now in
    let e : record { game = g.G.Game.game sp.rules.game; method = record { rule = sp.rules.rule; bound = sp.rules.kind; strategy = c.self.inside.search.strategy }; start = sp.start; limit = c.self.inside.search.limit } ≡ now.problem =
    ap (λ v. record { game = g.G.Game.game v.rules.game; method = record { rule = v.rules.rule; bound = v.rules.kind; strategy = c.self.inside.search.strategy }; start = v.start; limit = c.self.inside.search.limit }) c.space-space.ensures.value
    ∙ ap (λ s. s.problem) c.self.view_is in
    let run = subst (λ v. Run v.game v.start c.loop-next.made.items c.loop-next.position) (sym e)
    c.loop-next.invariant.0.3 in
    run_keeps (g.G.Game.game sp.rules.game) sp.start c.loop-next.position c.loop-next.made.items sp.fits run

pub follow-requires-clause-leads : goal.follow-requires-clause-leads
follow-requires-clause-leads g c =
    let now = c.args.self.now in
    let sp = c.space-space.result.now in
    let e : record { game = g.G.Game.game sp.rules.game; method = record { rule = sp.rules.rule; bound = sp.rules.kind; strategy = c.self.inside.search.strategy }; start = sp.start; limit = c.self.inside.search.limit } ≡ now.problem =
    ap (λ v. record { game = g.G.Game.game v.rules.game; method = record { rule = v.rules.rule; bound = v.rules.kind; strategy = c.self.inside.search.strategy }; start = v.start; limit = c.self.inside.search.limit }) c.space-space.ensures.value
    ∙ ap (λ s. s.problem) c.self.view_is in
    let pp = subst (λ v. IsPositionOf v.game v.start) e sp.fits in
    let at = c.loop-next.last in
    let on = next_on now.store at c.in-Some.next c.args.number c.loop-next.way.items c.pop.new.self.items
    c.in-Some.ensures.items c.loop-next.invariant.1 in
    let key = c.at-in-Some.result.0.now in
    let mark = c.at-in-Some.result.1 in
    let one = same_entry now.store c.in-Some.next on.0.0 key on.0.1 mark on.0.2 c.at-in-Some.ensures.stands in
    let leads = leads_on now.problem now.store c.known.ensures.names pp
    c.requires.sound at c.in-Some.next c.loop-next.made.items c.loop-next.position key mark c.loop-next.invariant.0
    c.at-in-Some.ensures.stands (sym (ap (λ m. m.parent) one.1) ∙ on.0.3) on.0.4 in
    let size : length c.loop-next.made.items ≡ c.len.result = search rules in (
      leads.1.0,
      subst (λ v. LeadsWithin (frame_of_problem v) c.loop-next.position key (mark.cost - c.len.result) leads.1.0) (sym e)
          (subst (λ n. LeadsWithin (frame_of_problem now.problem) c.loop-next.position key (mark.cost - n) leads.1.0) size leads.1.1),
    )

pub loop-next-preserved : goal.loop-next-preserved
loop-next-preserved g c =
    let now = c.args.self.now in
    let sp = c.space-space.result.now in
    let e : record { game = g.G.Game.game sp.rules.game; method = record { rule = sp.rules.rule; bound = sp.rules.kind; strategy = c.self.inside.search.strategy }; start = sp.start; limit = c.self.inside.search.limit } ≡ now.problem =
    ap (λ v. record { game = g.G.Game.game v.rules.game; method = record { rule = v.rules.rule; bound = v.rules.kind; strategy = c.self.inside.search.strategy }; start = v.start; limit = c.self.inside.search.limit }) c.space-space.ensures.value
    ∙ ap (λ s. s.problem) c.self.view_is in
    let pp = subst (λ v. IsPositionOf v.game v.start) e sp.fits in
    let at = c.loop-next.last in
    let on = next_on now.store at c.in-Some.next c.args.number c.loop-next.way.items c.pop.new.self.items
    c.in-Some.ensures.items c.loop-next.invariant.1 in
    let to = c.at-in-Some.result.0.now in
    let mark = c.at-in-Some.result.1 in
    let one = same_entry now.store c.in-Some.next on.0.0 to on.0.1 mark on.0.2 c.at-in-Some.ensures.stands in
    let leads = leads_on now.problem now.store c.known.ensures.names pp
    c.requires.sound at c.in-Some.next c.loop-next.made.items c.loop-next.position to mark c.loop-next.invariant.0
    c.at-in-Some.ensures.stands (sym (ap (λ m. m.parent) one.1) ∙ on.0.3) on.0.4 in
    let size : length c.loop-next.made.items ≡ c.len.result = search rules in
    let led = c.in_ok-follow.ensures.led in
    let run = subst (λ v. Run v.game c.loop-next.position led.0 c.follow.new.position) e led.2 in
    let few : length led.0 ≤ mark.cost - length c.loop-next.made.items = let le = led.3 in omega (arith, le, size) in
    let fits = subst (λ v. IsPositionOf v.game c.follow.new.position) e c.in_ok-follow.ensures.fits in
    let code = subst (λ v. IsCodeOf v.start c.follow.new.position c.at-in-Some.result.0.now) e c.in_ok-follow.ensures.there in
    let there = walked_on now.problem.game now.problem.start now.store c.known.ensures.names
    at c.in-Some.next c.loop-next.made.items led.0 c.loop-next.position c.follow.new.position to mark c.loop-next.invariant.0
    c.at-in-Some.ensures.stands leads.0 run few code fits in (
      subst (λ l. IsAtClass now.problem.game now.store now.problem.start c.in-Some.next l c.follow.new.position) (sym led.1) there,
      on.1,
    )
