use Rattle.std.proofs.Common.{◌≡◌, ◌≢◌, ◌<◌, ◌++◌, List, [], arith, refl}
use Rattle.std.specs.Prelude.{IfSome, Option, None, Some}
use Rattle.std.proofs.lemmas.List.Elements.{Contains-append_left, Contains-append_right}
use Rattle.fc_best_first.specs.declared.books.Opening.{Opening}
use Rattle.fc_best_first.specs.declared.spaces.Child.{Child}
use Rattle.fc_best_first.specs.Graph.{Task}
use Rattle.fc_best_first.proofs.TurnLemmas.{expands_left, later_past, none_left, visited_first}
use Rattle.fc_best_first.proofs.turns.visit.Goals as goal

-- any opening will do where nothing is stored
abbrev no_opening : Opening
no_opening = record { over = 0; bound = 0; note = 0 }

pub returns-then-visit-clause-children : goal.returns-then-visit-clause-children
returns-then-visit-clause-children g c children rest =
    let task : Task g.row.K.Denot = record { graph = g.S.Space.graph c.args.space.now; strategy = c.args.strategy.now; limit = c.args.taken.now.limit } in
    let v = c.visit.ensures.children children rest in
    let first = c.is_first-is_first in
    let lawful = g.met.S.Space.lawful c.args.space.now in (
      v.0 ++ children,
      v.1,
      λ child there. Contains-append_right v.0 children child there,
      λ old new own expands. expands_left task c.args.taken.now.f c.args.taken.now.origin old new no_opening c.args.noted.bound children v.0
          c.later_of_others.result own
          (first.ensures.partial (visited_first first.result c.visit.result c.visit.ensures.later c.if-visit.true))
          c.later_of_others.ensures.later
          (later_past c.args.taken.now.f _ c.later_of_others.result c.later_of_others.ensures.near)
          (v.3.0 c.if-visit.true)
          (λ child there. (
            (lawful.edges c.args.key.now child.cost child.key (v.1.edges child (Contains-append_left v.0 children child there))).0,
            v.2 child there,
          ))
          expands,
    )

pub returns-else-visit-clause-children : goal.returns-else-visit-clause-children
returns-else-visit-clause-children g c children rest =
    let task : Task g.row.K.Denot = record { graph = g.S.Space.graph c.args.space.now; strategy = c.args.strategy.now; limit = c.args.taken.now.limit } in
    let v = c.visit.ensures.children children rest in (
      v.0 ++ children,
      v.1,
      λ child there. Contains-append_right v.0 children child there,
      λ old new own expands. none_left task c.args.taken.now.f c.args.taken.now.origin old new no_opening children v.0 own
          (λ some. let told = v.3.1 some in let no = c.if-visit.false in cc) expands,
    )
