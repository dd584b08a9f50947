use Rattle.std.proofs.Common.{◌≡◌, ◌∙◌, ℕ, List, ap, sym, subst, arith}
use Rattle.std.proofs.lemmas.List.{length-map}
use Rattle.std.proofs.lemmas.List.Sorted.{length_permutation}
use Rattle.std.specs.Prelude.{All}
use Rattle.std.specs.List.Sorted.{IsPermutation}
use Rattle.fc_bound.specs.Kinds.{guide_of}
use Rattle.fc_answers.specs.declared.table_rows.Row.{Row}
use Rattle.fc_answers.specs.Table.{HaveKeysOnce, IsRowOf, key_by, pairs_by}
use Rattle.fc_search.specs.inner.Stored.{costs_of}
use Rattle.fc_answers.proofs.RowLemmas.{inside_few, inside_once}
use Rattle.fc_search.proofs.RowLemmas.{stored_once, stored_long}
use Rattle.fc_search.proofs.position_searches.Search.table_below.Goals as goal

pub sorted-requires-clause-few : goal.sorted-requires-clause-few
sorted-requires-clause-few g c =
    let now = c.args.self.now in
    let low = guide_of now.problem.method.bound in
    let costs = costs_of now.problem.start now.store in
    let same = c.in_ok-rows.ensures.rows in
    let few = inside_few now.problem.start low c.args.n costs c.in_ok-rows.rows.items same in
    let long = stored_long now.problem.start now.store in
    let room = c.requires.sound.room in
    let most = c.known.ensures.budget.greatest in
    omega (arith, few, long, room, most)

pub sorted-requires-clause-once : goal.sorted-requires-clause-once
sorted-requires-clause-once g c =
    let now = c.args.self.now in
    let low = guide_of now.problem.method.bound in
    let costs = costs_of now.problem.start now.store in
    let laid : c.new-layout.result ≡ now.problem.start = c.new-layout.ensures.value ∙ ap (λ s. s.start) c.space.ensures.value ∙ ap (λ s. s.problem.start) c.self.view_is in
    let same = ap (λ s. pairs_by s c.in_ok-rows.rows.items) laid ∙ c.in_ok-rows.ensures.rows in
    subst HaveKeysOnce (sym same)
    (inside_once low c.args.n costs (stored_once now.problem now.store c.known.ensures.names c.known.ensures.fits c.requires.sound))

pub sorted-requires-clause-rows : goal.sorted-requires-clause-rows
sorted-requires-clause-rows g c =
    let now = c.args.self.now in
    let laid : c.new-layout.result ≡ now.problem.start = c.new-layout.ensures.value ∙ ap (λ s. s.start) c.space.ensures.value ∙ ap (λ s. s.problem.start) c.self.view_is in
    subst (λ s. All (IsRowOf s) c.in_ok-rows.rows.items) (sym laid) c.in_ok-rows.ensures.coded

pub returns-clause-rows : goal.returns-clause-rows
returns-clause-rows g c =
    let now = c.args.self.now in
    let laid : c.new-layout.result ≡ now.problem.start = c.new-layout.ensures.value ∙ ap (λ s. s.start) c.space.ensures.value ∙ ap (λ s. s.problem.start) c.self.view_is in
    subst (λ l. IsPermutation l c.in_ok-table.table.rows) (ap (λ s. pairs_by s c.in_ok-rows.rows.items) laid ∙ c.in_ok-rows.ensures.rows)
    c.in_ok-table.ensures.rows

pub returns-clause-rule : goal.returns-clause-rule
returns-clause-rule g c = c.in_ok-table.ensures.rule ∙ ap (λ s. s.rules.rule) c.space.ensures.value ∙ ap (λ s. s.problem.method.rule) c.self.view_is

pub returns-clause-bound : goal.returns-clause-bound
returns-clause-bound g c = c.in_ok-table.ensures.bound ∙ ap (λ s. s.rules.kind) c.space.ensures.value ∙ ap (λ s. s.problem.method.bound) c.self.view_is

pub returns-clause-known : goal.returns-clause-known
returns-clause-known g c = c.in_ok-table.ensures.known

pub returns-clause-rising : goal.returns-clause-rising
returns-clause-rising g c = c.in_ok-table.ensures.rising

pub returns-clause-few : goal.returns-clause-few
returns-clause-few g c =
    let now = c.args.self.now in
    let few = inside_few now.problem.start (guide_of now.problem.method.bound) c.args.n (costs_of now.problem.start now.store) c.in_ok-rows.rows.items c.in_ok-rows.ensures.rows in
    let pair : Row → List ℕ × ℕ = λ r. (key_by c.new-layout.result r.code, r.cost) in
    let listed = length-map c.in_ok-rows.rows.items pair in
    let same = length_permutation (pairs_by c.new-layout.result c.in_ok-rows.rows.items) c.in_ok-table.table.rows c.in_ok-table.ensures.rows in
    let long = stored_long now.problem.start now.store in
    let room = c.requires.sound.room in
    omega (arith, few, listed, same, long, room)
