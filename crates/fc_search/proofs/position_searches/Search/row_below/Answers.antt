use Rattle.std.proofs.Common.{◌≡◌, ◌+◌, sym, ◌∙◌, ap, arith}
use Rattle.fc_bound.specs.Kinds.{guide_of}
use Rattle.fc_canonical.specs.Spelled.{board_of_bytes}
use Rattle.fc_answers.specs.Table.{key_by}
use Rattle.fc_search.proofs.RowLemmas.{key_back, listed, passed_over}
use Rattle.fc_search.proofs.position_searches.Search.row_below.Goals as goal
use Rattle.fc_search.proofs.position_searches.Search.row_below.Goals.{After-from}

-- the sum is that of the class's cost and bound
summed : (g : _) (c : After-from g) → c.position_at-position.result.2.cost + c.from.result
    ≡ c.position_at-position.result.2.cost + guide_of c.args.self.now.problem.method.bound (board_of_bytes (key_by c.args.self.now.problem.start c.position_at-position.result.1.now))
summed g c =
    let now = c.args.self.now in
    let spells = c.position_at-position.ensures.spells in
    let board : c.position_at-position.result.0 ≡ board_of_bytes (key_by now.problem.start c.position_at-position.result.1.now) =
    spells.board ∙ sym (key_back now.problem.start c.position_at-position.result.1.now spells.name.position.position) in
    let kind : c.space.result.now.rules.kind ≡ now.problem.method.bound =
    ap (λ s. s.rules.kind) c.space.ensures.value ∙ ap (λ s. s.problem.method.bound) c.self.view_is in
    ap (λ b. c.position_at-position.result.2.cost + b)
    (c.from.ensures ∙ c.guide-bound.ensures.value ∙ ap (λ k. guide_of k c.position_at-position.result.0) kind ∙ ap (guide_of now.problem.method.bound) board)

pub overflow_add-mark : goal.overflow_add-mark
overflow_add-mark g c =
    let spells = c.position_at-position.ensures.spells in
    let low = c.requires.sound.low c.args.number c.position_at-position.result.1.now c.position_at-position.result.2 spells.stands in
    let few = c.requires.few in
    let same = c.from.ensures in
    let byte = c.guide-bound.ensures.most in
    omega (arith, low, few, same, byte)

pub returns-then-mark-from-clause-row : goal.returns-then-mark-from-clause-row
returns-then-mark-from-clause-row g c =
    let now = c.args.self.now in
    let mark = c.position_at-position.result.2 in
    let spells = c.position_at-position.ensures.spells in
    listed now.problem.start (guide_of now.problem.method.bound) c.args.n now.store c.args.number c.position_at-position.result.1.now mark c.new.result
    (mark.cost + c.from.result) spells.stands (summed g (goal.at.returns-then-mark-from-clause-row g c).After-from) c.if-mark-from.true
    c.new.ensures.code c.new.ensures.cost

pub returns-then-mark-from-clause-coded : goal.returns-then-mark-from-clause-coded
returns-then-mark-from-clause-coded g c =
    let now = c.args.self.now in
    let spells = c.position_at-position.ensures.spells in
    c.new.ensures.row now.problem.start c.position_at-position.ensures.coded spells.board

pub returns-clause-row : goal.returns-clause-row
returns-clause-row g c =
    let now = c.args.self.now in
    let mark = c.position_at-position.result.2 in
    let spells = c.position_at-position.ensures.spells in
    passed_over now.problem.start (guide_of now.problem.method.bound) c.args.n now.store c.args.number c.position_at-position.result.1.now mark (mark.cost + c.from.result) spells.stands
    (summed g (goal.at.returns-clause-row g c).After-from) c.if-mark-from.false
