use Rattle.std.proofs.Common.{◌≡◌, ◌≤◌, None, rules, ap, sym, ◌∙◌, subst}
use Rattle.fc_best_first.specs.Shown.{Holds, Shows}
use Rattle.fc_best_first.specs.declared.strategies.Strategy.{Strategy}
use Rattle.fc_best_first.specs.declared.turns.Status.TheVariants as status
use Rattle.fc_answers.specs.declared.answers.Verdict.TheVariants as verdict
use Rattle.fc_classes.proofs.NamingLemmas.{codes_name}
use Rattle.fc_search.specs.Search.{IsVerdict}
use Rattle.fc_search.proofs.AnswerLemmas.{cannot_win_verdict, gave_up_verdict}
use Rattle.fc_search.specs.Problem.{Problem, task_of_problem}
use Rattle.fc_search.proofs.position_searches.Search.verdict.Goals as goal

pub returns-in-CannotWin-clause-told : goal.returns-in-CannotWin-clause-told
returns-in-CannotWin-clause-told g c =
    let inner = c.self.inside.search in
    let own : Problem = record {
      game = g.G.Game.game inner.space.rules.game;
      method = record { rule = inner.space.rules.rule; bound = inner.space.rules.kind; strategy = inner.strategy };
      start = inner.space.start;
      limit = inner.limit;
    } in
    let none : inner.limit ≡ None = search rules in
    let stands : inner.status ≡ status.CannotWin = sym c.status.ensures.value ∙ c.in-CannotWin.is in
    let told = cannot_win_verdict own inner.store
    (codes_name own.game own.start (g.met.G.Game.sound inner.space.rules.game) inner.space.fits) inner.space.fits none (subst (λ s. s.problem.method.rule ≤ 2) (sym c.self.view_is) c.known.ensures.rule) c.status.ensures.range.greatest
    (subst (Holds (task_of_problem own) inner.store) stands c.status.ensures.holds)
    (subst (Shows (task_of_problem own) inner.store) stands c.status.ensures.shows) in
    subst (λ s. IsVerdict s.problem verdict.CannotWin)
    c.self.view_is told

pub returns-in-GaveUp-clause-told : goal.returns-in-GaveUp-clause-told
returns-in-GaveUp-clause-told g c =
    let inner = c.self.inside.search in
    let own : Problem = record {
      game = g.G.Game.game inner.space.rules.game;
      method = record { rule = inner.space.rules.rule; bound = inner.space.rules.kind; strategy = inner.strategy };
      start = inner.space.start;
      limit = inner.limit;
    } in
    let stands : inner.status ≡ status.GaveUp c.in-GaveUp.field-0 c.in-GaveUp.field-1 = sym c.status.ensures.value ∙ c.in-GaveUp.is in
    let told = gave_up_verdict own inner.store
    (codes_name own.game own.start (g.met.G.Game.sound inner.space.rules.game) inner.space.fits) inner.space.fits c.in-GaveUp.field-0 c.in-GaveUp.field-1 c.get.result
    (subst (Shows (task_of_problem own) inner.store) stands c.status.ensures.shows) (c.get.ensures.value ∙ ap (λ (v : Strategy). v.budget) c.strategy.ensures.value) in
    subst (λ s. IsVerdict s.problem (verdict.GaveUp c.get.result))
    c.self.view_is told

pub won_verdict-requires-clause-shown : goal.won_verdict-requires-clause-shown
won_verdict-requires-clause-shown g c =
    subst (λ s. Shows (task_of_problem s.problem) s.store s.status)
    c.self.view_is c.status.ensures.shows
