use Rattle.std.proofs.Common.{◌≡◌, None, ap, sym, ◌∙◌, subst}
use Rattle.std.specs.Prelude.{IfOk}
use Rattle.fc_best_first.specs.Shown.{Shows}
use Rattle.fc_best_first.specs.declared.strategies.Strategy.{Strategy}
use Rattle.fc_best_first.specs.declared.turns.Status.TheVariants.{GaveUp}
use Rattle.fc_answers.specs.declared.answers.Verdict.TheVariants as verdict
use Rattle.fc_classes.proofs.NamingLemmas.{codes_name}
use Rattle.fc_search.specs.Search.{Answers}
use Rattle.fc_search.proofs.AnswerLemmas.{gave_up_verdict}
use Rattle.fc_search.specs.Problem.{Problem, task_of_problem}
use Rattle.fc_search.proofs.position_searches.Search.answer.Goals as goal
use Rattle.fc_search.proofs.position_searches.Search.answer.Goals.{in-Won, in-CannotWin, in-GaveUp}

pub won-answer-requires-clause-shown : goal.won-answer-requires-clause-shown
won-answer-requires-clause-shown g c =
    subst (λ s. Shows (task_of_problem s.problem) s.store s.status)
    c.self.view_is c.status.ensures.shows

pub cannot_win-answer-requires-clause-shown : goal.cannot_win-answer-requires-clause-shown
cannot_win-answer-requires-clause-shown g c =
    subst (λ s. Shows (task_of_problem s.problem) s.store s.status)
    c.self.view_is c.status.ensures.shows

pub returns-in-Ok-clause-answers : goal.returns-in-Ok-clause-answers
returns-in-Ok-clause-answers g c =
    let now = c.args.self.now in
    elim c.match-status.branch [
      | in-Won w ↦
          subst (λ r. IfOk r (Answers now.problem))
          (sym w.answer-is ∙ c.in-Ok.is) w.won-answer.ensures.answers
      | in-CannotWin w ↦
          subst (λ r. IfOk r (Answers now.problem))
          (sym w.answer-is ∙ c.in-Ok.is) w.cannot_win-answer.ensures.answers
      | in-GaveUp w ↦
          let inner = c.self.inside.search in
          let stands : inner.status ≡ GaveUp w.in-GaveUp.field-0 w.in-GaveUp.field-1 = sym c.status.ensures.value ∙ w.in-GaveUp.is in
          let own : Problem = record {
            game = g.G.Game.game inner.space.rules.game;
            method = record { rule = inner.space.rules.rule; bound = inner.space.rules.kind; strategy = inner.strategy };
            start = inner.space.start;
            limit = inner.limit;
          } in
          let shows = subst (Shows (task_of_problem own) inner.store)
          stands c.status.ensures.shows in
          let told = gave_up_verdict own inner.store
          (codes_name own.game own.start (g.met.G.Game.sound inner.space.rules.game) inner.space.fits) inner.space.fits w.in-GaveUp.field-0 w.in-GaveUp.field-1 w.get.result shows (w.get.ensures.value ∙ ap (λ (v : Strategy). v.budget) w.strategy.ensures.value) in
          let answers : Answers own (record { verdict = verdict.GaveUp w.get.result; table = None }) =
          record { told = told; backed = tt; searched = tt } in
          subst (λ r. IfOk r (Answers now.problem))
          (sym w.answer-is ∙ c.in-Ok.is)
          (subst (λ s. Answers s.problem (record { verdict = verdict.GaveUp w.get.result; table = None }))
          c.self.view_is answers)
    ]
