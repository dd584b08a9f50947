use Rattle.std.proofs.Common.{◌≡◌, ℕ, ◌<◌, ◌≤◌, None, get_or}
use Rattle.fc_home.specs.inner.Known.{lasting_answer}
use Rattle.fc_home.proofs.known.Known.send.Given as goal

-- of the answers so far what lasts stands there, and the others are unchanged
abbrev pub invariant-loop-answer : goal.invariant-loop-answer
invariant-loop-answer l = record {
  done : (k : ℕ) → k < l.answer-index → get_or l.answer-items k None ≡ lasting_answer (get_or l.initial.answer-items k None);
  rest : (k : ℕ) → l.answer-index ≤ k → get_or l.answer-items k None ≡ get_or l.initial.answer-items k None;
}
