use Rattle.std.proofs.Common.{◌∙◌, cond, ap}
use Rattle.fc_bound.proofs.OverLemmas.{all_moved, all_stand, all_held}
use Rattle.fc_bound.proofs.waiting_rows.fill.Goals as goal

pub fill_moved-requires-clause-above : goal.fill_moved-requires-clause-above
fill_moved-requires-clause-above c = λ i h u d last still _. absurd (all_moved c.args.position.now i h u c.requires.whole last still)

pub fill_moved-requires-clause-others : goal.fill_moved-requires-clause-others
fill_moved-requires-clause-others c = λ i h u last still. absurd (all_moved c.args.position.now i h u c.requires.whole last still)

pub returns-clause-all : goal.returns-clause-all
returns-clause-all c = λ x. c.fill_moved.ensures.all x ∙ ap (λ t. cond t 1 0) (all_stand c.args.position.now x c.requires.whole)

pub returns-clause-held : goal.returns-clause-held
returns-clause-held c = λ x. c.fill_moved.ensures.held x ∙ ap (λ t. cond t 1 0) (all_held c.args.position.now x c.requires.whole)
