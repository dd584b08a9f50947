use Rattle.fc_typed.proofs.TypedTexts.{tidy_typed}
use Rattle.fc_typed.proofs.laws.tidy_lines_are_typed.Goals as goal

pub returns : goal.returns
returns c = tidy_typed
