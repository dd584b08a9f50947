use Rattle.fc_text.proofs.HomeDraft.{homes_first}
use Rattle.fc_text.proofs.drafts.Draft.add_homes.Goals as goal

-- src/drafts.rt:93:5
pub returns-clause-read : goal.returns-clause-read
returns-clause-read c lines old =
    homes_first lines c.args.self.now c.args.piece.now c.in_ok-homes.homes old c.in_ok-homes.ensures.read c.if-self.false
