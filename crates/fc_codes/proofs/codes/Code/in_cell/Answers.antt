use Rattle.std.proofs.Common.{sym, subst}
use Rattle.fc_codes.specs.State.{IsCodeOf}
use Rattle.fc_codes.proofs.LandedLemmas.{cell_code}
use Rattle.fc_codes.proofs.codes.Code.in_cell.Goals as goal

pub returns : goal.returns
returns c = record {
  value = λ s b d m j x e. subst (IsCodeOf s d) (sym c.with_state.ensures.value) (cell_code s b d c.args.self.now c.args.card m x j e);
}
