use Rattle.std.proofs.Common.{sym, subst}
use Rattle.fc_codes.specs.State.{IsCodeOf}
use Rattle.fc_codes.proofs.LandedLemmas.{home_code}
use Rattle.fc_codes.proofs.codes.Code.at_home.Goals as goal

pub returns : goal.returns
returns c = record {
  state = c.with_state.ensures.value;
  count = c.with_state.ensures.count;
  value = λ s b d m x e. subst (IsCodeOf s d) (sym c.with_state.ensures.value) (home_code s b d c.args.self.now c.args.card m x e);
}
