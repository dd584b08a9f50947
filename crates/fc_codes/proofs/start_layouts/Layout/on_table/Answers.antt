use Rattle.std.proofs.Common.{◌∙◌, set, ap, sym, subst}
use Rattle.fc_codes.specs.State.{IsCodeOf}
use Rattle.fc_codes.proofs.LandedLemmas.{table_code}
use Rattle.fc_codes.proofs.start_layouts.Layout.on_table.Goals as goal

pub returns : goal.returns
returns c = record {
  value = λ b d m j x e none. subst (IsCodeOf c.args.self.now d)
      (sym (c.with_state.ensures.value ∙ ap (set c.args.code.now c.args.card) c.state_on_table.ensures.value))
      (table_code c.args.self.now b d c.args.code.now c.args.card m x j c.state_on_table.ensures.whole e none);
}
