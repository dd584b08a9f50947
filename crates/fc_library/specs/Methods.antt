-- Methods of searches as other programs name them.
use Rattle.std.specs.Prelude.{◌≡◌, ◌≢◌, ℕ, ◌*◌, ◌/◌, ◌%◌, ◌<◌, ◌≤◌, ◌==◌, cond}
use Rattle.fc_home.specs.declared.settling.TheConstants.{GREATEST_RULE}
use Rattle.fc_bound.specs.declared.kinds.BoundKind.{BoundKind}
use Rattle.fc_bound.specs.declared.kinds.BoundKind.TheVariants.{Plain, Clearing}
use Rattle.fc_best_first.specs.Limits.{IsBudget, Ratio}
use Rattle.fc_best_first.specs.declared.limits.TheConstants.{MOST_WEIGHT, TENTHS}
use Rattle.fc_best_first.specs.declared.strategies.Expansion.{Expansion}
use Rattle.fc_best_first.specs.declared.strategies.Expansion.TheVariants.{Full, Partial}
use Rattle.fc_methods.specs.declared.methods.Method.{Method}
use Rattle.fc_library.specs.declared.method_names.MethodName.{MethodName}
use Rattle.fc_library.specs.declared.call_refusals.CallRefusal.{CallRefusal}
use Rattle.fc_library.specs.declared.call_refusals.CallRefusal.TheVariants as refused

-- so many tenths are a weight: from as much as a cost to the greatest
abbrev pub AreTenths : ℕ → Type 0
AreTenths tenths = (TENTHS ≤ tenths) × (tenths ≤ MOST_WEIGHT * TENTHS)

-- the weight of so many tenths: a cost counts once where they are whole, and else ten times
pub record IsOfTenths (tenths : ℕ) (weight : Ratio) : Type 0 where
  pub whole : tenths % TENTHS ≡ 0 → weight ≡ record { parts = 1; times = tenths / TENTHS }
  pub other : tenths % TENTHS ≢ 0 → weight ≡ record { parts = TENTHS; times = tenths }

-- the bound and the expansion of a number
abbrev pub bound_named : ℕ → BoundKind
bound_named code = cond (code == 0) Plain Clearing

abbrev pub expansion_named : ℕ → Expansion
expansion_named code = cond (code == 0) Full Partial

-- the name is one of a method, and this is it
pub record IsMethodOf (name : MethodName) (method : Method) : Type 0 where
  pub ruled : name.rule ≤ GREATEST_RULE
  pub rule : method.rule ≡ name.rule
  pub bounded : name.bound < 2
  pub bound : method.bound ≡ bound_named name.bound
  pub weighed : AreTenths name.tenths
  pub weight : IsOfTenths name.tenths method.strategy.weight
  pub expanded : name.expansion < 2
  pub expansion : method.strategy.expansion ≡ expansion_named name.expansion
  pub budgeted : IsBudget name.budget
  pub budget : method.strategy.budget ≡ name.budget

-- why it is none, each fault only where those before it have no cause
abbrev pub IsMethodRefused : MethodName → CallRefusal → Type 0
IsMethodRefused name refused.Rule = name.rule ≤ GREATEST_RULE → ⊥
IsMethodRefused name refused.Bound = (name.rule ≤ GREATEST_RULE) × (name.bound < 2 → ⊥)
IsMethodRefused name refused.Weight = (name.rule ≤ GREATEST_RULE) × (name.bound < 2) × (AreTenths name.tenths → ⊥)
IsMethodRefused name refused.Expansion = (name.rule ≤ GREATEST_RULE) × (name.bound < 2) × AreTenths name.tenths × (name.expansion < 2 → ⊥)
IsMethodRefused name refused.Budget = (name.rule ≤ GREATEST_RULE) × (name.bound < 2) × AreTenths name.tenths × (name.expansion < 2)
    × (IsBudget name.budget → ⊥)
IsMethodRefused name other = ⊥
