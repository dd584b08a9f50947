-- Columns and cells that are compared one by one.
use Rattle.std.proofs.Common.{rules, ◌≡◌, ℕ, Bool, List, Option, Some, None, nat_eq, refl}
use Rattle.std.specs.Bool.{Decides}
use Rattle.std.specs.Option.{option_eq}
use Rattle.std.specs.Cmp.{unsigned_Decides}
use Rattle.std.specs.Cmp.Lexicographic.{pointwise, pointwise_decides}

cards_decide : (x y : Option ℕ) → Decides (option_eq nat_eq x y) (x ≡ y)
cards_decide None None = (λ _. refl, λ _. refl)
cards_decide None (Some y) = (λ e. search rules, λ e. search rules)
cards_decide (Some x) None = (λ e. search rules, λ e. search rules)
cards_decide (Some x) (Some y) = (λ e. let same : x ≡ y = (unsigned_Decides x y).0 e in cc same, λ e. let same : x ≡ y = cc e in (unsigned_Decides x y).1 same)

-- cells that are equal one by one are the same cells
pub cells_same : (r : Bool) (xs ys : List (Option ℕ)) → r ≡ pointwise (option_eq nat_eq) xs ys → Decides r (xs ≡ ys)
cells_same r xs ys e = (λ t. (pointwise_decides cards_decide xs ys).0 (cc (e, t)), λ same. cc (e, (pointwise_decides cards_decide xs ys).1 same))

-- columns that are equal one by one have the same cards
pub columns_same : (r : Bool) (xs ys : List (List ℕ)) → r ≡ pointwise (pointwise nat_eq) xs ys → Decides r (xs ≡ ys)
columns_same r xs ys e =
    let decided = pointwise_decides (pointwise_decides unsigned_Decides) xs ys in
    (λ t. decided.0 (cc (e, t)), λ same. cc (e, decided.1 same))
