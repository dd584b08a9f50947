-- Lemmas on offering one key.
use Rattle.std.proofs.Common.{◌≡◌, ℕ, ◌+◌, ◌*◌, ◌<◌, ◌≤◌, Option, Some, None, length, sym, ◌∙◌, ap, subst, arith}
use Rattle.std.specs.Prelude.{slice_get}
use Rattle.std.proofs.Math.Nat.{mul-le-mul_left}
use Rattle.fc_best_first.specs.declared.books.Mark.{Mark}
use Rattle.fc_best_first.specs.declared.books.Opening.{Opening}
use Rattle.fc_best_first.specs.declared.books.Offered.{Offered}
use Rattle.fc_best_first.specs.declared.books.Offered.TheVariants as offered
use Rattle.fc_best_first.specs.declared.strategies.Strategy.{Strategy}
use Rattle.fc_best_first.specs.Graph.{Graph, Task}
use Rattle.fc_best_first.specs.Kept.{AreNoted}
use Rattle.fc_best_first.specs.Limits.{IsBelowLimit, IsWithinLimit, Ratio, ReachesLimit}
use Rattle.fc_best_first.specs.Store.{Store, Candidate, IsNew, IsOpening, IsStored, Admits, Offers, Stores, opens_at, weighed_cost}
use Rattle.fc_best_first.specs.inner.Turn.{IsPutOffNear}
use Rattle.fc_best_first.proofs.KeptLemmas.{open_under, stands_within}

-- a child of a key at a byte more is open near that key's weighed cost
pub open_near : (parts cost child over : ℕ) → parts ≤ 10 → child ≤ cost + 255 → over ≤ 25500
    → parts * child + over ≤ parts * cost + 28050
open_near parts cost child over few near low =
    let all : parts * child ≤ parts * (cost + 255) = mul-le-mul_left parts near in
    omega (arith, all, few, low)

-- what is put off by a bound that was counted in part is put off no further than its own f
pub off_own : (weight : Ratio) (cost mark counted bound later : ℕ) → mark ≡ cost → counted ≤ bound
    → later ≡ weight.parts * mark + weight.times * counted → later ≤ weight.parts * cost + weight.times * bound
off_own weight cost mark counted bound later same le is =
    let level : weight.parts * mark ≡ weight.parts * cost = ap (λ n. weight.parts * n) same in
    let all : weight.times * counted ≤ weight.times * bound = mul-le-mul_left weight.times le in
    omega (arith, level, all, is)

-- and where its cost and that bound are below the limit, no further than that
pub off_within : (limit : Option ℕ) (weight : Ratio) (mark counted later : ℕ) → weight.parts ≤ weight.times
    → IsBelowLimit limit (mark + counted) → later ≡ weight.parts * mark + weight.times * counted
    → IsWithinLimit limit weight.times later
off_within None weight mark counted later heavy below is = tt
off_within (Some limit) weight mark counted later heavy below is =
    let le = open_under weight mark counted limit heavy (omega (arith, below)) in
    omega (arith, le, is)

-- what is no less than what reaches the limit reaches it
pub reach_more : (limit : Option ℕ) (m n : ℕ) → m ≤ n → ReachesLimit limit m → ReachesLimit limit n
reach_more None m n le reach = reach
reach_more (Some limit) m n le reach = omega (arith, le, reach)

module _ {K : Type 0} where
  -- what is stored is offered where it is admitted
  pub stores_offers : (task : Task K) (taken : ℕ) (old new : Store K) (offer : Candidate K) (o : Offered K) → IsNew old offer.key
      → IsOpening task.graph task.strategy.weight offer.key offer.opening
      → Admits task.strategy.expansion taken (opens_at (weighed_cost task.strategy offer.mark) offer.opening)
      → IsBelowLimit task.limit (offer.mark.cost + offer.opening.bound) → Stores task.strategy old new offer o
      → Offers task taken old new offer o
  stores_offers task taken old new offer offered.Known fresh opens admits short h = absurd h
  stores_offers task taken old new offer offered.Lowered fresh opens admits short h = absurd h
  stores_offers task taken old new offer offered.Added fresh opens admits short h = (fresh, opens, admits, short, h)
  stores_offers task taken old new offer (offered.Full y) fresh opens admits short h = (fresh, opens, admits, short, h)
  stores_offers task taken old new offer (offered.PutOff f) fresh opens admits short h = absurd h
  stores_offers task taken old new offer offered.Past fresh opens admits short h = absurd h

  -- and isn't put off
  pub stores_near : (strategy : Strategy) (old new : Store K) (offer : Candidate K) (o : Offered K) (cost : ℕ)
      → Stores strategy old new offer o → IsPutOffNear cost o
  stores_near strategy old new offer offered.Known cost h = absurd h
  stores_near strategy old new offer offered.Lowered cost h = absurd h
  stores_near strategy old new offer offered.Added cost h = tt
  stores_near strategy old new offer (offered.Full y) cost h = tt
  stores_near strategy old new offer (offered.PutOff f) cost h = absurd h
  stores_near strategy old new offer offered.Past cost h = tt

  -- of a stored key an opening is noted
  pub noted_within : (g : Graph K) (s : Store K) (i : ℕ) (x : K) (m : Mark) → AreNoted g s → IsStored s i x m → i < length s.openings
  noted_within g s i x m noted at =
      let long = noted.0 in let lt = stands_within s i x m at in omega (arith, long, lt)

  -- what is noted of a stored key is shown of it
  pub noted_shown : (g : Graph K) (s : Store K) (i : ℕ) (x : K) (m : Mark) (o : Opening) → AreNoted g s
      → IsStored s i x m → slice_get s.openings i ≡ Some o → g.shown x o.bound o.note
  noted_shown g s i x m o noted at there =
      let own = noted.1 i x m at in
      let one : o ≡ own.0 = (let both = sym there ∙ own.1 in cc) in
      subst (λ (q : Opening). g.shown x q.bound q.note) (sym one) own.2
