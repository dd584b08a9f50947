-- What becomes of a child that is offered, within the crate.
use Rattle.std.specs.Prelude.{◌≡◌, ℕ, ◌+◌, Option, MatchOption}
use Rattle.fc_best_first.specs.declared.books.Mark.{Mark}
use Rattle.fc_best_first.specs.declared.books.Offered.{Offered}
use Rattle.fc_best_first.specs.declared.books.Opening.{Opening}
use Rattle.fc_best_first.specs.Graph.{Task}
use Rattle.fc_best_first.specs.Limits.{IsWithinLimit, Ratio, ReachesLimit, weigh}
use Rattle.fc_best_first.specs.Store.{Store, Candidate, Offers}
use Rattle.fc_best_first.specs.Turn.{candidate_of}

-- until when what costs this is put off by a number that is noted: until both, weighed, within the limit; not at all where they reach it
abbrev pub IsOffUntil : Option ℕ → Ratio → ℕ → ℕ → Option ℕ → Type 0
IsOffUntil limit weight cost bound later = MatchOption later (ReachesLimit limit (cost + bound))
    (λ f. (f ≡ weigh weight cost bound) × IsWithinLimit limit weight.times f)

module _ {K : Type 0} where
  -- each key that stands here, offered with this mark at any opening, becomes this, and whatever is stored stays as it is
  abbrev pub LeavesAll : (K → Type 0) → Task K → ℕ → Mark → Offered K → Type 0
  LeavesAll here task taken mark offered = (y : K) (opening : Opening) (store : Store K) → here y
      → Offers task taken store store (record { key = y; mark = mark; opening = opening }) offered

  -- this holds of a key that stands here, as it is offered at some opening by an edge of this cost
  abbrev pub OfSomeChild : (K → Type 0) → Mark → ℕ → (Candidate K → Type 0) → Type 0
  OfSomeChild here origin cost this = (y : K) × (opening : Opening) × here y
      × this (candidate_of origin (record { key = y; cost = cost }) opening)
