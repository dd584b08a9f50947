-- What a closed table leaves: no short list that wins, or none at all.
use Rattle.std.proofs.Common.{◌≡◌, ℕ, ◌+◌, ◌-◌, ◌≤◌, zero, suc, Option, Some, None, refl, [], ◌∷◌, length, sym, ◌∙◌, ap, subst, ⊎_elim, zero-add, arith}
use Rattle.std.proofs.lemmas.Bool.{cases_lt}
use Rattle.fc_position.specs.Board.{Board}
use Rattle.fc_moves.specs.GameRules.{GameRules, IsPositionOf}
use Rattle.fc_moves.proofs.StepLemmas.{step_keeps}
use Rattle.fc_moves.specs.Run.{WinsWithin}
use Rattle.fc_home.specs.Settles.{Settles}
use Rattle.fc_home.proofs.LossLemmas.{settle_loses_nothing}
use Rattle.fc_home.proofs.SettleLemmas.{settles_keep}
use Rattle.fc_tables.specs.Laws.{ClosedInsideLeavesNoShorterList, ClosedBelowIsClosedInside, ClosedBelowLeavesNoShorterList, ClosedLeavesNoList, ClosedByAnySettlingLeavesNoList}
use Rattle.fc_tables.specs.Table.{Table, ListsClass, Lists, IsCoveredBelow, IsClosedInside, SettlesTo, SettlesEach, IsLossless, IsClosedBy}
use Rattle.fc_bound.specs.LowerBound.{IsLowerBound}
use Rattle.fc_home.proofs.EveryLemmas.{every_settles}

-- a board from which so many moves win has no greater bound
within_bound : (low : Board → ℕ) (g : GameRules) (x : Board) (most : ℕ) → IsLowerBound low → IsPositionOf g x → WinsWithin g x most
    → low x ≤ most
within_bound low g x most lower p (ms, few, wins) = let need = lower.needed g x ms p.position wins in omega (arith, few, need)

-- through the boards that the table lists no list of less than n moves wins, of the lists with at most so many moves left
abbrev Long : GameRules → ℕ → Table → ℕ → Type 0
Long g n T most = (x : Board) (d : ℕ) → IsPositionOf g x → Lists T x d → WinsWithin g x most → n ≤ d + most

-- nor through a covered board
covered_long : (low : Board → ℕ) (g : GameRules) (n : ℕ) (T : Table) (x : Board) (d most : ℕ) → IsLowerBound low → Long g n T most → IsPositionOf g x
    → IsCoveredBelow low n T x d → WinsWithin g x most → n ≤ d + most
covered_long low g n T x d most lower long p covered wins =
    ⊎_elim (λ far. let need = within_bound low g x most lower p wins in omega (arith, far, need)) (λ lists. long x d p lists wins) covered

-- nor through a board that settles to a covered one
settled_long : (low : Board → ℕ) (g : GameRules) (rule : ℕ) (n : ℕ) (T : Table) (x : Board) (d most : ℕ) → IsLowerBound low → ((less : ℕ) → less ≤ most → Long g n T less)
    → IsPositionOf g x → ((q : Board) (k : ℕ) → Settles g rule x k q → IsCoveredBelow low n T q (d + k)) → WinsWithin g x most → n ≤ d + most
settled_long low g rule n T x d most lower long p covered wins =
    let way = every_settles g rule x in
    let k = way.0 in
    let q = way.1 in
    let left = (settle_loses_nothing g rule x q k most p.position way.2).0 wins in
    let still = covered_long low g n T q (d + k) (most - k) lower (long (most - k) (omega arith)) (settles_keep g rule x q k p way.2)
    (covered q k way.2) left.1 in
    omega (arith, left.0, still)

-- nor, by the steps, through a listed board of which some list of moves wins
listed_long : (low : Board → ℕ) (g : GameRules) (rule : ℕ) (p : Board) (n : ℕ) (T : Table) (fuel : ℕ) → IsLowerBound low → IsClosedInside low g rule p n T
    → (most : ℕ) → most ≤ fuel → Long g n T most
listed_long low g rule p n T fuel lower closed most fuelled x d px (e, listed, same, cost) ([], few, (z, run, won)) =
    let equal = lower.alike x e.0 same in
    ⊎_elim
    (λ inside. absurd (closed.not_won e listed (omega (arith, inside, equal)) (sym same.homes ∙ ap (λ b. b.homes) (sym run) ∙ won)))
    (λ far. let need = within_bound low g x most lower px ([], few, (z, run, won)) in omega (arith, far, need, cost))
    (cases_lt (e.1 + low x) n)
listed_long low g rule p n T zero lower closed most fuelled x d px lists (m ∷ ms, few, wins) = absurd (omega (arith, few, fuelled))
listed_long low g rule p n T (suc fuel) lower closed most fuelled x d px (e, listed, same, cost) (m ∷ ms, few, (z, (y, step, rest), won)) =
    ⊎_elim
    (λ inside.
    let short : length ms ≤ fuel = omega (arith, few, fuelled) in
    let later = settled_long low g rule n T y (e.1 + 1) (length ms) lower
    (λ less le. listed_long low g rule p n T fuel lower closed less (omega (arith, le, short)))
    (step_keeps g x y m px step) (λ q k settles. closed.steps e x listed px same inside m y q k step settles)
    (ms, omega arith, (z, rest, won)) in
    omega (arith, later, few, cost))
    (λ far. let need = within_bound low g x most lower px (m ∷ ms, few, (z, (y, step, rest), won)) in omega (arith, far, need, cost))
    (cases_lt (e.1 + low x) n)

-- so none of less than n moves wins from the start
pub inside_long : ClosedInsideLeavesNoShorterList
inside_long low g rule p n T ms lower px closed wins =
    let long = settled_long low g rule n T p 0 (length ms) lower (λ less le. listed_long low g rule p n T (length ms) lower closed less le) px
    (λ q k settles. subst (IsCoveredBelow low n T q) (sym (zero-add k)) (closed.start q k settles)) (ms, omega arith, wins) in
    omega (arith, long)

-- what is closed below n is closed inside n
pub below_inside : ClosedBelowIsClosedInside
below_inside low g rule p n T closed = record {
  not_won = λ e listed _. closed.not_won e listed;
  start = closed.start;
  steps = closed.steps;
}

pub below_long : ClosedBelowLeavesNoShorterList
below_long low g rule p n T ms lower px closed wins = inside_long low g rule p n T ms lower px (below_inside low g rule p n T closed) wins

-- by any lossless way of settling that settles each position, from a board that settles to a listed one none wins, where
-- none of at most as many moves wins from listed ones
settled_never : (settle : Board → Option (ℕ × Board)) (g : GameRules) (T : Table) (x : Board) (most : ℕ) → SettlesEach settle g
    → IsLossless settle g → ((less : ℕ) (z : Board) → less ≤ most → IsPositionOf g z → ListsClass T z → WinsWithin g z less → ⊥)
    → IsPositionOf g x → ((q : Board) (k : ℕ) → SettlesTo settle x k q → ListsClass T q) → WinsWithin g x most → ⊥
settled_never settle g T x most each lossless never p listed wins =
    let way = each x p in
    let k = way.0 in
    let q = way.1 in
    let left = lossless.loses_nothing x q k most p way.2 wins in
    never (most - k) q (omega arith) (lossless.keeps x q k p way.2) (listed q k way.2) left.1

-- from a listed board of a closed table no list wins
listed_never : (settle : Board → Option (ℕ × Board)) (g : GameRules) (p : Board) (T : Table) (fuel : ℕ) → SettlesEach settle g
    → IsLossless settle g → IsClosedBy settle g p T → (most : ℕ) (x : Board) → most ≤ fuel → IsPositionOf g x → ListsClass T x
    → WinsWithin g x most → ⊥
listed_never settle g p T fuel each lossless closed most x fuelled px (e, listed, same) ([], few, (z, run, won)) =
    closed.not_won e listed (sym same.homes ∙ ap (λ b. b.homes) (sym run) ∙ won)
listed_never settle g p T zero each lossless closed most x fuelled px lists (m ∷ ms, few, wins) = absurd (omega (arith, few, fuelled))
listed_never settle g p T (suc fuel) each lossless closed most x fuelled px (e, listed, same) (m ∷ ms, few, (z, (y, step, rest), won)) =
    let short : length ms ≤ fuel = omega (arith, few, fuelled) in
    settled_never settle g T y (length ms) each lossless
    (λ less w le. listed_never settle g p T fuel each lossless closed less w (omega (arith, le, short))) (step_keeps g x y m px step)
    (λ q k settles. closed.steps e x listed px same m y q k step settles) (ms, omega arith, (z, rest, won))

pub any_never : ClosedByAnySettlingLeavesNoList
any_never settle g p T px each lossless closed ms wins =
    settled_never settle g T p (length ms) each lossless
    (λ less z le. listed_never settle g p T (length ms) each lossless closed less z le) px
    (λ q k settles. closed.start q k settles) (ms, omega arith, wins)

-- each home rule is such a way of settling
by_rule : ℕ → GameRules → Board → Option (ℕ × Board)
by_rule rule g b = let s = every_settles g rule b in Some (s.0, s.1)

first_or : ℕ → Option (ℕ × Board) → ℕ
first_or k None = k
first_or k (Some e) = e.0

second_or : Board → Option (ℕ × Board) → Board
second_or q None = q
second_or q (Some e) = e.1

by_rule-settles : (rule : ℕ) (g : GameRules) (b q : Board) (k : ℕ) → SettlesTo (by_rule rule g) b k q → Settles g rule b k q
unfolding by_rule first_or second_or
by_rule-settles rule g b q k same =
    let s = every_settles g rule b in
    let count : s.0 ≡ k = ap (first_or k) same in
    let board : s.1 ≡ q = ap (second_or q) same in
    subst (λ n. Settles g rule b n q) count (subst (Settles g rule b s.0) board s.2)

by_rule-each : (rule : ℕ) (g : GameRules) → SettlesEach (by_rule rule g) g
unfolding by_rule
by_rule-each rule g b p = let s = every_settles g rule b in (s.0, s.1, refl)

by_rule-lossless : (rule : ℕ) (g : GameRules) → IsLossless (by_rule rule g) g
by_rule-lossless rule g = record {
  keeps = λ b q k p settles. settles_keep g rule b q k p (by_rule-settles rule g b q k settles);
  loses_nothing = λ b q k most p settles.
      (settle_loses_nothing g rule b q k most p.position (by_rule-settles rule g b q k settles)).0;
}

pub closed_never : ClosedLeavesNoList
closed_never g rule p T px closed =
    any_never (by_rule rule g) g p T px (by_rule-each rule g) (by_rule-lossless rule g)
    (record {
      not_won = closed.not_won;
      start = λ q k settles. closed.start q k (by_rule-settles rule g p q k settles);
      steps = λ e x listed px same m y z k step settles.
          closed.steps e x listed px same m y z k step (by_rule-settles rule g y z k settles);
    })
