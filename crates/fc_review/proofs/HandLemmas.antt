-- Moves of cards that go home by themselves are entries of their own.
use Rattle.std.proofs.Common.{◌≡◌, ◌∙◌, ◌⊎◌, inl, inr, ℕ, ◌+◌, ◌≤◌, Option, Some, None, List, [], ◌∷◌, ◌++◌, length, refl, sym, subst, ap, arith}
use Rattle.std.specs.Prelude.{IsSomeAnd}
use Rattle.fc_cards.specs.declared.places.Place.{Place}
use Rattle.fc_cards.specs.declared.places.Place.TheVariants.{Column, Cell, Home}
use Rattle.fc_position.specs.Board.{Board, board_without, board_with}
use Rattle.fc_position.proofs.BoardLemmas.{homes-lifted}
use Rattle.fc_moves.specs.declared.steps.Move.{Move}
use Rattle.fc_moves.specs.GameRules.{GameRules, IsPositionOf}
use Rattle.fc_moves.specs.Run.{Run}
use Rattle.fc_moves.specs.Step.{Step}
use Rattle.fc_moves.proofs.StepLemmas.{run_keeps, run_once, step_keeps, step_once}
use Rattle.fc_sequences.specs.declared.pairs.Pair.{Pair}
use Rattle.fc_sequences.specs.Gathering.{AreOneEntry, Gathers, IsGathered}
use Rattle.fc_review.specs.Hands.{AreByHand, GoesByItself}
use Rattle.fc_review.specs.inner.Goers.{GoByThemselves}
use Rattle.fc_lists.proofs.WeaveLemmas.{home_more, total}

-- no step takes a card from home
more_home : (g : GameRules) (b c : Board) (m : Move) (to : Place) → m.to ≡ to → IsPositionOf g b → Step g b m c → total b.homes ≤ total c.homes
more_home g b c m Home same p step = let more = home_more g b c m p same step in omega (arith, more.0)
more_home g b c m (Column j) same p step =
    let after : c ≡ board_with (board_without b m.from) step.card (Column j) = subst (λ to. c ≡ board_with (board_without b m.from) step.card to) same step.after in
    let homes : c.homes ≡ b.homes = ap (λ x. x.homes) after ∙ homes-lifted b m.from in omega (arith, ap total homes)
more_home g b c m (Cell j) same p step =
    let after : c ≡ board_with (board_without b m.from) step.card (Cell j) = subst (λ to. c ≡ board_with (board_without b m.from) step.card to) same step.after in
    let homes : c.homes ≡ b.homes = ap (λ x. x.homes) after ∙ homes-lifted b m.from in omega (arith, ap total homes)

-- cards that go home by themselves are home then
gone_home : (rule : ℕ) (g : GameRules) (b c : Board) (ms : List Move) (count : ℕ) → IsPositionOf g b → GoByThemselves rule g b ms count → Run g b ms c
    → total b.homes + count ≤ total c.homes
gone_home rule g b c [] count p none run = omega (arith, none, ap (λ x. total x.homes) run)
gone_home rule g b c (m ∷ ms) count p (mid, step, inl ((home, card), (others, one, go))) (there, first, run) =
    let more = home_more g b mid m p home step in
    let next = gone_home rule g mid c ms others (step_keeps g b mid m p step) go
    (subst (λ x. Run g x ms c) (step_once g b m there mid first step) run) in
    omega (arith, more.0, next, one)
gone_home rule g b c (m ∷ ms) count p (mid, step, inr (stays, go)) (there, first, run) =
    let more = more_home g b mid m m.to refl p step in
    let next = gone_home rule g mid c ms count (step_keeps g b mid m p step) go
    (subst (λ x. Run g x ms c) (step_once g b m there mid first step) run) in
    omega (arith, more, next)

-- those of a list are those of a front of it and those of the others
pub record Split (rule : ℕ) (g : GameRules) (b : Board) (front rest : List Move) (count : ℕ) : Type 0 where
  pub here : Board
  pub first : ℕ
  pub others : ℕ
  pub run : Run g b front here
  pub go : GoByThemselves rule g b front first
  pub later : GoByThemselves rule g here rest others
  pub sum : count ≡ first + others

split : (rule : ℕ) (g : GameRules) (b : Board) (front rest : List Move) (count : ℕ) → GoByThemselves rule g b (front ++ rest) count
    → Split rule g b front rest count
split rule g b [] rest count go = record { here = b; first = 0; others = count; run = refl; go = refl; later = go; sum = omega arith }
split rule g b (m ∷ front) rest count (mid, step, inl (goes, (others, one, go))) =
    let next = split rule g mid front rest others go in
    record {
      here = next.here;
      first = next.first + 1;
      others = next.others;
      run = (mid, step, next.run);
      go = (mid, step, inl (goes, (next.first, refl, next.go)));
      later = next.later;
      sum = omega (arith, one, next.sum);
    }
split rule g b (m ∷ front) rest count (mid, step, inr (stays, go)) =
    let next = split rule g mid front rest count go in
    record {
      here = next.here;
      first = next.first;
      others = next.others;
      run = (mid, step, next.run);
      go = (mid, step, inr (stays, next.go));
      later = next.later;
      sum = next.sum;
    }

-- moves end at one place
ends_once : (o : Option Move) (x y : Place) → IsSomeAnd o (λ m. m.to ≡ x) → IsSomeAnd o (λ m. m.to ≡ y) → x ≡ y
ends_once None x y e f = absurd e
ends_once (Some m) x y e f = sym e ∙ f

no_column : (to : Place) (j : ℕ) → to ≡ Column j → to ≡ Home → ⊥
no_column to j column home = let same : Column j ≡ Home = sym column ∙ home in absurd (cc same)

-- an entry goes by itself and is one such move; or it doesn't, and has none
abbrev pub IsGoer : ℕ → GameRules → Board → Pair → ℕ → Type 0
IsGoer rule g b p count = (GoesByItself rule g b p.from p.to × (count ≡ 1)) ⊎ ((GoesByItself rule g b p.from p.to → ⊥) × (count ≡ 0))

one_goer : (rule : ℕ) (g : GameRules) (b c : Board) (part : List Move) (p : Pair) (k count : ℕ) → IsPositionOf g b → IsGathered g b part p k c
    → AreOneEntry g b part → GoByThemselves rule g b part count → IsGoer rule g b p count
one_goer rule g b c [] p k count fits gathered (inl one) go = absurd (omega (arith, one))
one_goer rule g b c (m ∷ []) p k count fits gathered (inl one) (mid, step, inl (goes, (others, sum, none))) =
    inl (subst (λ x. GoesByItself rule g b x p.to) gathered.from (subst (λ x. GoesByItself rule g b m.from x) gathered.to goes), omega (arith, sum, none))
one_goer rule g b c (m ∷ []) p k count fits gathered (inl one) (mid, step, inr (stays, none)) =
    inr (λ goes. stays (subst (λ x. GoesByItself rule g b x m.to) (sym gathered.from) (subst (λ x. GoesByItself rule g b p.from x) (sym gathered.to) goes)), none)
one_goer rule g b c (m ∷ n ∷ ms) p k count fits gathered (inl one) go = absurd (omega (arith, one))
one_goer rule g b c part p k count fits gathered (inr (i, j, n, carry)) go =
    let few = gone_home rule g b _ part count fits go carry.run in
    inr (λ goes. no_column p.to j (ends_once _ p.to (Column j) gathered.to carry.to) goes.0, omega (arith, few))

-- one entry more
one_more : (rule : ℕ) (g : GameRules) (b mid : Board) (p : Pair) (ps : List Pair) (k first others left count : ℕ) → IsGoer rule g b p first
    → (part : List Move) → IsGathered g b part p k mid → AreByHand rule g mid ps left → left + others ≡ length ps → count ≡ first + others
    → (all : ℕ) × AreByHand rule g b (p ∷ ps) all × (all + count ≡ length (p ∷ ps))
one_more rule g b mid p ps k first others left count (inl (goes, one)) part gathered by_hand size sum =
    (left, (mid, (k, gathered.plays), inl (goes, by_hand)), omega (arith, one, size, sum))
one_more rule g b mid p ps k first others left count (inr (stays, none)) part gathered by_hand size sum =
    (left + 1, (mid, (k, gathered.plays), inr (stays, (left, refl, by_hand))), omega (arith, none, size, sum))

-- of gathered entries those are by hand that aren't moves of cards that go by themselves
pub by_hand : (rule : ℕ) (g : GameRules) (b c : Board) (ps : List Pair) (ms : List Move) (count : ℕ) → IsPositionOf g b → Gathers g b ps ms c
    → GoByThemselves rule g b ms count → (all : ℕ) × AreByHand rule g b ps all × (all + count ≡ length ps)
by_hand rule g b c [] ms count fits (none, end) go =
    let zero : GoByThemselves rule g b [] count = subst (λ l. GoByThemselves rule g b l count) none go in (0, refl, omega (arith, zero))
by_hand rule g b c (p ∷ ps) ms count fits (k, mid, part, rest, gathered, longest, more) go =
    let parts = split rule g b part rest count (subst (λ l. GoByThemselves rule g b l count) longest.parts go) in
    let same : parts.here ≡ mid = run_once g b parts.here mid part parts.run gathered.run in
    let next = by_hand rule g mid c ps rest parts.others (run_keeps g b mid part fits gathered.run) more
    (subst (λ x. GoByThemselves rule g x rest parts.others) same parts.later) in
    one_more rule g b mid p ps k parts.first parts.others next.0 count (one_goer rule g b mid part p k parts.first fits gathered longest.one parts.go)
    part gathered next.1 next.2 parts.sum

-- a card that goes by itself is counted
pub counted_goer : (rule : ℕ) (g : GameRules) (start here next : Board) (all left more : List Move) (m : Move) (count : ℕ) → left ≡ m ∷ more
    → Step g here m next → GoesByItself rule g here m.from m.to
    → ((n : ℕ) → GoByThemselves rule g here left n → GoByThemselves rule g start all (count + n))
    → (n : ℕ) → GoByThemselves rule g next more n → GoByThemselves rule g start all (count + 1 + n)
counted_goer rule g start here next all left more m count first step goes counted n go =
    let on : GoByThemselves rule g here left (n + 1) =
    subst (λ l. GoByThemselves rule g here l (n + 1)) (sym first) (next, step, inl (goes, (n, refl, go))) in
    let sum : count + (n + 1) ≡ count + 1 + n = omega arith in
    subst (λ x. GoByThemselves rule g start all x) sum (counted (n + 1) on)

-- another isn't
pub counted_other : (rule : ℕ) (g : GameRules) (start here next : Board) (all left more : List Move) (m : Move) (count : ℕ) → left ≡ m ∷ more
    → Step g here m next → (GoesByItself rule g here m.from m.to → ⊥)
    → ((n : ℕ) → GoByThemselves rule g here left n → GoByThemselves rule g start all (count + n))
    → (n : ℕ) → GoByThemselves rule g next more n → GoByThemselves rule g start all (count + n)
counted_other rule g start here next all left more m count first step stays counted n go =
    counted n (subst (λ l. GoByThemselves rule g here l n) (sym first) (next, step, inr (stays, go)))

-- behind the last move all are counted
pub counted_all : (rule : ℕ) (g : GameRules) (start here : Board) (all left : List Move) (count : ℕ) → left ≡ []
    → ((n : ℕ) → GoByThemselves rule g here left n → GoByThemselves rule g start all (count + n)) → GoByThemselves rule g start all count
counted_all rule g start here all left count none counted =
    let zero : count + 0 ≡ count = omega arith in
    subst (λ x. GoByThemselves rule g start all x) zero (counted 0 (subst (λ l. GoByThemselves rule g here l 0) (sym none) refl))
