-- Settling loses nothing.
use Rattle.std.proofs.Common.{◌≡◌, ℕ, zero, suc, ◌+◌, ◌-◌, ◌≤◌, ◌⊎◌, ◌↔◌, List, [], ◌∷◌, length, refl, sym, ◌∙◌, ap, subst, inl, inr, ⊎_elim, arith}
use Rattle.std.specs.Prelude.{slice_index}
use Rattle.fc_cards.specs.Card.{rank}
use Rattle.fc_cards.specs.declared.places.Place.{Place}
use Rattle.fc_cards.specs.declared.places.Place.TheVariants.{Home}
use Rattle.fc_position.specs.Board.{Board, IsHome, IsNext, board_without}
use Rattle.fc_position.specs.Position.{IsPosition, IsWon}
use Rattle.fc_position.proofs.BoardLemmas.{home_most, homes-lifted}
use Rattle.fc_moves.specs.declared.steps.Move.{Move}
use Rattle.fc_moves.specs.GameRules.{GameRules, Stands}
use Rattle.fc_moves.specs.Run.{Run, Wins, WinsWithin}
use Rattle.fc_home.specs.HomeRule.{IsFreeWithin, IsFree, GoesHome}
use Rattle.fc_home.specs.Laws.{SettlingLosesNothing}
use Rattle.fc_home.specs.Settles.{IsFirstHome, SettlesBy, sent_home}
use Rattle.fc_home.proofs.CountLemmas.{with_home, home-own, IsAhead, ahead-right}
use Rattle.fc_home.proofs.CoverLemmas.{Covers, cover_right_home, cover_lifted}
use Rattle.fc_home.proofs.RuleLemmas.{forced_free}
use Rattle.fc_home.proofs.SettleLemmas.{total, total-next, goes_next, first_step, sent_position}
use Rattle.fc_home.proofs.SimulationLemmas.{Trails, answered}

-- four counts that are no less than thirteen each, and no more
all_home : (homes : List ℕ) → length homes ≡ 4 → ((s : ℕ) → slice_index homes s ≤ 13)
    → ((s : ℕ) → slice_index (13 ∷ 13 ∷ 13 ∷ 13 ∷ []) s ≤ slice_index homes s) → homes ≡ 13 ∷ 13 ∷ 13 ∷ 13 ∷ []
all_home (c ∷ d ∷ h ∷ s ∷ []) four most least =
    let one : c ≡ 13 = omega (arith, most 0, least 0) in
    let two : d ≡ 13 = omega (arith, most 1, least 1) in
    let three : h ≡ 13 = omega (arith, most 2, least 2) in
    let last : s ≡ 13 = omega (arith, most 3, least 3) in
    rw (one, two, three, last) refl
all_home [] four most least = absurd (omega arith)
all_home (c ∷ []) four most least = absurd (omega arith)
all_home (c ∷ d ∷ []) four most least = absurd (omega arith)
all_home (c ∷ d ∷ h ∷ []) four most least = absurd (omega arith)
all_home (c ∷ d ∷ h ∷ s ∷ x ∷ xs) four most least = absurd (omega arith)

won_too : (S : ℕ → Type 0) (g : GameRules) (a b : Board) → Trails S g a b → IsWon a → IsWon b
won_too S g a b t won =
    all_home b.homes t.right.homes (home_most b t.right)
    (λ s. let same = ap (λ h. slice_index h s) won in omega (arith, same, t.ahead.least s))

-- a list that wins on the left has one that wins on the right; the cards at home pay for the difference
followed : (S : ℕ → Type 0) (g : GameRules) (a b z : Board) (ms : List Move) → Trails S g a b → Run g a ms z → IsWon z
    → (ns : List Move) × Wins g b ns × (length ns + total b.homes ≤ length ms + total a.homes)
followed S g a b z [] t run won =
    let here : IsWon a = ap (λ x. x.homes) (sym run) ∙ won in
    let there = won_too S g a b t here in
    let same : total b.homes ≡ total a.homes = ap total (there ∙ sym here) in
    ([], (b, refl, there), omega (arith, same))
followed S g a b z (m ∷ ms) t (next, step, rest) won =
    ⊎_elim
    (λ (trails, paid).
    let later = followed S g next b z ms trails rest won in
    (later.0, later.1, omega (arith, later.2, paid)))
    (λ (n, c, made, trails, paid).
    let later = followed S g next c z ms trails rest won in
    let end = later.1 in
    (n ∷ later.0, (end.0, (c, made, end.1), end.2), omega (arith, later.2, paid)))
    (answered S g a b next m t step)

-- the cards that are free by some counts
abbrev Free : GameRules → List ℕ → ℕ → Type 0
Free g homes c = (depth : ℕ) × IsFreeWithin depth g homes c

free_is_next : (depth : ℕ) (g : GameRules) (homes : List ℕ) (c : ℕ) → IsFreeWithin depth g homes c → IsNext homes c
free_is_next zero g homes c free = absurd free
free_is_next (suc depth) g homes c free = free.0

free_is_hosted : (depth : ℕ) (g : GameRules) (homes : List ℕ) (c u : ℕ) → IsFreeWithin depth g homes c → Stands g u c
    → IsHome homes u ⊎ Free g homes u
free_is_hosted zero g homes c u free stands = absurd free
free_is_hosted (suc depth) g homes c u free stands =
    ⊎_elim (λ home. inl home) (λ f. inr (depth, f)) (free.1 u stands)

goes_free : (rule : ℕ) (g : GameRules) (homes : List ℕ) (c : ℕ) → GoesHome rule g homes c → IsFree g homes c
goes_free zero g homes c goes = absurd goes
goes_free (suc zero) g homes c goes = forced_free g homes c goes
goes_free (suc (suc more)) g homes c goes = goes

-- no card is ahead at first, and then the one that goes home
none_ahead : (g : GameRules) (homes : List ℕ) → IsAhead (Free g homes) g homes homes
none_ahead g homes = record {
  least = λ s. omega arith;
  ahead = λ c home. inl home;
  ready = λ c free. inr (free_is_next free.0 g homes c free.1);
  hosts = λ c u free stands. free_is_hosted free.0 g homes c u free.1 stands;
}

one_ahead : (rule : ℕ) (g : GameRules) (b : Board) (from : Place) (c : ℕ) → IsPosition b → IsFirstHome rule g b from c
    → Trails (Free g b.homes) g b (sent_home b from c)
one_ahead rule g b from c p first =
    let next = goes_next rule g b.homes c first.goes in
    let x = sent_home b from c in
    let same : x.homes ≡ with_home b.homes c = ap (λ h. with_home h c) (homes-lifted b from) in
    record {
      left = p;
      right = sent_position rule g b from c p first;
      covers = subst (λ h. Covers h b x) (sym same) (cover_right_home (with_home b.homes c) b (board_without b from) c (cover_lifted (with_home b.homes c) b from c first.there (home-own b.homes c p.homes)));
      ahead =
          subst (λ h. IsAhead (Free g b.homes) g b.homes h) (sym same)
          (ahead-right (Free g b.homes) g b.homes b.homes c p.homes (none_ahead g b.homes) next (rank c, goes_free rule g b.homes c first.goes));
    }

-- one card that goes home costs one move and loses nothing
one_loses_nothing : (rule : ℕ) (g : GameRules) (b : Board) (m : Move) (c most : ℕ) → IsPosition b → IsFirstHome rule g b m.from c
    → m.to ≡ Home → WinsWithin g b most ↔ ((1 ≤ most) × WinsWithin g (sent_home b m.from c) (most - 1))
one_loses_nothing rule g b m c most p first home = (
  λ (ms, few, (z, run, won)).
      let next = sent_home b m.from c in
      let same : next.homes ≡ with_home b.homes c = ap (λ h. with_home h c) (homes-lifted b m.from) in
      let more : total next.homes ≡ total b.homes + 1 =
      ap total same ∙ total-next b.homes c p.homes (goes_next rule g b.homes c first.goes) in
      let right = followed (Free g b.homes) g b next z ms (one_ahead rule g b m.from c p first) run won in
      (omega (arith, few, more, right.2), (right.0, omega (arith, few, more, right.2), right.1)),
  λ (some, (ns, few, (z, run, won))).
      let long : length (m ∷ ns) ≤ most = omega (arith, few, some) in
      (m ∷ ns, long, (z, (sent_home b m.from c, first_step rule g b m c first home, run), won)),
)

-- and so do all of them
all_lose_nothing : (g : GameRules) (rule : ℕ) (b q : Board) (ms : List Move) (most : ℕ) → IsPosition b → SettlesBy g rule b ms q
    → WinsWithin g b most ↔ ((length ms ≤ most) × WinsWithin g q (most - length ms))
all_lose_nothing g rule b q [] most p (same, none) = (
  λ (ns, few, wins). (omega arith, (ns, omega (arith, few), subst (λ x. Wins g x ns) (sym same) wins)),
  λ (some, (ns, few, wins)). (ns, omega (arith, few), subst (λ x. Wins g x ns) same wins),
)
all_lose_nothing g rule b q (m ∷ ms) most p (c, first, home, rest) =
    let next = sent_home b m.from c in
    let one = one_loses_nothing rule g b m c most p first home in
    let later = all_lose_nothing g rule next q ms (most - 1) (sent_position rule g b m.from c p first) rest in (
      λ wins.
          let a = one.0 wins in
          let z = later.0 a.1 in
          let w = z.1 in
          (omega (arith, a.0, z.0), (w.0, omega (arith, w.1), w.2)),
      λ (few, (ns, short, wins)).
          one.1 (omega (arith, few), later.1 (omega (arith, few), (ns, omega (arith, short), wins))),
    )

pub settle_loses_nothing : SettlingLosesNothing
settle_loses_nothing g rule b q count most p (ms, long, settles) =
    subst (λ n. WinsWithin g b most ↔ ((n ≤ most) × WinsWithin g q (most - n))) long
    (all_lose_nothing g rule b q ms most p settles)
