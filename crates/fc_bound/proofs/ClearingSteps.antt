-- What a step changes in the clearing bound, and that lists that win need it.
use Rattle.std.proofs.Common.{◌≡◌, ℕ, ◌+◌, ◌<◌, ◌≤◌, suc, Bool, true, false, cond, Some, List, [], ◌∷◌, ◌++◌, length, get_or, set, refl, sym, ◌∙◌, ap, subst, ⊎_elim, arith}
use Rattle.std.specs.Prelude.{◌==◌, ◌||◌, nat_lt, count_by, slice_index}
use Rattle.std.specs.List.{list_any}
use Rattle.std.proofs.lemmas.Bool.{cases_lt}
use Rattle.std.proofs.lemmas.Bool.Decides.{nat_tests}
use Rattle.std.proofs.lemmas.List.Sums.{sum_by-cons, get_or-le-sum_by}
use Rattle.fc_cards.specs.Card.{rank, suit, all_cards}
use Rattle.fc_cards.specs.declared.places.Place.{Place}
use Rattle.fc_cards.specs.declared.places.Place.TheVariants.{Column, Cell, Home}
use Rattle.fc_position.specs.Board.{Board, column, playable, board_without, board_with, count_in_column, IsNext}
use Rattle.fc_position.specs.Position.{IsPosition, IsWon}
use Rattle.fc_position.proofs.BoardLemmas.{playable_below, homes-lifted}
use Rattle.fc_moves.specs.GameRules.{GameRules}
use Rattle.fc_moves.specs.Step.{Takes}
use Rattle.fc_bound.specs.Bound.{is_away, is_lower, stands_in}
use Rattle.fc_bound.specs.Clearing.{waits, fee, cards_in, clearing_cost, clearing_bound}
use Rattle.fc_bound.specs.Laws.{StepsLowerTheClearingBoundByOne, WinsNeedTheClearingBound}
use Rattle.fc_bound.proofs.AboveLemmas.{not_true, or-true, stands-counted}
use Rattle.fc_bound.proofs.CountLemmas.{count-but_one, count-none}
use Rattle.fc_bound.proofs.HeldLemmas.{found, column_away, next_least, away-home, bit_most, step_position, won_home}
use Rattle.fc_bound.proofs.ClearingLemmas.{clearing_least}
use Rattle.fc_bound.proofs.ClearingOrders.{fronts-same, fronts-more, cost-fronts, cost-taken}

-- a lower card among cards is one of them
record LowerAmong (u : ℕ) (cards : List ℕ) : Type 0 where
  lower : ℕ
  is_lower : is_lower u lower ≡ true
  stands : stands_in cards lower ≡ true

lower_among : (u : ℕ) (cards : List ℕ) → list_any (is_lower u) cards ≡ true → LowerAmong u cards
lower_among u [] any = absurd (cc)
lower_among u (d ∷ cards) any =
    let same : (d == d) ≡ true = grind (arith, nat_tests) in
    elim (is_lower u d) as (λ t. is_lower u d ≡ t → (t || list_any (is_lower u) cards) ≡ true → LowerAmong u (d ∷ cards)) [
      | true ↦ λ e _. record { lower = d; is_lower = e; stands = ap (λ t. t || stands_in cards d) same }
      | false ↦ λ _ later.
          let one = lower_among u cards later in
          record {
            lower = one.lower;
            is_lower = one.is_lower;
            stands = ap (λ t. (d == one.lower) || t) one.stands ∙ or-true (d == one.lower);
          }
    ] refl any

-- a card that is next waits for none: every lower card of its suit is home
pub next_waits : (b : Board) (u : ℕ) → IsPosition b → IsNext b.homes u → waits b.columns (Some u) ≡ false
next_waits b u p next = not_true (waits b.columns (Some u)) (λ waiting.
    let f = found (list_any (is_lower u)) b.columns waiting in
    let one = lower_among u (column b f.place) f.passes in
    next_least b u one.lower next one.is_lower (column_away b f.place one.lower p f.inside one.stands))

-- lifting a card saves no more than its fee, and placing one saves nothing
cost-lifted : (b : Board) (from : Place) (u : ℕ) → playable b from ≡ Some u
    → clearing_cost b.columns ≤ cond (waits b.columns (Some u)) 1 0 + clearing_cost (board_without b from).columns
cost-lifted b (Column i) u last =
    let price : fee b.columns i ≡ cond (waits b.columns (Some u)) 1 0 = ap (λ o. cond (waits b.columns o) 1 0) last in
    omega (arith, price, cost-taken b.columns i)
cost-lifted b (Cell i) u full = omega arith
cost-lifted b Home u none = absurd (cc none)

cost-placed : (b : Board) (u : ℕ) (to : Place) → clearing_cost b.columns ≤ clearing_cost (board_with b u to).columns
cost-placed b u (Column j) =
    cost-fronts b.columns (board_with b u (Column j)).columns
    (fronts-more b.columns b.columns j (column b j ++ u ∷ []) (fronts-same b.columns) (u ∷ [], refl))
cost-placed b u (Cell j) = omega arith
cost-placed b u Home = omega arith

-- where the counts stay, as many cards are not home, and the card that moves saves one at most
clearing-stays : (b : Board) (from : Place) (u : ℕ) (to : Place) → playable b from ≡ Some u
    → (board_with (board_without b from) u to).homes ≡ b.homes → clearing_bound b ≤ clearing_bound (board_with (board_without b from) u to) + 1
unfolding clearing_bound
clearing-stays b from u to there homes =
    let away : count_by (is_away b) all_cards ≡ count_by (is_away (board_with (board_without b from) u to)) all_cards =
    ap (λ h. count_by (λ x. nat_lt (slice_index h (suit x)) (rank x)) all_cards) (sym homes) in
    omega (arith, away, cost-lifted b from u there, cost-placed (board_without b from) u to, bit_most (waits b.columns (Some u)))

-- a card that goes home waits for none, and is home afterwards
clearing-home : (b : Board) (from : Place) (u : ℕ) → IsPosition b → u < 52 → playable b from ≡ Some u → IsNext b.homes u
    → clearing_bound b ≤ clearing_bound (board_with (board_without b from) u Home) + 1
unfolding clearing_bound
clearing-home b from u p below there next =
    let away = count-but_one u (is_away b) (is_away (board_with (board_without b from) u Home)) below
    (λ c other. away-home b.homes u c p.homes next other
    ∙ ap (λ h. nat_lt (slice_index (set h (suit u) (rank u)) (suit c)) (rank c)) (sym (homes-lifted b from))) in
    let free : ◌≡◌ {A = ℕ} (cond (waits b.columns (Some u)) 1 0) 0 = ap (λ t. cond t 1 0) (next_waits b u p next) in
    let most = bit_most (is_away b u) in
    omega (arith, away, free, most, cost-lifted b from u there, cost-placed (board_without b from) u Home)

-- a step lowers the clearing bound by one at most
clearing-moved : (g : GameRules) (b : Board) (from : Place) (u : ℕ) (to : Place) → IsPosition b → playable b from ≡ Some u
    → Takes g b u to → clearing_bound b ≤ clearing_bound (board_with (board_without b from) u to) + 1
clearing-moved g b from u (Column j) p there takes = clearing-stays b from u (Column j) there (homes-lifted b from)
clearing-moved g b from u (Cell j) p there takes = clearing-stays b from u (Cell j) there (homes-lifted b from)
clearing-moved g b from u Home p there takes = clearing-home b from u p (playable_below b from u p there) there takes

pub clearing_lowers : StepsLowerTheClearingBoundByOne
clearing_lowers g b c m p step =
    subst (λ x. clearing_bound b ≤ clearing_bound x + 1) (sym step.after)
    (clearing-moved g b m.from step.card m.to p step.playable step.takes)

-- columns that are all empty have no cards
cards_none : (columns : List (List ℕ)) → ((k : ℕ) → k < length columns → get_or columns k [] ≡ []) → cards_in columns ≡ 0
cards_none [] empty = refl
cards_none (x ∷ xs) empty =
    let none = ap (λ (cards : List ℕ). length cards) (empty 0 (omega arith)) in
    omega (
      arith,
      none,
      cards_none xs (λ k within. empty (suc k) (omega (arith, within))),
      sum_by-cons (λ (cards : List ℕ). length cards) x xs,
    )

-- the columns of a won position are empty
won_empty : (b : Board) (k : ℕ) (cards : List ℕ) → IsPosition b → IsWon b → k < length b.columns → column b k ≡ cards → cards ≡ []
won_empty b k [] p won inside is = refl
won_empty b k (c ∷ cards) p won inside is =
    let same : (c == c) ≡ true = grind (arith, nat_tests) in
    let stands : stands_in (column b k) c ≡ true = ap (λ x. stands_in x c) is ∙ ap (λ t. t || stands_in cards c) same in
    let counted = stands-counted (column b k) c stands in
    let all = get_or-le-sum_by (count_in_column c) b.columns k [] inside in
    ⊎_elim
    (λ below. let e : ◌≡◌ {A = Bool} true false = sym (column_away b k c p inside stands) ∙ won_home b c won below in absurd (cc))
    (λ above. absurd (omega (arith, counted, all, p.no_other c above)))
    (cases_lt c 52)

won_clear : (b : Board) → IsPosition b → IsWon b → clearing_bound b ≡ 0
unfolding clearing_bound
won_clear b p won =
    let away = count-none (is_away b) (λ c below. won_home b c won below) in
    omega (
      arith,
      away,
      clearing_least b.columns [],
      cards_none b.columns (λ k inside. won_empty b k (column b k) p won inside refl),
    )

-- every list that wins has at least so many moves
pub wins_clear : WinsNeedTheClearingBound
wins_clear g b [] p (c, run, won) =
    let none = won_clear b p (subst IsWon run won) in omega arith
wins_clear g b (m ∷ ms) p (c, (mid, step, rest), won) =
    let one = clearing_lowers g b mid m p step in
    let later = wins_clear g mid ms (step_position g b mid m p step) (c, rest, won) in
    omega arith
