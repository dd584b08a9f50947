-- What a card lies on is the last of the cards on which it stands, and the table where there is none.
use Rattle.std.proofs.Common.{◌≡◌, ℕ, zero, suc, ◌<◌, ◌≤◌, ◌⊎◌, List, [], ◌∷◌, ◌++◌, length, get_or, cond, eqb, refl, ◌∙◌, ap, inl, inr, ⊎_elim, arith}
use Rattle.std.specs.Prelude.{sum_by, fold}
use Rattle.std.proofs.lemmas.List.Sums.{sum_by-cons}
use Rattle.std.proofs.lemmas.Bool.{cases_eq}
use Rattle.std.proofs.lemmas.Bool.Decides.{nat_tests}
use Rattle.fc_position.specs.Board.{Board, count_in_column}
use Rattle.fc_position.specs.Position.{IsPosition}
use Rattle.fc_position.proofs.BoardLemmas.{places_most}
use Rattle.fc_codes.specs.State.{StandsOn}
use Rattle.fc_codes.specs.Spelled.{under, beneath}
use Rattle.fc_codes.proofs.StandLemmas.{count-here, column_inside}

-- the last of these cards, or the given number where there is none
abbrev pub last_or : ℕ → List ℕ → ℕ
last_or d [] = d
last_or d (x ∷ xs) = last_or x xs

pub last_or-push : (d : ℕ) (xs : List ℕ) (l : ℕ) → last_or d (xs ++ l ∷ []) ≡ l
last_or-push d [] l = refl
last_or-push d (x ∷ xs) l = last_or-push x xs l

-- a list is empty, or ends with its last element
pub ends : (xs : List ℕ) → (xs ≡ []) ⊎ ((front : List ℕ) × (l : ℕ) × (xs ≡ front ++ l ∷ []))
ends [] = inl refl
ends (x ∷ xs) =
    ⊎_elim
    (λ none. inr ([], x, ap (λ l. x ∷ l) none))
    (λ rest. inr (x ∷ rest.0, rest.1, ap (λ l. x ∷ l) rest.2))
    (ends xs)

-- a card that isn't in the column lies on what it lies on else
under-missing : (first other : ℕ) (cards : List ℕ) (c : ℕ) → count_in_column c cards ≡ 0 → under first other cards c ≡ other
under-missing first other [] c none = refl
under-missing first other (x ∷ xs) c none =
    let all = sum_by-cons (λ y. cond (eqb y c) 1 0) x xs in
    let here : ◌≡◌ {A = ℕ} (cond (eqb x c) first other) other =
    ⊎_elim
    (λ same. let one : ◌≡◌ {A = ℕ} (cond (eqb x c) 1 0) 1 = grind (arith, nat_tests) in absurd (omega (arith, none, all, one)))
    (λ apart. grind (arith, nat_tests))
    (cases_eq x c) in
    ap (λ n. under x n xs c) here ∙ under-missing x other xs c (omega (arith, none, all))

-- a card that is there once lies on the last card before it
under-at : (first other : ℕ) (w above : List ℕ) (c : ℕ) → count_in_column c above ≡ 0
    → under first other (w ++ c ∷ above) c ≡ last_or first w
under-at first other [] above c none =
    let here : ◌≡◌ {A = ℕ} (cond (eqb c c) first other) first = grind (arith, nat_tests) in
    ap (λ n. under c n above c) here ∙ under-missing c first above c none
under-at first other (x ∷ w) above c none = under-at x (cond (eqb x c) first other) w above c none

-- the same over columns
abbrev pub lying : ℕ → List (List ℕ) → ℕ → ℕ
lying other columns c = fold (λ o cards. under 52 o cards c) other columns

lying-missing : (other : ℕ) (columns : List (List ℕ)) (c : ℕ) → sum_by (count_in_column c) columns ≡ 0
    → lying other columns c ≡ other
lying-missing other [] c none = refl
lying-missing other (x ∷ xs) c none =
    let all = sum_by-cons (count_in_column c) x xs in
    ap (λ n. lying n xs c) (under-missing 52 other x c (omega (arith, none, all)))
    ∙ lying-missing other xs c (omega (arith, none, all))

lying-at : (other : ℕ) (columns : List (List ℕ)) (j : ℕ) (w above : List ℕ) (c : ℕ) → j < length columns
    → get_or columns j [] ≡ w ++ c ∷ above → sum_by (count_in_column c) columns ≤ 1 → lying other columns c ≡ last_or 52 w
lying-at other [] j w above c inside at once = absurd (omega (arith, inside))
lying-at other (x ∷ xs) zero w above c inside at once =
    let all = sum_by-cons (count_in_column c) x xs in
    let here = ap (count_in_column c) at in
    let split = count-here c w above in
    ap (λ n. lying n xs c) (ap (λ l. under 52 other l c) at ∙ under-at 52 other w above c (omega (arith, once, all, here, split)))
    ∙ lying-missing (last_or 52 w) xs c (omega (arith, once, all, here, split))
lying-at other (x ∷ xs) (suc j) w above c inside at once =
    let all = sum_by-cons (count_in_column c) x xs in
    lying-at (under 52 other x c) xs j w above c (omega (arith, inside)) at (omega (arith, once, all))

-- a card of a position lies on the last of the cards on which it stands
pub beneath-stands : (b : Board) (w : List ℕ) (c : ℕ) → IsPosition b → StandsOn b w c → beneath b c ≡ last_or 52 w
beneath-stands b w c whole p =
    lying-at 53 b.columns p.number w p.above c (column_inside b w c p) p.cards
    (let most = places_most b c whole in omega (arith, most))

-- and a card that is in no column on nothing
pub beneath-nothing : (b : Board) (c : ℕ) → sum_by (count_in_column c) b.columns ≡ 0 → beneath b c ≡ 53
beneath-nothing b c none = lying-missing 53 b.columns c none
