-- The board after a sequence has been carried.
use Rattle.std.proofs.Common.{◌≡◌, ◌≢◌, ℕ, ◌<◌, Option, List, [], ◌++◌, length, set, refl, sym, ◌∙◌, ap, ⊎_elim, arith}
use Rattle.std.proofs.lemmas.List.{get_or-set_same, get_or-set_other, length-set, ext_get_or}
use Rattle.std.proofs.lemmas.Bool.{cases_eq}
use Rattle.fc_position.specs.Board.{Board, column}
use Rattle.fc_sequences.specs.Sequence.{last_cards, cards_before, board_after_carry}

-- boards with the same columns, cells and counts are the same
pub board_same : (b c : Board) → length b.columns ≡ length c.columns → ((x : ℕ) → column b x ≡ column c x) → b.cells ≡ c.cells
    → b.homes ≡ c.homes → b ≡ c
board_same b c long columns cells homes =
    let all : b.columns ≡ c.columns = ext_get_or [] b.columns c.columns long (λ x _. columns x) in
    let make : List (List ℕ) → List (Option ℕ) → List ℕ → Board = λ x y z. record { columns = x; cells = y; homes = z } in
    ap (λ x. make x b.cells b.homes) all ∙ ap (λ y. make c.columns y b.homes) cells ∙ ap (λ z. make c.columns c.cells z) homes

-- only the columns i and j of a board were changed, to these
pub record Changed (b c : Board) (i j : ℕ) (xs ys : List ℕ) : Type 0 where
  pub first : column c i ≡ xs
  pub second : column c j ≡ ys
  pub others : (x : ℕ) → x ≢ i → x ≢ j → column c x ≡ column b x
  pub long : length c.columns ≡ length b.columns
  pub cells : c.cells ≡ b.cells
  pub homes : c.homes ≡ b.homes

pub changed_so : (b : Board) (i j : ℕ) (xs ys : List ℕ) → i < length b.columns → j < length b.columns → j ≢ i
    → Changed b (record b { columns = set (set b.columns i xs) j ys }) i j xs ys
changed_so b i j xs ys from to other =
    let one = length-set b.columns i xs in record {
      first = get_or-set_other (set b.columns i xs) j i ys [] (λ e. other (sym e)) ∙ get_or-set_same b.columns i xs [] from;
      second = get_or-set_same (set b.columns i xs) j ys [] (omega arith);
      others = λ x ni nj. get_or-set_other (set b.columns i xs) j x ys [] nj ∙ get_or-set_other b.columns i x xs [] ni;
      long = length-set (set b.columns i xs) j ys ∙ one;
      cells = refl;
      homes = refl;
    }

-- what carrying changes
pub carried_so : (b : Board) (i j k : ℕ) → length b.columns ≡ 8 → i < 8 → j < 8 → j ≢ i
    → Changed b (board_after_carry b i j k) i j (cards_before k (column b i)) (column b j ++ last_cards k (column b i))
carried_so b i j k long from to other =
    changed_so b i j (cards_before k (column b i)) (column b j ++ last_cards k (column b i)) (omega arith) (omega arith) other

-- boards on which the same was changed are the same
pub changed_once : (b c d : Board) (i j : ℕ) (xs ys : List ℕ) → Changed b c i j xs ys → Changed b d i j xs ys → c ≡ d
changed_once b c d i j xs ys p q =
    board_same c d (p.long ∙ sym q.long)
    (λ x. ⊎_elim (λ e. ap (column c) e ∙ p.first ∙ sym q.first ∙ ap (column d) (sym e))
    (λ ni. ⊎_elim (λ e. ap (column c) e ∙ p.second ∙ sym q.second ∙ ap (column d) (sym e))
    (λ nj. p.others x ni nj ∙ sym (q.others x ni nj)) (cases_eq x j)) (cases_eq x i)) (p.cells ∙ sym q.cells) (p.homes ∙ sym q.homes)
