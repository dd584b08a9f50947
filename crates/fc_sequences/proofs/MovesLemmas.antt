-- How many moves cards are carried by.
use Rattle.std.proofs.Common.{◌≡◌, ℕ, ◌+◌, ◌-◌, ◌*◌, ◌^◌, ◌≤◌, zero, suc, true, false, List, cond, length, refl, sym, ◌∙◌, ap, arith}
use Rattle.std.specs.Prelude.{nat_le}
use Rattle.std.proofs.Math.Nat.{mul-le-mul_left}
use Rattle.std.proofs.lemmas.Nat.{pow_pos}
use Rattle.std.proofs.lemmas.Bool.Decides.{nat_tests}
use Rattle.fc_position.specs.Board.{Board}
use Rattle.fc_moves.specs.GameRules.{GameRules}
use Rattle.fc_sequences.specs.Carry.{most_cards, carry_moves}
use Rattle.fc_sequences.specs.Sequence.{free_cells, spare_columns}

-- over the cells alone
pub moves_alone : (cells k : ℕ) → carry_moves cells 0 k ≡ 2 * k - 1
unfolding carry_moves
moves_alone cells k = refl

-- where the other columns can do it, one more isn't used
pub moves_others : (cells m k : ℕ) → k ≤ most_cards cells m → carry_moves cells (suc m) k ≡ carry_moves cells m k
unfolding carry_moves
moves_others cells m k few =
    let test : nat_le k (most_cards cells m) ≡ true = grind (arith, nat_tests) in
    ap (λ t. cond t (carry_moves cells m k) (2 * carry_moves cells m (k - most_cards cells m) + carry_moves cells m (most_cards cells m))) test

-- where there are h more, these are moved twice
pub moves_halves : (cells m k h r : ℕ) → k ≡ h + r → 1 ≤ h → r ≡ most_cards cells m
    → carry_moves cells (suc m) k ≡ carry_moves cells m h + carry_moves cells m r + carry_moves cells m h
unfolding carry_moves
moves_halves cells m k h r sum more rest =
    let test : nat_le k (most_cards cells m) ≡ false = grind (arith, nat_tests) in
    let left : k - most_cards cells m ≡ h = omega arith in
    ap (λ t. cond t (carry_moves cells m k) (2 * carry_moves cells m (k - most_cards cells m) + carry_moves cells m (most_cards cells m))) test
    ∙ ap (λ n. 2 * carry_moves cells m n + carry_moves cells m (most_cards cells m)) left
    ∙ ap (λ n. 2 * carry_moves cells m h + carry_moves cells m n) (sym rest) ∙ omega arith

-- where the cells alone can do it, no column is used
pub moves_few : (cells m k : ℕ) → k ≤ cells + 1 → carry_moves cells m k ≡ 2 * k - 1
moves_few cells zero k few = moves_alone cells k
moves_few cells (suc m) k few =
    moves_others cells m k (omega (arith, few, mul-le-mul_left {m = 1} {n = 2 ^ m} (cells + 1) (pow_pos m))) ∙ moves_few cells m k few

-- over the free cells of a board and its spare columns
pub moves_here : (g : GameRules) (b : Board) (j k : ℕ) (cells columns : List ℕ) → cells ≡ free_cells g b → columns ≡ spare_columns b j
    → carry_moves (length cells) (length columns) k ≡ carry_moves (length (free_cells g b)) (length (spare_columns b j)) k
moves_here g b j k cells columns e f =
    ap (λ (l : List ℕ). carry_moves (length l) (length columns) k) e
    ∙ ap (λ (l : List ℕ). carry_moves (length (free_cells g b)) (length l) k) f

pub moves_few_here : (g : GameRules) (b : Board) (j k : ℕ) (cells : List ℕ) → cells ≡ free_cells g b → k ≤ length cells + 1
    → 2 * k - 1 ≡ carry_moves (length (free_cells g b)) (length (spare_columns b j)) k
moves_few_here g b j k cells e few =
    sym (moves_few (length (free_cells g b)) (length (spare_columns b j)) k (omega (arith, few, ap length e)))
