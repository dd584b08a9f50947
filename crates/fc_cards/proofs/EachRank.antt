-- What holds of each of the thirteen ranks, and of each of the four suits.
use Rattle.std.proofs.Common.{ℕ, zero, suc, ◌<◌, arith}
use Rattle.fc_cards.specs.Texts.{IsRank}

-- a fact of each rank, from the thirteen of them
pub by_rank : (P : ℕ → Type 0) → P 1 → P 2 → P 3 → P 4 → P 5 → P 6 → P 7 → P 8 → P 9 → P 10 → P 11 → P 12 → P 13
    → (r : ℕ) → IsRank r → P r
by_rank P a b c d e f g h i j k l m zero ok = absurd (omega (arith, ok.least))
by_rank P a b c d e f g h i j k l m (suc zero) ok = a
by_rank P a b c d e f g h i j k l m (suc (suc zero)) ok = b
by_rank P a b c d e f g h i j k l m (suc (suc (suc zero))) ok = c
by_rank P a b c d e f g h i j k l m (suc (suc (suc (suc zero)))) ok = d
by_rank P a b c d e f g h i j k l m (suc (suc (suc (suc (suc zero))))) ok = e
by_rank P a b c d e f g h i j k l m (suc (suc (suc (suc (suc (suc zero)))))) ok = f
by_rank P a b c d e f g h i j k l m (suc (suc (suc (suc (suc (suc (suc zero))))))) ok = g
by_rank P a b c d e f g h i j k l m (suc (suc (suc (suc (suc (suc (suc (suc zero)))))))) ok = h
by_rank P a b c d e f g h i j k l m (suc (suc (suc (suc (suc (suc (suc (suc (suc zero))))))))) ok = i
by_rank P a b c d e f g h i j k l m (suc (suc (suc (suc (suc (suc (suc (suc (suc (suc zero)))))))))) ok = j
by_rank P a b c d e f g h i j k l m (suc (suc (suc (suc (suc (suc (suc (suc (suc (suc (suc zero))))))))))) ok = k
by_rank P a b c d e f g h i j k l m (suc (suc (suc (suc (suc (suc (suc (suc (suc (suc (suc (suc zero)))))))))))) ok = l
by_rank P a b c d e f g h i j k l m (suc (suc (suc (suc (suc (suc (suc (suc (suc (suc (suc (suc (suc zero))))))))))))) ok = m
by_rank P a b c d e f g h i j k l m (suc (suc (suc (suc (suc (suc (suc (suc (suc (suc (suc (suc (suc (suc n)))))))))))))) ok = absurd (omega (arith, ok.greatest))

-- a fact of each suit, from the four of them
pub by_suit : (P : ℕ → Type 0) → P 0 → P 1 → P 2 → P 3 → (s : ℕ) → s < 4 → P s
by_suit P a b c d zero ok = a
by_suit P a b c d (suc zero) ok = b
by_suit P a b c d (suc (suc zero)) ok = c
by_suit P a b c d (suc (suc (suc zero))) ok = d
by_suit P a b c d (suc (suc (suc (suc n)))) ok = absurd (omega arith)
