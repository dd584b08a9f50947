-- The foundation line that makes a text a board.
use Rattle.std.proofs.Common.{◌≡◌, ℕ, true, List, [], ◌∷◌}
use Rattle.std.specs.Prelude.{slice_index, Result, Ok, Err, IfErr, is_err}
use Rattle.fc_cards.proofs.EachRank.{by_suit}
use Rattle.fc_position.specs.Board.{Board}
use Rattle.fc_text.specs.Board.{IsBoardFault, Spells}
use Rattle.fc_text.specs.declared.faults.BoardFault.{BoardFault}
use Rattle.fc_text.proofs.OnceLemmas.{spell_no_fault}
use Rattle.fc_typed.specs.Guess.{LacksFirst, LacksFirstOfEach}

-- of each suit, from the four of them
pub each_lacks : (text : List ℕ) (a b c d : ℕ) → LacksFirst text 0 a → LacksFirst text 1 b → LacksFirst text 2 c → LacksFirst text 3 d
    → LacksFirstOfEach text (a ∷ b ∷ c ∷ d ∷ [])
each_lacks text a b c d p q r s = by_suit (λ k. LacksFirst text k (slice_index (a ∷ b ∷ c ∷ d ∷ []) k)) p q r s

-- a text that is refused spells no position
pub refused_spells : {A : Type 0} (n : ℕ) (text : List ℕ) (r : Result A BoardFault) → is_err r ≡ true → IfErr r (IsBoardFault n text)
    → (b : Board) → Spells n text b → ⊥
refused_spells n text (Ok x) refused fault b spells = absurd (cc refused)
refused_spells n text (Err e) refused fault b spells = spell_no_fault n text b e spells fault
