-- Words that tell an entry, one by one.
use Rattle.std.proofs.Common.{◌≡◌, Bor, ℕ, zero, suc, ◌<◌, ◌≤◌, List, [], ◌∷◌, length, get_or, refl, arith}
use Rattle.std.specs.Prelude.{map}

-- a word of some that are lent is that of their list
pub word_at : (words : List (Bor (List ℕ))) (all : List (List ℕ)) (k : ℕ) (d : Bor (List ℕ)) → map (λ w. w.now) words ≡ all → k < length all
    → (get_or words k d).now ≡ get_or all k []
word_at [] [] k d same less = absurd (omega (arith, less))
word_at [] (x ∷ xs) k d same less = absurd (cc same)
word_at (w ∷ ws) [] k d same less = absurd (cc same)
word_at (w ∷ ws) (x ∷ xs) zero d same less = cc same
word_at (w ∷ ws) (x ∷ xs) (suc k) d same less = word_at ws xs k d (cc same) (omega (arith, less))

-- nine words are their list
pub nine_words : (words : List (Bor (List ℕ))) (d : Bor (List ℕ)) → 9 ≤ length words → length words < 10
    → map (λ w. w.now) words ≡ (get_or words 0 d).now ∷ (get_or words 1 d).now ∷ (get_or words 2 d).now ∷ (get_or words 3 d).now ∷ (get_or words 4 d).now
    ∷ (get_or words 5 d).now ∷ (get_or words 6 d).now ∷ (get_or words 7 d).now ∷ (get_or words 8 d).now ∷ []
nine_words (a ∷ b ∷ c ∷ e ∷ f ∷ g ∷ h ∷ i ∷ j ∷ []) d least most = refl
nine_words [] d least most = absurd (omega (arith, least))
nine_words (a ∷ []) d least most = absurd (omega (arith, least))
nine_words (a ∷ b ∷ []) d least most = absurd (omega (arith, least))
nine_words (a ∷ b ∷ c ∷ []) d least most = absurd (omega (arith, least))
nine_words (a ∷ b ∷ c ∷ e ∷ []) d least most = absurd (omega (arith, least))
nine_words (a ∷ b ∷ c ∷ e ∷ f ∷ []) d least most = absurd (omega (arith, least))
nine_words (a ∷ b ∷ c ∷ e ∷ f ∷ g ∷ []) d least most = absurd (omega (arith, least))
nine_words (a ∷ b ∷ c ∷ e ∷ f ∷ g ∷ h ∷ []) d least most = absurd (omega (arith, least))
nine_words (a ∷ b ∷ c ∷ e ∷ f ∷ g ∷ h ∷ i ∷ []) d least most = absurd (omega (arith, least))
nine_words (a ∷ b ∷ c ∷ e ∷ f ∷ g ∷ h ∷ i ∷ j ∷ k ∷ ws) d least most = absurd (omega (arith, most))
