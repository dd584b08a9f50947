-- Board texts as lines, and lines as their kind and their tokens, within the crate.
use Rattle.std.specs.Prelude.{◌≡◌, ℕ, Bool, List, [], ◌∷◌}
use Rattle.fc_text.specs.Line.{tokens_between}

-- a text is parted into its first token and the rest; an empty token stands for none
abbrev pub SplitsToken : (ℕ → Bool) → List ℕ → List ℕ → List ℕ → Type 0
SplitsToken is_gap text [] rest = (tokens_between is_gap text ≡ []) × (tokens_between is_gap rest ≡ [])
SplitsToken is_gap text (b ∷ bytes) rest = tokens_between is_gap text ≡ (b ∷ bytes) ∷ tokens_between is_gap rest
