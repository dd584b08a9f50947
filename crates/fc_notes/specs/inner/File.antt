-- Files of several boards, within the crate.
use Rattle.std.specs.Prelude.{ℕ, cond, List, [], ◌∷◌}
use Rattle.fc_notes.specs.File.{is_blank_text}

-- a part below so many lines, if it is a board
abbrev pub one_board : ℕ → List ℕ → List (List ℕ × ℕ)
one_board above text = cond (is_blank_text text) [] ((text, above) ∷ [])
