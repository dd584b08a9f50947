-- The lines that were taken from a text, within the crate.
use Rattle.std.specs.Prelude.{◌≡◌, ℕ, List, ◌++◌, length}
use Rattle.std.specs.List.{concat}
use Rattle.fc_notes.specs.File.{ended_lines}

-- so many lines stand in the text above the rest
pub record Takes (text rest : List ℕ) (count : ℕ) : Type 0 where
  pub lines : List (List ℕ)
  pub parts : ended_lines text ≡ lines ++ ended_lines rest
  pub number : count ≡ length lines
  pub joined : text ≡ concat lines ++ rest
