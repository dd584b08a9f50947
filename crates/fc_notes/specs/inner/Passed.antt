-- The lines that were passed in a file, within the crate.
use Rattle.std.specs.Prelude.{◌≡◌, ℕ, false, List, ◌++◌, length, All}
use Rattle.std.specs.List.{concat}
use Rattle.fc_notes.specs.File.{ended_lines, is_rule}

-- so many lines that part nothing stand in the text above the rest
pub record Passes (text rest : List ℕ) (count : ℕ) : Type 0 where
  pub lines : List (List ℕ)
  pub parts : ended_lines text ≡ lines ++ ended_lines rest
  pub none : All (λ line. is_rule line ≡ false) lines
  pub number : count ≡ length lines
  pub joined : text ≡ concat lines ++ rest
