-- Words that tell no entry.
use Rattle.std.specs.Prelude.{ℕ, List}
use Rattle.fc_sequences.specs.declared.pairs.Pair.{Pair}
use Rattle.fc_lists.specs.Told.{HasCards, SaysEntry, TellsWay}

-- the words tell no cards and `from`
abbrev pub RefusesCards : List (List ℕ) → Type 0
RefusesCards words = (count : ℕ) (rest : List (List ℕ)) → HasCards words count rest → ⊥

-- the words tell no way
abbrev pub RefusesWay : List (List ℕ) → Type 0
RefusesWay words = (from to : ℕ) → TellsWay words from to → ⊥

-- the words tell no entry as Freecell Solver prints it
abbrev pub SaysNoEntry : List (List ℕ) → Type 0
SaysNoEntry words = (p : Pair) → SaysEntry words p → ⊥
