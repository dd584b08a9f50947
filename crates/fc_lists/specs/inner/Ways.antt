-- Moves home that are chosen for what they make way for.
use Rattle.std.specs.Prelude.{◌⊎◌, ℕ, List, ◌∷◌, Option, IsSomeAnd}
use Rattle.fc_position.specs.Board.{Board}
use Rattle.fc_moves.specs.declared.steps.Move.{Move}
use Rattle.fc_moves.specs.GameRules.{GameRules}
use Rattle.fc_lists.specs.Weaving.{AllowsEntry, IsHomeBefore, MakesWay, Weaves}
use Rattle.fc_lists.specs.declared.written_entries.Entry.{Entry}

-- a move was chosen, and makes way for the wanted entry
abbrev pub SomeMakesWay : GameRules → Board → Option Move → Entry → Type 0
SomeMakesWay g b chosen wanted = IsSomeAnd chosen (λ home. MakesWay g b home wanted)

-- the entry is passed over, or allowed
abbrev pub IsReady : GameRules → Board → Entry → Type 0
IsReady g b e = IsHomeBefore b e ⊎ AllowsEntry g b e

-- what is woven before an entry stays so with more moves, which are put in
abbrev pub WeavesOn : GameRules → Entry → List Move → Board → List Move → Board → Type 0
WeavesOn g e before here moves there = (b : Board) (list rest : List Entry) (listed : ℕ)
    → Weaves g b list (e ∷ rest) (record { moves = before; listed = listed }) here → Weaves g b list (e ∷ rest) (record { moves = moves; listed = listed }) there
