-- Games as other programs name them.
use Rattle.std.specs.Prelude.{◌<◌, ◌≤◌, ◌==◌, cond}
use Rattle.fc_moves.specs.GameRules.{GameRules, bakers_game, free_cell, kings}
use Rattle.fc_library.specs.declared.game_names.GameName.{GameName}

-- a game has this name
abbrev pub IsNamed : GameName → Type 0
IsNamed name = (name.code < 4) × (name.cells ≤ 4)

-- FreeCell, Baker's Game, and the same two with kings alone on empty columns
abbrev pub game_named : GameName → GameRules
game_named name = cond (name.code == 0) (free_cell name.cells) (cond (name.code == 1) (bakers_game name.cells)
    (cond (name.code == 2) (kings (free_cell name.cells)) (kings (bakers_game name.cells))))
