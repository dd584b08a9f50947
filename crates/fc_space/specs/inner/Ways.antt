-- The way that a move makes with the home moves that follow it.
use Rattle.std.specs.Prelude.{ℕ, ◌+◌, ◌≤◌, List, length}
use Rattle.fc_position.specs.Board.{Board}
use Rattle.fc_moves.specs.Step.{Step}
use Rattle.fc_home.specs.Settles.{SettlesBy}
use Rattle.fc_codes.specs.State.{IsCodeOf}
use Rattle.fc_space.specs.Children.{Frame}
use Rattle.fc_space.specs.declared.ways.WayOn.{WayOn}

-- the way is a step from the board and the home moves that follow it, to a board with the code, at most so many moves
abbrev pub LeadsOn : Frame → Board → List ℕ → ℕ → WayOn → Type 0
LeadsOn w b code most way = (z : Board) × Step w.game b way.m z × SettlesBy w.game w.rule z way.settling.items way.position
    × IsCodeOf w.start way.position code × (1 + length way.settling.items ≤ most)
