-- The two kinds of lower bounds.
use Rattle.std.specs.Prelude.{◌≡◌, ℕ, ◌+◌, List, length}
use Rattle.fc_position.specs.Board.{Board}
use Rattle.fc_bound.specs.declared.kinds.BoundKind.{BoundKind}
use Rattle.fc_bound.specs.declared.kinds.BoundKind.TheVariants.{Plain, Clearing}
use Rattle.fc_bound.specs.Bound.{bound}
use Rattle.fc_bound.specs.Clearing.{clearing_bound}
use Rattle.fc_bound.specs.Knots.{knot_bound}
use Rattle.fc_bound.specs.Rings.{IsFamily}

-- the guide: the bound that is counted quickly, by which a table's rows are chosen
abbrev pub guide_of : BoundKind → Board → ℕ
guide_of Plain = bound
guide_of Clearing = knot_bound

-- the bound that a table is closed by
abbrev pub low_of : BoundKind → Board → ℕ
low_of Plain = bound
low_of Clearing = clearing_bound

-- a number that is shown of a board, with a note: the plain bound; or the plain bound and how many rings a family has, of the cards
-- whose bits are the note
abbrev pub IsShown : BoundKind → Board → ℕ → ℕ → Type 0
IsShown Plain b number note = number ≡ bound b
IsShown Clearing b number note = (rings : List (List ℕ)) × IsFamily b.columns note rings × (number ≡ bound b + length rings)
