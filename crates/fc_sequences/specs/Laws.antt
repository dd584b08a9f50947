-- What the laws of this crate state.
use Rattle.std.specs.Prelude.{◌≡◌, ◌≤◌, ℕ, List, length}
use Rattle.fc_position.specs.Board.{Board}
use Rattle.fc_moves.specs.declared.steps.Move.{Move}
use Rattle.fc_moves.specs.GameRules.{GameRules, IsPositionOf}
use Rattle.fc_moves.specs.Run.{Run}
use Rattle.fc_sequences.specs.declared.list_expansions.ListFault.{ListFault}
use Rattle.fc_sequences.specs.declared.list_expansions.ListFault.TheVariants.{Memory}
use Rattle.fc_sequences.specs.declared.pairs.Pair.{Pair}
use Rattle.fc_sequences.specs.Following.{Expands, Follows, IsListFault}
use Rattle.fc_sequences.specs.Gathering.{Gathers}
use Rattle.fc_sequences.specs.Pair.{SpellsPair}
use Rattle.fc_sequences.specs.declared.list_expansions.TheConstants.{MOST_BOARDS}
use Rattle.fc_sequences.specs.declared.gathers.TheConstants.{MOST_AHEAD}

-- entries to which moves are gathered lead to the board to which the moves run, and to no other
abbrev pub GatheredLeadToOneBoard : Type 0
GatheredLeadToOneBoard = (g : GameRules) (b c : Board) (ps : List Pair) (ms : List Move) → Gathers g b ps ms c
    → Run g b ms c × Follows g b ps c × ((d : Board) → Follows g b ps d → d ≡ c)

-- such entries expand to no more moves than were gathered, which lead to the same board
abbrev pub GatheredExpandToNoMore : Type 0
GatheredExpandToNoMore = (g : GameRules) (b c d : Board) (ps : List Pair) (ms ns : List Move) → Gathers g b ps ms c
    → Expands g b ps ns d → (d ≡ c) × (length ns ≤ length ms)

-- nothing but want of memory keeps such entries from being expanded
abbrev pub GatheredExpandAlways : Type 0
GatheredExpandAlways = (g : GameRules) (b c : Board) (ps : List Pair) (ms : List Move) (fault : ListFault) → Gathers g b ps ms c
    → IsListFault g b ps fault → fault ≡ Memory

-- from a position of the game a list of moves is gathered to one list of entries
abbrev pub GatheredToOneList : Type 0
GatheredToOneList = (g : GameRules) (b c d : Board) (ps qs : List Pair) (ms : List Move) → IsPositionOf g b → Gathers g b ps ms c
    → Gathers g b qs ms d → ps ≡ qs

-- a text is of one entry
abbrev pub TextsTellEntriesApart : Type 0
TextsTellEntriesApart = (token : List ℕ) (p q : Pair) → SpellsPair token p → SpellsPair token q → p ≡ q

-- to how many boards a front of a list may lead, and how many moves one entry may stand for
abbrev pub NumbersAreTold : Type 0
NumbersAreTold = (MOST_BOARDS ≡ 1000) × (MOST_AHEAD ≡ 64)
