-- The numbers that tell why a call was refused, and where that lies.
use Rattle.std.specs.Prelude.{ℕ}
use Rattle.fc_text.specs.declared.faults.BoardFault.{BoardFault}
use Rattle.fc_text.specs.declared.faults.BoardFault.TheVariants.{TooLong, BadCard, BadFoundation, TooManyCells, TooManyColumns, RepeatedLine, RepeatedCard, MissingCard}
use Rattle.fc_replay.specs.declared.faults.ReplayFault.{ReplayFault}
use Rattle.fc_replay.specs.declared.faults.ReplayFault.TheVariants.{BadMove, NotAllowed, Write}
use Rattle.fc_checker.specs.declared.faults.CheckFault.{CheckFault}
use Rattle.fc_checker.specs.declared.faults.CheckFault.TheVariants as checked
use Rattle.fc_cert.specs.declared.faults.CertFault.{CertFault}
use Rattle.fc_cert.specs.declared.faults.CertFault.TheVariants as formed
use Rattle.fc_library.specs.declared.call_refusals.CallRefusal.{CallRefusal}
use Rattle.fc_library.specs.declared.call_refusals.CallRefusal.TheVariants as refused
use Rattle.fc_library.specs.declared.numbers.TheConstants.{BAD_GAME, BAD_DEAL, BAD_BUDGET, BAD_RULE, BAD_BOUND, BAD_WEIGHT, BAD_EXPANSION, NO_MEMORY, TOO_LONG, NOT_A_MOVE, NOT_ALLOWED, TOO_MANY_WAYS, BOARD_TOO_LONG, NOT_A_CARD, NOT_A_FOUNDATION, TOO_MANY_CELLS, TOO_MANY_COLUMNS, REPEATED_LINE, REPEATED_CARD, MISSING_CARD, CERT_SHORT, CERT_BAD_MAGIC, CERT_BAD_CELLS, CERT_BAD_RULE, CERT_BAD_BOUND, CERT_BAD_KIND, CERT_BAD_FLOOR, CERT_BAD_MOVE, CERT_BAD_RECORD, CERT_ORDER, CERT_LABEL, CERT_TRAILING, CERT_OTHER_GAME, CERT_NOT_ALLOWED, CERT_NOT_HOME, CERT_START_OPEN, CERT_WON_LISTED, CERT_OPEN}

-- of a fault of a board's text
abbrev pub board_number : BoardFault → ℕ
board_number TooLong = BOARD_TOO_LONG
board_number (BadCard line) = NOT_A_CARD
board_number (BadFoundation line) = NOT_A_FOUNDATION
board_number (TooManyCells line) = TOO_MANY_CELLS
board_number (TooManyColumns line) = TOO_MANY_COLUMNS
board_number (RepeatedLine line) = REPEATED_LINE
board_number (RepeatedCard card) = REPEATED_CARD
board_number (MissingCard card) = MISSING_CARD

-- its line, or its card
abbrev pub board_place : BoardFault → ℕ
board_place TooLong = 0
board_place (BadCard line) = line
board_place (BadFoundation line) = line
board_place (TooManyCells line) = line
board_place (TooManyColumns line) = line
board_place (RepeatedLine line) = line
board_place (RepeatedCard card) = card
board_place (MissingCard card) = card

-- of a fault of a list, and its step; a sink in memory fails for want of memory alone
abbrev pub replay_number : ReplayFault → ℕ
replay_number (BadMove step) = NOT_A_MOVE
replay_number (NotAllowed step) = NOT_ALLOWED
replay_number Write = NO_MEMORY

abbrev pub replay_place : ReplayFault → ℕ
replay_place (BadMove step) = step
replay_place (NotAllowed step) = step
replay_place Write = 0

-- of a fault of a certificate's form, and its move or record; reading one writes nothing
abbrev pub form_number : CertFault → ℕ
form_number formed.NotCertified = NO_MEMORY
form_number formed.Write = NO_MEMORY
form_number formed.Short = CERT_SHORT
form_number formed.BadMagic = CERT_BAD_MAGIC
form_number formed.BadCells = CERT_BAD_CELLS
form_number formed.BadRule = CERT_BAD_RULE
form_number formed.BadBound = CERT_BAD_BOUND
form_number formed.BadKind = CERT_BAD_KIND
form_number formed.BadFloor = CERT_BAD_FLOOR
form_number (formed.BadMove i) = CERT_BAD_MOVE
form_number (formed.BadRecord i) = CERT_BAD_RECORD
form_number (formed.Order i) = CERT_ORDER
form_number (formed.Label i) = CERT_LABEL
form_number formed.Trailing = CERT_TRAILING
form_number formed.Memory = NO_MEMORY

abbrev pub form_place : CertFault → ℕ
form_place (formed.BadMove i) = i
form_place (formed.BadRecord i) = i
form_place (formed.Order i) = i
form_place (formed.Label i) = i
form_place other = 0

-- of the first thing that is asked of a certificate and doesn't hold, and its move or record
abbrev pub check_number : CheckFault → ℕ
check_number (checked.Form fault) = form_number fault
check_number checked.OtherGame = CERT_OTHER_GAME
check_number (checked.NotAllowed i) = CERT_NOT_ALLOWED
check_number checked.NotHome = CERT_NOT_HOME
check_number checked.StartOpen = CERT_START_OPEN
check_number (checked.WonListed i) = CERT_WON_LISTED
check_number (checked.Open i) = CERT_OPEN
check_number checked.Memory = NO_MEMORY

abbrev pub check_place : CheckFault → ℕ
check_place (checked.Form fault) = form_place fault
check_place (checked.NotAllowed i) = i
check_place (checked.WonListed i) = i
check_place (checked.Open i) = i
check_place other = 0

-- of a refusal
abbrev pub refusal_number : CallRefusal → ℕ
refusal_number refused.Game = BAD_GAME
refusal_number refused.Deal = BAD_DEAL
refusal_number refused.Budget = BAD_BUDGET
refusal_number refused.Rule = BAD_RULE
refusal_number refused.Bound = BAD_BOUND
refusal_number refused.Weight = BAD_WEIGHT
refusal_number refused.Expansion = BAD_EXPANSION
refusal_number (refused.Board fault) = board_number fault
refusal_number refused.TooLong = TOO_LONG
refusal_number (refused.Moves fault) = replay_number fault
refusal_number (refused.TooManyWays step) = TOO_MANY_WAYS
refusal_number (refused.Certificate fault) = check_number fault
refusal_number refused.Memory = NO_MEMORY

-- where it lies, 0 where it lies nowhere
abbrev pub refusal_place : CallRefusal → ℕ
refusal_place (refused.Board fault) = board_place fault
refusal_place (refused.Moves fault) = replay_place fault
refusal_place (refused.TooManyWays step) = step
refusal_place (refused.Certificate fault) = check_place fault
refusal_place other = 0
