-- Bytes that a checker refused, as a fault of the run that read them.
use Rattle.std.proofs.Common.{ℕ, ◌≤◌, ◌++◌, List, ◌∷◌, Option, Some, None, length, sym, subst, arith}
use Rattle.std.specs.Prelude.{Result, Ok, Err, IfOk, IfErr}
use Rattle.fc_io.specs.Moves.{IsAllTold, TellsAtLeast}
use Rattle.fc_position.specs.Board.{Board}
use Rattle.fc_moves.specs.GameRules.{GameRules}
use Rattle.fc_cert.specs.declared.contents.Form.{Form}
use Rattle.fc_cert.specs.declared.contents.Form.TheVariants.{First, Second, Third}
use Rattle.fc_cert.specs.Content.{bound_bytes, floor_bytes, game_bytes, kind_byte, magic, moves_bytes, rows_bytes}
use Rattle.fc_checker.specs.declared.faults.CheckFault.{CheckFault}
use Rattle.fc_checker.specs.declared.faults.CheckFault.TheVariants.{Form as bad_form, OtherGame, NotAllowed, NotHome, StartOpen, WonListed, Open, Memory}
use Rattle.fc_checker.specs.Check.{IsCheckFault}
use Rattle.fc_board_runs.specs.declared.faults.Input.TheVariants.{Board as of_board, Moves as of_moves, Cert as of_certificate}
use Rattle.fc_board_runs.specs.declared.faults.ProgramFault.{ProgramFault}
use Rattle.fc_board_runs.specs.declared.faults.ProgramFault.TheVariants.{Number, Range, Budget, Board as bad_board, TooLong, Moves, TooManyWays, ListEnds, Cert, Read, Write, Memory as wanting}
use Rattle.fc_board_runs.specs.Devices.{Device, GivesBoard, GivesWhole, IsUntouched}
use Rattle.fc_runs.specs.Checking.{IsChecked, IsCheckedOf, IsRefusal, IsRefusalOf}
use Rattle.fc_runs.specs.inner.Checking.{check_fault}

-- a source that gave some bytes, all that it told, told some
told_some : (told : Option (List ℕ)) (bytes : List ℕ) → IsAllTold told bytes → 1 ≤ length bytes → TellsAtLeast told 1
told_some None bytes whole some = tt
told_some (Some all) bytes whole some = subst (λ list. 1 ≤ length list) whole some

-- what begins as a certificate has bytes
has_bytes : (form : Form) (game more rest : List ℕ) → 1 ≤ length (((magic form ++ game) ++ more) ++ rest)
has_bytes First game more rest = omega arith
has_bytes Second game more rest = omega arith
has_bytes Third game more rest = omega arith

pub refused : (g : GameRules) (b : Board) (cert sink : Device) (bytes : List ℕ) (fault : CheckFault) → GivesWhole cert bytes
    → IsUntouched sink → IsCheckFault g b bytes fault → IsRefusalOf g b cert sink (check_fault fault)
refused g b cert sink bytes (bad_form f) given same here = (λ is. absurd (cc is), (bytes, given, here), same)
refused g b cert sink bytes OtherGame given same here = (λ is. absurd (cc is), (bytes, given, here), same)
refused g b cert sink bytes (NotAllowed i) given same here = (λ is. absurd (cc is), (bytes, given, here), same)
refused g b cert sink bytes NotHome given same here = (λ is. absurd (cc is), (bytes, given, here), same)
refused g b cert sink bytes StartOpen given same here = (λ is. absurd (cc is), (bytes, given, here), same)
refused g b cert sink bytes (WonListed i) given same here = (λ is. absurd (cc is), (bytes, given, here), same)
refused g b cert sink bytes (Open i) given same here = (λ is. absurd (cc is), (bytes, given, here), same)
refused g b cert sink bytes Memory given same (c, spelled, some) = (
  same,
  told_some cert.old bytes given.whole (subst (λ list. 1 ≤ length list) (sym spelled.written) (has_bytes c.head.form (game_bytes c.head.form c.head.game c.head.cells)
      (c.head.rule ∷ (bound_bytes c.head.form c.head.bound ++ kind_byte c.head.kind ∷ floor_bytes c.head.kind c.head.floor)) (moves_bytes c.head.kind c.moves ++ rows_bytes c.rows))),
  given.sound,
)

-- where a source gave the position
module _ (g : GameRules) (b : Board) (board cert sink : Device) (given : GivesBoard g.cells board b) where
  pub checked_given : (result : Result ℕ ProgramFault) → IfOk result (IsCheckedOf g b cert sink) → IfOk result (IsChecked g board cert sink)
  checked_given (Ok status) is = record { start = b; given = given; checked = is }
  checked_given (Err fault) is = is

  refusal : (fault : ProgramFault) → IsRefusalOf g b cert sink fault → IsRefusal g board cert sink fault
  refusal (Read of_board) is = absurd is
  refusal (Read of_moves) is = (b, given, is)
  refusal (Read of_certificate) is = (b, given, is)
  refusal (bad_board fault) is = absurd is
  refusal (TooLong input) is = (b, given, is)
  refusal wanting is = (b, given, is)
  refusal (Moves fault) is = (b, given, is)
  refusal (TooManyWays step) is = (b, given, is)
  refusal (ListEnds count) is = (b, given, is)
  refusal (Write output) is = (b, given, is)
  refusal (Number n) is = (b, given, is)
  refusal Range is = (b, given, is)
  refusal Budget is = (b, given, is)
  refusal (Cert fault) is = (b, given, is)

  pub refused_given : (result : Result ℕ ProgramFault) → IfErr result (IsRefusalOf g b cert sink) → IfErr result (IsRefusal g board cert sink)
  refused_given (Ok status) is = is
  refused_given (Err fault) is = refusal fault is
