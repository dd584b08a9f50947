-- What a run sees of the devices that are handed to it.
use Rattle.std.proofs.Common.{inl, inr, MutBor}
use Rattle.std.specs.Prelude.{ℕ, ◌≤◌, Bool, ◌⊎◌, List, length, Option, Some, None, IsTrue}
use Rattle.fc_io.specs.Moves.{Gives, Stays, IsAllTold}
use Rattle.fc_position.specs.Board.{Board}
use Rattle.fc_position.specs.Position.{Fits}
use Rattle.fc_text.specs.declared.faults.BoardFault.{BoardFault}
use Rattle.fc_text.specs.Board.{Spells, IsBoardFault}
use Rattle.fc_board_runs.specs.declared.faults.Input.TheVariants.{Board as of_board}
use Rattle.fc_board_runs.specs.declared.faults.ProgramFault.{ProgramFault}
use Rattle.fc_board_runs.specs.declared.faults.ProgramFault.TheVariants.{Board as bad_board, Read}
use Rattle.fc_board_runs.specs.declared.runs.TheConstants.{LONGEST_BOARD}

-- a device before and after a run: the bytes that it tells or holds, if it tells any, and whether it has failed then
pub record Device : Type 0 where
  pub old : Option (List ℕ)
  pub new : Option (List ℕ)
  pub failed : Bool

-- a device from one state to another, by what it tells or holds in a state and whether it has failed there
abbrev pub change : {D : Type 0} → (D → Option (List ℕ)) → (D → Bool) → D → D → Device
change bytes has_failed old new = record { old = bytes old; new = bytes new; failed = has_failed new }

-- a source gave a text: all that it told, or more than 4,096 bytes of it
pub record GivesText (source : Device) (text : List ℕ) : Type 0 where
  pub given : Gives source.old source.new text
  pub whole : length text ≤ LONGEST_BOARD → IsAllTold source.old text
  pub sound : IsTrue source.failed → ⊥

-- a source gave a text that spells a position of a game with n cells
pub record GivesBoard (n : ℕ) (source : Device) (b : Board) : Type 0 where
  pub text : List ℕ
  pub given : GivesText source text
  pub spelled : Spells n text b
  pub fits : Fits n b

-- a source gave a text that has a fault
pub record GivesFault (n : ℕ) (source : Device) (fault : BoardFault) : Type 0 where
  pub text : List ℕ
  pub given : GivesText source text
  pub here : IsBoardFault n text fault

-- a source gave bytes: all that it told
pub record GivesWhole (source : Device) (bytes : List ℕ) : Type 0 where
  pub given : Gives source.old source.new bytes
  pub whole : IsAllTold source.old bytes
  pub sound : IsTrue source.failed → ⊥

-- why no board was read: the source failed, or its text has a fault
abbrev pub IsInputFault : ℕ → Device → ProgramFault → Type 0
IsInputFault n source (Read of_board) = IsTrue source.failed
IsInputFault n source (bad_board fault) = GivesFault n source fault
IsInputFault n source other = ⊥

-- a device that is lent or not, as it was handed in and as it was left
module _ {C : Type 0} where
  -- it was handed back exactly where it was lent
  abbrev pub IsHandedBack : Option (MutBor C) → Unit {0} ⊎ ((MutBor C × Unit {0}) ⊎ ⊥) → Type 0
  IsHandedBack (Some before) (inr (inl after)) = Unit {0}
  IsHandedBack None (inl none) = Unit {0}
  IsHandedBack before after = ⊥

  -- the sink that was lent, by what it held and whether it has failed; `None` where none was
  abbrev pub lent : (C → Option (List ℕ)) → (C → Bool) → Option (MutBor C) → Unit {0} ⊎ ((MutBor C × Unit {0}) ⊎ ⊥) → Option Device
  lent held has_failed (Some before) (inr (inl after)) = Some record {
    old = held before.now;
    new = held after.0.now;
    failed = has_failed after.0.now;
  }
  lent held has_failed before after = None

-- nothing was written to a sink, where there is one
abbrev pub IsUntouched : Device → Type 0
IsUntouched sink = Stays sink.old sink.new
