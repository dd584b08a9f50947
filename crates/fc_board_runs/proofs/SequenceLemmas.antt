-- Why a list in standard notation isn't played to its end, and one that was over a sink that had failed.
use Rattle.std.proofs.Common.{◌≡◌, ⊎_elim, inr, ℕ, ◌<◌, List, [], ◌∷◌, length, refl, arith}
use Rattle.std.specs.Prelude.{◌⊎◌, Result, Ok, IsErr}
use Rattle.fc_io.specs.declared.devices.Failed.{Failed}
use Rattle.fc_io.specs.Moves.{Stays}
use Rattle.fc_position.specs.Board.{Board}
use Rattle.fc_moves.specs.declared.steps.Move.{Move}
use Rattle.fc_moves.specs.GameRules.{GameRules}
use Rattle.fc_replay.specs.declared.pages.Page.{Page}
use Rattle.fc_replay.specs.declared.replays.Ended.{Ended}
use Rattle.fc_replay.specs.Token.{move_tokens}
use Rattle.fc_lists.specs.declared.faults.PlayFault.{PlayFault}
use Rattle.fc_lists.specs.declared.faults.PlayFault.TheVariants.{NoEntry, NotAllowed, TooManyWays, ListEnds, TooLong, Memory}
use Rattle.fc_lists.specs.Plays.{IsUnplayed}
use Rattle.fc_board_runs.specs.Devices.{Device, GivesWhole}
use Rattle.fc_board_runs.specs.Fault.{play_fault}
use Rattle.fc_board_runs.specs.Sequences.{IsListLeft, IsListFaultAs}

-- a text of entries that was given and isn't played from a position, where nothing was written
module _ (page : Page) (g : GameRules) (start : Board) (moves sink : Device) (text : List ℕ) (read : GivesWhole moves text) (unwritten : Stays sink.old sink.new) where
  left : (fault : PlayFault) → IsUnplayed g start (move_tokens text) fault → IsListLeft g start moves sink fault
  left fault why = record { text = text; read = read; why = why; unwritten = unwritten }

  -- and so a list wasn't played to its end
  pub left_for : (fault : PlayFault) → IsUnplayed g start (move_tokens text) fault → IsListFaultAs page g start moves sink (play_fault fault)
  left_for (NoEntry step) why = left (NoEntry step) why
  left_for (NotAllowed step) why = left (NotAllowed step) why
  left_for (TooManyWays step) why = left (TooManyWays step) why
  left_for (ListEnds count) why = absurd why
  left_for TooLong why = inr (left TooLong why)
  left_for Memory why = (unwritten, read.sound)

-- moves that were made to their end over a sink that has failed are none
pub none_made : (steps : List Move) (result : Result Ended Failed) (ended : Ended) (Before : Type 0) → result ≡ Ok ended
    → IsErr result ⊎ Before → (Before → 0 < length steps → IsErr result) → steps ≡ []
none_made [] result ended Before is failed stays = refl
none_made (m ∷ ms) result ended Before is failed stays =
    let never : IsErr result → ⊥ = λ wrong. absurd (cc (wrong, is)) in
    ⊎_elim (λ wrong. absurd (never wrong)) (λ before. absurd (never (stays before (omega arith)))) failed
