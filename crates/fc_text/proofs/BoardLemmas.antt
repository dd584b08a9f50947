-- Faults of cards as faults of a text.
use Rattle.std.proofs.Common.{◌≡◌, ℕ, ◌≤◌, List, length, sym, subst}
use Rattle.fc_position.specs.Board.{Board, places}
use Rattle.fc_position.specs.Tally.{IsFaultOf}
use Rattle.fc_position.specs.declared.faults.PartsFault.{PartsFault}
use Rattle.fc_position.specs.declared.faults.PartsFault.TheVariants.{Repeated, Missing}
use Rattle.fc_text.specs.declared.faults.BoardFault.{BoardFault}
use Rattle.fc_text.specs.Line.{board_lines}
use Rattle.fc_text.specs.Spelling.{SpellsBoard}
use Rattle.fc_text.specs.Fault.{AreSound}
use Rattle.fc_text.specs.Board.{HasCardFault, IsBoardFault}
use Rattle.fc_text.specs.inner.Board.{card_fault}

one_fault : (n : ℕ) (text : List ℕ) (fault : PartsFault) → HasCardFault n text fault → IsBoardFault n text (card_fault fault)
one_fault n text (Repeated c) here = here
one_fault n text (Missing c) here = here

pub has_card_fault : (n : ℕ) (text : List ℕ) (fault : PartsFault) (told : BoardFault) → length text ≤ 4096
    → AreSound n (board_lines text) → (b : Board) × SpellsBoard (board_lines text) b × IsFaultOf (places b) fault
    → told ≡ card_fault fault → IsBoardFault n text told
has_card_fault n text fault told short sound here same =
    subst (IsBoardFault n text) (sym same) (one_fault n text fault (record {
      short = short;
      sound = sound;
      board = here.0;
      spelled = here.1;
      here = here.2;
    }))
