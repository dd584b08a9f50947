-- What checking promises, of bytes in memory.
use Rattle.std.specs.Prelude.{◌≡◌, ℕ, ◌<◌, ◌≤◌, List, Some, length}
use Rattle.fc_position.specs.Board.{Board}
use Rattle.fc_cert.specs.Claim.{IsCertificate, IsTrueOf}
use Rattle.fc_cert.specs.declared.certificates.TheConstants.{LONGEST_CERTIFICATE}
use Rattle.fc_cert.specs.declared.claims.Claim.{Claim}
use Rattle.fc_checker.specs.Check.{IsCheckFault}
use Rattle.fc_answer_text.specs.AnswerText.{accepted_text}
use Rattle.fc_library.specs.Boards.{IsTextFault, SpellsOnceTidy}
use Rattle.fc_library.specs.Figures.{claimed_outcome}
use Rattle.fc_library.specs.Games.{IsNamed, game_named}
use Rattle.fc_library.specs.declared.game_names.GameName.{GameName}
use Rattle.fc_library.specs.declared.told_answers.Told.{Told}
use Rattle.fc_library.specs.declared.call_refusals.CallRefusal.{CallRefusal}
use Rattle.fc_library.specs.declared.call_refusals.CallRefusal.TheVariants as refused

-- a board of a game was given, and no more bytes than a certificate may have
pub record CanBeChecked (name : GameName) (text bytes : List ℕ) (start : Board) : Type 0 where
  pub named : IsNamed name
  pub spelled : SpellsOnceTidy name.cells text start
  pub short : length bytes ≤ LONGEST_CERTIFICATE

-- the bytes are a certificate of a claim of the board, the claim is true, and these are its text and its numbers
pub record IsCheckTold (name : GameName) (text bytes : List ℕ) (told : Told) : Type 0 where
  pub start : Board
  pub given : CanBeChecked name text bytes start
  pub claim : Claim
  pub proves : IsCertificate (game_named name) start bytes claim
  pub holds : IsTrueOf (game_named name) start claim
  pub written : told.text.items ≡ accepted_text claim
  pub numbers : told.outcome ≡ Some (claimed_outcome claim)
  pub status : told.status ≡ 0
  pub place : told.place ≡ 0

-- why bytes weren't accepted, each fault only where those before it have no cause
abbrev pub IsCheckRefused : GameName → List ℕ → List ℕ → CallRefusal → Type 0
IsCheckRefused name text bytes refused.Game = IsNamed name → ⊥
IsCheckRefused name text bytes (refused.Board fault) = IsNamed name × IsTextFault name.cells text fault
IsCheckRefused name text bytes refused.TooLong =
    IsNamed name × ((start : Board) × SpellsOnceTidy name.cells text start) × (LONGEST_CERTIFICATE < length bytes)
IsCheckRefused name text bytes (refused.Certificate fault) = (start : Board) × CanBeChecked name text bytes start
    × IsCheckFault (game_named name) start bytes fault
IsCheckRefused name text bytes refused.Memory = (start : Board) × CanBeChecked name text bytes start
IsCheckRefused name text bytes other = ⊥
