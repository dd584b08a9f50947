-- What is asked of where moves lead, once settled, and what all that is asked proves.
use Rattle.std.specs.Prelude.{◌≡◌, ◌≢◌, ◌↔◌, ℕ, ◌+◌, ◌≤◌, List, length, Option, Some, IfSome, MatchOption}
use Rattle.fc_position.specs.Board.{Board}
use Rattle.fc_moves.specs.declared.steps.Move.{Move}
use Rattle.fc_moves.specs.GameRules.{GameRules}
use Rattle.fc_moves.specs.Step.{Step}
use Rattle.fc_bound.specs.Kinds.{guide_of}
use Rattle.fc_home.specs.Settles.{Settles}
use Rattle.fc_tables.specs.Table.{Lists, ListsClass, Table}
use Rattle.fc_cert.specs.declared.claims.Claim.{Claim}
use Rattle.fc_cert.specs.declared.claims.Claim.TheVariants as claim
use Rattle.fc_cert.specs.declared.contents.Kind.{Kind}
use Rattle.fc_cert.specs.declared.contents.Kind.TheVariants.{Shortest, CannotWin, Between}
use Rattle.fc_cert.specs.Content.{Content, IsSpelled}
use Rattle.fc_checker.specs.declared.faults.CheckFault.{CheckFault}
use Rattle.fc_checker.specs.declared.faults.CheckFault.TheVariants.{Memory}
use Rattle.fc_checker.specs.declared.record_steps.Near.{Near}
use Rattle.fc_checker.specs.Check.{Holds, level, HasContent, HasStart, IsCheckFault, IsOfGame, MovesHold, RecordsHold, StartHolds}

-- the cost is the least at which the table lists the class of the board; there is none where the class isn't listed
abbrev pub IsListedCost : Table → Board → Option ℕ → Type 0
IsListedCost table x found = MatchOption found (ListsClass table x → ⊥)
    (λ cost. ListsClass table x × ((d : ℕ) → Lists table x d ↔ cost ≤ d))

-- where a board that d moves lead to settles to, it holds
abbrev pub SettledHolds : GameRules → Content → Board → ℕ → Type 0
SettledHolds g c y d = (z : Board) (k : ℕ) → Settles g c.head.rule y k z → Holds c (level c) z (d + k)

-- where the move leads from a board that d moves lead to, it holds, once settled
abbrev pub StepHolds : GameRules → Content → Board → ℕ → Move → Type 0
StepHolds g c x d m = (y : Board) → Step g x m y → SettledHolds g c y (d + 1)

-- what is known of a board that is near, if anything is: the level, and the guide
abbrev pub IsKnownNear : Content → Board → Option Near → Type 0
IsKnownNear c x known = IfSome known (λ near. (level c ≡ Some near.level) × (near.guide ≡ guide_of c.head.bound x))

-- the fault is that of any bytes with this content, and no want of memory
abbrev pub IsFaultOf : GameRules → Board → Content → CheckFault → Type 0
IsFaultOf g b c fault = (fault ≢ Memory) × ((bytes : List ℕ) → IsSpelled bytes c → IsCheckFault g b bytes fault)

-- it is that of any bytes with this content, where it is of the game
abbrev pub IsFaultOfMoves : GameRules → Board → Content → CheckFault → Type 0
IsFaultOfMoves g b c fault = (fault ≢ Memory) × ((bytes : List ℕ) → HasContent g bytes c → IsCheckFault g b bytes fault)

-- it is that of any bytes with this content and of any board for which its moves and its start hold
abbrev pub IsFaultOfRecords : GameRules → Content → CheckFault → Type 0
IsFaultOfRecords g c fault = (fault ≢ Memory) × ((b : Board) (bytes : List ℕ) → HasStart g b bytes c → IsCheckFault g b bytes fault)

-- the content proves a claim of the board: it is of the game, and its moves, its start and all its records hold
pub record IsProof (g : GameRules) (b : Board) (c : Content) : Type 0 where
  pub game : IsOfGame g c
  pub moves : MovesHold g b c.head.kind c.moves
  pub start : StartHolds g b c
  pub records : RecordsHold g c (length c.rows)

-- the claim of a content of this kind
abbrev pub claim_of : Content → Kind → Claim
claim_of c Shortest = claim.Shortest (length c.moves)
claim_of c CannotWin = claim.CannotWin
claim_of c Between = claim.Between c.head.floor (length c.moves)
