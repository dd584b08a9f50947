use Rattle.std.proofs.Common.{◌≡◌, ℕ, Option, Some, None, IfNone, refl, sym}
use Rattle.fc_position.specs.Board.{Board, playable, board_without, board_with}
use Rattle.fc_moves.specs.declared.steps.Move.{Move}
use Rattle.fc_moves.specs.GameRules.{GameRules}
use Rattle.fc_moves.specs.Step.{Allows, Joins, Takes}
use Rattle.fc_moves.specs.declared.refusals.Refusal.{Refusal}
use Rattle.fc_moves.proofs.refusals.refusal_of.Goals as goal

-- a move that nothing hinders is allowed
unhindered : (g : GameRules) (b : Board) (m : Move) (card : ℕ) (why : Option Refusal) → playable b m.from ≡ Some card
    → Joins m.from m.to → IfNone why (Takes g b card m.to) → IfNone why (Allows g b m)
unhindered g b m card (Some refusal) there joins takes = takes
unhindered g b m card None there joins takes = (
  board_with (board_without b m.from) card m.to,
  record {
    card = card;
    playable = there;
    joins = joins;
    takes = takes;
    after = refl;
  },
)

pub returns-in-Some-clause-none : goal.returns-in-Some-clause-none
returns-in-Some-clause-none g c =
    unhindered (g.G.Game.game c.args.game.now) c.args.position.now c.args.m c.in-Some.card c.hindrance.result (sym c.in-Some.ensures.value)
    (c.if-is_way.ensures.0 refl).0 c.hindrance.ensures.none
