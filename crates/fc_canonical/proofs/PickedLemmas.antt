-- What a list of the wanted moves tells its caller.
use Rattle.std.proofs.Common.{◌≡◌, ℕ, Bool, true, List, sym, subst}
use Rattle.std.specs.Prelude.{Contains}
use Rattle.fc_position.specs.Board.{Board}
use Rattle.fc_moves.specs.declared.steps.Move.{Move}
use Rattle.fc_moves.specs.inner.GameLaws.{Contains-filter, Contains-from_filter}
use Rattle.fc_moves.specs.GameRules.{GameRules}
use Rattle.fc_canonical.specs.Distinct.{ListsWanted, takes_wanted}

-- each listed move is one of all, is allowed, and takes a card that is wanted
pub picked_in_all : (g : GameRules) (b : Board) (cards : ℕ) (ms : List Move) (others : Bool)
    → (w : ListsWanted g b cards ms others) → (m : Move) → Contains ms m → Contains w.all m × (takes_wanted b cards m ≡ true)
picked_in_all g b cards ms others w m found =
    Contains-from_filter (takes_wanted b cards) w.all m (subst (λ l. Contains l m) w.picked found)

-- each of all that takes a wanted card is listed
pub wanted_picked : (g : GameRules) (b : Board) (cards : ℕ) (ms : List Move) (others : Bool)
    → (w : ListsWanted g b cards ms others) → (m : Move) → Contains w.all m → takes_wanted b cards m ≡ true → Contains ms m
wanted_picked g b cards ms others w m found wanted =
    subst (λ l. Contains l m) (sym w.picked) (Contains-filter (takes_wanted b cards) w.all m found wanted)
