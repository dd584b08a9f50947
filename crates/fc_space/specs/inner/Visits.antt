-- What a walk keeps from child to child, within the crate.
use Rattle.std.specs.Prelude.{◌≡◌, true}
use Rattle.fc_moves.specs.GameRules.{IsPositionOf}
use Rattle.fc_home.specs.Settles.{NoneGoesHome}
use Rattle.fc_codes.specs.State.{IsCodeOf}
use Rattle.fc_bound.specs.declared.kinds.BoundKind.TheVariants.{Clearing}
use Rattle.fc_bound.specs.Kinds.{IsShown}
use Rattle.fc_space.specs.declared.child_walks.Children.TheInside.{Inside}
use Rattle.fc_space.specs.Children.{Frame}
use Rattle.fc_space.specs.inner.Children.{AreAllowed}
use Rattle.fc_space.specs.inner.Lookups.{IsLookupOf}
use Rattle.fc_space.specs.inner.Standing.{IsKept, IsStanding}

-- what a walk keeps: it visits a settled position of the game, over moves that are allowed there, with its code and what is shown of it; it
-- stands there or at a child; and it has looked up the position's columns, by the clearing bound always
abbrev pub IsVisit : {G : Type 0} → Frame → Inside G → Type 0
IsVisit w s = IsPositionOf w.game s.position × AreAllowed w.game s.position s.left.items
    × IsShown w.kind s.position s.shown.number s.shown.note × NoneGoesHome w.rule w.game s.position
    × IsCodeOf w.start s.position s.code × IsStanding w s.position s.standing
    × (IsLookupOf w.start s.position s.lookup × (w.kind ≡ Clearing → s.lookup.is_laid ≡ true)) × IsKept w.kind s.position s.kept
