-- What a listener of searches keeps of what it hears.
use Rattle.std.specs.Prelude.{◌≡◌, Option, Some}
use Rattle.fc_search.specs.Watch.{Better, Far, Report}
use Rattle.fc_search.specs.declared.listeners.Progress.{Progress}

-- it keeps how far the searches were when it heard of them last
abbrev pub KeepsLast : Option Progress → Report → Option Progress → Type 0
KeepsLast old (Far far) new = new ≡ Some far
KeepsLast old (Better moves floor) new = new ≡ old
