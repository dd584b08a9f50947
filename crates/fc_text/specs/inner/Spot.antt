-- Where in a text its fault lies: the line and the token, within the crate.
use Rattle.std.specs.Prelude.{◌≡◌, ◌↔◌, ℕ, ◌<◌, Bool, false, IsTrue, List, slice_index_or}
use Rattle.fc_text.specs.declared.faults.BoardFault.TheVariants.{BadFoundation}
use Rattle.fc_text.specs.declared.faults.LineFault.{LineFault}
use Rattle.fc_text.specs.declared.lines.LineKind.{LineKind}
use Rattle.fc_text.specs.declared.lines.LineKind.TheVariants.{Foundations}
use Rattle.fc_text.specs.Spot.{HasNamed, HasNamed}

-- index s is true exactly where one of the tokens names suit s
abbrev pub AreNamed : List (List ℕ) → List Bool → Type 0
AreNamed tokens named = (s : ℕ) → s < 4 → IsTrue (slice_index_or named s false) ↔ HasNamed s tokens

-- where foundations are read for a fault of theirs, the suits that these tokens name are noted
abbrev pub AreNoted : LineFault → LineKind → List (List ℕ) → List Bool → Type 0
AreNoted fault kind tokens named = (fault ≡ LineFault.BadFoundation) → (kind ≡ Foundations) → AreNamed tokens named
