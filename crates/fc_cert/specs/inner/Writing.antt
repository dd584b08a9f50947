-- What becomes of the sink that a certificate is written to, within the crate.
use Rattle.std.specs.Prelude.{◌≡◌, ℕ, List, ◌++◌, Result, Ok, Err}
use Rattle.fc_io.specs.declared.devices.Failed.{Failed}
use Rattle.fc_cert.specs.Writing.{SinkState, TakesWhole, IsCutShort}

-- the sink took a front of these bytes, and the others are gathered, still to be written
pub record Gathers (old new : SinkState) (gathered bytes : List ℕ) : Type 0 where
  pub front : List ℕ
  pub parts : bytes ≡ front ++ gathered
  pub whole : TakesWhole old new front

-- bytes were written, or the sink failed on the way
abbrev pub Writes : SinkState → SinkState → List ℕ → Result (Unit {0}) Failed → Type 0
Writes old new bytes (Ok done) = TakesWhole old new bytes
Writes old new bytes (Err failed) = IsCutShort old new bytes
