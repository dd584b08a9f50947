-- What moves out of a source and into a sink, where a device that tells no bytes is `None`.
use Rattle.std.specs.Prelude.{◌≡◌, ℕ, ◌≤◌, List, ◌++◌, length, Option, IfSome}
use Rattle.std.specs.Io.KnownBytes.{prepend_known, append_known}

-- what a device tells or holds stays as it was
abbrev pub Stays : Option (List ℕ) → Option (List ℕ) → Type 0
Stays old new = new ≡ old

-- a source gave these bytes, the next ones that it told, and tells the others still
abbrev pub Gives : Option (List ℕ) → Option (List ℕ) → List ℕ → Type 0
Gives old new bytes = old ≡ prepend_known bytes new

-- a sink took these bytes, after those that it held
abbrev pub TakesBytes : Option (List ℕ) → Option (List ℕ) → List ℕ → Type 0
TakesBytes old new bytes = new ≡ append_known old bytes

-- these bytes are all that a source told, where it told any
abbrev pub IsAllTold : Option (List ℕ) → List ℕ → Type 0
IsAllTold told bytes = IfSome told (λ all. bytes ≡ all)

-- a source told at least so many bytes, where it told any
abbrev pub TellsAtLeast : Option (List ℕ) → ℕ → Type 0
TellsAtLeast told count = IfSome told (λ all. count ≤ length all)

-- a source gave some bytes, at most so many
pub record GivesAtMost (old new : Option (List ℕ)) (limit : ℕ) : Type 0 where
  pub bytes : List ℕ
  pub within : length bytes ≤ limit
  pub given : Gives old new bytes

-- a sink took a front of a piece, which may be none or all of it
pub record TakesFront (old new : Option (List ℕ)) (piece : List ℕ) : Type 0 where
  pub front : List ℕ
  pub rest : List ℕ
  pub parts : piece ≡ front ++ rest
  pub taken : TakesBytes old new front
