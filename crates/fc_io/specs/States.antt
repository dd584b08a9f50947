-- What contracts see of the devices that can fail.
use Rattle.std.specs.Prelude.{ℕ, Bool, List}

-- an array that is filled: the bytes that it holds so far, and whether the sink over it has failed
pub record ArrayState : Type 0 where
  pub bytes : List ℕ
  pub has_failed : Bool

-- what a device stands over, and whether the device has failed
pub record Over (D : Type 0) : Type 0 where
  pub inner : D
  pub has_failed : Bool
