-- What an export does with what a call of the library comes to.
use Rattle.std.specs.Prelude.{Result, MatchResult}
use Rattle.fc_library.specs.declared.call_refusals.CallRefusal.{CallRefusal}

module _ {Told : Type 0} where
  -- the call comes to what is told so, or is refused for such a cause, and that is handed over in this way
  abbrev pub Delivers : (Told → Type 0) → (CallRefusal → Type 0) → (Result Told CallRefusal → Type 0) → Type 0
  Delivers IsTold IsRefused IsHanded = (told : Result Told CallRefusal) × MatchResult told IsTold IsRefused × IsHanded told
