-- What is handed over in rooms of a caller's.
use Rattle.std.specs.Prelude.{◌≡◌, ℕ, ◌<◌, ◌≤◌, ◌⊎◌, List, ◌++◌, length, drop, None, Result, Ok, Err}
use Rattle.fc_library.specs.Figures.{figures_of}
use Rattle.fc_library.specs.Numbers.{refusal_number, refusal_place}
use Rattle.fc_library.specs.declared.told_answers.Certified.{Certified}
use Rattle.fc_library.specs.declared.told_answers.Told.{Told}
use Rattle.fc_library.specs.declared.numbers.TheConstants.{NO_ROOM}
use Rattle.fc_library.specs.declared.call_refusals.CallRefusal.{CallRefusal}
use Rattle.fc_library.specs.declared.rooms.Call.{Call}

-- how a call ended that was refused
abbrev pub refused_call : CallRefusal → Call
refused_call refusal = record { status = refusal_number refusal; place = refusal_place refusal; figures = figures_of None; text_len = 0; certificate_len = 0 }

-- how a call ended that tells this, with a certificate of so many bytes, and a status: its place and its numbers, and how long the text is
abbrev pub told_call : Told → ℕ → ℕ → Call
told_call told count status = record { status = status; place = told.place; figures = figures_of told.outcome; text_len = length told.text.items; certificate_len = count }

-- the bytes stand in the front of a room, and behind them what stood there
abbrev pub IsPut : List ℕ → List ℕ → List ℕ → Type 0
IsPut bytes old new = new ≡ bytes ++ drop (length bytes) old

-- a text was put into a room and the status told, where it fits; else that there is no room; of a refusal, which
abbrev pub IsHandedOver : Result Told CallRefusal → List ℕ → List ℕ → Call → Type 0
IsHandedOver (Err refusal) old new call = (call ≡ refused_call refusal) × (new ≡ old)
IsHandedOver (Ok told) old new call =
    ((length told.text.items ≤ length old) × IsPut told.text.items old new × (call ≡ told_call told 0 told.status))
    ⊎ ((length old < length told.text.items) × (new ≡ old) × (call ≡ told_call told 0 NO_ROOM))

-- the same of a text and a certificate with a room each: both are put there where both fit
abbrev pub IsHandedOverBoth : Result Certified CallRefusal → List ℕ × List ℕ → List ℕ × List ℕ → Call → Type 0
IsHandedOverBoth (Err refusal) old new call = (call ≡ refused_call refusal) × (new ≡ old)
IsHandedOverBoth (Ok both) old new call =
    let text : List ℕ = both.told.text.items in
    let certificate : List ℕ = both.certificate.items in
    ((length text ≤ length old.0) × (length certificate ≤ length old.1) × IsPut text old.0 new.0 × IsPut certificate old.1 new.1
    × (call ≡ told_call both.told (length certificate) both.told.status))
    ⊎ (((length old.0 < length text) ⊎ (length old.1 < length certificate)) × (new ≡ old) × (call ≡ told_call both.told (length certificate) NO_ROOM))
