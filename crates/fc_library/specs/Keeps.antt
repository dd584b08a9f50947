-- What is handed over in memory that is a caller's from then on.
use Rattle.std.specs.Prelude.{◌≡◌, ℕ, List, length, Result, Ok, Err}
use Rattle.fc_library.specs.Rooms.{refused_call, told_call}
use Rattle.fc_library.specs.declared.told_answers.Certified.{Certified}
use Rattle.fc_library.specs.declared.told_answers.Told.{Told}
use Rattle.fc_library.specs.declared.call_refusals.CallRefusal.{CallRefusal}
use Rattle.fc_library.specs.declared.rooms.Call.{Call}

-- a caller's slice shows the text that was told, and the status is told; of a refusal it shows what it did
abbrev pub IsTextKept : Result Told CallRefusal → List ℕ → List ℕ → Call → Type 0
IsTextKept (Err refusal) old new call = (call ≡ refused_call refusal) × (new ≡ old)
IsTextKept (Ok told) old new call = (call ≡ told_call told 0 told.status) × (new ≡ told.text.items)

-- the same of a text and a certificate with a slice each
abbrev pub AreBothKept : Result Certified CallRefusal → List ℕ × List ℕ → List ℕ × List ℕ → Call → Type 0
AreBothKept (Err refusal) old new call = (call ≡ refused_call refusal) × (new ≡ old)
AreBothKept (Ok told) old new call =
    (call ≡ told_call told.told (length told.certificate.items) told.told.status) × (new.0 ≡ told.told.text.items) × (new.1 ≡ told.certificate.items)
