-- No fault of the form is want of memory.
use Rattle.std.proofs.Common.{◌≡◌, ◌≢◌, ℕ, zero, suc, ◌+◌, ◌≤◌, Option, Some, List, [], ◌∷◌, Result, Ok, Err, inl, inr}
use Rattle.fc_cert.specs.declared.contents.Form.{Form}
use Rattle.fc_cert.specs.declared.contents.Form.TheVariants.{First, Second, Third}
use Rattle.fc_cert.specs.declared.contents.Kind.{Kind}
use Rattle.fc_cert.specs.declared.contents.Kind.TheVariants.{Shortest, CannotWin, Between}
use Rattle.fc_cert.specs.declared.faults.CertFault.{CertFault}
use Rattle.fc_cert.specs.declared.faults.CertFault.TheVariants.{Short, BadMagic, BadCells, BadRule, BadBound, BadKind, BadFloor, BadMove, Memory}
use Rattle.fc_cert.specs.Content.{Content, magic, bound_byte}
use Rattle.fc_cert.specs.Reading.{Field, Then, SaysByte, IsAny, SaysKind, SaysNumber, SaysNoLess, SaysMove, MayRule, ReadsNamed, ReadsGame, ReadsBound, ReadsFloor, ReadsClaim, ReadsHead, ReadsMoves, ReadsListed, ReadsList, ReadsRecord, ReadsRecords, ReadsTable, ReadsEnd, Reads}

module _ {A B : Type 0} where
  -- a step ends so only where its field does, or what follows it
  step_not : (P : Result (A × List ℕ) CertFault → Type 0) (Next : A → List ℕ → Result B CertFault → Type 0)
      → (P (Err Memory) → ⊥) → ((v : A) (rest : List ℕ) → Next v rest (Err Memory) → ⊥)
      → (first : Result (A × List ℕ) CertFault) × P first × Then first Next (Err Memory) → ⊥
  step_not P Next not on (Ok (v, rest), p, n) = on v rest n
  step_not P Next not on (Err f, p, n) = by f p n
    where
      by : (f : CertFault) → P (Err f) → ◌≡◌ {A = Result B CertFault} (Err Memory) (Err f) → ⊥
      by Memory p n = not p
      by f p n = absurd cc

module _ {A : Type 0} where
  field_not : (n : ℕ) (Says : List ℕ → A → Type 0) (wrong : CertFault) (bytes : List ℕ) → (Memory ≢ wrong)
      → Field n Says wrong bytes (Err Memory) → ⊥
  field_not n Says wrong bytes other (inl short) = absurd (let e = short.1 in cc)
  field_not n Says wrong bytes other (inr none) = other none.2

  -- nor is a value a fault
  value_not : (v : A) → ◌≡◌ {A = Result A CertFault} (Err Memory) (Ok v) → ⊥
  value_not v e = absurd cc

named_not : (bytes : List ℕ) → ReadsNamed bytes (Err Memory) → ⊥
named_not bytes read =
    step_not _ _ (field_not 1 (SaysByte IsAny) Short bytes (λ e. absurd cc))
    (λ code rest more. step_not _ _ (field_not 1 (SaysByte (λ n. n ≤ 4)) BadCells rest (λ e. absurd cc)) (λ n rest e. value_not _ e) more) read

game_not : (form : Form) (bytes : List ℕ) → ReadsGame form bytes (Err Memory) → ⊥
game_not First bytes e = value_not _ e
game_not Second bytes read = named_not bytes read
game_not Third bytes read = named_not bytes read

bound_not : (form : Form) (bytes : List ℕ) → ReadsBound form bytes (Err Memory) → ⊥
bound_not First bytes e = value_not _ e
bound_not Second bytes e = value_not _ e
bound_not Third bytes read = field_not 1 (λ here bound. here ≡ bound_byte bound ∷ []) BadBound bytes (λ e. absurd cc) read

floor_not : (kind : Kind) (bytes : List ℕ) → ReadsFloor kind bytes (Err Memory) → ⊥
floor_not Shortest bytes e = value_not _ e
floor_not CannotWin bytes e = value_not _ e
floor_not Between bytes read = field_not 4 SaysNumber Short bytes (λ e. absurd cc) read

claim_not : (form : Form) (bytes : List ℕ) → ReadsClaim form bytes (Err Memory) → ⊥
claim_not form bytes read =
    step_not _ _ (field_not 1 (SaysKind form) BadKind bytes (λ e. absurd cc))
    (λ kind rest more. step_not _ _ (floor_not kind rest) (λ n rest e. value_not _ e) more) read

head_not : (bytes : List ℕ) → ReadsHead bytes (Err Memory) → ⊥
head_not bytes read =
    step_not _ _ (field_not 4 (λ here form. here ≡ magic form) BadMagic bytes (λ e. absurd cc))
    (λ form rest more. step_not _ _ (game_not form rest)
    (λ named rest more. step_not _ _ (field_not 1 (SaysByte (MayRule form)) BadRule rest (λ e. absurd cc))
    (λ rule rest more. step_not _ _ (bound_not form rest)
    (λ bound rest more. step_not _ _ (claim_not form rest) (λ claimed rest e. value_not _ e) more) more) more) more) read

moves_not : (n k : ℕ) (bytes : List ℕ) → ReadsMoves n k bytes (Err Memory) → ⊥
moves_not zero k bytes e = value_not _ e
moves_not (suc n) k bytes read =
    step_not _ _ (field_not 2 SaysMove (BadMove k) bytes (λ e. absurd cc))
    (λ m rest more. step_not _ _ (moves_not n (k + 1) rest) (λ moves rest e. value_not _ e) more) read

listed_not : (floor : ℕ) (bytes : List ℕ) → ReadsListed floor bytes (Err Memory) → ⊥
listed_not floor bytes read =
    step_not _ _ (field_not 4 (SaysNoLess floor) BadFloor bytes (λ e. absurd cc)) (λ n rest more. moves_not n 1 rest more) read

list_not : (kind : Kind) (floor : ℕ) (bytes : List ℕ) → ReadsList kind floor bytes (Err Memory) → ⊥
list_not Shortest floor bytes read = listed_not floor bytes read
list_not CannotWin floor bytes e = value_not _ e
list_not Between floor bytes read = listed_not floor bytes read

records_not : (cells : ℕ) (kind : Kind) (n k : ℕ) (before : Option (List ℕ)) (bytes : List ℕ)
    → ReadsRecords (ReadsRecord cells kind) n k before bytes (Err Memory) → ⊥
records_not cells kind zero k before bytes e = value_not _ e
records_not cells kind (suc n) k before bytes read =
    step_not (ReadsRecord cells kind k before bytes) _ (λ none. none)
    (λ row rest more. step_not _ _ (records_not cells kind n (k + 1) (Some row.0) rest) (λ rows rest e. value_not _ e) more) read

table_not : (cells : ℕ) (kind : Kind) (bytes : List ℕ) → ReadsTable cells kind bytes (Err Memory) → ⊥
table_not cells kind bytes read =
    step_not _ _ (field_not 4 SaysNumber Short bytes (λ e. absurd cc)) (λ n rest more. records_not cells kind n 0 _ rest more) read

end_not : (c : Content) (bytes : List ℕ) → ReadsEnd c bytes (Err Memory) → ⊥
end_not c [] e = value_not _ e
end_not c (byte ∷ rest) e = absurd cc

pub never_memory : (bytes : List ℕ) → Reads bytes (Err Memory) → ⊥
never_memory bytes read =
    step_not _ _ (head_not bytes)
    (λ head rest more. step_not _ _ (list_not head.kind head.floor rest)
    (λ moves rest more. step_not _ _ (table_not head.cells head.kind rest) (λ rows rest e. end_not _ rest e) more) more) read
