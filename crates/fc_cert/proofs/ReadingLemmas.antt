-- Reading: moves and records one by one from the front.
use Rattle.std.proofs.Common.{◌≡◌, ℕ, suc, ◌+◌, ◌-◌, ◌<◌, ◌≤◌, Option, Some, None, List, [], ◌∷◌, Ok, Err, refl, sym, subst, arith}
use Rattle.fc_moves.specs.declared.steps.Move.{Move}
use Rattle.fc_cert.specs.declared.contents.Kind.{Kind}
use Rattle.fc_cert.specs.declared.faults.CertFault.{CertFault}
use Rattle.fc_cert.specs.declared.faults.CertFault.TheVariants.{BadMove}
use Rattle.fc_cert.specs.Reading.{Field, SaysMove, ReadsMoves, ReadsRecord, ReadsRecords}
use Rattle.fc_cert.proofs.FieldLemmas.{LeadsTo, leads_on, leads_same}

-- reading moves: from the start, behind one more, and at the end
pub moves_start : (count : ℕ) (bytes : List ℕ) → LeadsTo (ReadsMoves (count - 0) (0 + 1) bytes) (ReadsMoves count 1 bytes)
moves_start count bytes =
    subst (λ n. LeadsTo (ReadsMoves n 1 bytes) (ReadsMoves count 1 bytes)) (omega arith) (leads_same (ReadsMoves count 1 bytes))

pub moves_more : (count i : ℕ) (bytes rest after : List ℕ) (m : Move) → i < count
    → LeadsTo (ReadsMoves (count - i) (i + 1) rest) (ReadsMoves count 1 bytes)
    → Field 2 SaysMove (BadMove (i + 1)) rest (Ok (m, after))
    → LeadsTo (ReadsMoves (count - (i + 1)) ((i + 1) + 1) after) (ReadsMoves count 1 bytes)
moves_more count i bytes rest after m below leads first =
    let one : suc (count - (i + 1)) ≡ count - i = omega arith in
    leads_on (ReadsMoves (count - (i + 1)) ((i + 1) + 1) after) (ReadsMoves (suc (count - (i + 1))) (i + 1) rest)
    (ReadsMoves count 1 bytes)
    (record {
      read = λ moves end r. (m ∷ moves, (Ok (m, after), first, (Ok (moves, end), r, refl)));
      fault = λ f r. (Ok (m, after), first, (Err f, r, refl));
    })
    (subst (λ n. LeadsTo (ReadsMoves n (i + 1) rest) (ReadsMoves count 1 bytes)) (sym one) leads)

pub moves_stop : (count i : ℕ) (bytes rest : List ℕ) (f : CertFault) → i < count
    → LeadsTo (ReadsMoves (count - i) (i + 1) rest) (ReadsMoves count 1 bytes)
    → Field 2 SaysMove (BadMove (i + 1)) rest (Err f) → ReadsMoves count 1 bytes (Err f)
moves_stop count i bytes rest f below leads wrong =
    let one : suc (count - (i + 1)) ≡ count - i = omega arith in
    leads.fault f (subst (λ n. ReadsMoves n (i + 1) rest (Err f)) one (Err f, wrong, refl))

pub moves_end : (count i : ℕ) (bytes rest : List ℕ) → count ≤ i
    → LeadsTo (ReadsMoves (count - i) (i + 1) rest) (ReadsMoves count 1 bytes)
    → (moves : List Move) × ReadsMoves count 1 bytes (Ok (moves, rest))
moves_end count i bytes rest all leads =
    let none : 0 ≡ count - i = omega arith in
    leads.read [] rest (subst (λ n. ReadsMoves n (i + 1) rest (Ok ([], rest))) none refl)

-- and records
pub records_start : (cells : ℕ) (kind : Kind) (count : ℕ) (bytes : List ℕ)
    → LeadsTo (ReadsRecords (ReadsRecord cells kind) (count - 0) 0 None bytes) (ReadsRecords (ReadsRecord cells kind) count 0 None bytes)
records_start cells kind count bytes =
    subst (λ n. LeadsTo (ReadsRecords (ReadsRecord cells kind) n 0 None bytes) (ReadsRecords (ReadsRecord cells kind) count 0 None bytes)) (omega arith)
    (leads_same (ReadsRecords (ReadsRecord cells kind) count 0 None bytes))

pub records_more : (cells : ℕ) (kind : Kind) (count i : ℕ) (before : Option (List ℕ)) (bytes rest after key : List ℕ) (cost : ℕ)
    → i < count
    → LeadsTo (ReadsRecords (ReadsRecord cells kind) (count - i) i before rest) (ReadsRecords (ReadsRecord cells kind) count 0 None bytes)
    → ReadsRecord cells kind i before rest (Ok ((key, cost), after))
    → LeadsTo (ReadsRecords (ReadsRecord cells kind) (count - (i + 1)) (i + 1) (Some key) after) (ReadsRecords (ReadsRecord cells kind) count 0 None bytes)
records_more cells kind count i before bytes rest after key cost below leads first =
    let one : suc (count - (i + 1)) ≡ count - i = omega arith in
    leads_on (ReadsRecords (ReadsRecord cells kind) (count - (i + 1)) (i + 1) (Some key) after)
    (ReadsRecords (ReadsRecord cells kind) (suc (count - (i + 1))) i before rest) (ReadsRecords (ReadsRecord cells kind) count 0 None bytes)
    (record {
      read = λ rows end r. ((key, cost) ∷ rows, (Ok ((key, cost), after), first, (Ok (rows, end), r, refl)));
      fault = λ f r. (Ok ((key, cost), after), first, (Err f, r, refl));
    })
    (subst (λ n. LeadsTo (ReadsRecords (ReadsRecord cells kind) n i before rest) (ReadsRecords (ReadsRecord cells kind) count 0 None bytes)) (sym one) leads)

pub records_stop : (cells : ℕ) (kind : Kind) (count i : ℕ) (before : Option (List ℕ)) (bytes rest : List ℕ) (f : CertFault)
    → i < count
    → LeadsTo (ReadsRecords (ReadsRecord cells kind) (count - i) i before rest) (ReadsRecords (ReadsRecord cells kind) count 0 None bytes)
    → ReadsRecord cells kind i before rest (Err f) → ReadsRecords (ReadsRecord cells kind) count 0 None bytes (Err f)
records_stop cells kind count i before bytes rest f below leads wrong =
    let one : suc (count - (i + 1)) ≡ count - i = omega arith in
    leads.fault f (subst (λ n. ReadsRecords (ReadsRecord cells kind) n i before rest (Err f)) one (Err f, wrong, refl))

pub records_end : (cells : ℕ) (kind : Kind) (count i : ℕ) (before : Option (List ℕ)) (bytes rest : List ℕ) → count ≤ i
    → LeadsTo (ReadsRecords (ReadsRecord cells kind) (count - i) i before rest) (ReadsRecords (ReadsRecord cells kind) count 0 None bytes)
    → (rows : List (List ℕ × ℕ)) × ReadsRecords (ReadsRecord cells kind) count 0 None bytes (Ok (rows, rest))
records_end cells kind count i before bytes rest all leads =
    let none : 0 ≡ count - i = omega arith in
    leads.read [] rest (subst (λ n. ReadsRecords (ReadsRecord cells kind) n i before rest (Ok ([], rest))) none refl)
