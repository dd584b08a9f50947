-- The parts of bytes that are a certificate.
use Rattle.std.proofs.Common.{◌≡◌, ℕ, ◌≤◌, List, ◌++◌, length, sym, ap, subst, arith}
use Rattle.std.specs.Prelude.{All}
use Rattle.std.specs.List.{flat_map}
use Rattle.std.proofs.lemmas.List.{length-append}
use Rattle.fc_cert.specs.declared.contents.Head.{Head}
use Rattle.fc_cert.specs.declared.faults.CertFault.{CertFault}
use Rattle.fc_cert.specs.declared.faults.CertFault.TheVariants as fault
use Rattle.fc_cert.specs.Content.{Content, IsRecord, IsSpelled, four_bytes, head_bytes, moves_bytes, record_bytes, rows_bytes}
use Rattle.fc_cert.specs.inner.Layout.{AreParts, AreRecords, HasParts, ends_from}
use Rattle.fc_cert.specs.Reading.{IsFormFault, IsReadFault}
use Rattle.fc_cert.proofs.ReadFaultLemmas.{never_memory}

-- a fault of the form is why nothing was read
pub form_fault : (bytes : List ℕ) (f : CertFault) → IsFormFault bytes f → IsReadFault bytes f
form_fault bytes fault.Memory is = absurd (never_memory bytes is)
form_fault bytes fault.NotCertified is = is
form_fault bytes fault.Write is = is
form_fault bytes fault.Short is = is
form_fault bytes fault.BadMagic is = is
form_fault bytes fault.BadCells is = is
form_fault bytes fault.BadRule is = is
form_fault bytes fault.BadBound is = is
form_fault bytes fault.BadKind is = is
form_fault bytes fault.BadFloor is = is
form_fault bytes (fault.BadMove i) is = is
form_fault bytes (fault.BadRecord i) is = is
form_fault bytes (fault.Order i) is = is
form_fault bytes (fault.Label i) is = is
form_fault bytes fault.Trailing is = is

module _ (c : Content) (bytes : List ℕ) (h : Head) (t r : List ℕ) (n : ℕ) (s : IsSpelled bytes c) (has : HasParts c h t r n) where
  -- the records are some of the bytes
  pub records_short : {most : ℕ} → length bytes ≤ most → length r ≤ most
  records_short le =
      let whole = ap length s.written in
      let all = length-append (head_bytes c.head) (moves_bytes c.head.kind c.moves ++ rows_bytes c.rows) in
      let tail = length-append (moves_bytes c.head.kind c.moves) (rows_bytes c.rows) in
      let last = length-append (four_bytes (length c.rows)) (flat_map record_bytes c.rows) in
      let same = ap length has.records in
      omega (arith, le, whole, all, tail, last, same)

  -- and records
  pub records_of : AreRecords h.cells h.kind r n c.rows
  records_of = record {
    bytes = has.records;
    count = has.count;
    rows = subst (λ k. All (IsRecord k.cells k.kind) c.rows) (sym has.head) s.content.rows;
  }

  pub parts_of : (ends : List ℕ) → ends ≡ ends_from 0 c.rows → AreParts c t r ends
  parts_of ends e = record { content = s.content; texts = has.texts; records = has.records; ends = e }
