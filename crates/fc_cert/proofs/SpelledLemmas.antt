-- What is read is spelled by the bytes that were read.
use Rattle.std.proofs.Common.{◌≡◌, ◌==◌, true, false, ℕ, zero, suc, ◌+◌, ◌-◌, ◌<◌, ◌^◌, Option, Some, None, List, [], ◌∷◌, ◌++◌, length, take, drop, Result, Ok, Err, refl, sym, ◌∙◌, ap, subst, append_assoc, arith}
use Rattle.std.specs.Prelude.{All}
use Rattle.std.specs.List.{flat_map}
use Rattle.std.proofs.lemmas.Bool.{eqb-true, false≢true}
use Rattle.std.proofs.lemmas.List.{append-nil, length-append, take_at, drop_at, nil_from_length}
use Rattle.std.proofs.lemmas.List.Elements.{All-nil, All-cons}
use Rattle.fc_moves.specs.declared.steps.Move.{Move}
use Rattle.fc_moves.specs.MoveText.{move_text, HasText}
use Rattle.fc_canonical.specs.Key.{HasExtent}
use Rattle.fc_canonical.proofs.KeyLemmas.{same_fronts}
use Rattle.fc_cert.specs.declared.contents.Head.{Head}
use Rattle.fc_cert.specs.declared.contents.Kind.{Kind}
use Rattle.fc_cert.specs.declared.faults.CertFault.{CertFault}
use Rattle.fc_cert.specs.declared.faults.CertFault.TheVariants.{Short, Trailing}
use Rattle.fc_cert.specs.Content.{four_bytes, record_bytes, IsRecord}
use Rattle.fc_cert.specs.inner.Layout.{HasParts}
use Rattle.fc_cert.specs.Reading.{Field, SaysNumber, IsAfter, HasRecord, ReadsHead, ReadsMoves, ReadsList, ReadsRecord, ReadsRecords, ReadsEnd, Reads}

-- a reader's value and rest are told by its outcome
abbrev pub read_as : {A : Type 0} → A → List ℕ → Result (A × List ℕ) CertFault
read_as x rest = Ok (x, rest)

pub pair_is : {A : Type 0} (x y : A × List ℕ) → read_as x.0 x.1 ≡ read_as y.0 y.1 → x ≡ y
pair_is x y e = cc

-- each key comes after the one before, the first of them after this one
abbrev pub RisesFrom : Option (List ℕ) → List (List ℕ × ℕ) → Type 0
RisesFrom before [] = Unit {0}
RisesFrom before (row ∷ rows) = IsAfter before row.0 × RisesFrom (Some row.0) rows

-- moves that are read have texts, which stand there
pub moves_spelled : (n k : ℕ) (bytes rest : List ℕ) (ms : List Move) → ReadsMoves n k bytes (Ok (ms, rest))
    → (length ms ≡ n) × All HasText ms × (bytes ≡ flat_map move_text ms ++ rest)
moves_spelled zero k bytes rest ms same =
    subst (λ (p : List Move × List ℕ). (length p.0 ≡ 0) × All HasText p.0 × (bytes ≡ flat_map move_text p.0 ++ p.1))
    (sym (pair_is (ms, rest) ([], bytes) same)) (refl, All-nil HasText, refl)
moves_spelled (suc n) k bytes rest ms (Ok (m, after), first, (Ok (others, end), more, same)) =
    let i = moves_spelled n (k + 1) after end others more in
    let (here, two, parts, (says, text)) = first in
    subst (λ (p : List Move × List ℕ). (length p.0 ≡ suc n) × All HasText p.0 × (bytes ≡ flat_map move_text p.0 ++ p.1))
    (sym (pair_is (ms, rest) (m ∷ others, end) same)) (
      ap suc i.0,
      All-cons HasText m others text i.1,
      parts ∙ ap (λ l. l ++ after) says ∙ ap (λ l. move_text m ++ l) i.2
          ∙ sym (append_assoc (move_text m) (flat_map move_text others) end),
    )
moves_spelled (suc n) k bytes rest ms (Ok (m, after), first, (Err f, more, same)) = absurd cc
moves_spelled (suc n) k bytes rest ms (Err f, first, same) = absurd cc

-- records that are read are records, which rise and stand there
pub records_spelled : (cells : ℕ) (kind : Kind) (n k : ℕ) (before : Option (List ℕ)) (bytes rest : List ℕ)
    (rows : List (List ℕ × ℕ)) → ReadsRecords (ReadsRecord cells kind) n k before bytes (Ok (rows, rest))
    → (length rows ≡ n) × All (IsRecord cells kind) rows × RisesFrom before rows × (bytes ≡ flat_map record_bytes rows ++ rest)
records_spelled cells kind zero k before bytes rest rows same =
    subst (λ (p : List (List ℕ × ℕ) × List ℕ). (length p.0 ≡ 0) × All (IsRecord cells kind) p.0 × RisesFrom before p.0
    × (bytes ≡ flat_map record_bytes p.0 ++ p.1))
    (sym (pair_is (rows, rest) ([], bytes) same)) (refl, All-nil (IsRecord cells kind), tt, refl)
records_spelled cells kind (suc n) k before bytes rest rows (Ok (row, after), first, (Ok (others, end), more, same)) =
    let i = records_spelled cells kind n (k + 1) (Some row.0) after end others more in
    subst (λ (p : List (List ℕ × ℕ) × List ℕ). (length p.0 ≡ suc n) × All (IsRecord cells kind) p.0 × RisesFrom before p.0
    × (bytes ≡ flat_map record_bytes p.0 ++ p.1))
    (sym (pair_is (rows, rest) (row ∷ others, end) same)) (
      ap suc i.0,
      All-cons (IsRecord cells kind) row others first.1 i.1,
      (first.2, i.2),
      first.0 ∙ ap (λ l. record_bytes row ++ l) i.3
          ∙ sym (append_assoc (record_bytes row) (flat_map record_bytes others) end),
    )
records_spelled cells kind (suc n) k before bytes rest rows (Ok (row, after), first, (Err f, more, same)) = absurd cc
records_spelled cells kind (suc n) k before bytes rest rows (Err f, first, same) = absurd cc

-- behind the cost, the bytes begin with the key
pub record_key : (bytes from_key : List ℕ) (n cost : ℕ) (key : List ℕ) → bytes ≡ four_bytes n ++ from_key
    → (has : HasRecord bytes cost key) → (four_bytes n ≡ four_bytes cost) × (from_key ≡ key ++ has.rest)
record_key bytes from_key n cost key e has =
    same_fronts (four_bytes n) (four_bytes cost) from_key (key ++ has.rest) refl
    (sym e ∙ has.parts ∙ append_assoc (four_bytes cost) key has.rest)

pub no_key : (bytes from_key : List ℕ) (n : ℕ) → bytes ≡ four_bytes n ++ from_key → ((size : ℕ) → HasExtent from_key size → ⊥)
    → (cost : ℕ) (key : List ℕ) → HasRecord bytes cost key → ⊥
no_key bytes from_key n e none cost key has =
    none (length key)
    (subst (λ l. HasExtent l (length key)) (sym (record_key bytes from_key n cost key e has).1) has.extent)

-- a cost and the extent of a key are a record
pub record_split : (bytes from_key key rest : List ℕ) (cost n : ℕ) → bytes ≡ four_bytes cost ++ from_key → cost < 2 ^ 32
    → HasExtent from_key n → from_key ≡ key ++ rest → length key ≡ n
    → (has : HasRecord bytes cost key) × (has.rest ≡ rest)
record_split bytes from_key key rest cost n e small extent split size = (
  record {
    rest = rest;
    small = small;
    extent = subst (λ l. HasExtent l (length key)) split (subst (λ i. HasExtent from_key i) (sym size) extent);
    parts = e ∙ ap (λ l. four_bytes cost ++ l) split ∙ sym (append_assoc (four_bytes cost) key rest);
  },
  refl,
)

-- the list of moves and the table that are read one after the other, with nothing behind them, are all of the bytes
pub whole_read : (bytes after_head after_moves records rest : List ℕ) (head : Head) (moves : List Move)
    (rows : List (List ℕ × ℕ)) (count : ℕ) → ReadsHead bytes (Ok (head, after_head))
    → ReadsList head.kind head.floor after_head (Ok (moves, after_moves)) → Field 4 SaysNumber Short after_moves (Ok (count, records))
    → ReadsRecords (ReadsRecord head.cells head.kind) count 0 None records (Ok (rows, rest)) → rest ≡ []
    → Reads bytes (Ok (record { head = head; moves = moves; rows = rows }))
whole_read bytes after_head after_moves records rest head moves rows count first list number table none = (
  Ok (head, after_head),
  first,
  (
    Ok (moves, after_moves),
    list,
    (
      Ok (rows, rest),
      (Ok (count, records), number, table),
      subst (λ r. ReadsEnd (record { head = head; moves = moves; rows = rows }) r
          (Ok (record { head = head; moves = moves; rows = rows }))) (sym none) refl,
    ),
  ),
)

pub trailing : (bytes after_head after_moves records rest : List ℕ) (head : Head) (moves : List Move)
    (rows : List (List ℕ × ℕ)) (count : ℕ) → ReadsHead bytes (Ok (head, after_head))
    → ReadsList head.kind head.floor after_head (Ok (moves, after_moves)) → Field 4 SaysNumber Short after_moves (Ok (count, records))
    → ReadsRecords (ReadsRecord head.cells head.kind) count 0 None records (Ok (rows, rest)) → (rest ≡ [] → ⊥)
    → Reads bytes (Err Trailing)
trailing bytes after_head after_moves records [] head moves rows count first list number table some = absurd (some refl)
trailing bytes after_head after_moves records (byte ∷ rest) head moves rows count first list number table some = (
  Ok (head, after_head),
  first,
  (Ok (moves, after_moves), list, (Ok (rows, byte ∷ rest), (Ok (count, records), number, table), refl)),
)

-- and the records are all the bytes behind their number
pub whole_parts : (head : Head) (moves : List Move) (rows : List (List ℕ × ℕ)) (texts records rest : List ℕ) (count : ℕ)
    → texts ≡ flat_map move_text moves → ReadsRecords (ReadsRecord head.cells head.kind) count 0 None records (Ok (rows, rest)) → rest ≡ []
    → HasParts (record { head = head; moves = moves; rows = rows }) head texts records count
whole_parts head moves rows texts records rest count of_moves table none =
    let s = records_spelled head.cells head.kind count 0 None records rest rows table in
    record {
      head = refl;
      texts = of_moves;
      records = s.3 ∙ ap (λ r. flat_map record_bytes rows ++ r) none ∙ append-nil (flat_map record_bytes rows);
      count = sym s.0;
    }

-- a list is cut behind its front where what follows is as long
pub cut_behind : (all front rest a b : List ℕ) → all ≡ front ++ rest → a ≡ take (length all - length rest) all
    → b ≡ drop (length all - length rest) all → (a ≡ front) × (b ≡ rest)
cut_behind all front rest a b e x y =
    let n : length front ≡ length all - length rest = omega (arith, ap length e, length-append front rest) in (
      x ∙ ap (take (length all - length rest)) e ∙ take_at front rest (length all - length rest) n,
      y ∙ ap (drop (length all - length rest)) e ∙ drop_at front rest (length all - length rest) n,
    )

-- nothing is left where the test says so
pub nothing_left : (rest : List ℕ) → true ≡ (length rest == 0) → rest ≡ []
nothing_left rest test = nil_from_length rest (eqb-true (length rest) 0 (sym test))

pub something_left : (rest : List ℕ) → false ≡ (length rest == 0) → rest ≡ [] → ⊥
something_left rest test none = false≢true (test ∙ ap (λ r. length r == 0) none)
