-- Bytes are read as a content exactly where they are a certificate with it.
use Rattle.std.proofs.Common.{◌≡◌, ℕ, zero, suc, ◌+◌, ◌<◌, ◌≤◌, ◌^◌, Option, Some, None, List, [], ◌∷◌, ◌++◌, length, get_or, Result, Ok, Err, refl, sym, ◌∙◌, ap, subst, append_assoc, arith}
use Rattle.std.specs.Prelude.{All}
use Rattle.std.specs.List.{flat_map}
use Rattle.std.proofs.lemmas.List.{append-nil}
use Rattle.std.proofs.lemmas.List.Elements.{All-head, All-tail}
use Rattle.fc_moves.specs.declared.steps.Move.{Move}
use Rattle.fc_moves.specs.MoveText.{move_text, HasText}
use Rattle.fc_canonical.specs.KeyOrder.{IsBefore}
use Rattle.fc_answers.specs.Table.{IsRising}
use Rattle.fc_cert.specs.declared.contents.Kind.{Kind}
use Rattle.fc_cert.specs.declared.contents.Kind.TheVariants.{Shortest, CannotWin, Between}
use Rattle.fc_cert.specs.declared.faults.CertFault.{CertFault}
use Rattle.fc_cert.specs.Content.{Content, four_bytes, head_bytes, listed_bytes, moves_bytes, record_bytes, rows_bytes, bytes_of, MayFloor, MayList, IsRecord, IsContent, IsSpelled}
use Rattle.fc_cert.specs.Laws.{CertificatesAreRead}
use Rattle.fc_cert.specs.Reading.{ReadsMoves, ReadsListed, ReadsList, ReadsRecord, ReadsRecords, Reads}
use Rattle.fc_cert.proofs.HeadLemmas.{IsFloor, IsHead, floor_small, head_spelled, head_read}
use Rattle.fc_cert.proofs.SpelledLemmas.{pair_is, RisesFrom, moves_spelled, records_spelled}

-- ---- what is read is spelled so

-- a list of moves, no fewer than the floor, is few moves that have texts
abbrev IsListed : ℕ → List Move → Type 0
IsListed floor moves = (length moves < 2 ^ 32) × All HasText moves × (floor ≤ length moves)

listed_spelled : (floor : ℕ) (bytes rest : List ℕ) (moves : List Move) → ReadsListed floor bytes (Ok (moves, rest))
    → (bytes ≡ listed_bytes moves ++ rest) × IsListed floor moves
listed_spelled floor bytes rest moves (Ok (n, texts), (here, l, e, (says, least)), m) =
    let s = moves_spelled n 1 texts rest moves m in (
      e ∙ ap (λ h. h ++ texts) says.0 ∙ ap (λ t. four_bytes n ++ t) s.2
          ∙ sym (append_assoc (four_bytes n) (flat_map move_text moves) rest)
          ∙ ap (λ k. (four_bytes k ++ flat_map move_text moves) ++ rest) (sym s.0),
      (omega (arith, s.0, says.1), s.1, omega (arith, s.0, least)),
    )
listed_spelled floor bytes rest moves (Err f, number, same) = absurd cc

list_spelled : (kind : Kind) (floor : ℕ) (bytes rest : List ℕ) (moves : List Move) → IsFloor kind floor
    → ReadsList kind floor bytes (Ok (moves, rest))
    → (bytes ≡ moves_bytes kind moves ++ rest) × MayList kind moves × MayFloor kind floor moves
list_spelled Shortest floor bytes rest moves none read =
    let s = listed_spelled floor bytes rest moves read in (s.0, (s.1.0, s.1.1), none)
list_spelled CannotWin floor bytes rest moves none same =
    subst (λ (p : List Move × List ℕ). (bytes ≡ p.1) × (p.0 ≡ []) × (floor ≡ 0)) (sym (pair_is (moves, rest) ([], bytes) same))
    (refl, refl, none)
list_spelled Between floor bytes rest moves small read =
    let s = listed_spelled floor bytes rest moves read in (s.0, (s.1.0, s.1.1), s.1.2)

-- rows that rise from a key on rise
rises : (before : Option (List ℕ)) (rows : List (List ℕ × ℕ)) → RisesFrom before rows → IsRising rows
rises before [] up k d lt = absurd (omega (arith, lt))
rises before (x ∷ []) up k d lt = absurd (omega (arith, lt))
rises before (x ∷ y ∷ rows) up zero d lt = up.1.0
rises before (x ∷ y ∷ rows) up (suc k) d lt =
    let one : suc (k + 1) ≡ suc k + 1 = omega arith in
    subst (λ i. IsBefore (get_or (y ∷ rows) k d).0 (get_or (x ∷ y ∷ rows) i d).0) one
    (rises (Some x.0) (y ∷ rows) up.1 k d (omega (arith, lt)))

-- a content is told by its outcome
abbrev as_ok : Content → Result Content CertFault
as_ok c = Ok c

ok_is : (x y : Content) → as_ok x ≡ as_ok y → x ≡ y
ok_is x y e = cc

pub read_spelled : (bytes : List ℕ) (c : Content) → Reads bytes (Ok c) → IsSpelled bytes c
read_spelled bytes c (Ok (head, r1), f1, (Ok (moves, r2), f2, (Ok (rows, []), (Ok (n, r3), (here, l, e, says), f3), same))) =
    let h = head_spelled bytes r1 head f1 in
    let m = list_spelled head.kind head.floor r1 r2 moves h.1.floor f2 in
    let t = records_spelled head.cells head.kind n 0 None r3 [] rows f3 in
    let table : r2 ≡ rows_bytes rows =
    e ∙ ap (λ l. l ++ r3) says.0 ∙ ap (λ l. four_bytes n ++ l) (t.3 ∙ append-nil (flat_map record_bytes rows))
    ∙ ap (λ k. four_bytes k ++ flat_map record_bytes rows) (sym t.0) in
    let content : Content = record { head = head; moves = moves; rows = rows } in
    let spelled : IsSpelled bytes content = record {
      content = record {
        head = h.1.names;
        bound = h.1.bound;
        kind = h.1.kind;
        floor = m.2;
        moves = m.1;
        count = omega (arith, t.0, says.1);
        rows = t.1;
        rising = rises None rows t.2;
      };
      written = h.0 ∙ ap (λ l. head_bytes head ++ l) (m.0 ∙ ap (λ l. moves_bytes head.kind moves ++ l) table);
    } in
    subst (IsSpelled bytes) (sym (ok_is c content same)) spelled
read_spelled bytes c (Ok (head, r1), f1, (Ok (moves, r2), f2, (Ok (rows, []), (Err f, number, wrong), same))) = absurd cc
read_spelled bytes c (Ok (head, r1), f1, (Ok (moves, r2), f2, (Ok (rows, byte ∷ rest), f3, same))) = absurd cc
read_spelled bytes c (Ok (head, r1), f1, (Ok (moves, r2), f2, (Err f, f3, same))) = absurd cc
read_spelled bytes c (Ok (head, r1), f1, (Err f, f2, same)) = absurd cc
read_spelled bytes c (Err f, f1, same) = absurd cc

-- ---- what is spelled so is read

moves_read : (ms : List Move) (k : ℕ) (rest : List ℕ) → All HasText ms
    → ReadsMoves (length ms) k (flat_map move_text ms ++ rest) (Ok (ms, rest))
moves_read [] k rest all = refl
moves_read (m ∷ ms) k rest all = (
  Ok (m, flat_map move_text ms ++ rest),
  (
    move_text m,
    refl,
    append_assoc (move_text m) (flat_map move_text ms) rest,
    (refl, All-head HasText m ms all),
  ),
  (Ok (ms, rest), moves_read ms (k + 1) rest (All-tail HasText m ms all), refl),
)

listed_read : (floor : ℕ) (moves : List Move) (rest : List ℕ) → IsListed floor moves
    → ReadsListed floor (listed_bytes moves ++ rest) (Ok (moves, rest))
listed_read floor moves rest is = (
  Ok (length moves, flat_map move_text moves ++ rest),
  (
    four_bytes (length moves),
    refl,
    append_assoc (four_bytes (length moves)) (flat_map move_text moves) rest,
    ((refl, is.0), is.2),
  ),
  moves_read moves 1 rest is.1,
)

list_read : (kind : Kind) (floor : ℕ) (moves : List Move) (rest : List ℕ) → MayList kind moves → MayFloor kind floor moves
    → ReadsList kind floor (moves_bytes kind moves ++ rest) (Ok (moves, rest))
list_read Shortest floor moves rest may none = listed_read floor moves rest (may.0, may.1, omega (arith, none))
list_read CannotWin floor moves rest empty none = ap (λ ms. Ok (ms, rest)) empty
list_read Between floor moves rest may least = listed_read floor moves rest (may.0, may.1, least)

records_read : (cells : ℕ) (kind : Kind) (rows : List (List ℕ × ℕ)) (k : ℕ) (before : Option (List ℕ)) (rest : List ℕ)
    → All (IsRecord cells kind) rows → RisesFrom before rows
    → ReadsRecords (ReadsRecord cells kind) (length rows) k before (flat_map record_bytes rows ++ rest) (Ok (rows, rest))
records_read cells kind [] k before rest all up = refl
records_read cells kind (row ∷ rows) k before rest all up = (
  Ok (row, flat_map record_bytes rows ++ rest),
  (
    append_assoc (record_bytes row) (flat_map record_bytes rows) rest,
    All-head (IsRecord cells kind) row rows all,
    up.0,
  ),
  (
    Ok (rows, rest),
    records_read cells kind rows (k + 1) (Some row.0) rest (All-tail (IsRecord cells kind) row rows all) up.1,
    refl,
  ),
)

-- rows that rise do so from their first key on
rising_on : (row : List ℕ × ℕ) (rows : List (List ℕ × ℕ)) → IsRising (row ∷ rows) → RisesFrom (Some row.0) rows
rising_on row [] up = tt
rising_on row (next ∷ rows) up = (
  up 0 row (omega arith),
  rising_on next rows (λ k d lt.
      let one : suc k + 1 ≡ suc (k + 1) = omega arith in
      subst (λ i. IsBefore (get_or (next ∷ rows) k d).0 (get_or (row ∷ next ∷ rows) i d).0) one
      (up (suc k) d (omega (arith, lt)))),
)

rising_all : (rows : List (List ℕ × ℕ)) → IsRising rows → RisesFrom None rows
rising_all [] up = tt
rising_all (row ∷ rows) up = (tt, rising_on row rows up)

content_read : (c : Content) → IsContent c → Reads (bytes_of c) (Ok c)
content_read c is =
    let list = moves_bytes c.head.kind c.moves in
    let table = rows_bytes c.rows in
    let head : IsHead c.head = record {
      names = is.head;
      bound = is.bound;
      kind = is.kind;
      floor = floor_small c.head.kind c.head.floor c.moves is.moves is.floor;
    } in (
      Ok (c.head, list ++ table),
      head_read c.head (list ++ table) head,
      (
        Ok (c.moves, table),
        list_read c.head.kind c.head.floor c.moves table is.moves is.floor,
        (
          Ok (c.rows, []),
          (
            Ok (length c.rows, flat_map record_bytes c.rows),
            (four_bytes (length c.rows), refl, refl, (refl, is.count)),
            subst (λ l. ReadsRecords (ReadsRecord c.head.cells c.head.kind) (length c.rows) 0 None l (Ok (c.rows, [])))
                (append-nil (flat_map record_bytes c.rows))
                (records_read c.head.cells c.head.kind c.rows 0 None [] is.rows (rising_all c.rows is.rising)),
          ),
          refl,
        ),
      ),
    )

pub spelled_read : (bytes : List ℕ) (c : Content) → IsSpelled bytes c → Reads bytes (Ok c)
spelled_read bytes c s = subst (λ l. Reads l (Ok c)) (sym s.written) (content_read c s.content)

pub certificates_read : CertificatesAreRead
certificates_read bytes c = (read_spelled bytes c, spelled_read bytes c)
