-- How certificates are read: field by field, up to the first that isn't all there, or is wrong.
use Rattle.std.specs.Prelude.{◌≡◌, ℕ, ◌+◌, ◌<◌, ◌≤◌, ◌⊎◌, ◌^◌, suc, zero, List, [], ◌∷◌, ◌++◌, length, take, Option, Some, None, Result, Ok, Err}
use Rattle.fc_moves.specs.declared.steps.Move.{Move}
use Rattle.fc_moves.specs.MoveText.{move_text, HasText}
use Rattle.fc_canonical.specs.Key.{HasExtent}
use Rattle.fc_canonical.specs.KeyOrder.{IsBefore}
use Rattle.fc_canonical.specs.Spelled.{IsKeyFor}
use Rattle.fc_home.specs.declared.settling.TheConstants.{GREATEST_RULE}
use Rattle.fc_bound.specs.declared.kinds.BoundKind.{BoundKind}
use Rattle.fc_bound.specs.declared.kinds.BoundKind.TheVariants.{Plain}
use Rattle.fc_cert.specs.declared.contents.Form.{Form}
use Rattle.fc_cert.specs.declared.contents.Form.TheVariants.{First, Second, Third}
use Rattle.fc_cert.specs.declared.contents.Head.{Head}
use Rattle.fc_cert.specs.declared.contents.Kind.{Kind}
use Rattle.fc_cert.specs.declared.contents.Kind.TheVariants.{Shortest, CannotWin, Between}
use Rattle.fc_cert.specs.declared.faults.CertFault.{CertFault}
use Rattle.fc_cert.specs.declared.faults.CertFault.TheVariants.{Short, BadMagic, BadCells, BadRule, BadBound, BadKind, BadFloor, BadMove, BadRecord, Order, Label, Trailing, Memory}
use Rattle.fc_cert.specs.Content.{Content, IsSpelled, magic, bound_byte, kind_byte, four_bytes, record_bytes, MayClaim, MayCost, IsRecord}

module _ {A : Type 0} where
  -- a field of n bytes: what it says, and the bytes after it; or it isn't all there; or it is, and says nothing
  abbrev pub Field : ℕ → (List ℕ → A → Type 0) → CertFault → List ℕ → Result (A × List ℕ) CertFault → Type 0
  Field n Says wrong bytes (Ok (value, rest)) = (here : List ℕ) × (length here ≡ n) × (bytes ≡ here ++ rest) × Says here value
  Field n Says wrong bytes (Err fault) = ((length bytes < n) × (fault ≡ Short))
      ⊎ ((n ≤ length bytes) × ((value : A) → Says (take n bytes) value → ⊥) × (fault ≡ wrong))

module _ {A B : Type 0} where
  -- reading goes on with what a field said and the bytes after it, and ends at its fault
  abbrev pub Then : Result (A × List ℕ) CertFault → (A → List ℕ → Result B CertFault → Type 0) → Result B CertFault → Type 0
  Then (Ok (value, rest)) Next out = Next value rest out
  Then (Err fault) Next out = out ≡ Err fault

-- a byte that says a number
abbrev pub SaysByte : (ℕ → Type 0) → List ℕ → ℕ → Type 0
SaysByte IsRight here n = (here ≡ n ∷ []) × IsRight n

-- any byte
abbrev pub IsAny : ℕ → Type 0
IsAny n = n < 256

-- four bytes that say a number
abbrev pub SaysNumber : List ℕ → ℕ → Type 0
SaysNumber here n = (here ≡ four_bytes n) × (n < 2 ^ 32)

-- two bytes that say a move
abbrev pub SaysMove : List ℕ → Move → Type 0
SaysMove here m = (here ≡ move_text m) × HasText m

-- a byte for the code of the game, and one for its number of cells
abbrev pub ReadsNamed : List ℕ → Result ((ℕ × ℕ) × List ℕ) CertFault → Type 0
ReadsNamed bytes out =
    (game : Result (ℕ × List ℕ) CertFault) × Field 1 (SaysByte IsAny) Short bytes game × Then game
    (λ code rest out. (cells : Result (ℕ × List ℕ) CertFault) × Field 1 (SaysByte (λ n. n ≤ 4)) BadCells rest cells × Then cells
    (λ n rest out. out ≡ Ok ((code, n), rest)) out) out

-- the game: the first form has no bytes for it
abbrev pub ReadsGame : Form → List ℕ → Result ((ℕ × ℕ) × List ℕ) CertFault → Type 0
ReadsGame First bytes out = out ≡ Ok ((0, 4), bytes)
ReadsGame Second bytes out = ReadsNamed bytes out
ReadsGame Third bytes out = ReadsNamed bytes out

-- the home rules that a form may name
abbrev pub MayRule : Form → ℕ → Type 0
MayRule First rule = rule ≤ 1
MayRule Second rule = rule ≤ GREATEST_RULE
MayRule Third rule = rule ≤ GREATEST_RULE

-- the bound: the third form alone has a byte for it
abbrev pub ReadsBound : Form → List ℕ → Result (BoundKind × List ℕ) CertFault → Type 0
ReadsBound First bytes out = out ≡ Ok (Plain, bytes)
ReadsBound Second bytes out = out ≡ Ok (Plain, bytes)
ReadsBound Third bytes out = Field 1 (λ here bound. here ≡ bound_byte bound ∷ []) BadBound bytes out

-- a byte that says a kind of this form
abbrev pub SaysKind : Form → List ℕ → Kind → Type 0
SaysKind form here kind = (here ≡ kind_byte kind ∷ []) × MayClaim form kind

-- the floor: kind 3 alone has a number for it
abbrev pub ReadsFloor : Kind → List ℕ → Result (ℕ × List ℕ) CertFault → Type 0
ReadsFloor Shortest bytes out = out ≡ Ok (0, bytes)
ReadsFloor CannotWin bytes out = out ≡ Ok (0, bytes)
ReadsFloor Between bytes out = Field 4 SaysNumber Short bytes out

-- the claim: its kind and its floor
abbrev pub ReadsClaim : Form → List ℕ → Result ((Kind × ℕ) × List ℕ) CertFault → Type 0
ReadsClaim form bytes out =
    (kind : Result (Kind × List ℕ) CertFault) × Field 1 (SaysKind form) BadKind bytes kind × Then kind
    (λ kind rest out. (floor : Result (ℕ × List ℕ) CertFault) × ReadsFloor kind rest floor × Then floor
    (λ n rest out. out ≡ Ok ((kind, n), rest)) out) out

-- the head: the magic, the game, the home rule, the bound, and the claim
abbrev pub ReadsHead : List ℕ → Result (Head × List ℕ) CertFault → Type 0
ReadsHead bytes out =
    (first : Result (Form × List ℕ) CertFault) × Field 4 (λ here form. here ≡ magic form) BadMagic bytes first × Then first
    (λ form rest out. (game : Result ((ℕ × ℕ) × List ℕ) CertFault) × ReadsGame form rest game × Then game
    (λ named rest out. (ruled : Result (ℕ × List ℕ) CertFault) × Field 1 (SaysByte (MayRule form)) BadRule rest ruled × Then ruled
    (λ rule rest out. (low : Result (BoundKind × List ℕ) CertFault) × ReadsBound form rest low × Then low
    (λ bound rest out. (last : Result ((Kind × ℕ) × List ℕ) CertFault) × ReadsClaim form rest last × Then last
    (λ claimed rest out. out ≡ Ok (
      record {
        form = form;
        game = named.0;
        cells = named.1;
        rule = rule;
        bound = bound;
        kind = claimed.0;
        floor = claimed.1;
      },
      rest,
    ))
    out) out) out) out) out

-- so many moves, the first of them with this number
abbrev pub ReadsMoves : ℕ → ℕ → List ℕ → Result (List Move × List ℕ) CertFault → Type 0
ReadsMoves zero number bytes out = out ≡ Ok ([], bytes)
ReadsMoves (suc left) number bytes out =
    (first : Result (Move × List ℕ) CertFault) × Field 2 SaysMove (BadMove number) bytes first × Then first
    (λ m rest out. (others : Result (List Move × List ℕ) CertFault) × ReadsMoves left (number + 1) rest others × Then others
    (λ moves rest out. out ≡ Ok (m ∷ moves, rest)) out) out

-- four bytes that say a number which is no less than the floor
abbrev pub SaysNoLess : ℕ → List ℕ → ℕ → Type 0
SaysNoLess floor here n = SaysNumber here n × (floor ≤ n)

-- how many moves, no fewer than the floor, and the moves, counted from 1
abbrev pub ReadsListed : ℕ → List ℕ → Result (List Move × List ℕ) CertFault → Type 0
ReadsListed floor bytes out =
    (count : Result (ℕ × List ℕ) CertFault) × Field 4 (SaysNoLess floor) BadFloor bytes count × Then count
    (λ n rest out. ReadsMoves n 1 rest out) out

-- the list of moves, which kind 2 hasn't; in kind 1 the floor is 0
abbrev pub ReadsList : Kind → ℕ → List ℕ → Result (List Move × List ℕ) CertFault → Type 0
ReadsList Shortest floor bytes out = ReadsListed floor bytes out
ReadsList CannotWin floor bytes out = out ≡ Ok ([], bytes)
ReadsList Between floor bytes out = ReadsListed floor bytes out

-- the key comes after that of the record before, if there is one
abbrev pub IsAfter : Option (List ℕ) → List ℕ → Type 0
IsAfter None key = Unit {0}
IsAfter (Some before) key = IsBefore before key

-- the bytes begin with a cost and so many bytes that are a key by its length bytes
pub record HasRecord (bytes : List ℕ) (cost : ℕ) (key : List ℕ) : Type 0 where
  pub rest : List ℕ
  pub small : cost < 2 ^ 32
  pub extent : HasExtent (key ++ rest) (length key)
  pub parts : bytes ≡ record_bytes (key, cost) ++ rest

-- the record with this number, after one with this key: its cost and the extent of its key must be there; then the extent
-- must be a key, after the one before, and the cost one of the kind
abbrev pub ReadsRecord : ℕ → Kind → ℕ → Option (List ℕ) → List ℕ → Result ((List ℕ × ℕ) × List ℕ) CertFault → Type 0
ReadsRecord cells kind number before bytes (Ok (row, rest)) =
    (bytes ≡ record_bytes row ++ rest) × IsRecord cells kind row × IsAfter before row.0
ReadsRecord cells kind number before bytes (Err Short) = (cost : ℕ) (key : List ℕ) → HasRecord bytes cost key → ⊥
ReadsRecord cells kind number before bytes (Err (BadRecord i)) =
    (i ≡ number) × ((cost : ℕ) × (key : List ℕ) × HasRecord bytes cost key × (IsKeyFor cells key → ⊥))
ReadsRecord cells kind number before bytes (Err (Order i)) =
    (i ≡ number) × ((cost : ℕ) × (key : List ℕ) × HasRecord bytes cost key × IsKeyFor cells key × (IsAfter before key → ⊥))
ReadsRecord cells kind number before bytes (Err (Label i)) =
    (i ≡ number) × ((cost : ℕ) × (key : List ℕ) × HasRecord bytes cost key × IsKeyFor cells key × IsAfter before key
    × (MayCost kind cost → ⊥))
ReadsRecord cells kind number before bytes (Err other) = ⊥

-- so many records, each read in this way, the first of them with this number, after one with this key
abbrev pub ReadsRecords : (ℕ → Option (List ℕ) → List ℕ → Result ((List ℕ × ℕ) × List ℕ) CertFault → Type 0) → ℕ → ℕ
    → Option (List ℕ) → List ℕ → Result (List (List ℕ × ℕ) × List ℕ) CertFault → Type 0
ReadsRecords ReadsOne zero number before bytes out = out ≡ Ok ([], bytes)
ReadsRecords ReadsOne (suc left) number before bytes out =
    (first : Result ((List ℕ × ℕ) × List ℕ) CertFault) × ReadsOne number before bytes first × Then first
    (λ row rest out. (others : Result (List (List ℕ × ℕ) × List ℕ) CertFault)
    × ReadsRecords ReadsOne left (number + 1) (Some row.0) rest others × Then others
    (λ rows rest out. out ≡ Ok (row ∷ rows, rest)) out) out

-- the table: how many records, and the records, counted from 0
abbrev pub ReadsTable : ℕ → Kind → List ℕ → Result (List (List ℕ × ℕ) × List ℕ) CertFault → Type 0
ReadsTable cells kind bytes out =
    (count : Result (ℕ × List ℕ) CertFault) × Field 4 SaysNumber Short bytes count × Then count
    (λ n rest out. ReadsRecords (ReadsRecord cells kind) n 0 None rest out) out

-- nothing follows
abbrev pub ReadsEnd : Content → List ℕ → Result Content CertFault → Type 0
ReadsEnd c [] out = out ≡ Ok c
ReadsEnd c (byte ∷ rest) out = out ≡ Err Trailing

-- all the bytes, read in this order: their content, or the first fault
abbrev pub Reads : List ℕ → Result Content CertFault → Type 0
Reads bytes out =
    (first : Result (Head × List ℕ) CertFault) × ReadsHead bytes first × Then first
    (λ head rest out. (list : Result (List Move × List ℕ) CertFault) × ReadsList head.kind head.floor rest list × Then list
    (λ moves rest out. (table : Result (List (List ℕ × ℕ) × List ℕ) CertFault)
    × ReadsTable head.cells head.kind rest table × Then table
    (λ rows rest out. ReadsEnd (record { head = head; moves = moves; rows = rows }) rest out) out) out) out

-- the fault of bytes that have no content
abbrev pub IsFormFault : List ℕ → CertFault → Type 0
IsFormFault bytes fault = Reads bytes (Err fault)

-- why nothing was read of the bytes: the fault of their form, or a growth that was refused, where they are a certificate
-- that lists some class
abbrev pub IsReadFault : List ℕ → CertFault → Type 0
IsReadFault bytes Memory = (c : Content) × IsSpelled bytes c × (0 < length c.rows)
IsReadFault bytes fault = IsFormFault bytes fault
