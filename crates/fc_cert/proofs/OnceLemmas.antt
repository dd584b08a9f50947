-- Reading comes to one end.
use Rattle.std.proofs.Common.{◌≡◌, ℕ, zero, suc, ◌+◌, ◌<◌, ◌≤◌, ◌^◌, Option, Some, None, List, [], ◌∷◌, ◌++◌, length, take, get_or, Result, Ok, Err, refl, sym, ◌∙◌, ap, subst, append_assoc, arith, inl, inr}
use Rattle.std.specs.Prelude.{◌⊎◌, ◌==◌, if◌then◌else◌}
use Rattle.std.proofs.lemmas.List.{length-append, take_at}
use Rattle.std.proofs.lemmas.Nat.{from_be_bytes-to_be_bytes_4}
use Rattle.std.specs.Int.{w32, from_be_bytes}
use Rattle.fc_cards.specs.declared.places.Place.{Place}
use Rattle.fc_cards.specs.declared.places.Place.TheVariants.{Column, Cell, Home}
use Rattle.fc_moves.specs.declared.steps.Move.{Move}
use Rattle.fc_moves.specs.MoveText.{place_letter, IsThere}
use Rattle.fc_moves.proofs.StepLemmas.{move_same, source_is_there}
use Rattle.fc_canonical.specs.Key.{HasExtent}
use Rattle.fc_canonical.specs.Spelled.{IsKeyFor, board_of_bytes}
use Rattle.fc_canonical.proofs.KeyLemmas.{same_fronts, key_extents}
use Rattle.fc_canonical.proofs.SpelledLemmas.{extent_once}
use Rattle.fc_bound.specs.declared.kinds.BoundKind.{BoundKind}
use Rattle.fc_bound.specs.declared.kinds.BoundKind.TheVariants.{Plain, Clearing}
use Rattle.fc_cert.specs.declared.contents.Form.{Form}
use Rattle.fc_cert.specs.declared.contents.Form.TheVariants.{First, Second, Third}
use Rattle.fc_cert.specs.declared.contents.Head.{Head}
use Rattle.fc_cert.specs.declared.contents.Kind.{Kind}
use Rattle.fc_cert.specs.declared.contents.Kind.TheVariants.{Shortest, CannotWin, Between}
use Rattle.fc_cert.specs.declared.faults.CertFault.{CertFault}
use Rattle.fc_cert.specs.declared.faults.CertFault.TheVariants.{Short, BadMagic, BadCells, BadRule, BadBound, BadKind, BadFloor, BadMove, BadRecord, Order, Label}
use Rattle.fc_cert.specs.Content.{Content, magic, bound_byte, kind_byte, four_bytes, record_bytes, MayCost, IsRecord}
use Rattle.fc_cert.specs.Laws.{ReadingComesToOneEnd}
use Rattle.fc_cert.specs.Reading.{Field, SaysByte, IsAny, SaysKind, SaysNumber, SaysNoLess, SaysMove, MayRule, IsAfter, HasRecord, ReadsNamed, ReadsGame, ReadsBound, ReadsFloor, ReadsClaim, ReadsHead, ReadsMoves, ReadsListed, ReadsList, ReadsRecord, ReadsRecords, ReadsTable, ReadsEnd}
use Rattle.fc_cert.proofs.FieldLemmas.{step_once}

module _ {A : Type 0} where
  -- where n bytes say one value, a field comes to one end
  pub field_once : (n : ℕ) (Says : List ℕ → A → Type 0) (wrong : CertFault) (bytes : List ℕ)
      → ((here : List ℕ) (v w : A) → Says here v → Says here w → v ≡ w)
      → (a b : Result (A × List ℕ) CertFault) → Field n Says wrong bytes a → Field n Says wrong bytes b → a ≡ b
  field_once n Says wrong bytes once (Ok (v, rest)) (Ok (w, after)) (here, l, e, says) (there, m, f, tells) =
      let same = same_fronts here there rest after (l ∙ sym m) (sym e ∙ f) in
      let one : v ≡ w = once here v w says (subst (λ h. Says h w) (sym same.0) tells) in
      ap (λ x. Ok (x, rest)) one ∙ ap (λ r. Ok (w, r)) same.1
  field_once n Says wrong bytes once (Ok (v, rest)) (Err f) (here, l, e, says) (inl short) =
      absurd (omega (arith, short.0, l, ap length e, length-append here rest))
  field_once n Says wrong bytes once (Ok (v, rest)) (Err f) (here, l, e, says) (inr none) =
      absurd (none.1 v (subst (λ h. Says h v) (sym (ap (take n) e ∙ take_at here rest n l)) says))
  field_once n Says wrong bytes once (Err f) (Ok (v, rest)) (inl short) (here, l, e, says) =
      absurd (omega (arith, short.0, l, ap length e, length-append here rest))
  field_once n Says wrong bytes once (Err f) (Ok (v, rest)) (inr none) (here, l, e, says) =
      absurd (none.1 v (subst (λ h. Says h v) (sym (ap (take n) e ∙ take_at here rest n l)) says))
  field_once n Says wrong bytes once (Err f) (Err g) (inl short) (inl brief) = ap (λ x. Err x) (short.1 ∙ sym brief.1)
  field_once n Says wrong bytes once (Err f) (Err g) (inl short) (inr none) = absurd (omega (arith, short.0, none.0))
  field_once n Says wrong bytes once (Err f) (Err g) (inr none) (inl short) = absurd (omega (arith, short.0, none.0))
  field_once n Says wrong bytes once (Err f) (Err g) (inr none) (inr no_value) = ap (λ x. Err x) (none.2 ∙ sym no_value.2)

-- each field's bytes say one value
form_of : ℕ → Form
form_of byte = if byte == 49 then First else (if byte == 50 then Second else Third)

form_back : (form : Form) → form_of (get_or (magic form) 3 0) ≡ form
unfolding form_of
form_back First = refl
form_back Second = refl
form_back Third = refl

magic_once : (here : List ℕ) (v w : Form) → here ≡ magic v → here ≡ magic w → v ≡ w
magic_once here v w a b = sym (form_back v) ∙ ap (λ l. form_of (get_or l 3 0)) (sym a ∙ b) ∙ form_back w

byte_once : (IsRight : ℕ → Type 0) (here : List ℕ) (v w : ℕ) → SaysByte IsRight here v → SaysByte IsRight here w → v ≡ w
byte_once IsRight here v w a b = ap (λ l. get_or l 0 0) (sym a.0 ∙ b.0)

kind_of : ℕ → Kind
kind_of byte = if byte == 1 then Shortest else (if byte == 2 then CannotWin else Between)

kind_back : (kind : Kind) → kind_of (kind_byte kind) ≡ kind
unfolding kind_of
kind_back Shortest = refl
kind_back CannotWin = refl
kind_back Between = refl

kind_once : (form : Form) (here : List ℕ) (v w : Kind) → SaysKind form here v → SaysKind form here w → v ≡ w
kind_once form here v w a b = sym (kind_back v) ∙ ap (λ l. kind_of (get_or l 0 0)) (sym a.0 ∙ b.0) ∙ kind_back w

bound_of : ℕ → BoundKind
bound_of byte = if byte == 0 then Plain else Clearing

bound_back : (bound : BoundKind) → bound_of (bound_byte bound) ≡ bound
unfolding bound_of
bound_back Plain = refl
bound_back Clearing = refl

bound_byte_once : (here : List ℕ) (v w : BoundKind) → here ≡ bound_byte v ∷ [] → here ≡ bound_byte w ∷ [] → v ≡ w
bound_byte_once here v w a b = sym (bound_back v) ∙ ap (λ l. bound_of (get_or l 0 0)) (sym a ∙ b) ∙ bound_back w

pub four_once : (m n : ℕ) → m < 2 ^ 32 → n < 2 ^ 32 → four_bytes m ≡ four_bytes n → m ≡ n
four_once m n small low e =
    sym (from_be_bytes-to_be_bytes_4 m small) ∙ ap (from_be_bytes w32) e ∙ from_be_bytes-to_be_bytes_4 n low

number_once : (here : List ℕ) (v w : ℕ) → SaysNumber here v → SaysNumber here w → v ≡ w
number_once here v w a b = four_once v w a.1 b.1 (sym a.0 ∙ b.0)

no_less_once : (floor : ℕ) (here : List ℕ) (v w : ℕ) → SaysNoLess floor here v → SaysNoLess floor here w → v ≡ w
no_less_once floor here v w a b = number_once here v w a.0 b.0

place_once : (p q : Place) → IsThere p → IsThere q → place_letter p ≡ place_letter q → p ≡ q
place_once (Column i) (Column j) one two e = ap (λ k. Column k) (omega arith)
place_once (Column i) (Cell j) one two e = absurd (omega arith)
place_once (Column i) Home one two e = absurd (omega arith)
place_once (Cell i) (Column j) one two e = absurd (omega arith)
place_once (Cell i) (Cell j) one two e = ap (λ k. Cell k) (omega arith)
place_once (Cell i) Home one two e = absurd (omega arith)
place_once Home (Column j) one two e = absurd (omega arith)
place_once Home (Cell j) one two e = absurd (omega arith)
place_once Home Home one two e = refl

pub move_once : (here : List ℕ) (v w : Move) → SaysMove here v → SaysMove here w → v ≡ w
move_once here v w a b =
    let both = sym a.0 ∙ b.0 in
    let from = place_once v.from w.from (source_is_there v.from a.1.from) (source_is_there w.from b.1.from)
    (ap (λ l. get_or l 0 0) both) in
    let to = place_once v.to w.to a.1.to b.1.to (ap (λ l. get_or l 1 0) both) in
    move_same v w from to

named_once : (bytes : List ℕ) (a b : Result ((ℕ × ℕ) × List ℕ) CertFault) → ReadsNamed bytes a → ReadsNamed bytes b → a ≡ b
named_once bytes a b p q =
    step_once _ _ a b (field_once 1 (SaysByte IsAny) Short bytes (byte_once IsAny))
    (λ code rest r s. step_once _ _ a b (field_once 1 (SaysByte (λ n. n ≤ 4)) BadCells rest (byte_once (λ n. n ≤ 4)))
    (λ n rest t u. t ∙ sym u) r s) p q

game_once : (form : Form) (bytes : List ℕ) (a b : Result ((ℕ × ℕ) × List ℕ) CertFault) → ReadsGame form bytes a
    → ReadsGame form bytes b → a ≡ b
game_once First bytes a b p q = p ∙ sym q
game_once Second bytes a b p q = named_once bytes a b p q
game_once Third bytes a b p q = named_once bytes a b p q

bound_once : (form : Form) (bytes : List ℕ) (a b : Result (BoundKind × List ℕ) CertFault) → ReadsBound form bytes a
    → ReadsBound form bytes b → a ≡ b
bound_once First bytes a b p q = p ∙ sym q
bound_once Second bytes a b p q = p ∙ sym q
bound_once Third bytes a b p q = field_once 1 (λ here bound. here ≡ bound_byte bound ∷ []) BadBound bytes bound_byte_once a b p q

floor_once : (kind : Kind) (bytes : List ℕ) (a b : Result (ℕ × List ℕ) CertFault) → ReadsFloor kind bytes a
    → ReadsFloor kind bytes b → a ≡ b
floor_once Shortest bytes a b p q = p ∙ sym q
floor_once CannotWin bytes a b p q = p ∙ sym q
floor_once Between bytes a b p q = field_once 4 SaysNumber Short bytes number_once a b p q

claim_once : (form : Form) (bytes : List ℕ) (a b : Result ((Kind × ℕ) × List ℕ) CertFault) → ReadsClaim form bytes a
    → ReadsClaim form bytes b → a ≡ b
claim_once form bytes a b p q =
    step_once _ _ a b (field_once 1 (SaysKind form) BadKind bytes (kind_once form))
    (λ kind rest r s. step_once _ _ a b (floor_once kind rest) (λ n rest r s. r ∙ sym s) r s) p q

head_once : (bytes : List ℕ) (a b : Result (Head × List ℕ) CertFault) → ReadsHead bytes a → ReadsHead bytes b → a ≡ b
head_once bytes a b p q =
    step_once _ _ a b (field_once 4 (λ here form. here ≡ magic form) BadMagic bytes magic_once)
    (λ form rest r s. step_once _ _ a b (game_once form rest)
    (λ named rest r s. step_once _ _ a b (field_once 1 (SaysByte (MayRule form)) BadRule rest (byte_once (MayRule form)))
    (λ rule rest r s. step_once _ _ a b (bound_once form rest)
    (λ bound rest r s. step_once _ _ a b (claim_once form rest) (λ claimed rest r s. r ∙ sym s) r s) r s) r s) r s) p q

moves_once : (n k : ℕ) (bytes : List ℕ) (a b : Result (List Move × List ℕ) CertFault) → ReadsMoves n k bytes a
    → ReadsMoves n k bytes b → a ≡ b
moves_once zero k bytes a b p q = p ∙ sym q
moves_once (suc n) k bytes a b p q =
    step_once _ _ a b (field_once 2 SaysMove (BadMove k) bytes move_once)
    (λ m rest r s. step_once _ _ a b (moves_once n (k + 1) rest) (λ moves rest r s. r ∙ sym s) r s) p q

listed_once : (floor : ℕ) (bytes : List ℕ) (a b : Result (List Move × List ℕ) CertFault) → ReadsListed floor bytes a
    → ReadsListed floor bytes b → a ≡ b
listed_once floor bytes a b p q =
    step_once _ _ a b (field_once 4 (SaysNoLess floor) BadFloor bytes (no_less_once floor)) (λ n rest. moves_once n 1 rest a b) p q

list_once : (kind : Kind) (floor : ℕ) (bytes : List ℕ) (a b : Result (List Move × List ℕ) CertFault) → ReadsList kind floor bytes a
    → ReadsList kind floor bytes b → a ≡ b
list_once Shortest floor bytes a b p q = listed_once floor bytes a b p q
list_once CannotWin floor bytes a b p q = p ∙ sym q
list_once Between floor bytes a b p q = listed_once floor bytes a b p q

-- a test decides: one end where it fails, and some other where it holds
abbrev Decided : {X : Type 0} → Type 0 → X → (X → Type 0) → X → Type 0
Decided P wrong Right x = ((P → ⊥) × (x ≡ wrong)) ⊎ (P × Right x)

decided_once : {X : Type 0} (P : Type 0) (wrong : X) (Right : X → Type 0) (x y : X) → (Right x → Right y → x ≡ y)
    → Decided P wrong Right x → Decided P wrong Right y → x ≡ y
decided_once P wrong Right x y once (inl a) (inl b) = a.1 ∙ sym b.1
decided_once P wrong Right x y once (inl a) (inr b) = absurd (a.0 b.0)
decided_once P wrong Right x y once (inr a) (inl b) = absurd (b.0 a.0)
decided_once P wrong Right x y once (inr a) (inr b) = once a.1 b.1

-- the ends of a record that is all there: its key, its place and its cost are tested in this order
abbrev Priced : Kind → ℕ → ℕ → List ℕ → List ℕ → Result ((List ℕ × ℕ) × List ℕ) CertFault → Type 0
Priced kind number cost key rest = Decided (MayCost kind cost) (Err (Label number)) (λ x. x ≡ Ok ((key, cost), rest))

abbrev Placed : Kind → ℕ → Option (List ℕ) → ℕ → List ℕ → List ℕ → Result ((List ℕ × ℕ) × List ℕ) CertFault → Type 0
Placed kind number before cost key rest = Decided (IsAfter before key) (Err (Order number)) (Priced kind number cost key rest)

abbrev Judged : ℕ → Kind → ℕ → Option (List ℕ) → ℕ → List ℕ → List ℕ → Result ((List ℕ × ℕ) × List ℕ) CertFault → Type 0
Judged cells kind number before cost key rest =
    Decided (IsKeyFor cells key) (Err (BadRecord number)) (Placed kind number before cost key rest)

judged_once : (cells : ℕ) (kind : Kind) (number : ℕ) (before : Option (List ℕ)) (cost : ℕ) (key rest : List ℕ)
    (x y : Result ((List ℕ × ℕ) × List ℕ) CertFault) → Judged cells kind number before cost key rest x
    → Judged cells kind number before cost key rest y → x ≡ y
judged_once cells kind number before cost key rest x y =
    decided_once (IsKeyFor cells key) (Err (BadRecord number)) (Placed kind number before cost key rest) x y
    (decided_once (IsAfter before key) (Err (Order number)) (Priced kind number cost key rest) x y
    (decided_once (MayCost kind cost) (Err (Label number)) (λ z. z ≡ Ok ((key, cost), rest)) x y (λ p q. p ∙ sym q)))

-- a key at the front is the extent there
pub key_has_extent : (cells : ℕ) (key rest : List ℕ) → IsKeyFor cells key → HasExtent (key ++ rest) (length key)
key_has_extent cells key rest k =
    (key_extents (key ++ rest) (board_of_bytes key) (length key) (length key) (record {
      position = k.position;
      ordered = k.ordered;
      rest = rest;
      parts = ap (λ l. l ++ rest) k.bytes;
      size = ap length k.bytes;
    })).1 refl

pub cost_small : (kind : Kind) (cost : ℕ) → MayCost kind cost → cost < 2 ^ 32
cost_small Shortest cost may = may
cost_small CannotWin cost may = omega (arith, may)
cost_small Between cost may = may

-- a cost, and a key behind it, are a record
pub key_taken : (cells : ℕ) (bytes from_key key rest : List ℕ) (cost : ℕ) → bytes ≡ four_bytes cost ++ from_key → cost < 2 ^ 32
    → from_key ≡ key ++ rest → IsKeyFor cells key
    → (has : HasRecord bytes cost key) × (has.rest ≡ rest) × IsKeyFor cells key
key_taken cells bytes from_key key rest cost e small split is = (
  record {
    rest = rest;
    small = small;
    extent = key_has_extent cells key rest is;
    parts = e ∙ ap (λ l. four_bytes cost ++ l) split ∙ sym (append_assoc (four_bytes cost) key rest);
  },
  refl,
  is,
)

-- a row that was read is a record that is all there
pub row_there : (cells : ℕ) (kind : Kind) (bytes rest key : List ℕ) (cost : ℕ) → bytes ≡ record_bytes (key, cost) ++ rest
    → IsRecord cells kind (key, cost) → HasRecord bytes cost key
row_there cells kind bytes rest key cost e r = record {
  rest = rest;
  small = cost_small kind cost r.cost;
  extent = key_has_extent cells key rest r.key;
  parts = e;
}

-- a record isn't all there, or it is and is judged
abbrev IsEnd : ℕ → Kind → ℕ → Option (List ℕ) → List ℕ → Result ((List ℕ × ℕ) × List ℕ) CertFault → Type 0
IsEnd cells kind number before bytes x =
    (((cost : ℕ) (key : List ℕ) → HasRecord bytes cost key → ⊥) × (x ≡ Err Short))
    ⊎ ((cost : ℕ) × (key : List ℕ) × (has : HasRecord bytes cost key) × Judged cells kind number before cost key has.rest x)

end_of : (cells : ℕ) (kind : Kind) (number : ℕ) (before : Option (List ℕ)) (bytes : List ℕ)
    (x : Result ((List ℕ × ℕ) × List ℕ) CertFault) → ReadsRecord cells kind number before bytes x
    → IsEnd cells kind number before bytes x
unfolding row_there
end_of cells kind number before bytes (Ok ((key, cost), rest)) (e, r, after) =
    inr (cost, key, row_there cells kind bytes rest key cost e r, inr (r.key, inr (after, inr (r.cost, refl))))
end_of cells kind number before bytes (Err Short) none = inl (none, refl)
end_of cells kind number before bytes (Err (BadRecord i)) (same, (cost, key, has, wrong)) =
    inr (cost, key, has, inl (wrong, ap (λ n. Err (BadRecord n)) same))
end_of cells kind number before bytes (Err (Order i)) (same, (cost, key, has, right, wrong)) =
    inr (cost, key, has, inr (right, inl (wrong, ap (λ n. Err (Order n)) same)))
end_of cells kind number before bytes (Err (Label i)) (same, (cost, key, has, right, after, wrong)) =
    inr (cost, key, has, inr (right, inr (after, inl (wrong, ap (λ n. Err (Label n)) same))))
end_of cells kind number before bytes (Err other) h = absurd h

-- what is all there is one cost and one key
pub record_once : (bytes : List ℕ) (cost price : ℕ) (key other : List ℕ) (x : HasRecord bytes cost key) (y : HasRecord bytes price other)
    → (cost ≡ price) × (key ≡ other) × (x.rest ≡ y.rest)
record_once bytes cost price key other x y =
    let fronts = same_fronts (four_bytes cost) (four_bytes price) (key ++ x.rest) (other ++ y.rest) refl
    (sym (append_assoc (four_bytes cost) key x.rest) ∙ sym x.parts ∙ y.parts ∙ append_assoc (four_bytes price) other y.rest) in
    let long = extent_once (key ++ x.rest) (length key) (length other) x.extent
    (subst (λ l. HasExtent l (length other)) (sym fronts.1) y.extent) in
    let keys = same_fronts key other x.rest y.rest long fronts.1 in
    (four_once cost price x.small y.small fronts.0, keys.0, keys.1)

ends_once : (cells : ℕ) (kind : Kind) (number : ℕ) (before : Option (List ℕ)) (bytes : List ℕ)
    (x y : Result ((List ℕ × ℕ) × List ℕ) CertFault) → IsEnd cells kind number before bytes x
    → IsEnd cells kind number before bytes y → x ≡ y
ends_once cells kind number before bytes x y (inl p) (inl q) = p.1 ∙ sym q.1
ends_once cells kind number before bytes x y (inl p) (inr (cost, key, has, judged)) = absurd (p.0 cost key has)
ends_once cells kind number before bytes x y (inr (cost, key, has, judged)) (inl q) = absurd (q.0 cost key has)
ends_once cells kind number before bytes x y (inr (cost, key, has, judged)) (inr (price, other, had, decided)) =
    let same = record_once bytes cost price key other has had in
    judged_once cells kind number before cost key has.rest x y judged
    (subst (λ n. Judged cells kind number before n key has.rest y) (sym same.0)
    (subst (λ k. Judged cells kind number before price k has.rest y) (sym same.1)
    (subst (λ r. Judged cells kind number before price other r y) (sym same.2) decided)))

records_once : (cells : ℕ) (kind : Kind) (n k : ℕ) (before : Option (List ℕ)) (bytes : List ℕ)
    (a b : Result (List (List ℕ × ℕ) × List ℕ) CertFault) → ReadsRecords (ReadsRecord cells kind) n k before bytes a
    → ReadsRecords (ReadsRecord cells kind) n k before bytes b → a ≡ b
records_once cells kind zero k before bytes a b p q = p ∙ sym q
records_once cells kind (suc n) k before bytes a b p q =
    step_once _ _ a b
    (λ x y r s. ends_once cells kind k before bytes x y (end_of cells kind k before bytes x r) (end_of cells kind k before bytes y s))
    (λ row rest r s. step_once _ _ a b (records_once cells kind n (k + 1) (Some row.0) rest) (λ rows rest r s. r ∙ sym s) r s) p q

table_once : (cells : ℕ) (kind : Kind) (bytes : List ℕ) (a b : Result (List (List ℕ × ℕ) × List ℕ) CertFault)
    → ReadsTable cells kind bytes a → ReadsTable cells kind bytes b → a ≡ b
table_once cells kind bytes a b p q =
    step_once _ _ a b (field_once 4 SaysNumber Short bytes number_once)
    (λ n rest. records_once cells kind n 0 None rest a b) p q

end_once : (c : Content) (rest : List ℕ) (a b : Result Content CertFault) → ReadsEnd c rest a → ReadsEnd c rest b → a ≡ b
end_once c [] a b p q = p ∙ sym q
end_once c (byte ∷ rest) a b p q = p ∙ sym q

pub reading_once : ReadingComesToOneEnd
reading_once bytes a b p q =
    step_once _ _ a b (head_once bytes)
    (λ head rest r s. step_once _ _ a b (list_once head.kind head.floor rest)
    (λ moves rest r s. step_once _ _ a b (table_once head.cells head.kind rest)
    (λ rows rest. end_once (record { head = head; moves = moves; rows = rows }) rest a b) r s) r s) p q
