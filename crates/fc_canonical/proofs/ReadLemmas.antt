-- Reading a key: columns one by one from the front.
use Rattle.std.proofs.Common.{◌≡◌, ℕ, ◌+◌, ◌-◌, ◌<◌, ◌≤◌, Option, Some, None, List, [], ◌∷◌, ◌++◌, length, map, take, drop, set, get_or, refl, sym, ◌∙◌, ap, subst, append_assoc, arith}
use Rattle.std.specs.Prelude.{All, IfNone, IsSome}
use Rattle.std.specs.List.{flat_map}
use Rattle.std.proofs.lemmas.List.Elements.{All-head, All-nil, All-push, All-drop}
use Rattle.std.proofs.lemmas.List.{append-nil, drop_at, take_at, take-append-drop, length-append, length-take-le, length-drop, length-map, length-set, drop-drop, drop-set-lt, take_more_set, map-append, get_or-drop, get_or_default, get_or-append-add}
use Rattle.std.proofs.lemmas.List.Concat.{flat_map-append}
use Rattle.arrayvec.specs.ArrayVec.{ArrayVec, array_vec_len}
use Rattle.fc_position.specs.Board.{Board, places}
use Rattle.fc_position.specs.Position.{IsPosition}
use Rattle.fc_position.specs.Tally.{IsFaultOf}
use Rattle.fc_position.specs.declared.faults.PartsFault.{PartsFault}
use Rattle.fc_position.proofs.BoardLemmas.{home_most}
use Rattle.fc_position.proofs.TallyLemmas.{no_fault}
use Rattle.fc_canonical.specs.Key.{column_bytes, board_bytes, IsKeyOf, HasExtent, BeginsWithKey}
use Rattle.fc_canonical.specs.Order.{cell_byte, IsCanonical}
use Rattle.fc_canonical.specs.inner.Parts.{IsHolding}
use Rattle.fc_canonical.proofs.KeyLemmas.{columns_align, column_once, no_more, key_parts, key_front, IsSpelled, position_spelled, spelled_once, board_once, own_key, canonical_key}

-- the bytes are so many columns and the rest
pub record FrontColumns (bytes rest : List ℕ) (count : ℕ) : Type 0 where
  pub columns : List (List ℕ)
  pub many : length columns ≡ count
  pub parts : bytes ≡ flat_map column_bytes columns ++ rest

pub front_none : (bytes rest : List ℕ) → rest ≡ bytes → FrontColumns bytes rest 0
front_none bytes rest e = record { columns = []; many = refl; parts = sym e }

pub front_more : (bytes rest after cards : List ℕ) (n : ℕ) → FrontColumns bytes rest n → rest ≡ column_bytes cards ++ after
    → FrontColumns bytes after (n + 1)
front_more bytes rest after cards n f e = record {
  columns = f.columns ++ cards ∷ [];
  many = omega (arith, length-append f.columns (cards ∷ []), f.many);
  parts = f.parts ∙ ap (λ r. flat_map column_bytes f.columns ++ r) e
      ∙ sym (append_assoc (flat_map column_bytes f.columns) (column_bytes cards) after)
      ∙ ap (λ x. x ++ after)
      (ap (λ x. flat_map column_bytes f.columns ++ x) (sym (append-nil (column_bytes cards)))
      ∙ sym (flat_map-append column_bytes f.columns (cards ∷ [])));
}

at_right : (xs zs ys : List (List ℕ)) (k : ℕ) (d : List ℕ) → ys ≡ xs ++ zs → get_or ys (length xs + k) d ≡ get_or zs k d
at_right xs zs ys k d e = ap (λ l. get_or l (length xs + k) d) e ∙ get_or-append-add xs zs k d

-- where columns are left, the bytes begin with one
first_of : (columns : List (List ℕ)) (rest end : List ℕ) (P : List ℕ → Type 0) → rest ≡ flat_map column_bytes columns ++ end
    → 0 < length columns → All P columns → (cards : List ℕ) × (after : List ℕ) × (rest ≡ column_bytes cards ++ after) × P cards
first_of [] rest end P e some all = absurd (omega arith)
first_of (x ∷ xs) rest end P e some all =
    (x, flat_map column_bytes xs ++ end, e ∙ append_assoc (column_bytes x) (flat_map column_bytes xs) end, All-head P x xs all)

-- where the bytes are more columns than that, the rest begins with one of them
pub front_next : (bytes rest : List ℕ) (n : ℕ) (columns : List (List ℕ)) (end : List ℕ) (P : List ℕ → Type 0)
    → FrontColumns bytes rest n → n < length columns → bytes ≡ flat_map column_bytes columns ++ end → All P columns
    → (cards : List ℕ) × (after : List ℕ) × (rest ≡ column_bytes cards ++ after) × P cards
front_next bytes rest n columns end P f below e all =
    let a = columns_align f.columns columns rest end (sym f.parts ∙ e) (omega (arith, f.many)) in
    first_of a.0 rest end P a.2 (omega (arith, ap length a.1, length-append f.columns a.0, f.many))
    (λ k d inside. subst P (at_right f.columns a.0 columns k d a.1) (all (length f.columns + k) d
    (omega (arith, ap length a.1, length-append f.columns a.0))))

-- where the rest is no column, the bytes have no extent
pub no_extent : (bytes rest : List ℕ) (n : ℕ) → FrontColumns (drop 8 bytes) rest n → n < 8
    → ((cards after : List ℕ) → rest ≡ column_bytes cards ++ after → ⊥) → (size : ℕ) → HasExtent bytes size → ⊥
no_extent bytes rest n f below none size x =
    let at : drop 8 bytes ≡ flat_map column_bytes x.columns ++ x.rest =
    ap (drop 8) x.parts ∙ drop_at x.front (flat_map column_bytes x.columns ++ x.rest) 8 x.eight in
    let next = front_next (drop 8 bytes) rest n x.columns x.rest (λ _. Unit {0}) f (omega (arith, x.count)) at (λ k d inside. tt) in
    none next.0 next.1 next.2

-- eight columns after eight bytes are an extent
pub extent_of : (bytes rest : List ℕ) (n : ℕ) → 8 ≤ length bytes → FrontColumns (drop 8 bytes) rest n → n ≡ 8
    → HasExtent bytes (length bytes - length rest)
extent_of bytes rest n long f eight = record {
  front = take 8 bytes;
  columns = f.columns;
  rest = rest;
  eight = length-take-le 8 bytes long;
  count = f.many ∙ eight;
  parts = sym (take-append-drop 8 bytes) ∙ ap (λ r. take 8 bytes ++ r) f.parts;
  size = omega (arith, length-drop 8 bytes, ap length f.parts, length-append (flat_map column_bytes f.columns) rest);
}

-- the columns that are filled so far stand before the rest, and the others are empty
pub record FilledTo (bytes rest : List ℕ) (vs : List (ArrayVec ℕ)) (i : ℕ) : Type 0 where
  pub long : length vs ≡ 8
  pub parts : bytes ≡ flat_map column_bytes (map (λ v. v.items) (take i vs)) ++ rest
  pub empty : All (λ v. array_vec_len v ≡ 0) (drop i vs)

pub front_filled : (bytes rest : List ℕ) (vs : List (ArrayVec ℕ)) (i : ℕ) → FilledTo bytes rest vs i → i < 8
    → FrontColumns bytes rest i
front_filled bytes rest vs i f below = record {
  columns = map (λ v. v.items) (take i vs);
  many = length-map (take i vs) (λ (v : ArrayVec ℕ). v.items) ∙ length-take-le i vs (omega (arith, f.long));
  parts = f.parts;
}

-- the next column is empty, and filled with the cards that stand next
pub filled_next : (bytes rest : List ℕ) (vs : List (ArrayVec ℕ)) (i : ℕ) (d : ArrayVec ℕ) → FilledTo bytes rest vs i → i < 8
    → array_vec_len (get_or vs i d) ≡ 0
filled_next bytes rest vs i d f below =
    let here : get_or (drop i vs) 0 d ≡ get_or vs i d = get_or-drop i vs 0 d ∙ ap (λ n. get_or vs n d) (omega arith) in
    sym (ap array_vec_len here) ∙ f.empty 0 d (omega (arith, length-drop i vs, f.long))

pub filled_more : (bytes rest after cards : List ℕ) (vs : List (ArrayVec ℕ)) (i : ℕ) (d new : ArrayVec ℕ)
    → FilledTo bytes rest vs i → i < 8 → rest ≡ column_bytes cards ++ after → new.items ≡ (get_or vs i d).items ++ cards
    → FilledTo bytes after (set vs i new) (i + 1)
unfolding front_filled front_more
filled_more bytes rest after cards vs i d new f below at e =
    let none : (get_or vs i d).items ≡ [] = no_more (get_or vs i d).items (filled_next bytes rest vs i d f below) in
    let same : new.items ≡ cards = e ∙ ap (λ x. x ++ cards) none in
    let columns : map (λ v. v.items) (take (i + 1) (set vs i new)) ≡ map (λ v. v.items) (take i vs) ++ cards ∷ [] =
    ap (map (λ (v : ArrayVec ℕ). v.items)) (take_more_set vs i new (omega (arith, f.long)))
    ∙ map-append (λ (v : ArrayVec ℕ). v.items) (take i vs) (new ∷ [])
    ∙ ap (λ x. map (λ v. v.items) (take i vs) ++ x ∷ []) same in
    let left : drop (i + 1) (set vs i new) ≡ drop 1 (drop i vs) =
    drop-set-lt (i + 1) vs i new (omega arith) ∙ sym (drop-drop 1 i vs) in
    record {
      long = length-set vs i new ∙ f.long;
      parts = (front_more bytes rest after cards i (front_filled bytes rest vs i f below) at).parts
          ∙ ap (λ l. flat_map column_bytes l ++ after) (sym columns);
      empty = subst (All (λ v. array_vec_len v ≡ 0)) (sym left) (All-drop (λ v. array_vec_len v ≡ 0) 1 (drop i vs) f.empty);
    }

-- where it would be absurd that there is no value, there is one
pub surely : {X : Type 0} (r : Option X) (P : Type 0) → IfNone r P → (P → ⊥) → IsSome r
surely None P p none = absurd (none p)
surely (Some x) P p none = refl

-- where the rest is no column, the bytes are no eight columns
pub no_column : (bytes rest : List ℕ) (i : ℕ) → FrontColumns bytes rest i → i < 8
    → ((cards after : List ℕ) → rest ≡ column_bytes cards ++ after → ⊥) → (columns : List (List ℕ)) (end : List ℕ)
    → length columns ≡ 8 → All IsHolding columns → bytes ≡ flat_map column_bytes columns ++ end → ⊥
no_column bytes rest i f below none columns end eight all e =
    let next = front_next bytes rest i columns end IsHolding f (omega (arith, eight)) e all in
    none next.0 next.1 next.2

-- where the bytes are eight columns of cards, the next column is of cards
pub next_holds : (bytes rest cards after : List ℕ) (i : ℕ) → FrontColumns bytes rest i → i < 8
    → rest ≡ column_bytes cards ++ after → (columns : List (List ℕ)) (end : List ℕ) → length columns ≡ 8
    → All IsHolding columns → bytes ≡ flat_map column_bytes columns ++ end → IsHolding cards
next_holds bytes rest cards after i f below at columns end eight all e =
    let next = front_next bytes rest i columns end IsHolding f (omega (arith, eight)) e all in
    subst IsHolding (column_once next.0 cards next.1 after (sym next.2 ∙ at)).0 next.3

-- the columns before the rest are of cards
abbrev pub HoldsTo : List ℕ → List ℕ → ℕ → Type 0
HoldsTo bytes rest count = (front : FrontColumns bytes rest count) × All IsHolding front.columns

pub holds_none : (bytes : List ℕ) → HoldsTo bytes bytes 0
unfolding front_none
holds_none bytes = (front_none bytes bytes refl, All-nil IsHolding)

pub holds_more : (bytes rest after cards : List ℕ) (n : ℕ) → HoldsTo bytes rest n → rest ≡ column_bytes cards ++ after
    → IsHolding cards → HoldsTo bytes after (n + 1)
unfolding front_more
holds_more bytes rest after cards n f e held =
    (front_more bytes rest after cards n f.0 e, All-push IsHolding f.0.columns cards f.1 held)

-- counts, cells and columns that are read one after the other are a board's bytes
pub parts_join : (bytes counts cells columns r s t : List ℕ) → length counts ≡ 4 → length cells ≡ 4 → bytes ≡ counts ++ r
    → drop 4 bytes ≡ cells ++ s → drop 8 bytes ≡ columns ++ t → bytes ≡ counts ++ cells ++ columns ++ t
parts_join bytes counts cells columns r s t one two x y z =
    let first : drop 4 bytes ≡ r = ap (drop 4) x ∙ drop_at counts r 4 one in
    let second : drop 8 bytes ≡ s = sym (drop-drop 4 4 bytes) ∙ ap (drop 4) y ∙ drop_at cells s 4 two in
    x ∙ ap (λ l. counts ++ l) (sym first ∙ y ∙ ap (λ l. cells ++ l) (sym second ∙ z))
    ∙ sym (append_assoc counts cells (columns ++ t)) ∙ sym (append_assoc (counts ++ cells) columns t)

-- bytes that begin with a board's begin with its counts, and then its cells, and then its columns
pub board_counts : (bytes : List ℕ) (b : Board) (rest : List ℕ) → bytes ≡ board_bytes b ++ rest
    → bytes ≡ b.homes ++ (map cell_byte b.cells ++ (flat_map column_bytes b.columns ++ rest))
board_counts bytes b rest e =
    key_parts bytes b rest e ∙ append_assoc b.homes (map cell_byte b.cells) (flat_map column_bytes b.columns ++ rest)

pub board_cells : (bytes : List ℕ) (b : Board) (rest : List ℕ) → length b.homes ≡ 4 → bytes ≡ board_bytes b ++ rest
    → drop 4 bytes ≡ map cell_byte b.cells ++ (flat_map column_bytes b.columns ++ rest)
board_cells bytes b rest four e =
    ap (drop 4) (board_counts bytes b rest e)
    ∙ drop_at b.homes (map cell_byte b.cells ++ (flat_map column_bytes b.columns ++ rest)) 4 four

pub board_columns : (bytes : List ℕ) (b : Board) (rest : List ℕ) → IsPosition b → bytes ≡ board_bytes b ++ rest
    → drop 8 bytes ≡ flat_map column_bytes b.columns ++ rest
board_columns bytes b rest p e =
    ap (drop 8) (key_parts bytes b rest e)
    ∙ drop_at (b.homes ++ map cell_byte b.cells) (flat_map column_bytes b.columns ++ rest) 8 (key_front b p)

-- the counts of a position are at most 13
pub counts_most : (b : Board) → IsPosition b → All (λ n. n ≤ 13) b.homes
counts_most b p k d inside = rw (get_or_default b.homes k d 0 inside) (home_most b p k)

-- so a board with a fault is not spelled at the front of bytes that begin with a position
pub no_position : (bytes : List ℕ) (x : Board) (r : List ℕ) (fault : PartsFault) → IsSpelled x → bytes ≡ board_bytes x ++ r
    → IsFaultOf (places x) fault → (b : Board) (rest : List ℕ) → IsPosition b → bytes ≡ board_bytes b ++ rest → ⊥
no_position bytes x r fault spelled at bad b rest p e =
    let same = (spelled_once x b r rest spelled (position_spelled b p) (sym at ∙ e)).0 in
    no_fault (places b) fault p.once (subst (λ y. IsFaultOf (places y) fault) same bad)

-- what is read of a board in its three parts is spelled by the bytes up to the rest
pub spelled_parts : (bytes : List ℕ) (b : Board) (r s t : List ℕ) → length b.homes ≡ 4 → length b.cells ≡ 4
    → bytes ≡ b.homes ++ r → drop 4 bytes ≡ map cell_byte b.cells ++ s → drop 8 bytes ≡ flat_map column_bytes b.columns ++ t
    → (bytes ≡ board_bytes b ++ t) × (length bytes - length t ≡ length (board_bytes b))
spelled_parts bytes b r s t one two x y z =
    let at = parts_join bytes b.homes (map cell_byte b.cells) (flat_map column_bytes b.columns) r s t one
    (length-map b.cells cell_byte ∙ two) x y z in
    (at, omega (arith, ap length at, length-append (board_bytes b) t))

-- and where the bytes begin with a position, it is that one
pub spelled_position : (bytes : List ℕ) (x : Board) (r s t : List ℕ) → IsSpelled x → bytes ≡ x.homes ++ r
    → drop 4 bytes ≡ map cell_byte x.cells ++ s → drop 8 bytes ≡ flat_map column_bytes x.columns ++ t
    → (b : Board) (rest : List ℕ) → IsPosition b → bytes ≡ board_bytes b ++ rest → x ≡ b
spelled_position bytes x r s t spelled e f g b rest p at =
    let both = spelled_parts bytes x r s t spelled.homes spelled.cells e f g in
    (spelled_once x b t rest spelled (position_spelled b p) (sym both.0 ∙ at)).0

-- what read_key's test says: the position is canonical where its key is what was read, and else nothing canonical is
pub read_begins : (bytes : List ℕ) (b : Board) (n : ℕ) (front k : List ℕ) → IsPosition b
    → ((rest : List ℕ) × (bytes ≡ board_bytes b ++ rest)) → n ≡ length (board_bytes b) → front ≡ take n bytes
    → IsKeyOf b k → k ≡ front → BeginsWithKey bytes b n
read_begins bytes b n front k p (rest, at) size e key same = record {
  position = p;
  ordered = own_key b k p key (same ∙ e ∙ ap (take n) at ∙ take_at (board_bytes b) rest n (sym size));
  rest = rest;
  parts = at;
  size = size;
}

pub read_refused : (bytes : List ℕ) (b : Board) (n : ℕ) (front k : List ℕ) → IsPosition b
    → ((rest : List ℕ) × (bytes ≡ board_bytes b ++ rest)) → n ≡ length (board_bytes b) → front ≡ take n bytes
    → IsKeyOf b k → (k ≡ front → ⊥) → (c : Board) (m : ℕ) → BeginsWithKey bytes c m → ⊥
read_refused bytes b n front k p (rest, at) size e key other c m x =
    let same = (board_once b c rest x.rest p x.position (sym at ∙ x.parts)).0 in
    other (canonical_key b k p (subst IsCanonical (sym same) x.ordered) key
    ∙ sym (e ∙ ap (take n) at ∙ take_at (board_bytes b) rest n (sym size)))
