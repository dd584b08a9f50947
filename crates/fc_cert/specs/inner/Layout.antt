-- Where the parts of a certificate stand in its bytes, within the crate.
use Rattle.std.specs.Prelude.{◌≡◌, ℕ, zero, suc, slice_index_or, ◌+◌, List, [], ◌∷◌, length, All}
use Rattle.std.specs.List.{flat_map}
use Rattle.fc_moves.specs.MoveText.{move_text}
use Rattle.fc_cert.specs.declared.contents.Head.{Head}
use Rattle.fc_cert.specs.declared.contents.Kind.{Kind}
use Rattle.fc_cert.specs.Content.{Content, IsContent, IsRecord, record_bytes}

-- where records that stand one after the other end, the first of which begins here
abbrev pub ends_from : ℕ → List (List ℕ × ℕ) → List ℕ
ends_from here [] = []
ends_from here (row ∷ rows) = (here + length (record_bytes row)) ∷ ends_from (here + length (record_bytes row)) rows

-- where the record with this number begins: the first one here, each other where the one before it ends
abbrev pub start_of : ℕ → List ℕ → ℕ → ℕ
start_of from ends zero = from
start_of from ends (suc i) = slice_index_or ends i 0

-- the parts that are kept of bytes with this content: its head, the texts of its moves, its records, and how many there are
pub record HasParts (c : Content) (h : Head) (t r : List ℕ) (n : ℕ) : Type 0 where
  pub head : h ≡ c.head
  pub texts : t ≡ flat_map move_text c.moves
  pub records : r ≡ flat_map record_bytes c.rows
  pub count : n ≡ length c.rows

-- the bytes are so many records, one after the other, of a game with so many cells
pub record AreRecords (cells : ℕ) (kind : Kind) (r : List ℕ) (n : ℕ) (list : List (List ℕ × ℕ)) : Type 0 where
  pub bytes : r ≡ flat_map record_bytes list
  pub count : n ≡ length list
  pub rows : All (IsRecord cells kind) list

-- the parts are those of a content, and the places where its records end
pub record AreParts (c : Content) (t r e : List ℕ) : Type 0 where
  pub content : IsContent c
  pub texts : t ≡ flat_map move_text c.moves
  pub records : r ≡ flat_map record_bytes c.rows
  pub ends : e ≡ ends_from 0 c.rows
