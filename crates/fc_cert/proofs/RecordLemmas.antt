-- Records one after the other: where each ends, and what follows it.
use Rattle.std.proofs.Common.{◌≡◌, ℕ, ◌+◌, ◌-◌, ◌<◌, ◌≤◌, List, [], ◌∷◌, ◌++◌, length, drop, refl, sym, ◌∙◌, ap, append_assoc, arith}
use Rattle.std.specs.List.{flat_map}
use Rattle.std.proofs.lemmas.List.{length-append, drop_at}
use Rattle.std.proofs.lemmas.List.Elements.{All-head, All-tail}
use Rattle.fc_canonical.specs.Key.{BeginsWithKey}
use Rattle.fc_canonical.specs.Spelled.{board_of_bytes}
use Rattle.fc_cert.specs.declared.contents.Kind.{Kind}
use Rattle.fc_cert.specs.Content.{IsRecord, four_bytes, record_bytes}
use Rattle.fc_cert.specs.inner.Layout.{AreRecords, ends_from}

module _ (cells : ℕ) (kind : Kind) (bytes : List ℕ) (row : List ℕ × ℕ) (rest : List ℕ) (is : IsRecord cells kind row)
    (e : bytes ≡ record_bytes row ++ rest) where
  -- behind the cost of a record at the front stands its key
  pub behind_cost : drop 4 bytes ≡ row.0 ++ rest
  behind_cost = ap (drop 4) (e ∙ append_assoc (four_bytes row.1) row.0 rest) ∙ drop_at (four_bytes row.1) (row.0 ++ rest) 4 refl

  pub begins : (from_key : List ℕ) → from_key ≡ drop 4 bytes → BeginsWithKey from_key (board_of_bytes row.0) (length row.0)
  begins from_key behind = record {
    position = is.key.position;
    ordered = is.key.ordered;
    rest = rest;
    parts = behind ∙ behind_cost ∙ ap (λ l. l ++ rest) is.key.bytes;
    size = ap length is.key.bytes;
  }

  -- and behind its key what follows it
  pub long_enough : (from_key : List ℕ) → from_key ≡ drop 4 bytes → length row.0 ≤ length from_key
  long_enough from_key behind = omega (arith, ap length (behind ∙ behind_cost), length-append row.0 rest)

  pub behind_key : (from_key : List ℕ) (n : ℕ) → from_key ≡ drop 4 bytes → n ≡ length row.0 → drop n from_key ≡ rest
  behind_key from_key n behind long = ap (drop n) (behind ∙ behind_cost) ∙ drop_at row.0 rest n (sym long)

-- the first of the records that are left, and the others
pub record First (cells : ℕ) (kind : Kind) (bytes : List ℕ) (n : ℕ) (left : List (List ℕ × ℕ)) : Type 0 where
  pub row : List ℕ × ℕ
  pub others : List (List ℕ × ℕ)
  pub left_are : left ≡ row ∷ others
  pub is : IsRecord cells kind row
  pub parts : bytes ≡ record_bytes row ++ flat_map record_bytes others
  pub rest : AreRecords cells kind (flat_map record_bytes others) n others

pub first_left : (cells : ℕ) (kind : Kind) (bytes : List ℕ) (count counter : ℕ) (left : List (List ℕ × ℕ)) → counter < count
    → AreRecords cells kind bytes (count - counter) left → First cells kind bytes (count - (counter + 1)) left
first_left cells kind bytes count counter [] lt are = absurd (let none = are.count in omega (arith, lt, none))
first_left cells kind bytes count counter (row ∷ others) lt are = record {
  row = row;
  others = others;
  left_are = refl;
  is = All-head (IsRecord cells kind) row others are.rows;
  parts = are.bytes;
  rest = record {
    bytes = refl;
    count = let many = are.count in omega (arith, lt, many);
    rows = All-tail (IsRecord cells kind) row others are.rows;
  };
}

-- where the first of them ends
pub end_of_first : (all bytes after : List ℕ) (ends : List ℕ) (row : List ℕ × ℕ) (others : List (List ℕ × ℕ))
    (left : List (List ℕ × ℕ)) (every more : List ℕ) → length bytes ≤ length all → left ≡ row ∷ others
    → bytes ≡ record_bytes row ++ after → every ≡ ends ++ ends_from (length all - length bytes) left
    → more ≡ ends ++ (length all - length after) ∷ [] → every ≡ more ++ ends_from (length all - length after) others
end_of_first all bytes after ends row others left every more le left_are parts same pushed =
    let long : length bytes ≡ length (record_bytes row) + length after = ap length parts ∙ length-append (record_bytes row) after in
    let next : length all - length bytes + length (record_bytes row) ≡ length all - length after = omega (arith, le, long) in
    same ∙ ap (λ l. ends ++ ends_from (length all - length bytes) l) left_are
    ∙ ap (λ n. ends ++ n ∷ ends_from n others) next
    ∙ sym (append_assoc ends ((length all - length after) ∷ []) (ends_from (length all - length after) others))
    ∙ ap (λ l. l ++ ends_from (length all - length after) others) (sym pushed)

pub no_longer : (all bytes after : List ℕ) (row : List ℕ × ℕ) → length bytes ≤ length all → bytes ≡ record_bytes row ++ after
    → length after ≤ length all
no_longer all bytes after row le parts =
    let long : length bytes ≡ length (record_bytes row) + length after = ap length parts ∙ length-append (record_bytes row) after in
    omega (arith, le, long)
