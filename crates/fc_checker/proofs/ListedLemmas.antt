-- The class of a position is listed exactly where its key is found, at the cost that is found.
use Rattle.std.proofs.Common.{◌≡◌, ℕ, zero, suc, ◌≤◌, ◌↔◌, Option, Some, None, List, [], ◌∷◌, get_or, IsTrue, refl, sym, ◌∙◌, ap, subst, ⊎_elim, nat_le, arith}
use Rattle.std.specs.Prelude.{Contains, MatchOption}
use Rattle.std.proofs.lemmas.Bool.{cases_lt}
use Rattle.std.proofs.lemmas.Bool.Decides.{nat_tests}
use Rattle.std.proofs.lemmas.List.Elements.{All-contains, Contains-append_right}
use Rattle.std.proofs.lemmas.Option.{get_or_from_slice_get, slice_get-get_or}
use Rattle.fc_position.specs.Board.{Board}
use Rattle.fc_position.specs.Position.{IsPosition}
use Rattle.fc_moves.specs.Class.{SameClass}
use Rattle.fc_canonical.specs.Key.{IsKeyOf}
use Rattle.fc_canonical.specs.Spelled.{IsKeyFor, board_of_bytes}
use Rattle.fc_moves.proofs.ClassLemmas.{class-refl}
use Rattle.fc_canonical.proofs.KeyLemmas.{keys_tell}
use Rattle.fc_tables.specs.Table.{Lists, as_boards}
use Rattle.fc_answers.proofs.RisingLemmas.{keys_once}
use Rattle.fc_cert.specs.Content.{Content, IsContent, IsRecord}
use Rattle.fc_checker.specs.inner.Steps.{IsListedCost}

-- a row of a table lists its board, and a listed board is of a row
pub board_listed : (table : List (List ℕ × ℕ)) (row : List ℕ × ℕ) → Contains table row → Contains (as_boards table) (board_of_bytes row.0, row.1)
board_listed [] row (k, lt, e) = absurd (omega (arith, lt))
board_listed (f ∷ table) row (zero, lt, e) = (0, omega arith, ap (λ h. (board_of_bytes h.0, h.1)) e)
board_listed (f ∷ table) row (suc k, lt, e) =
    Contains-append_right ((board_of_bytes f.0, f.1) ∷ []) (as_boards table) (board_of_bytes row.0, row.1)
    (board_listed table row (k, omega (arith, lt), e))

pub row_listed : (table : List (List ℕ × ℕ)) (e : Board × ℕ) → Contains (as_boards table) e
    → (row : List ℕ × ℕ) × Contains table row × (e ≡ (board_of_bytes row.0, row.1))
row_listed [] e (k, lt, same) = absurd (omega (arith, lt))
row_listed (f ∷ table) e (zero, lt, same) = (f, (0, omega arith, refl), sym same)
row_listed (f ∷ table) e (suc k, lt, same) =
    let rest = row_listed table e (k, omega (arith, lt), same) in
    (rest.0, Contains-append_right (f ∷ []) table rest.0 rest.1, rest.2)

-- each row of a content has a key of its number of cells
pub row_key : (c : Content) (row : List ℕ × ℕ) → IsContent c → Contains c.rows row → IsKeyFor c.head.cells row.0
row_key c row is there = (All-contains (IsRecord c.head.cells c.head.kind) c.rows row is.rows there).key

-- which is the key of the board that it spells
own_key : (cells : ℕ) (key : List ℕ) → IsKeyFor cells key → IsKeyOf (board_of_bytes key) key
own_key cells key k = record { canonical = board_of_bytes key; class = class-refl (board_of_bytes key); ordered = k.ordered; bytes = k.bytes }

-- no key stands in two rows
cost_once : (c : Content) (key : List ℕ) (d e : ℕ) → IsContent c → Contains c.rows (key, d) → Contains c.rows (key, e) → d ≡ e
cost_once c key d e is (i, first, one) (j, second, other) =
    let at_i = get_or_from_slice_get c.rows i (key, d) (key, d) (slice_get-get_or c.rows i (key, d) first ∙ ap Some one) in
    let at_j = get_or_from_slice_get c.rows j (key, e) (key, d) (slice_get-get_or c.rows j (key, e) second ∙ ap Some other) in
    let keys : (get_or c.rows i (key, d)).0 ≡ (get_or c.rows j (key, d)).0 = ap (λ p. p.0) at_i ∙ sym (ap (λ p. p.0) at_j) in
    ⊎_elim (λ below. absurd (keys_once c.rows is.rising i j (key, d) below second keys))
    (λ le. ⊎_elim (λ above. absurd (keys_once c.rows is.rising j i (key, d) above first (sym keys)))
    (λ ge. let same : i ≡ j = omega (arith, le, ge) in
    sym (ap (λ p. p.1) at_i) ∙ ap (λ k. (get_or c.rows k (key, d)).1) same ∙ ap (λ p. p.1) at_j)
    (cases_lt j i)) (cases_lt i j)

module _ (c : Content) (is : IsContent c) (x : Board) (position : IsPosition x) (key : List ℕ) (of : IsKeyOf x key) where
  -- where the class is listed, the key is, at the same cost
  class_row : (e : Board × ℕ) → Contains (as_boards c.rows) e → SameClass x e.0 → Contains c.rows (key, e.1)
  class_row e there same =
      let r = row_listed c.rows e there in
      let valid = row_key c r.0 is r.1 in
      let tell = keys_tell x (board_of_bytes r.0.0) key r.0.0 position valid.position of (own_key c.head.cells r.0.0 valid) in
      let one = tell.1 (subst (SameClass x) (ap (λ p. p.0) r.2) same) in
      subst (λ k. Contains c.rows (k, e.1)) (sym one) (subst (λ d. Contains c.rows (r.0.0, d)) (sym (ap (λ p. p.1) r.2)) r.1)

  -- and where the key is, the class is
  row_class : (cost : ℕ) → Contains c.rows (key, cost) → Contains (as_boards c.rows) (board_of_bytes key, cost) × SameClass x (board_of_bytes key)
  row_class cost there =
      let valid = row_key c (key, cost) is there in (
        board_listed c.rows (key, cost) there,
        (keys_tell x (board_of_bytes key) key key position valid.position of (own_key c.head.cells key valid)).0 refl,
      )

  -- so the key is found exactly where the class is listed
  pub found : (o : Option ℕ) → MatchOption o ((cost : ℕ) → Contains c.rows (key, cost) → ⊥) (λ cost. Contains c.rows (key, cost))
      → IsListedCost (as_boards c.rows) x o
  found None none = λ (e, there, same). none e.1 (class_row e there same)
  found (Some cost) there =
      let l = row_class cost there in (
        ((board_of_bytes key, cost), l.0, l.1),
        λ d. (
          λ (e, at, same, le). let one = cost_once c key cost e.1 is there (class_row e at same) in omega (arith, one, le),
          λ le. ((board_of_bytes key, cost), l.0, l.1, le),
        ),
      )

-- a position is listed at no more than so many moves exactly where the cost at which it is listed is no more
pub listed_by : (rows : List (List ℕ × ℕ)) (x : Board) (moves cost other : ℕ) → ((d : ℕ) → Lists (as_boards rows) x d ↔ cost ≤ d)
    → other ≡ cost → IsTrue (nat_le other moves) ↔ Lists (as_boards rows) x moves
listed_by rows x moves cost other lists same = (
  λ true. (lists moves).1 (let le = tested other moves true in omega (arith, le, same)),
  λ listed. let le = (lists moves).0 listed in tested_back other moves (omega (arith, le, same)),
)
  where
    tested : (a b : ℕ) → IsTrue (nat_le a b) → a ≤ b
    tested a b true = grind (arith, nat_tests)

    tested_back : (a b : ℕ) → a ≤ b → IsTrue (nat_le a b)
    tested_back a b le = grind (arith, nat_tests)
