-- Rows of tables: those inside a number, and all at no cost.
use Rattle.std.proofs.Common.{◌≡◌, ◌≢◌, ℕ, zero, suc, ◌+◌, ◌<◌, ◌≤◌, Bool, true, List, [], ◌∷◌, ◌++◌, length, take, drop, get_or, Some, refl, sym, ◌∙◌, ap, subst, arith, nat_lt}
use Rattle.std.specs.Prelude.{Contains, slice_get}
use Rattle.std.specs.Option.{option_map}
use Rattle.std.proofs.Math.Seq.{take-append_seam}
use Rattle.std.proofs.lemmas.Option.{slice_get_read, slice_get-map}
use Rattle.std.proofs.lemmas.Bool.Decides.{nat_tests}
use Rattle.std.proofs.lemmas.List.{length-map, get_or-map}
use Rattle.std.proofs.lemmas.List.Elements.{Contains-append_right}
use Rattle.std.proofs.lemmas.List.Kept.{AllPairs-filter}
use Rattle.std.proofs.lemmas.List.Sums.{length-filter, count_by-le-length}
use Rattle.fc_moves.specs.inner.GameLaws.{Contains-filter, Contains-from_filter}
use Rattle.fc_position.specs.Board.{Board}
use Rattle.fc_canonical.specs.Spelled.{board_of_bytes}
use Rattle.fc_answers.specs.declared.table_rows.Row.{Row}
use Rattle.fc_answers.specs.Table.{HaveKeysOnce, key_by, pairs_by}
use Rattle.fc_answers.specs.inner.Table.{at_no_cost, inside}

-- the pair of the row with this number
pub pair_there : (start : Board) (rows : List Row) (i : ℕ) (row : Row) → row ≡ get_or rows i row → i < length (pairs_by start rows)
    → slice_get (pairs_by start rows) i ≡ Some (key_by start row.code, row.cost)
pair_there start rows i row here lt =
    let pair : Row → List ℕ × ℕ = λ r. (key_by start r.code, r.cost) in
    let within : i < length rows = omega (arith, lt, length-map rows pair) in
    slice_get-map pair rows i ∙ ap (option_map pair) (slice_get_read rows (length rows) i row refl within here)

-- of rows that have no key twice, those inside n have none twice
pub inside_once : (low : Board → ℕ) (n : ℕ) (table : List (List ℕ × ℕ)) → HaveKeysOnce table → HaveKeysOnce (inside low n table)
inside_once low n table once = AllPairs-filter (λ x y. x.0 ≢ y.0) (λ e. nat_lt (e.1 + low (board_of_bytes e.0)) n) table once

-- nor do all, at no cost
pub no_cost_once : (table : List (List ℕ × ℕ)) → HaveKeysOnce table → HaveKeysOnce (at_no_cost table)
no_cost_once table once i j d lt within same =
    let free : (List ℕ × ℕ) → List ℕ × ℕ = λ e. (e.0, 0) in
    let long : length (at_no_cost table) ≡ length table = length-map table free in
    let a = get_or-map free table i d d (omega (arith, lt, within, long)) in
    let b = get_or-map free table j d d (omega (arith, within, long)) in
    once i j d lt (omega (arith, within, long)) (sym (ap (λ p. p.0) a) ∙ same ∙ ap (λ p. p.0) b)

-- what is listed of a table is no more than the table
pub inside_few : (start : Board) (low : Board → ℕ) (n : ℕ) (table : List (List ℕ × ℕ)) (rows : List Row)
    → pairs_by start rows ≡ inside low n table → length rows ≤ length table
inside_few start low n table rows same =
    let test : (List ℕ × ℕ) → Bool = λ e. nat_lt (e.1 + low (board_of_bytes e.0)) n in
    let pair : Row → List ℕ × ℕ = λ r. (key_by start r.code, r.cost) in
    omega (arith, sym (length-map rows pair), ap length same, length-filter test table, count_by-le-length test table)

pub all_few : (start : Board) (table : List (List ℕ × ℕ)) (rows : List Row) → pairs_by start rows ≡ at_no_cost table
    → length rows ≤ length table
all_few start table rows same =
    let free : (List ℕ × ℕ) → List ℕ × ℕ = λ e. (e.0, 0) in
    let pair : Row → List ℕ × ℕ = λ r. (key_by start r.code, r.cost) in
    omega (arith, sym (length-map rows pair), ap length same, length-map table free)

-- a pair that is listed at no cost is listed at some cost
pub free_listed : (table : List (List ℕ × ℕ)) (e : List ℕ × ℕ) → Contains (at_no_cost table) e
    → ((cost : ℕ) × Contains table (e.0, cost)) × (e.1 ≡ 0)
free_listed [] e (k, lt, same) = absurd (omega (arith, lt))
free_listed (f ∷ table) e (zero, lt, same) =
    ((f.1, subst (λ x. Contains (f ∷ table) (x, f.1)) (ap (λ p. p.0) same) (0, omega arith, refl)), sym (ap (λ p. p.1) same))
free_listed (f ∷ table) e (suc k, lt, same) =
    let rest = free_listed table e (k, omega (arith, lt), same) in
    ((rest.0.0, Contains-append_right (f ∷ []) table (e.0, rest.0.0) rest.0.1), rest.1)

pub freely_listed : (table : List (List ℕ × ℕ)) (x : List ℕ) (cost : ℕ) → Contains table (x, cost) → Contains (at_no_cost table) (x, 0)
freely_listed [] x cost (k, lt, same) = absurd (omega (arith, lt))
freely_listed (f ∷ table) x cost (zero, lt, same) = (0, omega arith, ap (λ p. (p.0, 0)) same)
freely_listed (f ∷ table) x cost (suc k, lt, same) =
    Contains-append_right ((f.0, 0) ∷ []) (at_no_cost table) (x, 0) (freely_listed table x cost (k, omega (arith, lt), same))

-- what is inside n is listed, and its cost and bound are below n
pub inside_listed : (low : Board → ℕ) (n : ℕ) (table : List (List ℕ × ℕ)) (e : List ℕ × ℕ) → Contains (inside low n table) e
    → Contains table e × (e.1 + low (board_of_bytes e.0) < n)
inside_listed low n table e there =
    let kept = Contains-from_filter (λ f. nat_lt (f.1 + low (board_of_bytes f.0)) n) table e there in
    let test : nat_lt (e.1 + low (board_of_bytes e.0)) n ≡ true = kept.1 in
    (kept.0, grind (arith, nat_tests))

pub listed_inside : (low : Board → ℕ) (n : ℕ) (table : List (List ℕ × ℕ)) (e : List ℕ × ℕ) → Contains table e → e.1 + low (board_of_bytes e.0) < n
    → Contains (inside low n table) e
listed_inside low n table e there below =
    let test : nat_lt (e.1 + low (board_of_bytes e.0)) n ≡ true = grind (arith, nat_tests) in
    Contains-filter (λ f. nat_lt (f.1 + low (board_of_bytes f.0)) n) table e there test

-- rows that were changed as a slice, as many as there were
pub written_back : (n : ℕ) (new was : List Row) → length new ≡ length was → n ≡ length was
    → take n (new ++ drop (length new) was) ≡ new
written_back n new was same long =
    ap (λ k. take k (new ++ drop (length new) was)) (long ∙ sym same) ∙ take-append_seam new (drop (length new) was)
