-- What the lists of free cells and spare columns hold, and what may be carried over them.
use Rattle.std.proofs.Common.{◌≡◌, ◌≢◌, ℕ, ◌+◌, ◌-◌, ◌*◌, ◌^◌, ◌≤◌, ◌<◌, ◌↔◌, Bool, true, false, Option, Some, None, List, [], ◌∷◌, ◌++◌, cond, length, get_or, take, drop, filter, refl, sym, ◌∙◌, ap, subst, inr, ⊎_elim, arith}
use Rattle.std.specs.Prelude.{All, AllPairs, IsTrue, is_none, not, ◌==◌, ◌&&◌, slice_index}
use Rattle.std.specs.List.{range_with_len}
use Rattle.std.proofs.lemmas.List.{length-drop, get_or-drop, take_rest, map-id, append-nil, get_or_default, nil_from_length}
use Rattle.std.proofs.lemmas.List.Elements.{All-filter, filter_passes}
use Rattle.std.proofs.lemmas.List.Kept.{AllPairs-filter}
use Rattle.std.proofs.lemmas.List.FromFn.{get_or-range_with_len, length-range_with_len, filter_of_map_range_with_len_more}
use Rattle.std.proofs.lemmas.List.Filters.{length-filter_both}
use Rattle.std.proofs.lemmas.Bool.Decides.{nat_tests}
use Rattle.fc_position.specs.Board.{Board, column, cell}
use Rattle.fc_moves.specs.GameRules.{GameRules, IsGame, IsPositionOf, Opens}
use Rattle.fc_moves.specs.Step.{MayLand}
use Rattle.fc_sequences.specs.Sequence.{free_cells, is_spare, spare_columns, last_cards, IsSequence, AreEnough, MayCarry}
use Rattle.fc_sequences.specs.inner.Carry.{MayCarryOver, MayCarryBy, load_of, AreSpareColumns, AreFreeCells, MayLie, EndOpens}
use Rattle.fc_sequences.proofs.CardLemmas.{length-last, last-at, ends_in}

-- a range names each number below its end once
below_all : (n : ℕ) → All (λ a. a < n) (range_with_len 0 n)
below_all n k d within =
    let long = length-range_with_len 0 n in
    let here = get_or-range_with_len 0 n k d (omega arith) in
    omega (arith, here, long)

once_all : (n : ℕ) → AllPairs (λ x y. x ≢ y) (range_with_len 0 n)
once_all n i j d less within e =
    let long = length-range_with_len 0 n in
    omega (arith, e, get_or-range_with_len 0 n i d (omega arith), get_or-range_with_len 0 n j d (omega arith))

none_is : (o : Option ℕ) → is_none o ≡ true → o ≡ None
none_is None e = refl
none_is (Some x) e = absurd (cc e)

-- the free cells are free
pub cells_are_free : (g : GameRules) (b : Board) (cells : List ℕ) → IsGame g → cells ≡ free_cells g b → length cells ≤ 4
    → AreFreeCells g b cells
cells_are_free g b cells game e few =
    let test : ℕ → Bool = λ a. is_none (cell b a) in
    let low : All (λ a. a < g.cells) (free_cells g b) = All-filter test (λ a. a < g.cells) (range_with_len 0 g.cells) (below_all g.cells) in
    let pass : All (λ a. test a ≡ true) (free_cells g b) = filter_passes test (range_with_len 0 g.cells) in
    let free : All (λ a. (a < g.cells) × (a < 4) × (cell b a ≡ None)) (free_cells g b) = λ k d within.
    (low k d within, omega (arith, low k d within, game.cells), none_is (cell b (get_or (free_cells g b) k d)) (pass k d within)) in
    record {
      free = subst (λ (l : List ℕ). All (λ a. (a < g.cells) × (a < 4) × (cell b a ≡ None)) l) (sym e) free;
      once = subst (λ (l : List ℕ). AllPairs (λ x y. x ≢ y) l) (sym e)
          (AllPairs-filter (λ x y. x ≢ y) test (range_with_len 0 g.cells) (once_all g.cells));
      few = few;
    }

-- the test of a spare column
spare_is : (s j n : ℕ) → (not (s == j) && (n == 0)) ≡ true → (s ≢ j) × (n ≡ 0)
spare_is s j n e = (λ same. grind (arith, nat_tests), grind (arith, nat_tests))

spares_below : (n : ℕ) (b : Board) (i j : ℕ) (columns : List ℕ) → columns ≡ filter (is_spare b j) (range_with_len 0 n)
    → n ≤ 8 → 1 ≤ length (column b i) → length columns ≤ 8 → AreSpareColumns b i j columns
unfolding is_spare
spares_below n b i j columns e most some_cards few =
    let test = is_spare b j in
    let all = filter test (range_with_len 0 n) in
    let low : All (λ s. s < n) all = All-filter test (λ s. s < n) (range_with_len 0 n) (below_all n) in
    let pass : All (λ s. test s ≡ true) all = filter_passes test (range_with_len 0 n) in
    let spare : All (λ s. (s < 8) × (s ≢ i) × (s ≢ j) × (column b s ≡ [])) all = λ k d within.
    let t = spare_is (get_or all k d) j (length (column b (get_or all k d))) (pass k d within) in
    (omega (arith, low k d within), (λ same. omega (arith, t.1, ap (λ s. length (column b s)) same)), t.0, nil_from_length (column b (get_or all k d)) t.1) in
    record {
      spare = subst (λ (l : List ℕ). All (λ s. (s < 8) × (s ≢ i) × (s ≢ j) × (column b s ≡ [])) l) (sym e) spare;
      once = subst (λ (l : List ℕ). AllPairs (λ x y. x ≢ y) l) (sym e)
          (AllPairs-filter (λ x y. x ≢ y) test (range_with_len 0 n) (once_all n));
      few = few;
    }

-- a sequence that may be carried may lie there
pub may_lie : (g : GameRules) (b : Board) (i j k : ℕ) → MayCarry g b i j k → MayLie g b i j k
may_lie g b i j k may = record {
  from = may.from;
  to = may.to;
  other = may.other;
  some_cards = may.some;
  there = may.there;
  sequence = ends_in g k (column b i) may.there may.sequence;
  lands = may.lands;
}

-- the cards after the first of a sequence open columns
end_opens : (g : GameRules) (k : ℕ) (cards : List ℕ) → k ≤ length cards → All (Opens g) (drop 1 (last_cards k cards)) → EndOpens g k cards
end_opens g k cards there opens a low within =
    let long = length-last k cards there in
    let n = a - (length cards - k) in
    let long_rest : length (drop 1 (last_cards k cards)) ≡ k - 1 = length-drop 1 (last_cards k cards) ∙ omega arith in
    let here : get_or (drop 1 (last_cards k cards)) (n - 1) 0 ≡ slice_index cards a =
    get_or-drop 1 (last_cards k cards) (n - 1) 0 ∙ last-at k cards (1 + (n - 1)) a (omega arith) there in
    subst (Opens g) here (opens (n - 1) 0 (omega arith))

-- what may be carried may be carried over the free cells, where they are enough
pub may_by : (g : GameRules) (b : Board) (i j k : ℕ) (cells : List ℕ) → IsGame g → IsPositionOf g b → MayCarry g b i j k
    → cells ≡ free_cells g b → length cells ≤ 4 → k ≤ length cells + 1 → MayCarryBy g b (load_of i j k) cells
may_by g b i j k cells game fits may e few enough = record {
  lies = may_lie g b i j k may;
  free = cells_are_free g b cells game e few;
  enough = enough;
  fits = fits;
}

-- else over the spare columns too
pub may_over : (g : GameRules) (b : Board) (i j k : ℕ) (cells columns : List ℕ) → IsGame g → IsPositionOf g b → MayCarry g b i j k
    → cells ≡ free_cells g b → columns ≡ spare_columns b j → length cells ≤ 4 → length columns ≤ 8 → length cells + 1 < k
    → MayCarryOver g b (load_of i j k) cells columns
unfolding spare_columns
may_over g b i j k cells columns game fits may e f few few_columns more =
    let long = length-last k (column b i) may.there in
    let n : length cells ≡ length (free_cells g b) = ap length e in
    let m : length columns ≡ length (spare_columns b j) = ap length f in
    ⊎_elim (λ enough. absurd (omega (arith, enough))) (λ enough. record {
      lies = may_lie g b i j k may;
      opens = end_opens g k (column b i) may.there enough.0;
      free = cells_are_free g b cells game e few;
      spare = spares_below 8 b i j columns f (omega arith) (omega (arith, may.some, may.there)) few_columns;
      enough = rw (n, m) (omega (arith, long, enough.1));
      fits = fits;
    }) may.enough

-- the spare columns, once all eight are listed
pub spares_all : (b : Board) (j n : ℕ) (columns : List ℕ) → columns ≡ filter (is_spare b j) (range_with_len 0 n)
    → n ≡ 8 → columns ≡ spare_columns b j
unfolding spare_columns
spares_all b j n columns e eight =
    e ∙ ap (λ m. filter (is_spare b j) (range_with_len 0 m)) eight

-- what `may_carry` tests is what may be carried
pub may_so : (g : GameRules) (b : Board) (i j k u : ℕ) (base moved : List ℕ) → i < 8 → j < 8 → j ≢ i → 1 ≤ k → k ≤ length (column b i)
    → moved ≡ last_cards k (column b i) → base ≡ column b j → u ≡ get_or moved 0 u
    → (IsSequence g moved × MayLand g base u × AreEnough g b j moved) ↔ MayCarry g b i j k
may_so g b i j k u base moved from to other some_cards there e f first =
    let cards = column b i in
    let long = length-last k cards there in
    let at : length cards - k + 0 ≡ length cards - k = omega arith in
    let card : u ≡ slice_index cards (length cards - k) =
    first ∙ ap (λ (l : List ℕ). get_or l 0 u) e ∙ get_or-drop (length cards - k) cards 0 u
    ∙ ap (λ n. get_or cards n u) at ∙ get_or_default cards (length cards - k) u 0 (omega arith) in (
      λ (seq, lands, enough). record {
        from = from;
        to = to;
        other = other;
        some = some_cards;
        there = there;
        sequence = subst (IsSequence g) e seq;
        lands = subst (MayLand g (column b j)) card (subst (λ (l : List ℕ). MayLand g l u) f lands);
        enough = subst (AreEnough g b j) e enough;
      },
      λ may. (
        subst (IsSequence g) (sym e) may.sequence,
        subst (λ (l : List ℕ). MayLand g l u) (sym f) (subst (MayLand g (column b j)) (sym card) may.lands),
        subst (AreEnough g b j) (sym e) may.enough,
      ),
    )

-- the last cards of a column, as the code cuts them off
pub cut_is : (k : ℕ) (cards column : List ℕ) → cards ≡ column
    → take (length cards - (length cards - k)) (drop (length cards - k) cards) ≡ last_cards k column
cut_is k cards column e = take_rest cards (length cards - k) ∙ ap (last_cards k) e

-- past the cells alone, the columns are enough where the later cards open columns
pub enough_so : (g : GameRules) (b : Board) (j n m : ℕ) (cards : List ℕ) (t : Bool) → n ≡ length (free_cells g b)
    → m ≡ length (spare_columns b j) → n + 1 < length cards → length cards ≤ (n + 1) * 2 ^ m → (IsTrue t ↔ All (Opens g) (take (length cards - 1) (drop 1 cards)))
    → IsTrue t ↔ AreEnough g b j cards
enough_so g b j n m cards t cells columns more few opens =
    let later = take_rest cards 1 in (
      λ yes. inr (subst (All (Opens g)) later (opens.0 yes), rw (sym cells, sym columns) few),
      λ enough. ⊎_elim (λ le. absurd (omega (arith, le, cells))) (λ all. opens.1 (subst (All (Opens g)) (sym later) all.0)) enough,
    )

filter_next : (test : ℕ → Bool) (n : ℕ) → filter test (range_with_len 0 (n + 1)) ≡ filter test (range_with_len 0 n) ++ cond (test n) (n ∷ []) []
filter_next test n =
    ap (filter test) (sym (map-id (range_with_len 0 (n + 1)))) ∙ filter_of_map_range_with_len_more test (λ x. x) 0 n n (omega arith)
    ∙ ap (λ l. filter test l ++ cond (test n) (n ∷ []) []) (map-id (range_with_len 0 n))

-- a list of the numbers that pass a test goes on with the next one that does
pub filter_adds : (test : ℕ → Bool) (n : ℕ) (xs ys : List ℕ) → test n ≡ true → xs ≡ filter test (range_with_len 0 n) → ys ≡ xs ++ n ∷ []
    → ys ≡ filter test (range_with_len 0 (n + 1))
filter_adds test n xs ys passes so_far added =
    added ∙ ap (λ l. l ++ n ∷ []) so_far ∙ ap (λ t. filter test (range_with_len 0 n) ++ cond t (n ∷ []) []) (sym passes)
    ∙ sym (filter_next test n)

pub filter_skips : (test : ℕ → Bool) (n : ℕ) (xs : List ℕ) → test n ≡ false → xs ≡ filter test (range_with_len 0 n)
    → xs ≡ filter test (range_with_len 0 (n + 1))
filter_skips test n xs fails so_far =
    so_far ∙ sym (append-nil (filter test (range_with_len 0 n)))
    ∙ ap (λ t. filter test (range_with_len 0 n) ++ cond t (n ∷ []) []) (sym fails) ∙ sym (filter_next test n)

-- of the numbers below n no more than n pass
pub filter_few : (test : ℕ → Bool) (n : ℕ) → length (filter test (range_with_len 0 n)) ≤ n
filter_few test n =
    let both = length-filter_both test (λ x. not (test x)) (λ x. refl) (range_with_len 0 n) in
    omega (arith, both, length-range_with_len 0 n)
