-- What may be carried after some of the cards have been.
use Rattle.std.proofs.Common.{◌≡◌, ◌≢◌, ℕ, suc, ◌+◌, ◌-◌, ◌≤◌, ◌<◌, None, List, [], ◌∷◌, ◌++◌, length, get_or, sym, ◌∙◌, ap, subst, inl, arith}
use Rattle.std.specs.Prelude.{All, AllPairs, slice_index}
use Rattle.fc_position.specs.Board.{Board, column}
use Rattle.fc_moves.specs.GameRules.{GameRules}
use Rattle.fc_moves.specs.Step.{MayLand}
use Rattle.fc_sequences.specs.Sequence.{last_cards, cards_before}
use Rattle.fc_sequences.specs.inner.Carry.{AreSpareColumns, AreFreeCells, MayLie, EndOpens, EndsInSequence}
use Rattle.fc_sequences.proofs.CardLemmas.{length-before, length-last, first_before, first_last, sequence_before, sequence_last, lands_after}

-- the last h of a longer sequence may lie on an empty column
pub lies_aside : (g : GameRules) (b : Board) (i j s h r : ℕ) → MayLie g b i j (h + r) → EndOpens g (h + r) (column b i) → 1 ≤ h → 1 ≤ r
    → s < 8 → s ≢ i → column b s ≡ [] → MayLie g b i s h
lies_aside g b i j s h r may opens some_cards more inside other empty = record {
  from = may.from;
  to = inside;
  other = other;
  some_cards = some_cards;
  there = omega (arith, may.there);
  sequence = λ a low within. may.sequence a (omega arith) within;
  lands = inl (empty, opens (length (column b i) - h) (omega (arith, may.there)) (omega (arith, may.there)));
}

-- once the last h have been taken away, the r before them may lie where all might
pub lies_rest : (g : GameRules) (b c : Board) (i j h r : ℕ) → MayLie g b i j (h + r) → 1 ≤ r
    → column c i ≡ cards_before h (column b i) → column c j ≡ column b j → MayLie g c i j r
lies_rest g b c i j h r may more left base =
    let cards = column b i in
    let there = may.there in
    let lands : MayLand g (column b j) (slice_index (cards_before h cards) (length (cards_before h cards) - r)) =
    subst (λ u. MayLand g (column b j) u) (sym (first_before h r cards more there)) may.lands in
    let on : MayLand g (column b j) (slice_index (column c i) (length (column c i) - r)) =
    subst (λ (l : List ℕ). MayLand g (column b j) (slice_index l (length l - r))) (sym left) lands in
    record {
      from = may.from;
      to = may.to;
      other = may.other;
      some_cards = more;
      there = omega (arith, ap length left, length-before h cards);
      sequence = subst (EndsInSequence g r) (sym left) (sequence_before g h r cards may.sequence);
      lands = subst (λ (l : List ℕ). MayLand g l (slice_index (column c i) (length (column c i) - r))) (sym base) on;
    }

-- and then the last h may lie on these
pub lies_back : (g : GameRules) (b d : Board) (i j s h r : ℕ) (base : List ℕ) → MayLie g b i j (h + r) → 1 ≤ h → 1 ≤ r → s < 8 → s ≢ j
    → column d s ≡ last_cards h (column b i) → column d j ≡ base ++ last_cards r (cards_before h (column b i)) → MayLie g d s j h
lies_back g b d i j s h r base may some_cards more inside other aside target =
    let cards = column b i in
    let there : h ≤ length cards = omega (arith, may.there) in
    let lands : MayLand g (base ++ last_cards r (cards_before h cards)) (slice_index (last_cards h cards) (length (last_cards h cards) - h)) =
    subst (λ u. MayLand g (base ++ last_cards r (cards_before h cards)) u) (sym (first_last h cards there))
    (lands_after g h r cards base some_cards more may.there may.sequence) in
    let on : MayLand g (base ++ last_cards r (cards_before h cards)) (slice_index (column d s) (length (column d s) - h)) =
    subst (λ (l : List ℕ). MayLand g (base ++ last_cards r (cards_before h cards)) (slice_index l (length l - h))) (sym aside) lands in
    record {
      from = inside;
      to = may.to;
      other = λ e. other (sym e);
      some_cards = some_cards;
      there = omega (arith, ap length aside, length-last h cards there);
      sequence = subst (EndsInSequence g h) (sym aside) (sequence_last g h cards there (λ a low within. may.sequence a (omega arith) within));
      lands = subst (λ (l : List ℕ). MayLand g l (slice_index (column d s) (length (column d s) - h))) (sym target) on;
    }

-- the cells of a board with the same cells are as free
pub free_same : (g : GameRules) (b c : Board) (cells : List ℕ) → c.cells ≡ b.cells → AreFreeCells g b cells → AreFreeCells g c cells
free_same g b c cells same free = record {
  free = subst (λ l. All (λ a. (a < g.cells) × (a < 4) × (get_or l a None ≡ None)) cells) (sym same) free.free;
  once = free.once;
  few = free.few;
}

-- an element of a list without repeats is none of the later ones
pub once_head : (x : ℕ) (xs : List ℕ) → AllPairs (λ u v. u ≢ v) (x ∷ xs) → All (λ v. v ≢ x) xs
once_head x xs once k d within e = once 0 (suc k) d (omega arith) (omega arith) (sym e)

pub once_tail : (x : ℕ) (xs : List ℕ) → AllPairs (λ u v. u ≢ v) (x ∷ xs) → AllPairs (λ u v. u ≢ v) xs
once_tail x xs once k l d before within = once (suc k) (suc l) d (omega arith) (omega arith)

-- of spare columns, those after the first are spare and none of them is the first
abbrev pub Others : Board → ℕ → ℕ → ℕ → List ℕ → Type 0
Others b i j s others = All (λ x. (x < 8) × (x ≢ i) × (x ≢ j) × (x ≢ s) × (column b x ≡ [])) others

pub others_spare : (b : Board) (i j s : ℕ) (others : List ℕ) → AreSpareColumns b i j (s ∷ others) → Others b i j s others
others_spare b i j s others spare k d within =
    let f = spare.spare (suc k) d (omega arith) in
    (f.0, f.1, f.2, once_head s others spare.once k d within, f.3)

-- so they are spare on any board where they stayed empty
pub spare_still : (b c : Board) (i j s p q : ℕ) (others : List ℕ) → AreSpareColumns b i j (s ∷ others)
    → ((x : ℕ) → x ≢ i → x ≢ j → x ≢ s → (x ≢ p) × (x ≢ q) × (column c x ≡ column b x)) → AreSpareColumns c p q others
spare_still b c i j s p q others spare still = record {
  spare = λ k d within.
      let f = others_spare b i j s others spare k d within in
      let t = still (get_or others k d) f.1 f.2 f.3 in
      (f.0, t.0, t.1, t.2 ∙ f.4);
  once = once_tail s others spare.once;
  few = omega (arith, spare.few);
}
