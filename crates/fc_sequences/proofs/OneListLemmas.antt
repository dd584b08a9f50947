-- A list of moves is gathered to one list of entries.
use Rattle.std.proofs.Common.{◌≡◌, ◌↔◌, ℕ, ◌+◌, ◌≤◌, Option, Some, None, List, [], ◌∷◌, ◌++◌, length, take, drop, refl, sym, ◌∙◌, ap, subst, ⊎_elim, arith}
use Rattle.std.specs.Prelude.{IfSome, IsSome, IsSomeAnd}
use Rattle.std.proofs.lemmas.List.{drop_at, length-append, take_all, take-append-le}
use Rattle.fc_cards.specs.declared.places.Place.{Place}
use Rattle.fc_cards.specs.declared.places.Place.TheVariants.{Column, Cell, Home}
use Rattle.fc_position.specs.Board.{Board, column}
use Rattle.fc_position.specs.Position.{IsPosition}
use Rattle.fc_moves.specs.declared.steps.Move.{Move}
use Rattle.fc_moves.specs.GameRules.{GameRules}
use Rattle.fc_moves.proofs.StepLemmas.{run_keeps, run_once}
use Rattle.fc_sequences.specs.declared.pairs.Pair.{Pair}
use Rattle.fc_sequences.specs.Gathering.{AreOneEntry, Gathers, IsGathered, IsLongest, MayPlayAnother}
use Rattle.fc_sequences.specs.Laws.{GatheredToOneList}
use Rattle.fc_sequences.specs.Pair.{PlaysCards}
use Rattle.fc_sequences.specs.Sequence.{last_cards, MayCarry, board_after_carry}
use Rattle.fc_sequences.proofs.BoardLemmas.{carried_so}
use Rattle.fc_sequences.proofs.CardLemmas.{length-last}
use Rattle.fc_sequences.proofs.EntryLemmas.{entry_same}

-- moves begin at one place, and end at one
begins_once : (o : Option Move) (x y : Place) → IsSomeAnd o (λ m. m.from ≡ x) → IsSomeAnd o (λ m. m.from ≡ y) → x ≡ y
begins_once None x y e f = absurd e
begins_once (Some m) x y e f = sym e ∙ f

ends_once : (o : Option Move) (x y : Place) → IsSomeAnd o (λ m. m.to ≡ x) → IsSomeAnd o (λ m. m.to ≡ y) → x ≡ y
ends_once None x y e f = absurd e
ends_once (Some m) x y e f = sym e ∙ f

-- how much longer the destination has become tells how many cards were carried
more_cards : (b c : Board) (i j k : ℕ) (g : GameRules) → IsPosition b → MayCarry g b i j k → c ≡ board_after_carry b i j k
    → length (column c j) ≡ length (column b j) + k
more_cards b c i j k g position may same =
    let after = carried_so b i j k position.columns may.from may.to may.other in
    ap (λ x. length (column x j)) same ∙ ap length after.second ∙ length-append (column b j) (last_cards k (column b i))
    ∙ ap (λ x. length (column b j) + x) (length-last k (column b i) may.there)

-- to one board one number of cards is played
count_once : (g : GameRules) (b c : Board) (from to : Place) (k n : ℕ) → IsPosition b → PlaysCards g b from to k c → PlaysCards g b from to n c → k ≡ n
count_once g b c (Column i) (Column j) k n position (may, one) (again, two) =
    omega (arith, more_cards b c i j k g position may one, more_cards b c i j n g position again two)
count_once g b c (Column i) (Cell j) k n position (one, step) (two, again) = one ∙ sym two
count_once g b c (Column i) Home k n position (one, step) (two, again) = one ∙ sym two
count_once g b c (Cell i) to k n position (one, step) (two, again) = one ∙ sym two
count_once g b c Home to k n position (one, step) (two, again) = one ∙ sym two

-- and it is told or not
told_once : (a o : Option ℕ) (k : ℕ) (Another : Type 0) → (IsSome a ↔ Another) → (IsSome o ↔ Another) → IfSome a (λ n. k ≡ n)
    → IfSome o (λ n. k ≡ n) → a ≡ o
told_once None None k Another one two e f = refl
told_once None (Some y) k Another one two e f = absurd (cc (one.1 (two.0 refl)))
told_once (Some x) None k Another one two e f = absurd (cc (two.1 (one.0 refl)))
told_once (Some x) (Some y) k Another one two e f = ap (λ (n : ℕ). Some n) (sym e ∙ f)

-- a part is gathered to one entry
entry_once : (g : GameRules) (b c d : Board) (part : List Move) (p q : Pair) (k n : ℕ) → IsPosition b → IsGathered g b part p k c
    → IsGathered g b part q n d → (p ≡ q) × (c ≡ d)
entry_once g b c d part p q k n position one two =
    let from = begins_once _ p.from q.from one.from two.from in
    let to = ends_once _ p.to q.to one.to two.to in
    let same : c ≡ d = run_once g b c d part one.run two.run in
    let played : PlaysCards g b p.from p.to n c =
    subst (λ z. PlaysCards g b p.from p.to n z) (sym same)
    (subst (λ x. PlaysCards g b x p.to n d) (sym from) (subst (λ y. PlaysCards g b q.from y n d) (sym to) two.plays.1)) in
    let counted : n ≡ k = count_once g b c p.from p.to n k position played one.plays.1 in
    let told : IsSome q.count ↔ MayPlayAnother g b p.from p.to k =
    subst (λ x. IsSome q.count ↔ MayPlayAnother g b x p.to k) (sym from)
    (subst (λ y. IsSome q.count ↔ MayPlayAnother g b q.from y k) (sym to)
    (subst (λ m. IsSome q.count ↔ MayPlayAnother g b q.from q.to m) counted two.told)) in
    let count = told_once p.count q.count k (MayPlayAnother g b p.from p.to k) one.told told one.plays.0
    (subst (λ m. IfSome q.count (λ x. m ≡ x)) counted two.plays.0) in
    (entry_same p q from to count, same)

-- the longest part is one
front_is : (ms part rest : List Move) → ms ≡ part ++ rest → part ≡ take (length part) ms
front_is ms part rest parts =
    sym (ap (take (length part)) parts ∙ take-append-le (length part) part rest (omega arith) ∙ take_all (length part) part (omega arith))

part_once : (g : GameRules) (b : Board) (ms part rest front others : List Move) → IsLongest g b ms part rest → IsLongest g b ms front others
    → (part ≡ front) × (rest ≡ others)
part_once g b ms part rest front others one two =
    let low = one.longest front others two.parts two.most two.one in
    let high = two.longest part rest one.parts one.most one.one in
    let size : length part ≡ length front = omega arith in
    let same : part ≡ front = front_is ms part rest one.parts ∙ ap (λ n. take n ms) size ∙ sym (front_is ms front others two.parts) in
    let left : rest ≡ others =
    sym (drop_at part rest (length part) refl) ∙ ap (drop (length part)) (sym one.parts ∙ two.parts) ∙ drop_at front others (length part) (sym size) in
    (same, left)

-- and not empty
part_some : (g : GameRules) (b : Board) (part : List Move) → AreOneEntry g b part → 1 ≤ length part
part_some g b [] one = ⊎_elim (λ e. absurd (omega (arith, e))) (λ (i, j, k, carry). absurd carry.from) one
part_some g b (m ∷ ms) one = omega arith

none_left : (g : GameRules) (b : Board) (ms part rest : List Move) → ms ≡ [] → IsLongest g b ms part rest → ⊥
none_left g b ms part rest none longest =
    omega (arith, ap length none, ap length longest.parts, length-append part rest, part_some g b part longest.one)

pub one_list : GatheredToOneList
one_list g b c d [] [] ms fits one two = refl
one_list g b c d [] (q ∷ qs) ms fits (none, same) (k, mid, part, rest, first, parts, later) = absurd (none_left g b ms part rest none parts)
one_list g b c d (p ∷ ps) [] ms fits (k, mid, part, rest, first, parts, later) (none, same) = absurd (none_left g b ms part rest none parts)
one_list g b c d (p ∷ ps) (q ∷ qs) ms fits (k, mid, part, rest, first, parts, later) (n, other, front, others, second, halves, more) =
    let same = part_once g b ms part rest front others parts halves in
    let entry = entry_once g b mid other part p q k n fits.position first (subst (λ l. IsGathered g b l q n other) (sym same.0) second) in
    let next = one_list g mid c d ps qs rest (run_keeps g b mid part fits first.run) later
    (subst (λ l. Gathers g mid qs l d) (sym same.1) (subst (λ x. Gathers g x qs others d) (sym entry.1) more)) in
    ap (λ x. x ∷ ps) entry.0 ∙ ap (λ l. q ∷ l) next
