-- Fronts of a list of moves that are one entry, and the longest of them.
use Rattle.std.proofs.Common.{◌≡◌, ◌↔◌, ℕ, zero, suc, ◌+◌, ◌-◌, ◌≤◌, ◌<◌, Some, None, List, [], ◌∷◌, ◌++◌, length, get_or, take, drop, refl, sym, ◌∙◌, ap, subst, inl, inr, ⊎_elim, arith}
use Rattle.std.specs.Prelude.{IsSome, IsSomeAnd, slice_get}
use Rattle.std.proofs.lemmas.Bool.{cases_lt}
use Rattle.std.proofs.lemmas.List.{length-append, length-take-le, take_all, take_more, take-append-drop, take-append-le, take-take}
use Rattle.std.proofs.lemmas.Option.{slice_get-get_or}
use Rattle.fc_cards.specs.declared.places.Place.{Place}
use Rattle.fc_cards.specs.declared.places.Place.TheVariants.{Column}
use Rattle.fc_position.specs.Board.{Board, column}
use Rattle.fc_moves.specs.declared.steps.Move.{Move}
use Rattle.fc_moves.specs.GameRules.{GameRules, IsGame, IsPositionOf}
use Rattle.fc_moves.specs.Run.{Run}
use Rattle.fc_moves.specs.Step.{Allows, Step}
use Rattle.fc_moves.proofs.StepLemmas.{run_once}
use Rattle.fc_sequences.specs.declared.gathers.Part.{Part}
use Rattle.fc_sequences.specs.declared.gathers.TheConstants.{MOST_AHEAD}
use Rattle.fc_sequences.specs.declared.pairs.Pair.{Pair}
use Rattle.fc_sequences.specs.Gathering.{AreOneEntry, BeginsAt, EndsAt, IsCarry, IsGathered, IsLongest, MayPlayAnother}
use Rattle.fc_sequences.specs.Pair.{PlaysBy, PlaysCards, moves_for}
use Rattle.fc_sequences.specs.Sequence.{board_after_carry, last_cards}
use Rattle.fc_sequences.specs.inner.Part.{IsPart, NoneLonger, PlaysPart}
use Rattle.fc_sequences.proofs.BoardLemmas.{carried_so}
use Rattle.fc_sequences.proofs.CardLemmas.{length-last}
use Rattle.fc_sequences.proofs.CountLemmas.{played_few}
use Rattle.fc_sequences.proofs.EntryLemmas.{cards_once, move_played, played_text}
use Rattle.fc_sequences.proofs.GatherLemmas.{run_parts, stopped_at}
use Rattle.fc_sequences.proofs.RunLemmas.{run_on}

-- the elements of a front are those of the list
get_take : {X : Type 0} (n : ℕ) (xs : List X) (i : ℕ) → i < n → slice_get (take n xs) i ≡ slice_get xs i
get_take zero xs i below = absurd (omega arith)
get_take (suc n) [] i below = refl
get_take (suc n) (x ∷ xs) zero below = refl
get_take (suc n) (x ∷ xs) (suc i) below = get_take n xs i (omega arith)

-- so it begins where the list does
begins_take : (n : ℕ) (ms : List Move) (from : Place) → 1 ≤ n → BeginsAt ms from → BeginsAt (take n ms) from
begins_take n ms from some begins = subst (λ o. IsSomeAnd o (λ m. m.from ≡ from)) (sym (get_take n ms 0 (omega arith))) begins

last_of_front : (n : ℕ) (ms : List Move) → 1 ≤ n → n ≤ length ms → slice_get (take n ms) (length (take n ms) - 1) ≡ slice_get ms (n - 1)
last_of_front n ms some there =
    let place : length (take n ms) - 1 ≡ n - 1 = omega (arith, length-take-le n ms there) in
    ap (slice_get (take n ms)) place ∙ get_take n ms (n - 1) (omega arith)

-- the first move alone is a part
pub first_part : (g : GameRules) (b : Board) (ms : List Move) (m : Move) → IsPositionOf g b → slice_get ms 0 ≡ Some m → Allows g b m
    → IsPart g b ms (record { from = m.from; to = m.to; count = 1; moves = 1 })
first_part g b [] m fits first allowed = absurd (cc first)
first_part g b (x ∷ ms) m fits first allowed =
    let same : x ≡ m = cc first in
    let board = allowed.0 in record {
      some = omega arith;
      there = omega arith;
      from = ap (λ y. y.from) same;
      to = ap (λ y. y.to) same;
      board = board;
      run = (board, subst (λ y. Step g b y board) (sym same) allowed.1, refl);
      plays = move_played g b board m.from m.to fits.position allowed.1;
      joined = λ more. absurd (omega arith);
    }

-- the moves before a step and one more
pub run_more : (g : GameRules) (b mid c : Board) (ms : List Move) (d : Move) (at : ℕ) → Run g b (take at ms) mid → at < length ms
    → Step g mid (get_or ms at d) c → Run g b (take (at + 1) ms) c
run_more g b mid c ms d at run within step =
    subst (λ l. Run g b l c) (sym (take_more ms at d within))
    (run_on g b mid c (take at ms) (get_or ms at d ∷ []) run (c, step, refl))

-- a part from where the list begins to where the move at a number ends, with some cards
abbrev pub part_at : Move → Move → ℕ → ℕ → Part
part_at m n count at = record { from = m.from; to = n.to; count = count; moves = at + 1 }

-- it is one where just these cards were moved
pub longer_part : (g : GameRules) (b c : Board) (ms : List Move) (m d : Move) (count at : ℕ) → IsGame g → slice_get ms 0 ≡ Some m
    → Run g b (take (at + 1) ms) c → at < length ms
    → (1 ≤ count → (i : ℕ) × (j : ℕ) × (m.from ≡ Column i) × ((get_or ms at d).to ≡ Column j))
    → PlaysPart g b (part_at m (get_or ms at d) count at) c → IsPart g b ms (part_at m (get_or ms at d) count at)
longer_part g b c ms m d count at game first run within columns plays =
    let n = get_or ms at d in
    let place : at + 1 - 1 ≡ at = omega arith in
    let last : slice_get ms (at + 1 - 1) ≡ Some n = ap (slice_get ms) place ∙ slice_get-get_or ms at d within in
    let few = played_few g b (record { from = m.from; to = n.to; count = None }) count c game (tt, plays.0) in record {
      some = omega arith;
      there = omega arith;
      from = subst (λ o. IsSomeAnd o (λ x. x.from ≡ m.from)) (sym first) refl;
      to = subst (λ o. IsSomeAnd o (λ x. x.to ≡ n.to)) (sym last) refl;
      board = c;
      run = run;
      plays = plays;
      joined = λ more. columns few.0;
    }

-- what a part plays is what its entry does
pub part_played : (g : GameRules) (b : Board) (ms : List Move) (part : Part) (from to : Place) → (is : IsPart g b ms part)
    → from ≡ part.from → to ≡ part.to
    → PlaysCards g b from to part.count is.board × (moves_for g b from to part.count ≤ part.moves)
part_played g b ms part from to is one two =
    subst (λ x. PlaysCards g b x to part.count is.board × (moves_for g b x to part.count ≤ part.moves)) (sym one)
    (subst (λ y. PlaysCards g b part.from y part.count is.board × (moves_for g b part.from y part.count ≤ part.moves)) (sym two) is.plays)

part_begins : (g : GameRules) (b : Board) (ms : List Move) (part : Part) (from : Place) → IsPart g b ms part → from ≡ part.from
    → BeginsAt (take part.moves ms) from
part_begins g b ms part from is one = begins_take part.moves ms from is.some (subst (BeginsAt ms) (sym one) is.from)

part_ends : (g : GameRules) (b : Board) (ms : List Move) (part : Part) (to : Place) → IsPart g b ms part → to ≡ part.to
    → EndsAt (take part.moves ms) to
part_ends g b ms part to is two =
    subst (λ o. IsSomeAnd o (λ m. m.to ≡ to)) (sym (last_of_front part.moves ms is.some is.there))
    (subst (λ y. IsSomeAnd (slice_get ms (part.moves - 1)) (λ m. m.to ≡ y)) (sym two) is.to)

-- a part is gathered to the entry that is played
pub part_gathered : (g : GameRules) (b c : Board) (ms : List Move) (part : Part) (p : Pair) → IsGame g → IsPositionOf g b → IsPart g b ms part
    → p.from ≡ part.from → p.to ≡ part.to → (IsSome p.count ↔ MayPlayAnother g b p.from p.to part.count) → PlaysBy g b p part.count c
    → IsGathered g b (take part.moves ms) p part.count c
part_gathered g b c ms part p game fits is from to told plays =
    let there = part_played g b ms part p.from p.to is from to in
    let same : c ≡ is.board = cards_once g b p.from p.to part.count is.board c there.0 plays.1 in
    let size = length-take-le part.moves ms is.there in record {
      from = part_begins g b ms part p.from is from;
      to = part_ends g b ms part p.to is to;
      run = subst (Run g b (take part.moves ms)) (sym same) is.run;
      plays = plays;
      within = omega (arith, there.1, size);
      text = played_text g b c p part.count game fits.position plays;
      told = told;
    }

-- a part that has just become longer is the longest so far
pub none_so_far : (g : GameRules) (b : Board) (ms : List Move) (at : ℕ) → NoneLonger g b ms (at + 1) (at + 1)
none_so_far g b ms at m i j k few carry = few

-- and it stays so where one move more doesn't carry
pub none_next : (g : GameRules) (b : Board) (ms : List Move) (at n : ℕ) → NoneLonger g b ms at n
    → ((i j k : ℕ) → IsCarry g b (take (at + 1) ms) i j k → ⊥) → NoneLonger g b ms (at + 1) n
none_next g b ms at n before here m i j k few carry =
    ⊎_elim (λ less. before m i j k (omega arith) carry)
    (λ most. let same : m ≡ at + 1 = omega arith in
    absurd (here i j k (subst (λ x. IsCarry g b (take x ms) i j k) same carry)))
    (cases_lt m (at + 1))

-- and where no move more is allowed
pub none_past : (g : GameRules) (b mid : Board) (ms : List Move) (d : Move) (at n : ℕ) → NoneLonger g b ms at n → Run g b (take at ms) mid
    → at < length ms → (Allows g mid (get_or ms at d) → ⊥) → NoneLonger g b ms (length ms) n
none_past g b mid ms d at n before run within refused m i j k few carry =
    ⊎_elim (λ less. before m i j k (omega arith) carry)
    (λ most. let front : take (at + 1) (take m ms) ≡ take (at + 1) ms = take-take (at + 1) m ms (omega arith) in
    let whole : take m ms ≡ take (at + 1) ms ++ drop (at + 1) (take m ms) =
    sym (take-append-drop (at + 1) (take m ms)) ∙ ap (λ l. l ++ drop (at + 1) (take m ms)) front in
    let parts = run_parts g b (board_after_carry b i j k) (take (at + 1) ms) (drop (at + 1) (take m ms)) (subst (λ l. Run g b l (board_after_carry b i j k)) whole carry.run) in
    absurd (stopped_at g b mid parts.0 ms d at run within refused parts.1))
    (cases_lt m (at + 1))

-- moves that carry play the part
pub carry_played : (g : GameRules) (b c : Board) (ms : List Move) (m d : Move) (count at i j k : ℕ) → IsGame g → IsPositionOf g b
    → slice_get ms 0 ≡ Some m → Run g b (take (at + 1) ms) c → at < length ms
    → ((i j k : ℕ) → m.from ≡ Column i → (get_or ms at d).to ≡ Column j → j < 8 → k < 256
    → length (column c j) ≡ length (column b j) + k → count ≡ k)
    → IsCarry g b (take (at + 1) ms) i j k → PlaysPart g b (part_at m (get_or ms at d) count at) c
carry_played g b c ms m d count at i j k game fits first run within gained carry =
    let n = get_or ms at d in
    let size : length (take (at + 1) ms) ≡ at + 1 = length-take-le (at + 1) ms (omega arith) in
    let same : c ≡ board_after_carry b i j k = run_once g b c (board_after_carry b i j k) (take (at + 1) ms) run carry.run in
    let source : m.from ≡ Column i =
    subst (λ o. IsSomeAnd o (λ x. x.from ≡ Column i)) (get_take (at + 1) ms 0 (omega arith) ∙ first) carry.from in
    let place : at + 1 - 1 ≡ at = omega arith in
    let last : slice_get (take (at + 1) ms) (length (take (at + 1) ms) - 1) ≡ Some n =
    last_of_front (at + 1) ms (omega arith) (omega arith) ∙ ap (slice_get ms) place ∙ slice_get-get_or ms at d within in
    let target : n.to ≡ Column j = subst (λ o. IsSomeAnd o (λ x. x.to ≡ Column j)) last carry.to in
    let may = carry.may in
    let after = carried_so b i j k fits.position.columns may.from may.to may.other in
    let long : length (column c j) ≡ length (column b j) + k =
    ap (λ x. length (column x j)) same ∙ ap length after.second ∙ length-append (column b j) (last_cards k (column b i))
    ∙ ap (λ x. length (column b j) + x) (length-last k (column b i) may.there) in
    let few = played_few g b (record { from = Column i; to = Column j; count = None }) k (board_after_carry b i j k) game (tt, (may, refl)) in
    let counted : count ≡ k = gained i j k source target may.to (omega (arith, few.1)) long in
    let here : PlaysCards g b (Column i) (Column j) k c × (moves_for g b (Column i) (Column j) k ≤ at + 1) =
    ((may, same), omega (arith, carry.within, size)) in
    subst (λ x. PlaysCards g b x n.to count c × (moves_for g b x n.to count ≤ at + 1)) (sym source)
    (subst (λ y. PlaysCards g b (Column i) y count c × (moves_for g b (Column i) y count ≤ at + 1)) (sym target)
    (subst (λ x. PlaysCards g b (Column i) (Column j) x c × (moves_for g b (Column i) (Column j) x ≤ at + 1)) (sym counted) here))

-- the moves of a part are one entry
part_one : (g : GameRules) (b : Board) (ms : List Move) (part : Part) → IsPart g b ms part → AreOneEntry g b (take part.moves ms)
part_one g b ms part is =
    let size = length-take-le part.moves ms is.there in
    ⊎_elim (λ less. inl (omega (arith, size, is.some)))
    (λ more. let columns = is.joined (omega arith) in
    let i = columns.0 in
    let j = columns.1 in
    let there = part_played g b ms part (Column i) (Column j) is (sym columns.2) (sym columns.3) in
    inr (
      i,
      j,
      part.count,
      record {
        from = part_begins g b ms part (Column i) is (sym columns.2);
        to = part_ends g b ms part (Column j) is (sym columns.3);
        may = there.0.0;
        run = subst (Run g b (take part.moves ms)) there.0.1 is.run;
        within = omega (arith, there.1, size);
      },
    ))
    (cases_lt part.moves 2)

-- and the longest, where none of those that are looked at are longer
pub part_longest : (g : GameRules) (b : Board) (ms : List Move) (most : ℕ) (part : Part) → IsPart g b (take most ms) part
    → NoneLonger g b (take most ms) (length (take most ms)) part.moves → most ≤ length ms → most ≤ MOST_AHEAD
    → ((m : ℕ) → m ≤ length ms → m ≤ MOST_AHEAD → m ≤ most)
    → IsLongest g b ms (take part.moves (take most ms)) (drop part.moves ms)
part_longest g b ms most part is none there few all =
    let n = part.moves in
    let ahead = length-take-le most ms there in
    let size = length-take-le n (take most ms) is.there in record {
      parts = sym (take-append-drop n ms) ∙ ap (λ l. l ++ drop n ms) (sym (take-take n most ms (omega (arith, is.there, ahead))));
      one = part_one g b (take most ms) part is;
      most = omega (arith, size, ahead, is.there, few);
      longest = λ front others parts short one.
          let m = length front in
          let long : length ms ≡ m + length others = ap length parts ∙ length-append front others in
          let below = all m (omega arith) short in
          let same : take m (take most ms) ≡ front =
          take-take m most ms below ∙ ap (take m) parts ∙ take-append-le m front others (omega arith) ∙ take_all m front (omega arith) in
          ⊎_elim (λ e. omega (arith, e, size, is.some))
          (λ (i, j, k, carry). omega (arith, size, none m i j k (omega (arith, below, ahead)) (subst (λ l. IsCarry g b l i j k) (sym same) carry)))
          one;
    }
