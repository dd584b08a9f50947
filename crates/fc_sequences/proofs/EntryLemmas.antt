-- What one entry does: where it leads, with how many cards, and that a move alone is one.
use Rattle.std.proofs.Common.{◌≡◌, ◌≢◌, ◌↔◌, ℕ, ◌+◌, ◌-◌, ◌≤◌, ◌<◌, Option, Some, None, length, refl, sym, ◌∙◌, ap, subst, inl, ⊎_elim, arith}
use Rattle.std.specs.Prelude.{IfSome, IsSome, slice_index}
use Rattle.std.proofs.lemmas.Bool.{cases_eq, cases_lt}
use Rattle.std.proofs.lemmas.Option.{slice_get_within, get_or_from_slice_get}
use Rattle.fc_cards.specs.declared.places.Place.{Place}
use Rattle.fc_cards.specs.declared.places.Place.TheVariants.{Column, Cell, Home}
use Rattle.fc_position.specs.Board.{Board, column}
use Rattle.fc_position.specs.Position.{IsPosition}
use Rattle.fc_position.proofs.BoardLemmas.{column_there}
use Rattle.fc_moves.specs.GameRules.{GameRules, IsGame}
use Rattle.fc_moves.specs.MoveText.{IsSource, IsThere}
use Rattle.fc_moves.specs.Step.{MayLand, Step}
use Rattle.fc_moves.proofs.StepLemmas.{step_once, allowed_has_text}
use Rattle.fc_sequences.specs.declared.pairs.Pair.{Pair}
use Rattle.fc_sequences.specs.Gathering.{MayPlayAnother}
use Rattle.fc_sequences.specs.Pair.{HasPairText, PlaysBy, PlaysCards, moves_for}
use Rattle.fc_sequences.specs.Sequence.{MayCarry, free_cells, spare_columns}
use Rattle.fc_sequences.proofs.CardLemmas.{length-last}
use Rattle.fc_sequences.proofs.CellLemmas.{across, after_across}
use Rattle.fc_sequences.proofs.CountLemmas.{played_few}
use Rattle.fc_sequences.proofs.MovesLemmas.{moves_few}
use Rattle.fc_sequences.proofs.SpaceLemmas.{may_lie}

-- entries of the same places and numbers are the same
pub entry_same : (p q : Pair) → p.from ≡ q.from → p.to ≡ q.to → p.count ≡ q.count → p ≡ q
entry_same p q from to count =
    let make : Place → Place → Option ℕ → Pair = λ x y n. record { from = x; to = y; count = n } in
    ap (λ x. make x p.to p.count) from ∙ ap (λ y. make q.from y p.count) to ∙ ap (λ n. make q.from q.to n) count

-- so many cards are played to one board
pub cards_once : (g : GameRules) (b : Board) (from to : Place) (k : ℕ) (c d : Board) → PlaysCards g b from to k c → PlaysCards g b from to k d
    → d ≡ c
cards_once g b (Column i) (Column j) k c d (may, after) (again, then) = then ∙ sym after
cards_once g b (Column i) (Cell j) k c d (one, step) (again, more) = step_once g b _ d c more step
cards_once g b (Column i) Home k c d (one, step) (again, more) = step_once g b _ d c more step
cards_once g b (Cell i) to k c d (one, step) (again, more) = step_once g b _ d c more step
cards_once g b Home to k c d (one, step) (again, more) = step_once g b _ d c more step

-- a card that may be moved from a column to a column may be carried
one_carried : (g : GameRules) (b c : Board) (i j : ℕ) → IsPosition b → Step g b (across i j) c → MayCarry g b i j 1
one_carried g b c i j position step =
    let cards = column b i in
    let below = slice_get_within cards (length cards - 1) step.card step.playable in
    let some : 1 ≤ length cards = omega arith in
    let long = length-last 1 cards some in
    let here : step.card ≡ slice_index cards (length cards - 1) = sym (get_or_from_slice_get cards (length cards - 1) step.card 0 step.playable) in
    record {
      from = omega (arith, column_there b i step.card step.playable, position.columns);
      to = omega (arith, step.takes.0, position.columns);
      other = step.joins;
      some = omega arith;
      there = some;
      sequence = λ a below. absurd (omega arith);
      lands = subst (MayLand g (column b j)) here step.takes.1;
      enough = inl (omega arith);
    }

-- so a move is an entry that is played with one card, by one move
pub move_played : (g : GameRules) (b c : Board) (from to : Place) → IsPosition b → Step g b (record { from = from; to = to }) c
    → PlaysCards g b from to 1 c × (moves_for g b from to 1 ≤ 1)
move_played g b c (Column i) (Column j) position step =
    let may = one_carried g b c i j position step in
    let few = moves_few (length (free_cells g b)) (length (spare_columns b j)) 1 (omega arith) in
    ((may, after_across g b c i j 1 position.columns refl (may_lie g b i j 1 may) step), omega (arith, few))
move_played g b c (Column i) (Cell j) position step = ((refl, step), omega arith)
move_played g b c (Column i) Home position step = ((refl, step), omega arith)
move_played g b c (Cell i) to position step = ((refl, step), omega arith)
move_played g b c Home to position step = ((refl, step), omega arith)

-- what is played has a text
places_text : (g : GameRules) (b c : Board) (from to : Place) (k : ℕ) → IsPosition b → PlaysCards g b from to k c → IsSource from × IsThere to
places_text g b c (Column i) (Column j) k position (may, after) = (may.from, may.to)
places_text g b c (Column i) (Cell j) k position (one, step) = let text = allowed_has_text g b _ position (c, step) in (text.from, text.to)
places_text g b c (Column i) Home k position (one, step) = let text = allowed_has_text g b _ position (c, step) in (text.from, text.to)
places_text g b c (Cell i) to k position (one, step) = let text = allowed_has_text g b _ position (c, step) in (text.from, text.to)
places_text g b c Home to k position (one, step) = let text = allowed_has_text g b _ position (c, step) in (text.from, text.to)

count_text : (count : Option ℕ) (k : ℕ) → IfSome count (λ n. k ≡ n) → 1 ≤ k → k < 14 → IfSome count (λ n. (1 ≤ n) × (n < 16))
count_text None k same some few = tt
count_text (Some n) k same some few = (omega arith, omega arith)

pub played_text : (g : GameRules) (b c : Board) (p : Pair) (k : ℕ) → IsGame g → IsPosition b → PlaysBy g b p k c → HasPairText p
played_text g b c p k game position plays =
    let few = played_few g b p k c game plays in
    let text = places_text g b c p.from p.to k position plays.1 in record {
      from = text.0;
      to = text.1;
      count = count_text p.count k plays.0 few.0 few.1;
    }

-- an entry that tells how many cards where another number may be played is played with one number
counts_alike : (count : Option ℕ) (k n : ℕ) (Another : Type 0) → (Another → IsSome count) → (n ≢ k → Another) → IfSome count (λ m. k ≡ m)
    → IfSome count (λ m. n ≡ m) → n ≡ k
counts_alike None k n Another told another one two = ⊎_elim (λ e. e) (λ ne. absurd (cc (told (another ne)))) (cases_eq n k)
counts_alike (Some m) k n Another told another one two = two ∙ sym one

pub played_alike : (g : GameRules) (b c d : Board) (p : Pair) (k n : ℕ) → (IsSome p.count ↔ MayPlayAnother g b p.from p.to k)
    → PlaysBy g b p k c → PlaysBy g b p n d → (n ≡ k) × (d ≡ c)
played_alike g b c d p k n told one two =
    let same = counts_alike p.count k n (MayPlayAnother g b p.from p.to k) told.1 (λ ne. (n, ne, (d, two.1))) one.0 two.0 in
    (same, cards_once g b p.from p.to k c d one.1 (subst (λ m. PlaysCards g b p.from p.to m d) same two.1))

-- one number more that isn't played, or is the one apart
pub another_next : (g : GameRules) (b : Board) (from to : Place) (k other : ℕ)
    → ((n : ℕ) (c : Board) → 1 ≤ n → n < other → n ≢ k → PlaysCards g b from to n c → ⊥)
    → (other ≢ k → (c : Board) → PlaysCards g b from to other c → ⊥)
    → (n : ℕ) (c : Board) → 1 ≤ n → n < other + 1 → n ≢ k → PlaysCards g b from to n c → ⊥
another_next g b from to k other before here n c some below ne plays =
    ⊎_elim (λ less. before n c some less ne plays)
    (λ most. let same : n ≡ other = omega arith in
    here (λ e. ne (same ∙ e)) c (subst (λ m. PlaysCards g b from to m c) same plays))
    (cases_lt n other)

-- where none from 1 to 13 is, none is
pub none_other : (g : GameRules) (b : Board) (from to : Place) (k : ℕ) → IsGame g
    → ((n : ℕ) (c : Board) → 1 ≤ n → n < 14 → n ≢ k → PlaysCards g b from to n c → ⊥) → MayPlayAnother g b from to k → ⊥
none_other g b from to k game none (n, ne, (c, plays)) =
    let few = played_few g b (record { from = from; to = to; count = None }) n c game (tt, plays) in
    none n c few.0 few.1 ne plays
