-- An entry is played with one card at least, and with thirteen at most.
use Rattle.std.proofs.Common.{◌≡◌, ℕ, ◌+◌, ◌-◌, ◌<◌, ◌≤◌, zero, suc, List, length, refl, ap, ⊎_elim, arith}
use Rattle.std.specs.Prelude.{◌↔◌, Bool, IsTrue, slice_index}
use Rattle.std.proofs.lemmas.Bool.{cases_lt}
use Rattle.std.proofs.lemmas.List.{length-drop}
use Rattle.std.proofs.lemmas.List.Elements.{All-contains}
use Rattle.fc_cards.specs.declared.places.Place.{Place}
use Rattle.fc_cards.specs.declared.places.Place.TheVariants.{Column, Cell, Home}
use Rattle.fc_cards.specs.Card.{rank}
use Rattle.fc_position.specs.Board.{Board, column}
use Rattle.fc_moves.specs.GameRules.{GameRules, IsGame, IsPair, Stands}
use Rattle.fc_sequences.specs.declared.pairs.Pair.{Pair}
use Rattle.fc_sequences.specs.Sequence.{IsSequence, MayCarry, board_after_carry, last_cards}
use Rattle.fc_sequences.specs.Pair.{PlaysCards, PlaysBy}

-- a card that may stand on another is one rank below it
below : (g : GameRules) (u l : ℕ) → IsGame g → Stands g u l → IsPair (u, l)
below g u l game stands = All-contains IsPair g.pairs (u, l) game.pairs stands

-- each card of a sequence has as many ranks below the first as there are cards between
ranks : (g : GameRules) (cards : List ℕ) (a : ℕ) → IsGame g → IsSequence g cards → a < length cards
    → rank (slice_index cards a) + a ≡ rank (slice_index cards 0)
ranks g cards zero game seq within = omega arith
ranks g cards (suc a) game seq within =
    let pair = below g (slice_index cards (a + 1)) (slice_index cards a) game (seq a (omega arith)) in
    let place : slice_index cards (suc a) ≡ slice_index cards (a + 1) = ap (slice_index cards) (omega arith) in
    omega (arith, pair.2, place, ranks g cards a game seq (omega arith))

-- a sequence has thirteen cards at most
thirteen : (g : GameRules) (cards : List ℕ) → IsGame g → IsSequence g cards → length cards ≤ 13
thirteen g cards game seq =
    ⊎_elim (λ few. omega arith)
    (λ more.
    let first = below g (slice_index cards 1) (slice_index cards 0) game (seq 0 (omega arith)) in
    let last = ranks g cards (length cards - 1) game seq (omega arith) in
    omega (arith, first.1, last))
    (cases_lt (length cards) 2)

cards_few : (g : GameRules) (b : Board) (from to : Place) (k : ℕ) (c : Board) → IsGame g → PlaysCards g b from to k c → (1 ≤ k) × (k < 14)
cards_few g b (Column i) (Column j) k c game (may, after) =
    let most = thirteen g (last_cards k (column b i)) game may.sequence in
    let size = length-drop (length (column b i) - k) (column b i) in
    (may.some, omega (arith, may.there, most, size))
cards_few g b (Column i) (Cell j) k c game (one, step) = (omega arith, omega arith)
cards_few g b (Column i) Home k c game (one, step) = (omega arith, omega arith)
cards_few g b (Cell i) to k c game (one, step) = (omega arith, omega arith)
cards_few g b Home to k c game (one, step) = (omega arith, omega arith)

pub played_few : (g : GameRules) (b : Board) (p : Pair) (k : ℕ) (c : Board) → IsGame g → PlaysBy g b p k c → (1 ≤ k) × (k < 14)
played_few g b p k c game plays = cards_few g b p.from p.to k c game plays.1

-- from column to column cards are played where they may be carried
pub columns_played : (g : GameRules) (b : Board) (from to : Place) (i j k : ℕ) (t : Bool) → from ≡ Column i → to ≡ Column j
    → (IsTrue t ↔ MayCarry g b i j k) → IsTrue t ↔ ((c : Board) × PlaysCards g b from to k c)
columns_played g b from to i j k t one two may =
    rw one (rw two (λ yes. (board_after_carry b i j k, (may.0 yes, refl)), λ plays. may.1 plays.1.0))
