-- A code tells whether its position is won: each card has the state 1.
use Rattle.std.proofs.Common.{◌≡◌, ℕ, zero, suc, ◌+◌, ◌<◌, Bool, List, [], ◌∷◌, length, get_or, ◌↔◌, IsTrue, nat_eq, refl, sym, ◌∙◌, ap, arith}
use Rattle.std.specs.Prelude.{slice_index}
use Rattle.std.specs.Cmp.{unsigned_Decides}
use Rattle.std.specs.Cmp.Lexicographic.{pointwise, pointwise_decides}
use Rattle.std.proofs.lemmas.List.{ext_get_or}
use Rattle.fc_cards.specs.Card.{rank, suit}
use Rattle.fc_position.specs.Board.{Board, IsHome}
use Rattle.fc_position.specs.Position.{IsPosition, IsWon}
use Rattle.fc_position.proofs.BoardLemmas.{home_most}
use Rattle.fc_canonical.proofs.OrderLemmas.{four_of}
use Rattle.fc_codes.specs.State.{IsCodeOf}
use Rattle.fc_codes.proofs.StateLemmas.{home_state, state_home}

-- in a position whose cards all have the state 1, each suit is home up to its king
suit_whole : (s b : Board) (code : List ℕ) (u : ℕ) → IsPosition b → IsCodeOf s b code
    → ((c : ℕ) → c < 52 → slice_index code c ≡ 1) → u < 4 → slice_index b.homes u ≡ 13
suit_whole s b code u p k ones below =
    let king = 48 + u in
    let card : king < 52 = omega (arith, below) in
    let home : IsHome b.homes king = state_home s b king (slice_index code king) (k.states king card) (ones king card) in
    let of_suit : suit king ≡ u = omega (arith, below) in
    let of_rank : rank king ≡ 13 = omega (arith, below) in
    let at : slice_index b.homes (suit king) ≡ slice_index b.homes u = ap (slice_index b.homes) of_suit in
    omega (arith, home, of_rank, at, home_most b p u)

thirteen : (u : ℕ) → u < 4 → slice_index (13 ∷ 13 ∷ 13 ∷ 13 ∷ []) u ≡ 13
thirteen zero below = refl
thirteen (suc zero) below = refl
thirteen (suc (suc zero)) below = refl
thirteen (suc (suc (suc zero))) below = refl
thirteen (suc (suc (suc (suc u)))) below = absurd (omega arith)

-- each card of a won position is home
won_home : (b : Board) (c : ℕ) → IsWon b → c < 52 → IsHome b.homes c
won_home b c won below =
    let at = ap (λ h. slice_index h (suit c)) won in
    let all = thirteen (suit c) (omega arith) in
    omega (arith, at, all, below)

pub won_told : (s b : Board) (code all : List ℕ) (r : Bool) → IsPosition b → IsCodeOf s b code
    → ((c : ℕ) → c < 52 → slice_index all c ≡ 1) → length all ≡ 52 → r ≡ pointwise nat_eq code all → IsTrue r ↔ IsWon b
won_told s b code all r p k ones count told = (
  λ yes.
      let same : code ≡ all = (pointwise_decides unsigned_Decides code all).0 (sym told ∙ yes) in
      let each = λ (c : ℕ) (below : c < 52). ap (λ l. slice_index l c) same ∙ ones c below in
      let at = λ (u : ℕ) (below : u < 4). suit_whole s b code u p k each below in
      let one = at 0 (omega arith) in
      let two = at 1 (omega arith) in
      let three = at 2 (omega arith) in
      let four = at 3 (omega arith) in
      sym (four_of b.homes p.homes)
      ∙ ap (λ x. x ∷ get_or b.homes 1 0 ∷ get_or b.homes 2 0 ∷ get_or b.homes 3 0 ∷ []) one
      ∙ ap (λ x. 13 ∷ x ∷ get_or b.homes 2 0 ∷ get_or b.homes 3 0 ∷ []) two
      ∙ ap (λ x. 13 ∷ 13 ∷ x ∷ get_or b.homes 3 0 ∷ []) three ∙ ap (λ x. 13 ∷ 13 ∷ 13 ∷ x ∷ []) four,
  λ won.
      let same : code ≡ all =
      ext_get_or 0 code all (k.count ∙ sym count)
      (λ c below. let card : c < 52 = omega (arith, k.count, below) in
      home_state s b c (slice_index code c) p (won_home b c won card) (k.states c card) ∙ sym (ones c card)) in
      told ∙ (pointwise_decides unsigned_Decides code all).1 same,
)
