-- The tokens at the front of a list.
use Rattle.std.proofs.Common.{◌≡◌, ℕ, zero, suc, ◌+◌, ◌<◌, ◌≤◌, List, [], ◌∷◌, ◌++◌, length, take, refl, sym, ◌∙◌, ap, append_assoc, append-nil, length-append, arith}
use Rattle.std.proofs.Math.Seq.{take-append_seam}
use Rattle.std.proofs.lemmas.List.{take_all}
use Rattle.fc_position.specs.Board.{Board}
use Rattle.fc_moves.specs.GameRules.{GameRules}
use Rattle.fc_text.proofs.PartLemmas.{length-tokens_between}
use Rattle.fc_replay.specs.Played.{StopsAt}
use Rattle.fc_replay.specs.Token.{is_move_gap, move_tokens}

-- as many tokens stand at the front as are wanted
pub front_done : (front rest all : List (List ℕ)) (n : ℕ) → front ++ rest ≡ all → n ≤ length front → length front ≤ n → take n all ≡ front
front_done front rest all n parts least most =
    let count : n ≡ length front = omega (arith, least, most) in
    ap (λ k. take k all) count ∙ ap (λ l. take (length front) l) (sym parts) ∙ take-append_seam front rest

-- all tokens stand at the front, and no more are wanted
pub front_all : (front rest all : List (List ℕ)) (n : ℕ) → front ++ rest ≡ all → rest ≡ [] → length front ≤ n → take n all ≡ front
front_all front rest all n parts none most =
    ap (λ l. take n l) (sym parts ∙ ap (λ l. front ++ l) none ∙ append-nil front) ∙ take_all n front most

-- one more token is wanted than stand at the front
pub front_on : (front more : List (List ℕ)) (token : List ℕ) (n : ℕ) → length front < n
    → (rest : List (List ℕ)) × (take n (front ++ token ∷ more) ≡ front ++ token ∷ rest)
front_on [] more token zero less = absurd (omega (arith, less))
front_on [] more token (suc n) less = (take n more, refl)
front_on (t ∷ front) more token zero less = absurd (omega (arith, less))
front_on (t ∷ front) more token (suc n) less =
    let others = front_on front more token n (omega (arith, less)) in
    (others.0, ap (λ l. t ∷ l) others.1)

-- the token of a step fails among those of the first so many, too
pub stops_in_front : (Fails : Board → List ℕ → Type 0) (g : GameRules) (b : Board) (tokens : List (List ℕ)) (boards : List Board) (step n : ℕ)
    → StopsAt Fails g b tokens boards step → step ≤ n → StopsAt Fails g b (take n tokens) boards step
stops_in_front Fails g b tokens boards step n stops most =
    let on = front_on stops.front stops.rest stops.token n (omega (arith, stops.place, most)) in
    record {
      front = stops.front;
      token = stops.token;
      rest = on.0;
      parts = ap (λ l. take n l) stops.parts ∙ on.1;
      place = stops.place;
      played = stops.played;
      here = stops.here;
    }

-- so many tokens of a text stand at its front, and the others are left
pub record Counted (text rest : List ℕ) (count : ℕ) : Type 0 where
  pub front : List (List ℕ)
  pub parts : front ++ move_tokens rest ≡ move_tokens text
  pub size : count ≡ length front

pub counted_none : (text rest : List ℕ) → rest ≡ text → Counted text rest 0
counted_none text rest same = record { front = []; parts = ap move_tokens same; size = refl }

pub counted_next : (text rest more : List ℕ) (count : ℕ) (token : List ℕ) → Counted text rest count
    → move_tokens rest ≡ token ∷ move_tokens more → Counted text more (count + 1)
counted_next text rest more count token so first = record {
  front = so.front ++ token ∷ [];
  parts = append_assoc so.front (token ∷ []) (move_tokens more) ∙ ap (λ l. so.front ++ l) (sym first) ∙ so.parts;
  size = omega (arith, so.size, length-append so.front (token ∷ []));
}

-- there is room for one token more
pub counted_more : (text rest : List ℕ) (more : List (List ℕ)) (count : ℕ) (token : List ℕ) → Counted text rest count
    → move_tokens rest ≡ token ∷ more → count + 1 ≤ length text
counted_more text rest more count token so first =
    let size = ap length so.parts in
    let left = ap length first in
    omega (arith, so.size, size, left, length-append so.front (move_tokens rest), length-tokens_between is_move_gap text)

pub counted_all : (text rest : List ℕ) (count : ℕ) → Counted text rest count → move_tokens rest ≡ [] → count ≡ length (move_tokens text)
counted_all text rest count so none =
    so.size ∙ ap length (sym (append-nil so.front) ∙ ap (λ l. so.front ++ l) (sym none) ∙ so.parts)
