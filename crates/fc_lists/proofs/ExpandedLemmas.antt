-- Lists of entries: their tokens, the moves that they are expanded to, and why they aren't.
use Rattle.std.proofs.Common.{◌≡◌, ℕ, suc, ◌+◌, ◌<◌, ◌≤◌, List, [], ◌∷◌, ◌++◌, length, refl, sym, ◌∙◌, ap, subst, append_assoc, length-append, arith}
use Rattle.std.specs.Prelude.{take}
use Rattle.fc_position.specs.Board.{Board}
use Rattle.fc_position.specs.Position.{IsWon}
use Rattle.fc_moves.specs.declared.steps.Move.{Move}
use Rattle.fc_moves.specs.GameRules.{GameRules}
use Rattle.std.proofs.lemmas.List.{take_all}
use Rattle.fc_text.proofs.PartLemmas.{length-tokens_between}
use Rattle.fc_sequences.specs.declared.list_expansions.ListFault.{ListFault}
use Rattle.fc_sequences.specs.declared.list_expansions.ListFault.TheVariants.{Refused, TooMany, Memory as wanting}
use Rattle.fc_sequences.specs.declared.pairs.Pair.{Pair}
use Rattle.fc_sequences.specs.Following.{Expands, Follows, IsListFault, LeadsToMany}
use Rattle.fc_sequences.specs.Pair.{SpellsPair, IsNoPair}
use Rattle.fc_replay.specs.Token.{is_move_gap, move_tokens}
use Rattle.fc_lists.specs.inner.Faults.{list_fault}
use Rattle.fc_lists.specs.Plays.{IsExpanded, IsFirstNoPair, IsUnplayed, SpellPairs}
use Rattle.fc_lists.proofs.FrontLemmas.{front_all, front_done, front_on}

-- one more token that spells an entry
spell_pair : (tokens : List (List ℕ)) (pairs : List Pair) (token : List ℕ) (pair : Pair) → SpellPairs tokens pairs → SpellsPair token pair
    → SpellPairs (tokens ++ token ∷ []) (pairs ++ pair ∷ [])
spell_pair [] pairs token pair none spells = subst (λ l. SpellPairs (token ∷ []) (l ++ pair ∷ [])) (sym none) (spells, refl)
spell_pair (t ∷ tokens) [] token pair spelled spells = absurd spelled
spell_pair (t ∷ tokens) (p ∷ pairs) token pair (first, rest) spells = (first, spell_pair tokens pairs token pair rest spells)

-- there are as many entries as tokens
pairs_length : (tokens : List (List ℕ)) (pairs : List Pair) → SpellPairs tokens pairs → length pairs ≡ length tokens
pairs_length [] pairs none = ap length none
pairs_length (t ∷ tokens) [] spelled = absurd spelled
pairs_length (t ∷ tokens) (p ∷ pairs) (first, rest) = ap suc (pairs_length tokens pairs rest)

-- the tokens so far spell these entries, and the others are left
pub record Listed (text rest : List ℕ) (pairs : List Pair) : Type 0 where
  pub front : List (List ℕ)
  pub parts : front ++ move_tokens rest ≡ move_tokens text
  pub spelled : SpellPairs front pairs

pub listed_next : (text rest more : List ℕ) (pairs : List Pair) (token : List ℕ) (pair : Pair) → Listed text rest pairs
    → move_tokens rest ≡ token ∷ move_tokens more → SpellsPair token pair → Listed text more (pairs ++ pair ∷ [])
listed_next text rest more pairs token pair so first spells = record {
  front = so.front ++ token ∷ [];
  parts = append_assoc so.front (token ∷ []) (move_tokens more) ∙ ap (λ l. so.front ++ l) (sym first) ∙ so.parts;
  spelled = spell_pair so.front pairs token pair so.spelled spells;
}

-- no more entries than bytes
pub listed_few : (text rest : List ℕ) (pairs : List Pair) → Listed text rest pairs → length pairs ≤ length text
listed_few text rest pairs so =
    let size = ap length so.parts in
    let count = pairs_length so.front pairs so.spelled in
    omega (arith, count, size, length-append so.front (move_tokens rest), length-tokens_between is_move_gap text)

-- as many entries as are wanted
pub listed_done : (text rest : List ℕ) (pairs : List Pair) (n : ℕ) → Listed text rest pairs → n ≤ length pairs → length pairs ≤ n
    → SpellPairs (take n (move_tokens text)) pairs
listed_done text rest pairs n so least most =
    let count = pairs_length so.front pairs so.spelled in
    subst (λ l. SpellPairs l pairs)
    (sym (front_done so.front (move_tokens rest) (move_tokens text) n so.parts (omega (arith, count, least)) (omega (arith, count, most)))) so.spelled

-- all entries, where no more are wanted
pub listed_all : (text rest : List ℕ) (pairs : List Pair) (n : ℕ) → Listed text rest pairs → move_tokens rest ≡ [] → length pairs ≤ n
    → SpellPairs (take n (move_tokens text)) pairs
listed_all text rest pairs n so none most =
    let count = pairs_length so.front pairs so.spelled in
    subst (λ l. SpellPairs l pairs)
    (sym (front_all so.front (move_tokens rest) (move_tokens text) n so.parts none (omega (arith, count, most)))) so.spelled

-- the next token is wanted, and is no entry
pub listed_bad : (text rest : List ℕ) (more : List (List ℕ)) (pairs : List Pair) (token : List ℕ) (n : ℕ) → Listed text rest pairs
    → move_tokens rest ≡ token ∷ more → IsNoPair token → length pairs < n → IsFirstNoPair (take n (move_tokens text)) (length pairs + 1)
listed_bad text rest more pairs token n so first none less =
    let count = pairs_length so.front pairs so.spelled in
    let on = front_on so.front more token n (omega (arith, count, less)) in
    record {
      front = so.front;
      token = token;
      rest = on.0;
      parts = ap (λ l. take n l) (sym so.parts ∙ ap (λ l. so.front ++ l) first) ∙ on.1;
      place = ap (λ k. k + 1) count;
      pairs = pairs;
      spelled = so.spelled;
      none = none;
    }

-- a text has no more tokens than its longest has bytes
pub whole_front : (text : List ℕ) (n : ℕ) → length text ≤ n → take n (move_tokens text) ≡ move_tokens text
whole_front text n short = take_all n (move_tokens text) (omega (arith, length-tokens_between is_move_gap text, short))

module _ (g : GameRules) (b : Board) (tokens : List (List ℕ)) (pairs own : List Pair) (same : own ≡ pairs) (spelled : SpellPairs tokens pairs) where
  -- the tokens of entries that are expanded are
  pub expanded_of : (moves : List Move) (last : Board) → Expands g b own moves last → ((c : Board) → Follows g b own c → IsWon c → IsWon last)
      → ((step : ℕ) → step ≤ length own → LeadsToMany g b (take step own) → ⊥) → IsExpanded g b tokens moves
  expanded_of moves last expanded won few = record {
    pairs = pairs;
    spelled = spelled;
    last = last;
    expanded = subst (λ ps. Expands g b ps moves last) same expanded;
    won = subst (λ ps. (c : Board) → Follows g b ps c → IsWon c → IsWon last) same won;
    few = subst (λ ps. (step : ℕ) → step ≤ length ps → LeadsToMany g b (take step ps) → ⊥) same few;
  }

  -- and why the tokens of entries that aren't are not played
  pub unplayed_of : (fault : ListFault) → IsListFault g b own fault → IsUnplayed g b tokens (list_fault fault)
  unplayed_of (Refused step) here = record { pairs = pairs; spelled = spelled; here = subst (λ ps. IsListFault g b ps (Refused step)) same here }
  unplayed_of (TooMany step) here = record { pairs = pairs; spelled = spelled; here = subst (λ ps. IsListFault g b ps (TooMany step)) same here }
  unplayed_of wanting here = tt
