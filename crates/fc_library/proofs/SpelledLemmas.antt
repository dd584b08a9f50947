-- Tokens that spell moves, one after the other.
use Rattle.std.proofs.Common.{◌≡◌, ℕ, suc, ◌+◌, ◌≤◌, List, [], ◌∷◌, ◌++◌, length, refl, sym, ◌∙◌, ap, subst, append_assoc, length-append, arith}
use Rattle.std.proofs.lemmas.List.{append-nil}
use Rattle.fc_moves.specs.declared.steps.Move.{Move}
use Rattle.fc_text.proofs.PartLemmas.{length-tokens_between}
use Rattle.fc_replay.specs.Played.{SpellMoves}
use Rattle.fc_replay.specs.Token.{IsNoMove, SpellsMove, is_move_gap, move_tokens}
use Rattle.fc_library.specs.Lists.{IsFirstNoMove}

-- one more token that spells a move
spell_move : (tokens : List (List ℕ)) (moves : List Move) (token : List ℕ) (m : Move) → SpellMoves tokens moves → SpellsMove token m
    → SpellMoves (tokens ++ token ∷ []) (moves ++ m ∷ [])
spell_move [] moves token m none spells = subst (λ l. SpellMoves (token ∷ []) (l ++ m ∷ [])) (sym none) (spells, refl)
spell_move (t ∷ tokens) [] token m spelled spells = absurd spelled
spell_move (t ∷ tokens) (n ∷ moves) token m (first, rest) spells = (first, spell_move tokens moves token m rest spells)

-- there are as many moves as tokens
moves_length : (tokens : List (List ℕ)) (moves : List Move) → SpellMoves tokens moves → length moves ≡ length tokens
moves_length [] moves none = ap length none
moves_length (t ∷ tokens) [] spelled = absurd spelled
moves_length (t ∷ tokens) (n ∷ moves) (first, rest) = ap suc (moves_length tokens moves rest)

-- the tokens so far spell these moves, and the others are left
pub record Spelled (text rest : List ℕ) (moves : List Move) : Type 0 where
  pub front : List (List ℕ)
  pub parts : front ++ move_tokens rest ≡ move_tokens text
  pub spelled : SpellMoves front moves

pub spelled_next : (text rest more : List ℕ) (moves : List Move) (token : List ℕ) (m : Move) → Spelled text rest moves
    → move_tokens rest ≡ token ∷ move_tokens more → SpellsMove token m → Spelled text more (moves ++ m ∷ [])
spelled_next text rest more moves token m so first spells = record {
  front = so.front ++ token ∷ [];
  parts = append_assoc so.front (token ∷ []) (move_tokens more) ∙ ap (λ l. so.front ++ l) (sym first) ∙ so.parts;
  spelled = spell_move so.front moves token m so.spelled spells;
}

-- no more moves than bytes
pub spelled_few : (text rest : List ℕ) (moves : List Move) → Spelled text rest moves → length moves ≤ length text
spelled_few text rest moves so =
    let size = ap length so.parts in
    let count = moves_length so.front moves so.spelled in
    omega (arith, count, size, length-append so.front (move_tokens rest), length-tokens_between is_move_gap text)

-- all moves
pub spelled_all : (text rest : List ℕ) (moves : List Move) → Spelled text rest moves → move_tokens rest ≡ [] → SpellMoves (move_tokens text) moves
spelled_all text rest moves so none =
    subst (λ l. SpellMoves l moves) (sym (append-nil so.front) ∙ ap (λ l. so.front ++ l) (sym none) ∙ so.parts) so.spelled

-- the next token is no move
pub spelled_bad : (text rest : List ℕ) (more : List (List ℕ)) (moves : List Move) (token : List ℕ) → Spelled text rest moves
    → move_tokens rest ≡ token ∷ more → IsNoMove token → IsFirstNoMove (move_tokens text) (length moves + 1)
spelled_bad text rest more moves token so first none = record {
  front = so.front;
  token = token;
  rest = more;
  parts = sym so.parts ∙ ap (λ l. so.front ++ l) first;
  place = ap (λ k. k + 1) (moves_length so.front moves so.spelled);
  moves = moves;
  spelled = so.spelled;
  none = none;
}
