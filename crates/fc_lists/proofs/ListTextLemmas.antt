-- Lists of moves as they are printed, one after the other.
use Rattle.std.proofs.Common.{◌≡◌, ℕ, ◌≤◌, ◌<◌, List, [], ◌∷◌, ◌++◌, length, take, sym, ◌∙◌, ap, subst, arith, slice_index_or, suc}
use Rattle.std.specs.Prelude.{All}
use Rattle.std.specs.List.{flat_map}
use Rattle.std.proofs.lemmas.List.{append-nil, append_assoc, take_all}
use Rattle.fc_moves.specs.declared.steps.Move.{Move}
use Rattle.fc_moves.specs.MoveText.{HasText, move_text}
use Rattle.fc_lists.specs.ListText.{list_text}

-- a move that follows another is printed with a blank before it
abbrev pub next_text : Move → List ℕ
next_text m = 32 ∷ move_text m

list_text-cons : (first : Move) (rest : List Move) → list_text (first ∷ rest) ≡ move_text first ++ flat_map next_text rest
list_text-cons first [] = sym (append-nil (move_text first))
list_text-cons first (x ∷ xs) = ap (λ t. move_text first ++ 32 ∷ t) (list_text-cons x xs)

-- once the others are written, the whole list is
pub all_written : (old : List ℕ) (moves rest : List Move) (first : Move) (i : ℕ) → moves ≡ first ∷ rest → length rest ≤ i
    → (old ++ move_text first) ++ flat_map next_text (take i rest) ≡ old ++ list_text moves
all_written old moves rest first i cut all =
    ap (λ r. (old ++ move_text first) ++ flat_map next_text r) (take_all i rest all)
    ∙ append_assoc old (move_text first) (flat_map next_text rest)
    ∙ ap (λ t. old ++ t) (sym (ap list_text cut ∙ list_text-cons first rest))

-- each of the others has a text where all have
pub rest_texts : (moves rest : List Move) (first : Move) → moves ≡ first ∷ rest → All HasText moves → (i : ℕ) (d : Move) → i < length rest
    → HasText (slice_index_or rest i d)
rest_texts moves rest first cut all i d lt =
    let cut_all : All HasText (first ∷ rest) = subst (All HasText) cut all in
    cut_all (suc i) d (omega (arith, lt))
