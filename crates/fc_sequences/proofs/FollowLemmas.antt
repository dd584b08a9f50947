-- Lists of entries that are played, and one more.
use Rattle.std.proofs.Common.{◌≡◌, ℕ, List, [], ◌∷◌, ◌++◌, length, refl, sym, ◌∙◌, ap, subst, append_assoc, append-nil}
use Rattle.fc_position.specs.Board.{Board}
use Rattle.fc_moves.specs.declared.steps.Move.{Move}
use Rattle.fc_moves.specs.GameRules.{GameRules}
use Rattle.fc_moves.specs.Run.{Run}
use Rattle.fc_sequences.specs.declared.pairs.Pair.{Pair}
use Rattle.fc_sequences.specs.Pair.{PlaysBy, PlaysPair, moves_for}
use Rattle.fc_sequences.specs.Following.{Follows, Expands}

-- one more entry is played
pub follows_push : (g : GameRules) (b m c : Board) (ps : List Pair) (p : Pair) → Follows g b ps m → PlaysPair g m p c
    → Follows g b (ps ++ p ∷ []) c
follows_push g b m c [] p same plays = (c, subst (λ x. PlaysPair g x p c) same plays, refl)
follows_push g b m c (q ∷ ps) p (mid, first, rest) plays = (mid, first, follows_push g mid m c ps p rest plays)

-- entries and one more are played where the entries are, and then that one
pub follows_pop : (g : GameRules) (b c : Board) (ps : List Pair) (p : Pair) → Follows g b (ps ++ p ∷ []) c
    → (m : Board) × Follows g b ps m × PlaysPair g m p c
follows_pop g b c [] p (mid, plays, same) = (b, refl, subst (PlaysPair g b p) (sym same) plays)
follows_pop g b c (q ∷ ps) p (mid, first, rest) =
    let later = follows_pop g mid c ps p rest in
    (later.0, (mid, first, later.1), later.2)

-- the moves of one more entry
pub expands_push : (g : GameRules) (b m c : Board) (ps : List Pair) (p : Pair) (k : ℕ) (ms ns : List Move) → Expands g b ps ms m
    → PlaysBy g m p k c → Run g m ns c → length ns ≡ moves_for g m p.from p.to k → Expands g b (ps ++ p ∷ []) (ms ++ ns) c
expands_push g b m c [] p k ms ns (none, same) plays run count = (
  k,
  c,
  ns,
  [],
  subst (λ x. PlaysBy g x p k c) same plays,
  subst (λ x. Run g x ns c) same run,
  subst (λ x. length ns ≡ moves_for g x p.from p.to k) same count,
  ap (λ l. l ++ ns) none ∙ sym (append-nil ns),
  (refl, refl),
)
expands_push g b m c (q ∷ ps) p k ms ns (n, mid, front, rest, first, run, size, parts, later) plays more count = (
  n,
  mid,
  front,
  rest ++ ns,
  first,
  run,
  size,
  ap (λ l. l ++ ns) parts ∙ append_assoc front rest ns,
  expands_push g mid m c ps p k rest ns later plays more count,
)
