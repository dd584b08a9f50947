-- Tokens play as far as they can, and no further, so they end in one way.
use Rattle.std.proofs.Common.{◌≡◌, ℕ, ◌+◌, List, [], ◌∷◌, ◌++◌, length, refl, sym, ◌∙◌, ap, subst, append-nil}
use Rattle.std.specs.Prelude.{Result, Ok, Err}
use Rattle.fc_position.specs.Board.{Board}
use Rattle.fc_moves.specs.declared.steps.Move.{Move}
use Rattle.fc_moves.specs.GameRules.{GameRules}
use Rattle.fc_moves.specs.Step.{Step, Allows}
use Rattle.fc_replay.specs.declared.faults.ReplayFault.{ReplayFault}
use Rattle.fc_replay.specs.declared.faults.ReplayFault.TheVariants.{BadMove, NotAllowed, Write}
use Rattle.fc_replay.specs.Token.{SpellsMove, IsNoMove}
use Rattle.fc_replay.specs.Played.{SpellMoves, Passes, Plays, Ends, BeginsWithStep, board_after}
use Rattle.fc_replay.specs.Laws.{TokensEndInOneWay}
use Rattle.fc_moves.proofs.StepLemmas.{step_once}
use Rattle.fc_replay.proofs.PlayLemmas.{no_moves_pass, spelled_once}

-- where one more token plays, the tokens before it don't end there
cant_stop : (g : GameRules) (b : Board) (u : List ℕ) (f r rest : List (List ℕ)) (ns : List Move) (zs ys : List Board)
    → rest ≡ u ∷ f ++ r → zs ≡ [] → SpellMoves (u ∷ f) ns → Passes g b ns ys
    → (BeginsWithStep g (board_after b zs) rest → ⊥) → ⊥
cant_stop g b u f r rest [] zs ys e none t q stuck = t
cant_stop g b u f r rest (n ∷ ns) zs [] e none t q stuck = q
cant_stop g b u f r rest (n ∷ ns) zs (y ∷ ys) e none (t, ts) (q, qs) stuck =
    let begins : BeginsWithStep g b (u ∷ f ++ r) = (n, t, (y, q)) in
    stuck (subst (λ l. BeginsWithStep g (board_after b l) rest) (sym none) (subst (BeginsWithStep g b) (sym e) begins))

-- of one list of tokens, the tokens that play until none can are the same
same_ends : (g : GameRules) (b : Board) (f k r o : List (List ℕ)) (ms ns : List Move) (xs ys : List Board) → f ++ r ≡ k ++ o
    → SpellMoves f ms → SpellMoves k ns → Passes g b ms xs → Passes g b ns ys
    → (BeginsWithStep g (board_after b xs) r → ⊥) → (BeginsWithStep g (board_after b ys) o → ⊥)
    → (f ≡ k) × (r ≡ o) × (xs ≡ ys)
same_ends g b [] [] r o ms ns xs ys e s t p q one two =
    (refl, e, no_moves_pass g b ms xs s p ∙ sym (no_moves_pass g b ns ys t q))
same_ends g b [] (v ∷ k) r o ms ns xs ys e s t p q one two =
    absurd (cant_stop g b v k o r ns xs ys e (no_moves_pass g b ms xs s p) t q one)
same_ends g b (u ∷ f) [] r o ms ns xs ys e s t p q one two =
    absurd (cant_stop g b u f r o ms ys xs (sym e) (no_moves_pass g b ns ys t q) s p two)
same_ends g b (u ∷ f) (v ∷ k) r o [] ns xs ys e s t p q one two = absurd s
same_ends g b (u ∷ f) (v ∷ k) r o (m ∷ ms) [] xs ys e s t p q one two = absurd t
same_ends g b (u ∷ f) (v ∷ k) r o (m ∷ ms) (n ∷ ns) [] ys e s t p q one two = absurd p
same_ends g b (u ∷ f) (v ∷ k) r o (m ∷ ms) (n ∷ ns) (x ∷ xs) [] e s t p q one two = absurd q
same_ends g b (u ∷ f) (v ∷ k) r o (m ∷ ms) (n ∷ ns) (x ∷ xs) (y ∷ ys) e (s, ss) (t, ts) (p, ps) (q, qs) one two =
    let head : u ≡ v = cc e in
    let tail : f ++ r ≡ k ++ o = cc e in
    let move : m ≡ n = spelled_once u m n s (subst (λ w. SpellsMove w n) (sym head) t) in
    let board : x ≡ y = step_once g b m x y p (subst (λ w. Step g b w y) (sym move) q) in
    let others =
    same_ends g y f k r o ms ns xs ys tail ss ts (subst (λ z. Passes g z ms xs) board ps) qs
    (subst (λ z. BeginsWithStep g (board_after z xs) r → ⊥) board one) two in (
      ap (λ z. z ∷ f) head ∙ ap (λ zs. v ∷ zs) others.0,
      others.1,
      ap (λ z. z ∷ xs) board ∙ ap (λ zs. y ∷ zs) others.2,
    )

-- what a replay answers, by the tokens that play and those that are left
abbrev Tells : Result ℕ ReplayFault → List (List ℕ) → List (List ℕ) → Type 0
Tells (Ok n) front rest = (n ≡ length front) × (rest ≡ [])
Tells (Err (BadMove step)) front rest =
    (step ≡ length front + 1) × ((token : List ℕ) × (more : List (List ℕ)) × (rest ≡ token ∷ more) × IsNoMove token)
Tells (Err (NotAllowed step)) front rest =
    (step ≡ length front + 1)
    × ((token : List ℕ) × (more : List (List ℕ)) × (rest ≡ token ∷ more) × ((m : Move) × SpellsMove token m))
Tells (Err Write) front rest = ⊥

one_token : (x y : List ℕ) (xs ys rest : List (List ℕ)) → rest ≡ x ∷ xs → rest ≡ y ∷ ys → x ≡ y
one_token x y xs ys rest one two = let both : x ∷ xs ≡ y ∷ ys = sym one ∙ two in cc both

no_token : (x : List ℕ) (xs rest : List (List ℕ)) → rest ≡ [] → rest ≡ x ∷ xs → ⊥
no_token x xs rest one two = let both : [] ≡ x ∷ xs = sym one ∙ two in absurd (cc both)

tells_once : (r s : Result ℕ ReplayFault) (front rest : List (List ℕ)) → Tells r front rest → Tells s front rest → r ≡ s
tells_once (Err Write) s front rest one two = absurd one
tells_once (Ok n) (Err Write) front rest one two = absurd two
tells_once (Err (BadMove n)) (Err Write) front rest one two = absurd two
tells_once (Err (NotAllowed n)) (Err Write) front rest one two = absurd two
tells_once (Ok n) (Ok k) front rest one two = ap (λ (i : ℕ). Ok i) (one.0 ∙ sym two.0)
tells_once (Ok n) (Err (BadMove k)) front rest (one, none) (two, (y, ys, e, bad)) = absurd (no_token y ys rest none e)
tells_once (Ok n) (Err (NotAllowed k)) front rest (one, none) (two, (y, ys, e, spelled)) =
    absurd (no_token y ys rest none e)
tells_once (Err (BadMove n)) (Ok k) front rest (one, (x, xs, d, bad)) (two, none) = absurd (no_token x xs rest none d)
tells_once (Err (BadMove n)) (Err (BadMove k)) front rest one two = ap (λ (i : ℕ). Err (BadMove i)) (one.0 ∙ sym two.0)
tells_once (Err (BadMove n)) (Err (NotAllowed k)) front rest (one, (x, xs, d, bad)) (two, (y, ys, e, (m, spelled))) =
    absurd (bad m (subst (λ w. SpellsMove w m) (sym (one_token x y xs ys rest d e)) spelled))
tells_once (Err (NotAllowed n)) (Ok k) front rest (one, (x, xs, d, spelled)) (two, none) =
    absurd (no_token x xs rest none d)
tells_once (Err (NotAllowed n)) (Err (BadMove k)) front rest (one, (x, xs, d, (m, spelled))) (two, (y, ys, e, bad)) =
    absurd (bad m (subst (λ w. SpellsMove w m) (one_token x y xs ys rest d e) spelled))
tells_once (Err (NotAllowed n)) (Err (NotAllowed k)) front rest one two = ap (λ (i : ℕ). Err (NotAllowed i)) (one.0 ∙ sym two.0)

-- tokens that play until none can, and what a replay answers
record Stopped (g : GameRules) (b : Board) (tokens : List (List ℕ)) (boards : List Board) (r : Result ℕ ReplayFault) : Type 0 where
  pub front : List (List ℕ)
  pub rest : List (List ℕ)
  pub parts : tokens ≡ front ++ rest
  pub played : Plays g b front boards
  pub stuck : BeginsWithStep g (board_after b boards) rest → ⊥
  pub tells : Tells r front rest

ends_stopped : (g : GameRules) (b : Board) (tokens : List (List ℕ)) (boards : List Board) (r : Result ℕ ReplayFault)
    → Ends g b tokens boards r → (r ≡ Err Write → ⊥) → Stopped g b tokens boards r
ends_stopped g b tokens boards (Ok n) ends other = record {
  front = tokens;
  rest = [];
  parts = sym (append-nil tokens);
  played = ends.1;
  stuck = λ none. none;
  tells = (ends.0, refl);
}
ends_stopped g b tokens boards (Err (BadMove step)) ends other = record {
  front = ends.front;
  rest = ends.token ∷ ends.rest;
  parts = ends.parts;
  played = ends.played;
  stuck = λ (m, spelled, allowed). ends.here m spelled;
  tells = (ends.place, (ends.token, ends.rest, refl, ends.here));
}
ends_stopped g b tokens boards (Err (NotAllowed step)) ends other = record {
  front = ends.front;
  rest = ends.token ∷ ends.rest;
  parts = ends.parts;
  played = ends.played;
  stuck = λ (m, spelled, allowed). ends.here.2
      (subst (Allows g (board_after b boards)) (spelled_once ends.token m ends.here.0 spelled ends.here.1) allowed);
  tells = (ends.place, (ends.token, ends.rest, refl, (ends.here.0, ends.here.1)));
}
ends_stopped g b tokens boards (Err Write) ends other = absurd (other refl)

pub tokens_end_in_one_way : TokensEndInOneWay
tokens_end_in_one_way g b tokens xs ys r s one two sound well =
    let here = ends_stopped g b tokens xs r one sound in
    let there = ends_stopped g b tokens ys s two well in
    let same =
    same_ends g b here.front there.front here.rest there.rest here.played.moves there.played.moves xs ys (sym here.parts ∙ there.parts) here.played.spelled there.played.spelled here.played.passed there.played.passed
    here.stuck there.stuck in
    let again : Tells s here.front here.rest =
    subst (λ l. Tells s l here.rest) (sym same.0) (subst (Tells s there.front) (sym same.1) there.tells) in
    (tells_once r s here.front here.rest here.tells again, same.2)
