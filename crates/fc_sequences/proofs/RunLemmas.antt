-- Moves added to a list, in turn.
use Rattle.std.proofs.Common.{Result, Ok, Err, List, [], ◌∷◌, ◌++◌, ◌∙◌, ap, subst, sym}
use Rattle.std.specs.Prelude.{OnOk}
use Rattle.std.proofs.lemmas.List.{append_assoc}
use Rattle.fc_position.specs.Board.{Board}
use Rattle.fc_moves.specs.declared.steps.Move.{Move}
use Rattle.fc_moves.specs.GameRules.{GameRules, IsPositionOf}
use Rattle.fc_moves.specs.Run.{Run}
use Rattle.fc_moves.proofs.StepLemmas.{run_keeps}
use Rattle.fc_sequences.specs.declared.pairs.Pair.{Pair}
use Rattle.fc_sequences.specs.Carry.{AddsRun}
use Rattle.fc_sequences.specs.Following.{Expands}

-- runs are joined
pub run_on : (g : GameRules) (b c d : Board) (ms ns : List Move) → Run g b ms c → Run g c ns d → Run g b (ms ++ ns) d
run_on g b c d [] ns same more = subst (λ x. Run g x ns d) same more
run_on g b c d (m ∷ ms) ns (mid, step, rest) more = (mid, step, run_on g mid c d ms ns rest more)

pub adds_on : (g : GameRules) (b c d : Board) (xs ys zs : List Move) → AddsRun g b xs c ys → AddsRun g c ys d zs → AddsRun g b xs d zs
adds_on g b c d xs ys zs (ms, one, run) (ns, two, more) =
    (ms ++ ns, two ∙ ap (λ l. l ++ ns) one ∙ append_assoc xs ms ns, run_on g b c d ms ns run more)

-- moves that expand entries run
pub expands_run : (g : GameRules) (b c : Board) (pairs : List Pair) (ms : List Move) → Expands g b pairs ms c → Run g b ms c
expands_run g b c [] ms (none, same) = subst (λ l. Run g b l c) (sym none) same
expands_run g b c (pair ∷ pairs) ms (k, mid, front, rest, plays, run, size, parts, more) =
    subst (λ l. Run g b l c) (sym parts) (run_on g b mid c front rest run (expands_run g mid c pairs rest more))

-- what moves run to from a position of the game is one
pub adds_keeps : (g : GameRules) (b c : Board) (xs ys : List Move) → IsPositionOf g b → AddsRun g b xs c ys → IsPositionOf g c
adds_keeps g b c xs ys fits (ms, long, run) = run_keeps g b c ms fits run

-- what is known where a call succeeds gives what is wanted there
pub where_ok : {T E P Q : Type 0} (r : Result T E) → OnOk r P → (P → Q) → OnOk r Q
where_ok (Ok x) p f = f p
where_ok (Err e) p f = p

pub where_both_ok : {T E P Q R : Type 0} (r : Result T E) → OnOk r P → OnOk r Q → (P → Q → R) → OnOk r R
where_both_ok (Ok x) p q f = f p q
where_both_ok (Err e) p q f = p
