-- Moves that are gathered part by part.
use Rattle.std.proofs.Common.{◌≡◌, ℕ, zero, suc, ◌+◌, ◌-◌, ◌<◌, List, [], ◌∷◌, ◌++◌, length, get_or, take, drop, refl, sym, ◌∙◌, ap, subst, append_assoc, arith}
use Rattle.std.specs.Prelude.{All}
use Rattle.std.proofs.lemmas.List.{append_cancel_right, append-nil, take_more, take-append-drop}
use Rattle.fc_position.specs.Board.{Board}
use Rattle.fc_moves.specs.declared.steps.Move.{Move}
use Rattle.fc_moves.specs.GameRules.{GameRules}
use Rattle.fc_moves.specs.Run.{Run}
use Rattle.fc_moves.specs.Step.{Allows}
use Rattle.fc_moves.proofs.StepLemmas.{run_once}
use Rattle.fc_sequences.specs.declared.gathers.GatherFault.TheVariants.{NotAllowed}
use Rattle.fc_sequences.specs.declared.pairs.Pair.{Pair}
use Rattle.fc_sequences.specs.Gathering.{Gathers, IsGathered, IsGatherFault, IsLongest}
use Rattle.fc_sequences.specs.Pair.{HasPairText}
use Rattle.fc_sequences.specs.inner.Part.{GathersDownTo}
use Rattle.fc_sequences.proofs.RunLemmas.{run_on}

-- one more part is gathered
pub gathers_push : (g : GameRules) (b m c : Board) (ps new : List Pair) (ms left part rest : List Move) (p : Pair) (k : ℕ)
    → GathersDownTo g b ps ms left m → IsGathered g m part p k c → IsLongest g m left part rest → new ≡ ps ++ p ∷ []
    → GathersDownTo g b new ms rest c
gathers_push g b m c [] new ms left part rest p k (same, end) more longest pushed =
    subst (λ l. GathersDownTo g b l ms rest c) (sym pushed) (
      k,
      c,
      part,
      rest,
      subst (λ x. IsGathered g x part p k c) end more,
      subst (λ l. IsLongest g b l part rest) (sym same) (subst (λ x. IsLongest g x left part rest) end longest),
      (refl, refl),
    )
gathers_push g b m c (q ∷ ps) new ms left part rest p k (n, mid, front, others, first, parts, later) more longest pushed =
    subst (λ l. GathersDownTo g b l ms rest c) (sym pushed) (
      n,
      mid,
      front,
      others,
      first,
      parts,
      gathers_push g mid m c ps (ps ++ p ∷ []) others left part rest p k later more longest refl,
    )

-- until none are left
pub gathers_end : (g : GameRules) (b c : Board) (ps : List Pair) (ms left : List Move) → GathersDownTo g b ps ms left c → left ≡ []
    → Gathers g b ps ms c
gathers_end g b c [] ms left (same, end) none = (same ∙ none, end)
gathers_end g b c (p ∷ ps) ms left (k, mid, part, rest, first, parts, later) none =
    (k, mid, part, rest, first, parts, gathers_end g mid c ps rest left later none)

pub gathers_all : (g : GameRules) (b c : Board) (ps : List Pair) (ms : List Move) → Gathers g b ps ms c → GathersDownTo g b ps ms [] c
gathers_all g b c [] ms (none, end) = (none, end)
gathers_all g b c (p ∷ ps) ms (k, mid, part, rest, first, parts, later) = (k, mid, part, rest, first, parts, gathers_all g mid c ps rest later)

-- what is gathered runs
gathers_front : (g : GameRules) (b c : Board) (ps : List Pair) (ms left : List Move) → GathersDownTo g b ps ms left c
    → (front : List Move) × (ms ≡ front ++ left) × Run g b front c
gathers_front g b c [] ms left (same, end) = ([], same, end)
gathers_front g b c (p ∷ ps) ms left (k, mid, part, rest, first, parts, later) =
    let next = gathers_front g mid c ps rest left later in (
      part ++ next.0,
      parts.parts ∙ ap (λ l. part ++ l) next.1 ∙ sym (append_assoc part next.0 left),
      run_on g b mid c part next.0 first.run next.2,
    )

pub gathers_before : (g : GameRules) (b c : Board) (ps : List Pair) (ms : List Move) (at : ℕ) → GathersDownTo g b ps ms (drop at ms) c
    → Run g b (take at ms) c
gathers_before g b c ps ms at gathers =
    let front = gathers_front g b c ps ms (drop at ms) gathers in
    subst (λ l. Run g b l c) (append_cancel_right front.0 (take at ms) (drop at ms) (sym front.1 ∙ sym (take-append-drop at ms))) front.2

pub gathers_run : (g : GameRules) (b c : Board) (ps : List Pair) (ms : List Move) → Gathers g b ps ms c → Run g b ms c
gathers_run g b c ps ms gathers =
    let front = gathers_front g b c ps ms [] (gathers_all g b c ps ms gathers) in
    subst (λ l. Run g b l c) (sym (front.1 ∙ append-nil front.0)) front.2

-- each entry has a text
pub gathered_texts : (g : GameRules) (b c : Board) (ps : List Pair) (ms left : List Move) → GathersDownTo g b ps ms left c → All HasPairText ps
gathered_texts g b c [] ms left gathers i d within = absurd (omega arith)
gathered_texts g b c (p ∷ ps) ms left (k, mid, part, rest, first, parts, later) zero d within = first.text
gathered_texts g b c (p ∷ ps) ms left (k, mid, part, rest, first, parts, later) (suc i) d within =
    gathered_texts g mid c ps rest left later i d (omega arith)

-- a run parts where its list does
pub run_parts : (g : GameRules) (b c : Board) (ms ns : List Move) → Run g b (ms ++ ns) c → (mid : Board) × Run g b ms mid × Run g mid ns c
run_parts g b c [] ns run = (b, refl, run)
run_parts g b c (m ∷ ms) ns (next, step, run) =
    let later = run_parts g next c ms ns run in
    (later.0, (next, step, later.1), later.2)

-- no run goes past a move that isn't allowed after those before it
pub stopped_at : (g : GameRules) (b mid c : Board) (ms : List Move) (d : Move) (at : ℕ) → Run g b (take at ms) mid → at < length ms
    → (Allows g mid (get_or ms at d) → ⊥) → Run g b (take (at + 1) ms) c → ⊥
stopped_at g b mid c ms d at run within refused whole =
    let parts = run_parts g b c (take at ms) (get_or ms at d ∷ []) (subst (λ l. Run g b l c) (take_more ms at d within) whole) in
    let same : parts.0 ≡ mid = run_once g b parts.0 mid (take at ms) parts.1 run in
    refused (subst (λ x. Allows g x (get_or ms at d)) same (parts.2.0, parts.2.1))

pub refused_at : (g : GameRules) (b mid : Board) (ms : List Move) (d : Move) (at : ℕ) → Run g b (take at ms) mid → at < length ms
    → (Allows g mid (get_or ms at d) → ⊥) → IsGatherFault g b ms (NotAllowed (at + 1))
refused_at g b mid ms d at run within refused =
    let before : at ≡ at + 1 - 1 = omega arith in (
      omega arith,
      omega arith,
      λ c whole. stopped_at g b mid c ms d at run within refused whole,
      (mid, subst (λ n. Run g b (take n ms) mid) before run),
    )
