-- What entries to which moves are gathered lead to, and that they are expanded.
use Rattle.std.proofs.Common.{◌≡◌, ℕ, zero, suc, List, [], ◌∷◌, length, get_or, take, refl, sym, ◌∙◌, ap, subst, arith}
use Rattle.std.proofs.lemmas.List.{length-append}
use Rattle.fc_position.specs.Board.{Board}
use Rattle.fc_moves.specs.declared.steps.Move.{Move}
use Rattle.fc_moves.specs.GameRules.{GameRules}
use Rattle.fc_sequences.specs.declared.list_expansions.ListFault.TheVariants.{Refused, TooMany, Memory}
use Rattle.fc_sequences.specs.declared.pairs.Pair.{Pair}
use Rattle.fc_sequences.specs.Following.{Expands, Follows, LeadsToMany}
use Rattle.fc_sequences.specs.Laws.{GatheredLeadToOneBoard, GatheredExpandToNoMore, GatheredExpandAlways}
use Rattle.fc_sequences.specs.Pair.{moves_for}
use Rattle.fc_sequences.specs.inner.Part.{GathersDownTo}
use Rattle.fc_sequences.proofs.EntryLemmas.{played_alike}
use Rattle.fc_sequences.proofs.GatherLemmas.{gathers_all, gathers_run}

-- the entries lead to the end
gathered_follow : (g : GameRules) (b c : Board) (ps : List Pair) (ms left : List Move) → GathersDownTo g b ps ms left c → Follows g b ps c
gathered_follow g b c [] ms left (same, end) = end
gathered_follow g b c (p ∷ ps) ms left (k, mid, part, rest, first, parts, later) =
    (mid, (k, first.plays), gathered_follow g mid c ps rest left later)

-- and nowhere else
gathered_once : (g : GameRules) (b c d : Board) (ps : List Pair) (ms left : List Move) → GathersDownTo g b ps ms left c → Follows g b ps d → d ≡ c
gathered_once g b c d [] ms left (same, end) follows = follows ∙ sym end
gathered_once g b c d (p ∷ ps) ms left (k, mid, part, rest, first, parts, later) (other, (n, plays), follows) =
    let alike = played_alike g b mid other p k n first.told first.plays plays in
    gathered_once g mid c d ps rest left later (subst (λ x. Follows g x ps d) alike.1 follows)

pub gathered_board : GatheredLeadToOneBoard
gathered_board g b c ps ms gathers =
    let all = gathers_all g b c ps ms gathers in
    (gathers_run g b c ps ms gathers, gathered_follow g b c ps ms [] all, λ d follows. gathered_once g b c d ps ms [] all follows)

-- to expand them takes no more moves
pub gathered_expand : GatheredExpandToNoMore
gathered_expand g b c d [] ms ns (none, same) (empty, end) = (end ∙ sym same, omega (arith, ap length empty))
gathered_expand g b c d (p ∷ ps) ms ns (k, mid, part, rest, first, parts, later) (n, other, front, back, plays, run, size, halves, more) =
    let alike = played_alike g b mid other p k n first.told first.plays plays in
    let next = gathered_expand g mid c d ps rest back later (subst (λ x. Expands g x ps back d) alike.1 more) in
    let few : length front ≡ moves_for g b p.from p.to k = size ∙ ap (moves_for g b p.from p.to) alike.0 in
    (next.0, omega (arith, next.1, few, first.within, ap length parts.parts, ap length halves, length-append part rest, length-append front back))

-- the first entries are gathered from the first moves
gathered_front : (g : GameRules) (b c : Board) (ps : List Pair) (ms left : List Move) (n : ℕ) → GathersDownTo g b ps ms left c
    → (d : Board) × (others : List Move) × GathersDownTo g b (take n ps) ms others d
gathered_front g b c ps ms left zero gathers = (b, ms, (refl, refl))
gathered_front g b c [] ms left (suc n) gathers = (b, ms, (refl, refl))
gathered_front g b c (p ∷ ps) ms left (suc n) (k, mid, part, rest, first, parts, later) =
    let next = gathered_front g mid c ps rest left n later in
    (next.0, next.1, (k, mid, part, rest, first, parts, next.2))

-- they don't lead to two boards
one_alone : (g : GameRules) (b c : Board) (ps : List Pair) (ms left : List Move) → GathersDownTo g b ps ms left c → LeadsToMany g b ps → ⊥
one_alone g b c ps ms left gathers (boards, many, once, led) =
    let one = gathered_once g b c (get_or boards 0 b) ps ms left gathers (led 0 b (omega (arith, many))) in
    let other = gathered_once g b c (get_or boards 1 b) ps ms left gathers (led 1 b (omega (arith, many))) in
    once 0 1 b (omega arith) (omega (arith, many)) (one ∙ sym other)

-- so they are expanded
pub gathered_always : GatheredExpandAlways
gathered_always g b c ps ms (Refused step) gathers (low, high, refused, before, few) =
    let front = gathered_front g b c ps ms [] step (gathers_all g b c ps ms gathers) in
    absurd (refused front.0 (gathered_follow g b front.0 (take step ps) ms front.1 front.2))
gathered_always g b c ps ms (TooMany step) gathers (low, high, many, few) =
    let front = gathered_front g b c ps ms [] step (gathers_all g b c ps ms gathers) in
    absurd (one_alone g b front.0 (take step ps) ms front.1 front.2 many)
gathered_always g b c ps ms Memory gathers fault = refl
