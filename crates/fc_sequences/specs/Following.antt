-- Lists of entries that are played one by one, and the one-card moves that do it.
use Rattle.std.specs.Prelude.{◌≡◌, ◌≢◌, ℕ, ◌-◌, ◌<◌, ◌≤◌, List, [], ◌∷◌, ◌++◌, length, take, All, AllPairs}
use Rattle.fc_position.specs.Board.{Board}
use Rattle.fc_moves.specs.declared.steps.Move.{Move}
use Rattle.fc_moves.specs.GameRules.{GameRules}
use Rattle.fc_moves.specs.Run.{Run}
use Rattle.fc_sequences.specs.declared.list_expansions.ListFault.{ListFault}
use Rattle.fc_sequences.specs.declared.list_expansions.ListFault.TheVariants.{Refused, TooMany, Memory}
use Rattle.fc_sequences.specs.declared.list_expansions.TheConstants.{MOST_BOARDS}
use Rattle.fc_sequences.specs.declared.pairs.Pair.{Pair}
use Rattle.fc_sequences.specs.Pair.{PlaysBy, PlaysPair, moves_for}

-- the entries are played one by one, each with some number of cards, from the one board to the other
abbrev pub Follows : GameRules → Board → List Pair → Board → Type 0
Follows g b [] c = c ≡ b
Follows g b (p ∷ ps) c = (mid : Board) × PlaysPair g b p mid × Follows g mid ps c

-- the moves expand the entries: for each entry in turn they are one-card moves that the rules allow, to the board on which
-- just its cards were moved, and as many as those take
abbrev pub Expands : GameRules → Board → List Pair → List Move → Board → Type 0
Expands g b [] ms c = (ms ≡ []) × (c ≡ b)
Expands g b (p ∷ ps) ms c = (k : ℕ) × (mid : Board) × (front : List Move) × (rest : List Move)
    × PlaysBy g b p k mid × Run g b front mid × (length front ≡ moves_for g b p.from p.to k) × (ms ≡ front ++ rest)
    × Expands g mid ps rest c

-- the entries lead to more boards than are kept, no two of them the same
abbrev pub LeadsToMany : GameRules → Board → List Pair → Type 0
LeadsToMany g b ps = (boards : List Board) × (MOST_BOARDS < length boards) × AllPairs (λ x y. x ≢ y) boards × All (Follows g b ps) boards

-- at no step before this one, which counts from 1, do the entries up to it lead to too many boards
abbrev pub LeadToFewBefore : GameRules → Board → List Pair → ℕ → Type 0
LeadToFewBefore g b ps step = (earlier : ℕ) → earlier < step → LeadsToMany g b (take earlier ps) → ⊥

-- why a list isn't expanded, at the first step where there is a cause: with no numbers of cards the entries up to it are played,
-- though those before it are with some; or the entries up to it lead to too many boards; or memory was wanted
abbrev pub IsListFault : GameRules → Board → List Pair → ListFault → Type 0
IsListFault g b ps (Refused step) = (1 ≤ step) × (step ≤ length ps) × ((c : Board) → Follows g b (take step ps) c → ⊥)
    × ((c : Board) × Follows g b (take (step - 1) ps) c) × LeadToFewBefore g b ps step
IsListFault g b ps (TooMany step) = (1 ≤ step) × (step ≤ length ps) × LeadsToMany g b (take step ps) × LeadToFewBefore g b ps step
IsListFault g b ps Memory = Unit {0}
