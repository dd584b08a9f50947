-- Boards of one class have the same codes.
use Rattle.std.proofs.Common.{◌≡◌, ℕ, ◌<◌, None, List, [], length, get_or, ◌∙◌, subst}
use Rattle.std.specs.Prelude.{slice_index}
use Rattle.std.specs.List.Sorted.{IsPermutation}
use Rattle.std.proofs.lemmas.List.{get_or_default}
use Rattle.std.proofs.lemmas.List.Elements.{Contains-get_or}
use Rattle.std.proofs.lemmas.List.Sorted.{Contains-permutation}
use Rattle.fc_position.specs.Board.{Board, IsHome}
use Rattle.fc_position.proofs.BoardLemmas.{cell_there}
use Rattle.fc_moves.specs.Class.{SameClass}
use Rattle.fc_moves.proofs.ClassLemmas.{class-sym}
use Rattle.fc_codes.specs.State.{StandsOn, IsInCell, IsCodeOf}
use Rattle.fc_codes.proofs.StandLemmas.{column_inside}
use Rattle.fc_codes.proofs.StateLemmas.{Keeps, state_kept}

-- an element of a list stands somewhere in each rearrangement of it
found_again : {X : Type 0} (xs ys : List X) (i : ℕ) (d : X) → IsPermutation xs ys → i < length xs
    → (k : ℕ) × (k < length ys) × (get_or ys k d ≡ get_or xs i d)
found_again xs ys i d p inside =
    let there = Contains-permutation xs ys (get_or xs i d) p (Contains-get_or xs i d inside) in
    (there.0, there.1, get_or_default ys there.0 d (get_or xs i d) there.1 ∙ there.2)

class_stands : (b c : Board) (w : List ℕ) (x : ℕ) → SameClass b c → StandsOn b w x → StandsOn c w x
class_stands b c w x s p =
    let found = found_again b.columns c.columns p.number [] s.columns (column_inside b w x p) in
    record { number = found.0; above = p.above; cards = found.2 ∙ p.cards }

class_cells : (b c : Board) (x : ℕ) → SameClass b c → IsInCell b x → IsInCell c x
class_cells b c x s q =
    let found = found_again b.cells c.cells q.number None s.cells (cell_there b q.number x q.held) in
    record { number = found.0; held = found.2 ∙ q.held }

class_keeps : (b c : Board) (x : ℕ) → SameClass b c → Keeps b c x
class_keeps b c x s = record {
  stands = λ w. class_stands b c w x s;
  back = λ w. class_stands c b w x (class-sym b c s);
  cells = class_cells b c x s;
  homes = subst (λ h. IsHome h x) s.homes;
}

pub class_code : (s b c : Board) (code : List ℕ) → SameClass b c → IsCodeOf s b code → IsCodeOf s c code
class_code s b c code same k = record {
  count = k.count;
  states = λ x below. state_kept s b c x (slice_index code x) (class_keeps b c x same) (k.states x below);
}
