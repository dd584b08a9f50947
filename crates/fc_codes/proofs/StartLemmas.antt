-- The states of the cards at the start.
use Rattle.std.proofs.Common.{◌≡◌, ℕ, ◌<◌, ◌⊎◌, List, length, ◌∙◌, ⊎_elim, arith}
use Rattle.std.specs.Prelude.{slice_index}
use Rattle.fc_position.specs.Board.{Board, IsHome}
use Rattle.fc_position.specs.Position.{IsPosition}
use Rattle.fc_position.proofs.BoardLemmas.{cell_there}
use Rattle.fc_codes.specs.State.{StandsOn, IsInCell, IsStateOf, unmoved, at_home, in_cell, IsCodeOf}
use Rattle.fc_codes.specs.inner.Landed.{IsCellState, IsHomeState}
use Rattle.fc_codes.proofs.StandLemmas.{where_is, not_in_cell, not_home}

-- a card in a cell or at home
pub placed_aside : (s b : Board) (c old state : ℕ) → IsPosition b → IsCellState b 4 c old → IsHomeState b c old state
    → IsInCell b c ⊎ IsHome b.homes c → IsStateOf s b c state
placed_aside s b c old state p cells homes other =
    ⊎_elim
    (λ (e, home). at_home e home)
    (λ (e, no_home). ⊎_elim
    (λ (two, held). in_cell (e ∙ two) (record { number = held.0; held = held.2 }))
    (λ (zero_, no_cell). absurd (⊎_elim
    (λ (q : IsInCell b c). no_cell q.number (let inside = cell_there b q.number c q.held in omega (arith, inside, p.cells)) q.held)
    no_home other))
    cells)
    homes

-- a card in a column, at the start
started : (s : Board) (c old state : ℕ) (w : List ℕ) → IsPosition s → StandsOn s w c → IsCellState s 4 c old
    → IsHomeState s c old state → IsStateOf s s c state
started s c old state w p at cells homes =
    ⊎_elim
    (λ (e, home). absurd (not_home s w c p at home))
    (λ (e, no_home). ⊎_elim
    (λ (two, held). absurd (not_in_cell s w c p at (record { number = held.0; held = held.2 })))
    (λ (zero_, no_cell). unmoved (e ∙ zero_) (record { below = w; here = at; before = at }))
    cells)
    homes

pub start_code : (s : Board) (before code : List ℕ) → IsPosition s → length code ≡ 52
    → ((c : ℕ) → c < 52 → IsCellState s 4 c (slice_index before c))
    → ((c : ℕ) → c < 52 → IsHomeState s c (slice_index before c) (slice_index code c)) → IsCodeOf s s code
start_code s before code p count cells homes = record {
  count = count;
  states = λ c below. ⊎_elim
      (λ at. started s c (slice_index before c) (slice_index code c) at.0 p at.1 (cells c below) (homes c below))
      (placed_aside s s c (slice_index before c) (slice_index code c) p (cells c below) (homes c below))
      (where_is s c p below);
}
