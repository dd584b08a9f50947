-- What the laws of codes state.
use Rattle.std.proofs.Common.{◌≡◌, ℕ, ◌<◌, List, map, refl, sym, ◌∙◌, subst, ⊎_elim, arith}
use Rattle.std.specs.List.{range_with_len}
use Rattle.std.proofs.lemmas.List.FromFn.{get_or-map-range_with_len, length-map-range_with_len}
use Rattle.std.proofs.lemmas.Bool.{cases_lt}
use Rattle.fc_position.specs.Board.{Board}
use Rattle.fc_position.specs.Position.{IsPosition}
use Rattle.fc_moves.specs.Class.{SameClass}
use Rattle.fc_moves.proofs.ClassLemmas.{class_positions, class-sym, class-trans}
use Rattle.fc_canonical.specs.Order.{IsCanonical}
use Rattle.fc_canonical.proofs.SortLemmas.{has_key}
use Rattle.fc_canonical.proofs.FitLemmas.{canonical_fits}
use Rattle.fc_codes.specs.State.{IsStateOf, unmoved, at_home, in_cell, IsCodeOf}
use Rattle.fc_codes.specs.Spelled.{board_of_code}
use Rattle.fc_codes.specs.Laws.{StartsHaveCodes, CodesTellClasses, CodesSpellBoards, CodesSpellBoardsOfGames}
use Rattle.fc_codes.proofs.StandLemmas.{where_is}
use Rattle.fc_codes.proofs.StateLemmas.{code_once}
use Rattle.fc_codes.proofs.ClassLemmas.{class_code}
use Rattle.fc_codes.proofs.SpelledLemmas.{spelled_is}

-- the canonical board of a position's class is what the position's code spells
pub record IsSpelled (s b : Board) (code : List ℕ) : Type 0 where
  pub class : SameClass b (board_of_code s code)
  pub ordered : IsCanonical (board_of_code s code)
  pub position : IsPosition (board_of_code s code)
  pub coded : IsCodeOf s (board_of_code s code) code

pub is_spelled : (s b : Board) (code : List ℕ) → IsPosition s → IsPosition b → IsCodeOf s b code → IsSpelled s b code
is_spelled s b code ps pb k =
    let key = has_key b in
    let c = key.1.canonical in
    let class = key.1.class in
    let position = class_positions b c pb class in
    let coded = class_code s b c code class k in
    let same = spelled_is s c code ps position coded key.1.ordered in
    record {
      class = subst (SameClass b) same class;
      ordered = subst IsCanonical same key.1.ordered;
      position = subst IsPosition same position;
      coded = subst (λ x. IsCodeOf s x code) same coded;
    }

pub codes_spell : CodesSpellBoards
codes_spell s b code ps pb k = let x = is_spelled s b code ps pb k in (x.class, x.ordered, x.position, x.coded)

pub codes_spell_game : CodesSpellBoardsOfGames
codes_spell_game g s b code ps pb k =
    let x = is_spelled s b code ps pb.position k in canonical_fits g b (board_of_code s code) pb x.class x.ordered

-- so codes tell classes
pub codes_tell : CodesTellClasses
codes_tell s b c k l ps pb pc x y = (
  λ same.
      let one = (is_spelled s b k ps pb x).class in
      let two = (is_spelled s c k ps pc (subst (IsCodeOf s c) (sym same) y)).class in
      class-trans b (board_of_code s k) c one (class-sym c (board_of_code s k) two),
  λ class. code_once s c k l pc (class_code s b c k class x) y,
)

-- the state of each card at the start
pub start_state : (s : Board) (c : ℕ) → IsPosition s → c < 52 → (n : ℕ) × IsStateOf s s c n
start_state s c p below =
    ⊎_elim (λ at. (0, unmoved refl (record { below = at.0; here = at.1; before = at.1 })))
    (λ other. ⊎_elim (λ q. (2, in_cell refl q)) (λ h. (1, at_home refl h)) other)
    (where_is s c p below)

any_state : (s : Board) (c : ℕ) → IsPosition s → (n : ℕ) × (c < 52 → IsStateOf s s c n)
any_state s c p =
    ⊎_elim (λ lt. let x = start_state s c p lt in (x.0, λ _. x.1)) (λ le. (0, λ lt. absurd (omega (arith, le, lt)))) (cases_lt c 52)

start_states : (s : Board) (n : ℕ) (p : IsPosition s) → n ≡ 52
    → IsCodeOf s s (map (λ c. (any_state s c p).0) (range_with_len 0 n))
start_states s n p e = record {
  count = length-map-range_with_len (λ c. (any_state s c p).0) 0 n ∙ e;
  states = λ c below. subst (IsStateOf s s c)
      (sym (get_or-map-range_with_len (λ c. (any_state s c p).0) 0 n c c 0 (omega (arith, e, below)) (omega arith)))
      ((any_state s c p).1 below);
}

pub starts : StartsHaveCodes
starts s p = (map (λ c. (any_state s c p).0) (range_with_len 0 52), start_states s 52 p refl)
