-- Boards of one class: what they share, and that they step and win alike.
use Rattle.std.proofs.Common.{◌≡◌, ◌≢◌, ℕ, ◌<◌, ◌≤◌, Some, None, List, [], ◌∷◌, ◌++◌, length, set, refl, sym, ◌∙◌, ap, subst, arith}
use Rattle.std.specs.Prelude.{swap}
use Rattle.std.specs.List.Sorted.{IsPermutation}
use Rattle.std.proofs.lemmas.List.{get_or-set_other, length-set}
use Rattle.std.proofs.lemmas.List.Sorted.{IsPermutation-refl, IsPermutation-swap, IsPermutation-sym, IsPermutation-trans}
use Rattle.fc_cards.specs.declared.places.Place.{Place}
use Rattle.fc_cards.specs.declared.places.Place.TheVariants.{Column, Cell, Home}
use Rattle.fc_cards.specs.Card.{rank, suit}
use Rattle.fc_position.specs.Board.{Board, column, cell, playable, board_without, board_with, last_of, front_of, IsNext}
use Rattle.fc_position.specs.Position.{IsPosition}
use Rattle.fc_position.proofs.BoardLemmas.{position-rearranged, column_there, cell_there}
use Rattle.fc_moves.specs.declared.steps.Move.{Move}
use Rattle.fc_moves.specs.GameRules.{GameRules, IsPositionOf}
use Rattle.fc_moves.specs.Run.{Wins, WinsIn}
use Rattle.fc_moves.specs.Step.{Joins, Takes, MayLand}
use Rattle.fc_moves.proofs.StepLemmas.{step_keeps}
use Rattle.fc_moves.specs.Class.{SameClass}
use Rattle.fc_moves.specs.Laws.{ClassesAreEquivalences, ClassMatesArePositions, ClassMatesStepAlike, ClassMatesWinAlike}
use Rattle.fc_moves.proofs.Rearrange.{renaming, IsPermutation-set, empty_of_rearranged}

-- a board is of its own class; to be of one class may be turned round and joined
pub class-refl : (b : Board) → SameClass b b
class-refl b = record { columns = IsPermutation-refl b.columns; cells = IsPermutation-refl b.cells; homes = refl }

pub class-sym : (b c : Board) → SameClass b c → SameClass c b
class-sym b c s = record {
  columns = IsPermutation-sym b.columns c.columns s.columns;
  cells = IsPermutation-sym b.cells c.cells s.cells;
  homes = sym s.homes;
}

pub class-trans : (b c d : Board) → SameClass b c → SameClass c d → SameClass b d
class-trans b c d s t = record {
  columns = IsPermutation-trans b.columns c.columns d.columns s.columns t.columns;
  cells = IsPermutation-trans b.cells c.cells d.cells s.cells t.cells;
  homes = s.homes ∙ t.homes;
}

pub class_equivalence : ClassesAreEquivalences
class_equivalence = (class-refl, class-sym, class-trans)

-- a board of a position's class is a position
pub class_positions : ClassMatesArePositions
class_positions b c p s =
    subst (λ h. IsPosition (record { columns = c.columns; cells = c.cells; homes = h })) s.homes
    (position-rearranged b c.columns c.cells p s.columns s.cells)

-- the places are there, and hold the same
abbrev pub Alike : Board → Board → Place → Place → Type 0
Alike b c (Column i) (Column k) = (i < length b.columns) × (k < length c.columns) × (column b i ≡ column c k)
Alike b c (Cell i) (Cell k) = (i < length b.cells) × (k < length c.cells) × (cell b i ≡ cell c k)
Alike b c Home Home = Unit {0}
Alike b c (Column i) (Cell k) = ⊥
Alike b c (Column i) Home = ⊥
Alike b c (Cell i) (Column k) = ⊥
Alike b c (Cell i) Home = ⊥
Alike b c Home (Column k) = ⊥
Alike b c Home (Cell k) = ⊥

-- lifting the cards of places that are alike keeps the class
pub class-lifted : (b c : Board) (from to : Place) → SameClass b c → Alike b c from to → SameClass (board_without b from) (board_without c to)
class-lifted b c (Column i) (Column k) s a = record {
  columns = IsPermutation-set b.columns c.columns i k [] (front_of (column b i)) (front_of (column c k)) s.columns a.0 a.1 a.2
      (ap front_of a.2);
  cells = s.cells;
  homes = s.homes;
}
class-lifted b c (Cell i) (Cell k) s a = record {
  columns = s.columns;
  cells = IsPermutation-set b.cells c.cells i k None None None s.cells a.0 a.1 a.2 refl;
  homes = s.homes;
}
class-lifted b c Home Home s a = s
class-lifted b c (Column i) (Cell k) s a = absurd a
class-lifted b c (Column i) Home s a = absurd a
class-lifted b c (Cell i) (Column k) s a = absurd a
class-lifted b c (Cell i) Home s a = absurd a
class-lifted b c Home (Column k) s a = absurd a
class-lifted b c Home (Cell k) s a = absurd a

-- placing a card at places that are alike keeps the class
pub class-placed : (b c : Board) (u : ℕ) (from to : Place) → SameClass b c → Alike b c from to
    → SameClass (board_with b u from) (board_with c u to)
class-placed b c u (Column i) (Column k) s a = record {
  columns = IsPermutation-set b.columns c.columns i k [] (column b i ++ u ∷ []) (column c k ++ u ∷ []) s.columns a.0 a.1 a.2
      (ap (λ l. l ++ u ∷ []) a.2);
  cells = s.cells;
  homes = s.homes;
}
class-placed b c u (Cell i) (Cell k) s a = record {
  columns = s.columns;
  cells = IsPermutation-set b.cells c.cells i k None (Some u) (Some u) s.cells a.0 a.1 a.2 refl;
  homes = s.homes;
}
class-placed b c u Home Home s a = record {
  columns = s.columns;
  cells = s.cells;
  homes = ap (λ h. set h (suit u) (rank u)) s.homes;
}
class-placed b c u (Column i) (Cell k) s a = absurd a
class-placed b c u (Column i) Home s a = absurd a
class-placed b c u (Cell i) (Column k) s a = absurd a
class-placed b c u (Cell i) Home s a = absurd a
class-placed b c u Home (Column k) s a = absurd a
class-placed b c u Home (Cell k) s a = absurd a

-- a move of a card in the one board has a mate in the other
record Mate (g : GameRules) (b c : Board) (from : Place) (u : ℕ) (to : Place) : Type 0 where
  source : Place
  target : Place
  there : playable c source ≡ Some u
  joins : Joins source target
  takes : Takes g c u target
  alike_from : Alike b c from source
  alike_to : Alike (board_without b from) (board_without c source) to target

-- the cell that is the same in the other board
cell_mate : (b c : Board) (i u : ℕ) → SameClass b c → cell b i ≡ Some u
    → (k : ℕ) × (cell c k ≡ Some u) × Alike b c (Cell i) (Cell k)
cell_mate b c i u s there =
    let r = renaming b.cells c.cells s.cells in
    let inside = cell_there b i u there in
    (r.to i, r.reads i None ∙ there, (inside, omega (arith, r.long, r.below i inside), sym (r.reads i None)))

mate : (g : GameRules) (b c : Board) (from : Place) (u : ℕ) (to : Place) → IsPositionOf g b → SameClass b c
    → playable b from ≡ Some u → Joins from to → Takes g b u to → Mate g b c from u to
mate g b c (Column i) u (Column j) p s there joins takes =
    let r = renaming b.columns c.columns s.columns in
    let inside = column_there b i u there in
    let same_i : column c (r.to i) ≡ column b i = r.reads i [] in
    let same_j : column c (r.to j) ≡ column b j = r.reads j [] in
    let apart : r.to j ≢ r.to i = λ e. joins (r.once j i e) in
    let within : r.to j < length c.columns = omega (arith, r.long, r.below j takes.0) in
    record {
      source = Column (r.to i);
      target = Column (r.to j);
      there = ap last_of same_i ∙ there;
      joins = apart;
      takes = (within, subst (λ l. MayLand g l u) (sym same_j) takes.1);
      alike_from = (inside, omega (arith, r.long, r.below i inside), sym same_i);
      alike_to = (
        rw length-set takes.0,
        rw length-set within,
        get_or-set_other b.columns i j (front_of (column b i)) [] joins ∙ sym same_j
            ∙ sym (get_or-set_other c.columns (r.to i) (r.to j) (front_of (column c (r.to i))) [] apart),
      );
    }
mate g b c (Column i) u (Cell j) p s there joins takes =
    let r = renaming b.columns c.columns s.columns in
    let inside = column_there b i u there in
    let same_i : column c (r.to i) ≡ column b i = r.reads i [] in
    let e = empty_of_rearranged g.cells b.cells c.cells j s.cells p.fits takes.0 takes.1 takes.2 in
    record {
      source = Column (r.to i);
      target = Cell e.0;
      there = ap last_of same_i ∙ there;
      joins = tt;
      takes = (e.1, e.2, e.3);
      alike_from = (inside, omega (arith, r.long, r.below i inside), sym same_i);
      alike_to = (takes.1, e.2, takes.2 ∙ sym e.3);
    }
mate g b c (Column i) u Home p s there joins takes =
    let r = renaming b.columns c.columns s.columns in
    let inside = column_there b i u there in
    let same_i : column c (r.to i) ≡ column b i = r.reads i [] in
    record {
      source = Column (r.to i);
      target = Home;
      there = ap last_of same_i ∙ there;
      joins = tt;
      takes = subst (λ h. IsNext h u) s.homes takes;
      alike_from = (inside, omega (arith, r.long, r.below i inside), sym same_i);
      alike_to = tt;
    }
mate g b c (Cell i) u (Column j) p s there joins takes =
    let k = cell_mate b c i u s there in
    let r = renaming b.columns c.columns s.columns in
    let same_j : column c (r.to j) ≡ column b j = r.reads j [] in
    let within : r.to j < length c.columns = omega (arith, r.long, r.below j takes.0) in
    record {
      source = Cell k.0;
      target = Column (r.to j);
      there = k.1;
      joins = tt;
      takes = (within, subst (λ l. MayLand g l u) (sym same_j) takes.1);
      alike_from = k.2;
      alike_to = (takes.0, within, sym same_j);
    }
mate g b c (Cell i) u (Cell j) p s there joins takes = absurd joins
mate g b c (Cell i) u Home p s there joins takes =
    let k = cell_mate b c i u s there in
    record {
      source = Cell k.0;
      target = Home;
      there = k.1;
      joins = tt;
      takes = subst (λ h. IsNext h u) s.homes takes;
      alike_from = k.2;
      alike_to = tt;
    }
mate g b c Home u to p s there joins takes = absurd (cc there)

-- class-mates of the game step alike
pub class_step : ClassMatesStepAlike
class_step g b c x m p q s step =
    let n = mate g b c m.from step.card m.to p s step.playable step.joins step.takes in
    let after = class-placed (board_without b m.from) (board_without c n.source) step.card m.to n.target
    (class-lifted b c m.from n.source s n.alike_from) n.alike_to in
    let move : Move = record { from = n.source; to = n.target } in (
      move,
      board_with (board_without c n.source) step.card n.target,
      record { card = step.card; playable = n.there; joins = n.joins; takes = n.takes; after = refl },
      rw step.after after,
    )

-- a list that wins from a board has one as long that wins from its class-mate
win_mate : (g : GameRules) (b c : Board) (ms : List Move) → IsPositionOf g b → IsPositionOf g c → SameClass b c
    → Wins g b ms → WinsIn g c (length ms)
win_mate g b c [] p q s (end, run, won) = ([], refl, (c, refl, sym s.homes ∙ ap (λ x. x.homes) (sym run) ∙ won))
win_mate g b c (m ∷ ms) p q s (end, (mid, step, rest), won) =
    let n = class_step g b c mid m p q s step in
    let later = win_mate g mid n.1 ms (step_keeps g b mid m p step) (step_keeps g c n.1 n.0 q n.2) n.3 (end, rest, won) in
    let here : length (n.0 ∷ later.0) ≡ length (m ∷ ms) = omega (arith, later.1) in
    (n.0 ∷ later.0, here, (later.2.0, (n.1, n.2, later.2.1), later.2.2))

-- class-mates of the game win alike
pub class_win : ClassMatesWinAlike
class_win g b c count p q s = (
  λ (ms, long, wins). subst (WinsIn g c) long (win_mate g b c ms p q s wins),
  λ (ms, long, wins). subst (WinsIn g b) long (win_mate g c b ms q p (class-sym b c s) wins),
)

-- exchanging two columns, or two cells, keeps the class
pub class-swapped_columns : (b c : Board) (i j : ℕ) → i ≤ j → j < length b.columns
    → c ≡ record b { columns = swap b.columns i j } → SameClass b c
class-swapped_columns b c i j le inside e = record {
  columns = IsPermutation-swap b.columns c.columns i j (omega arith) inside (ap (λ x. x.columns) e);
  cells = subst (IsPermutation b.cells) (sym (ap (λ x. x.cells) e)) (IsPermutation-refl b.cells);
  homes = sym (ap (λ x. x.homes) e);
}

pub class-swapped_cells : (b c : Board) (i j : ℕ) → i ≤ j → j < length b.cells
    → c ≡ record b { cells = swap b.cells i j } → SameClass b c
class-swapped_cells b c i j le inside e = record {
  columns = subst (IsPermutation b.columns) (sym (ap (λ x. x.columns) e)) (IsPermutation-refl b.columns);
  cells = IsPermutation-swap b.cells c.cells i j (omega arith) inside (ap (λ x. x.cells) e);
  homes = sym (ap (λ x. x.homes) e);
}
