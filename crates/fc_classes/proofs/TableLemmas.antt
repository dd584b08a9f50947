-- Tables of names are tables of boards, and what closes the one closes the other.
use Rattle.std.proofs.Common.{◌≡◌, ℕ, zero, suc, ◌+◌, ◌<◌, List, [], ◌∷◌, refl, sym, ◌∙◌, ap, subst, inl, inr, ⊎_elim, arith}
use Rattle.std.specs.Prelude.{Contains}
use Rattle.std.proofs.lemmas.List.Elements.{Contains-append_right}
use Rattle.fc_position.specs.Board.{Board}
use Rattle.fc_moves.specs.GameRules.{GameRules, IsPositionOf}
use Rattle.fc_moves.proofs.StepLemmas.{step_keeps}
use Rattle.fc_moves.specs.Class.{SameClass}
use Rattle.fc_moves.proofs.ClassLemmas.{class-refl, class-sym}
use Rattle.fc_home.specs.Settles.{Settles}
use Rattle.fc_home.proofs.SettleLemmas.{settles_keep}
use Rattle.fc_home.proofs.EveryLemmas.{every_settles}
use Rattle.fc_tables.specs.Table as boards
use Rattle.fc_tables.proofs.LookLemmas.{one_enough}
use Rattle.fc_tables.proofs.TableLemmas.{inside_long}
use Rattle.fc_best_first.specs.Graph.{IsClosedInside, Covers}
use Rattle.fc_bound.specs.declared.kinds.BoundKind.{BoundKind}
use Rattle.fc_bound.specs.Kinds.{low_of}
use Rattle.fc_bound.specs.LowerBound.{IsLowerBound}
use Rattle.fc_bound.proofs.KindLemmas.{bounds_lower}
use Rattle.fc_bound.proofs.RingHeld.{shown_under}
use Rattle.fc_classes.specs.Namings.{Naming, IsNaming}
use Rattle.fc_classes.specs.inner.Boards.{boards_by}
use Rattle.fc_classes.specs.Classes.{classes}
use Rattle.fc_classes.specs.Laws.{ClassesAreLawful}
use Rattle.fc_classes.proofs.NamingLemmas.{named_settled}
use Rattle.fc_classes.proofs.PathLemmas.{reached_of_positions, reached_wins, settling_away, edge_costs}

-- what the one lists, the other does
pub board_listed : (naming : Naming) (table : List (List ℕ × ℕ)) (x : List ℕ) (d : ℕ) → Contains table (x, d)
    → Contains (boards_by naming table) (naming.spelled x, d)
board_listed naming [] x d (k, lt, e) = absurd (omega (arith, lt))
board_listed naming (f ∷ table) x d (zero, lt, e) = (0, omega arith, ap (λ h. (naming.spelled h.0, h.1)) e)
board_listed naming (f ∷ table) x d (suc k, lt, e) =
    Contains-append_right ((naming.spelled f.0, f.1) ∷ []) (boards_by naming table) (naming.spelled x, d)
    (board_listed naming table x d (k, omega (arith, lt), e))

pub name_listed : (naming : Naming) (table : List (List ℕ × ℕ)) (e : Board × ℕ) → Contains (boards_by naming table) e
    → (x : List ℕ) × (d : ℕ) × Contains table (x, d) × (e ≡ (naming.spelled x, d))
name_listed naming [] e (k, lt, same) = absurd (omega (arith, lt))
name_listed naming (f ∷ table) e (zero, lt, same) = (f.0, f.1, (0, omega arith, refl), sym same)
name_listed naming (f ∷ table) e (suc k, lt, same) =
    let rest = name_listed naming table e (k, omega (arith, lt), same) in
    (rest.0, rest.1, Contains-append_right (f ∷ []) table (rest.0, rest.1) rest.2, rest.3)

-- what the table of names covers by a name of the position, the table of boards covers
covers_board : (naming : Naming) (kind : BoundKind) (g : GameRules) (rule : ℕ) (p : Board) (n : ℕ) (table : List (List ℕ × ℕ))
    (q : Board) (y : List ℕ) (cost : ℕ) → IsLowerBound (low_of kind) → SameClass q (naming.spelled y)
    → Covers (classes naming kind g rule p) n table y cost → boards.IsCoveredBelow (low_of kind) n (boards_by naming table) q cost
covers_board naming kind g rule p n table q y cost lower same covers =
    ⊎_elim (λ far. let equal = lower.alike q (naming.spelled y) same in inl (omega (arith, far, equal)))
    (λ (d, listed, le). inr ((naming.spelled y, d), board_listed naming table y d listed, same, le)) covers

-- so does what starts
starts_board : (naming : Naming) (kind : BoundKind) (g : GameRules) (rule : ℕ) (p : Board) (n : ℕ) (table : List (List ℕ × ℕ))
    → IsNaming naming g p → IsLowerBound (low_of kind) → IsPositionOf g p → IsClosedInside (classes naming kind g rule p) n table
    → (q : Board) (k : ℕ) → Settles g rule p k q → boards.IsCoveredBelow (low_of kind) n (boards_by naming table) q k
starts_board naming kind g rule p n table good lower pp closed q k settles =
    let name = named_settled naming g rule p p q k good pp good.start settles in
    let same = (good.spells q name.0 (settles_keep g rule p q k pp settles) name.1).1 in
    covers_board naming kind g rule p n table q name.0 k lower same (closed.starts name.0 k (q, settles, name.1))

-- and what the steps of a listed position lead to
steps_board : (naming : Naming) (kind : BoundKind) (g : GameRules) (rule : ℕ) (p : Board) (n : ℕ) (table : List (List ℕ × ℕ))
    → IsNaming naming g p → IsLowerBound (low_of kind) → IsPositionOf g p → IsClosedInside (classes naming kind g rule p) n table
    → (x : List ℕ) (d : ℕ) → Contains table (x, d) → d + low_of kind (naming.spelled x) < n
    → boards.ClassesCovered (boards.IsCoveredBelow (low_of kind) n (boards_by naming table)) g rule (naming.spelled x) d
steps_board naming kind g rule p n table good lower pp closed x d listed inside m y step =
    let at = naming.spelled x in
    let valid = (reached_of_positions naming kind g rule p x d good pp (closed.reached x d listed)).0 in
    let is = good.valid x valid in
    let py = step_keeps g at y m is.position step in
    let way = every_settles g rule y in
    let k = way.0 in
    let z = way.1 in
    let name = named_settled naming g rule p y z k good py (good.steps at y m x is.position is.own step) way.2 in
    let same = (good.spells z name.0 (settles_keep g rule y z k py way.2) name.1).1 in
    let covers = closed.edges x d (1 + k) name.0 listed inside (valid, (m, y, k, step, (z, way.2, name.1), refl)) in
    let cost : d + (1 + k) ≡ d + 1 + k = omega arith in
    let covered = covers_board naming kind g rule p n table z name.0 (d + (1 + k)) lower same covers in
    (m, y, z, k, step, class-refl y, way.2, subst (boards.IsCoveredBelow (low_of kind) n (boards_by naming table) z) cost covered)

-- of the listed boards
pub closed_board : (naming : Naming) (kind : BoundKind) (g : GameRules) (rule : ℕ) (p : Board) (n : ℕ) (table : List (List ℕ × ℕ))
    → IsNaming naming g p → IsLowerBound (low_of kind) → IsPositionOf g p → IsClosedInside (classes naming kind g rule p) n table
    → boards.IsClosedInside (low_of kind) g rule p n (boards_by naming table)
closed_board naming kind g rule p n table good lower pp closed = record {
  not_won = λ e listed inside won.
      let name = name_listed naming table e listed in
      let board : e.0 ≡ naming.spelled name.0 = ap (λ f. f.0) name.3 in
      let cost : e.1 ≡ name.1 = ap (λ f. f.1) name.3 in
      let bounds : low_of kind e.0 ≡ low_of kind (naming.spelled name.0) = ap (low_of kind) board in
      closed.not_won name.0 name.1 name.2 (omega (arith, inside, cost, bounds)) (sym (ap (λ b. b.homes) board) ∙ won);
  start = starts_board naming kind g rule p n table good lower pp closed;
  steps = λ e x listed px same inside.
      let name = name_listed naming table e listed in
      let at = naming.spelled name.0 in
      let board : e.0 ≡ at = ap (λ f. f.0) name.3 in
      let cost : e.1 ≡ name.1 = ap (λ f. f.1) name.3 in
      let valid = (reached_of_positions naming kind g rule p name.0 name.1 good pp (closed.reached name.0 name.1 name.2)).0 in
      let mates : SameClass x at = subst (SameClass x) board same in
      let equal = lower.alike x at mates in
      let all = (one_enough (low_of kind) g rule n (boards_by naming table) at x name.1 lower (good.valid name.0 valid).position px
      (class-sym x at mates)).0
      (steps_board naming kind g rule p n table good lower pp closed name.0 name.1 name.2 (omega (arith, inside, cost, equal))) in
      subst (boards.StepsCovered (boards.IsCoveredBelow (low_of kind) n (boards_by naming table)) g rule x) (sym cost) all;
}

-- so the classes of a game's positions are a lawful question
pub lawful : (naming : Naming) → ClassesAreLawful naming
lawful naming kind g rule p good pp = let lower = (bounds_lower kind).1 in record {
  answers = λ x d reached won. reached_wins naming kind g rule p x d good pp reached won;
  closed = λ n table closed m (ms, long, wins).
      let far = inside_long (low_of kind) g rule p n (boards_by naming table) ms lower pp
      (closed_board naming kind g rule p n table good lower pp closed) wins in
      omega (arith, far, long);
  shown = λ x number note is. shown_under kind (naming.spelled x) number note is;
  edges = edge_costs naming g rule p good;
  starts = λ x d to. let all = settling_away naming g rule p p d x good pp to in omega (arith, all);
}
