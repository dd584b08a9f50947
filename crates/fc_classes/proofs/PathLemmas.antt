-- What a reached name spells, and what leads to it.
use Rattle.std.proofs.Common.{◌≡◌, ℕ, zero, suc, ◌+◌, ◌≤◌, List, [], ◌∷◌, ◌++◌, length, refl, sym, ◌∙◌, ap, subst, arith}
use Rattle.std.specs.Prelude.{slice_set}
use Rattle.std.proofs.lemmas.List.{length-append}
use Rattle.fc_cards.specs.Card.{rank, suit}
use Rattle.fc_cards.specs.declared.places.Place.{Place}
use Rattle.fc_cards.specs.declared.places.Place.TheVariants.{Column, Cell, Home}
use Rattle.fc_position.specs.Board.{Board, board_without, board_with}
use Rattle.fc_position.specs.Position.{IsPosition, IsWon}
use Rattle.fc_position.proofs.BoardLemmas.{homes-lifted}
use Rattle.fc_moves.specs.declared.steps.Move.{Move}
use Rattle.fc_moves.specs.GameRules.{GameRules, IsPositionOf}
use Rattle.fc_moves.specs.Run.{Run, WinsIn}
use Rattle.fc_moves.specs.Step.{Step, Takes}
use Rattle.fc_moves.proofs.StepLemmas.{step_keeps, run_keeps}
use Rattle.fc_moves.specs.Class.{SameClass}
use Rattle.fc_moves.proofs.ClassLemmas.{class-sym, class-trans, class_step}
use Rattle.fc_bound.specs.declared.kinds.BoundKind.{BoundKind}
use Rattle.fc_home.specs.Settles.{Settles, SettlesBy, sent_home}
use Rattle.fc_home.proofs.MateLemmas.{class_settle}
use Rattle.fc_home.proofs.SettleLemmas.{settles_keep, settles_run, settled_stays, sent_position, total, total-most, total-next, turn_total}
use Rattle.fc_best_first.specs.Graph.{IsReached, ReachedBy}
use Rattle.fc_classes.specs.Namings.{Naming, IsNaming}
use Rattle.fc_classes.specs.Classes.{SettlesTo, LeadsTo, away, classes}
use Rattle.fc_classes.specs.Laws.{ReachedNamesAreOfPositions, ReachedNamesAreRunTo}

-- what settles by no move stays as it is
pub settles_none : (g : GameRules) (rule : ℕ) (b q : Board) → Settles g rule b 0 q → q ≡ b
settles_none g rule b q ([], long, (same, none)) = same
settles_none g rule b q (m ∷ ms, long, by) = absurd (omega (arith, long))

-- the name of what a position of the game settles to spells a canonical position, which is settled
settled_name : (naming : Naming) (g : GameRules) (rule : ℕ) (p z : Board) (count : ℕ) (x : List ℕ) → IsNaming naming g p
    → IsPositionOf g z → SettlesTo naming g rule z count x
    → naming.valid g x × Settles g rule (naming.spelled x) 0 (naming.spelled x)
settled_name naming g rule p z count x good pz (q, settles, name) =
    let k = good.spells q x (settles_keep g rule z q count pz settles) name in
    let mate = class_settle g rule q (naming.spelled x) q 0 k.1 (settled_stays g rule z q count settles) in
    (k.0, subst (Settles g rule (naming.spelled x) 0) (settles_none g rule (naming.spelled x) mate.0 mate.1) mate.1)

reached_spells : (edges : ℕ) (naming : Naming) (kind : BoundKind) (g : GameRules) (rule : ℕ) (p : Board) (x : List ℕ) (cost : ℕ)
    → IsNaming naming g p → IsPositionOf g p → ReachedBy edges (classes naming kind g rule p) x cost
    → naming.valid g x × Settles g rule (naming.spelled x) 0 (naming.spelled x)
reached_spells zero naming kind g rule p x cost good pp h = settled_name naming g rule p p cost x good pp h
reached_spells (suc edges) naming kind g rule p x cost good pp (w, d, c, h, (kw, (m, z, count, step, to, paid)), e) =
    settled_name naming g rule p z count x good (step_keeps g (naming.spelled w) z m (good.valid w kw).position step) to

pub reached_of_positions : (naming : Naming) → ReachedNamesAreOfPositions naming
reached_of_positions naming kind g rule p x cost good pp h = reached_spells h.0 naming kind g rule p x cost good pp h.1

-- runs are joined
pub run_on : (g : GameRules) (b c d : Board) (ms ns : List Move) → Run g b ms c → Run g c ns d → Run g b (ms ++ ns) d
run_on g b c d [] ns same more = subst (λ x. Run g x ns d) same more
run_on g b c d (m ∷ ms) ns (mid, step, rest) more = (mid, step, run_on g mid c d ms ns rest more)

-- class-mates of the game run alike
pub run_mate : (g : GameRules) (b c x : Board) (ms : List Move) → IsPositionOf g b → IsPositionOf g c → SameClass b c → Run g b ms x
    → (ns : List Move) × (y : Board) × (length ns ≡ length ms) × Run g c ns y × SameClass x y
run_mate g b c x [] p q s same = ([], c, refl, refl, subst (λ y. SameClass y c) (sym same) s)
run_mate g b c x (m ∷ ms) p q s (mid, step, rest) =
    let n = class_step g b c mid m p q s step in
    let later = run_mate g mid n.1 x ms (step_keeps g b mid m p step) (step_keeps g c n.1 n.0 q n.2) n.3 rest in
    let long : length (n.0 ∷ later.0) ≡ length (m ∷ ms) = omega (arith, later.2) in
    (n.0 ∷ later.0, later.1, long, (n.1, n.2, later.3), later.4)

reached_run : (edges : ℕ) (naming : Naming) (kind : BoundKind) (g : GameRules) (rule : ℕ) (p : Board) (x : List ℕ) (cost : ℕ)
    → IsNaming naming g p → IsPositionOf g p → ReachedBy edges (classes naming kind g rule p) x cost
    → (ms : List Move) × (b : Board) × (length ms ≡ cost) × Run g p ms b × SameClass b (naming.spelled x)
reached_run zero naming kind g rule p x cost good pp (q, (ms, long, by), name) =
    (ms, q, long, settles_run g rule p q ms by, (good.spells q x (settles_keep g rule p q cost pp (ms, long, by)) name).1)
reached_run (suc edges) naming kind g rule p x cost good pp
    (w, d, c, h, (kw, (m, z, count, step, (q, (ns, long, by), name), paid)), e) =
    let at = naming.spelled w in
    let pw = (good.valid w kw).position in
    let before = reached_run edges naming kind g rule p w d good pp h in
    let pz = step_keeps g at z m pw step in
    let pb = run_keeps g p before.1 before.0 pp before.3 in
    let run : Run g at (m ∷ ns) q = (z, step, settles_run g rule z q ns by) in
    let mate = run_mate g at before.1 q (m ∷ ns) pw pb (class-sym before.1 at before.4) run in
    let same = (good.spells q x (settles_keep g rule z q count pz (ns, long, by)) name).1 in
    let size : length (before.0 ++ mate.0) ≡ cost =
    omega (arith, length-append before.0 mate.0, before.2, mate.2, long, paid, e) in (
      before.0 ++ mate.0,
      mate.1,
      size,
      run_on g p before.1 mate.1 before.0 mate.0 before.3 mate.3,
      class-trans mate.1 q (naming.spelled x) (class-sym q mate.1 mate.4) same,
    )

pub reached_run_to : (naming : Naming) → ReachedNamesAreRunTo naming
reached_run_to naming kind g rule p x cost good pp h = reached_run h.0 naming kind g rule p x cost good pp h.1

-- so a list of as many moves as a won name is reached at wins
pub reached_wins : (naming : Naming) (kind : BoundKind) (g : GameRules) (rule : ℕ) (p : Board) (x : List ℕ) (cost : ℕ)
    → IsNaming naming g p → IsPositionOf g p → IsReached (classes naming kind g rule p) x cost → IsWon (naming.spelled x)
    → WinsIn g p cost
reached_wins naming kind g rule p x cost good pp h won =
    let run = reached_run_to naming kind g rule p x cost good pp h in
    (run.0, run.2, (run.1, run.3, run.4.homes ∙ won))

-- each move of settling takes a card home
settles_total : (g : GameRules) (rule : ℕ) (b q : Board) (ms : List Move) → IsPosition b → SettlesBy g rule b ms q
    → length ms + total b.homes ≡ total q.homes
settles_total g rule b q [] p by = let same = ap (λ (x : Board). total x.homes) by.0 in omega (arith, same)
settles_total g rule b q (m ∷ ms) p (c, first, home, rest) =
    let next = sent_home b m.from c in
    let more = turn_total rule g b next m.from c p first refl in
    let later = settles_total g rule next q ms (sent_position rule g b m.from c p first) rest in
    omega (arith, more.0, later)

-- so what is still away pays for it
pub settling_away : (naming : Naming) (g : GameRules) (rule : ℕ) (p b : Board) (count : ℕ) (x : List ℕ) → IsNaming naming g p
    → IsPositionOf g b → SettlesTo naming g rule b count x → count + away (naming.spelled x) + total b.homes ≡ 52
settling_away naming g rule p b count x good pb (q, (ms, long, by), name) =
    let pq = settles_keep g rule b q count pb (ms, long, by) in
    let same = ap total (good.spells q x pq name).1.homes in
    let all = settles_total g rule b q ms pb.position by in
    let most = total-most q pq.position in
    omega (arith, long, all, most, same)

-- no step takes a card from home
placed_homes : (g : GameRules) (b : Board) (from : Place) (u : ℕ) (to : Place) → IsPosition b → Takes g b u to
    → total b.homes ≤ total (board_with (board_without b from) u to).homes
placed_homes g b from u (Column j) p takes = let same = ap total (homes-lifted b from) in omega (arith, same)
placed_homes g b from u (Cell j) p takes = let same = ap total (homes-lifted b from) in omega (arith, same)
placed_homes g b from u Home p takes =
    let same = ap (λ h. total (slice_set h (suit u) (rank u))) (homes-lifted b from) in
    let more = total-next b.homes u p.homes takes in
    omega (arith, same, more)

step_homes : (g : GameRules) (b c : Board) (m : Move) → IsPosition b → Step g b m c → total b.homes ≤ total c.homes
step_homes g b c m p s =
    subst (λ (x : Board). total b.homes ≤ total x.homes) (sym s.after) (placed_homes g b m.from s.card m.to p s.takes)

-- so an edge costs one, and what it takes along
pub edge_costs : (naming : Naming) (g : GameRules) (rule : ℕ) (p : Board) → IsNaming naming g p
    → (x : List ℕ) (c : ℕ) (y : List ℕ) → LeadsTo naming g rule x c y
    → (1 ≤ c) × (c + away (naming.spelled y) ≤ 1 + away (naming.spelled x))
edge_costs naming g rule p good x c y (k, (m, z, count, step, to, paid)) =
    let px = (good.valid x k).position in
    let all = settling_away naming g rule p z count y good (step_keeps g (naming.spelled x) z m px step) to in
    let more = step_homes g (naming.spelled x) z m px.position step in
    (omega (arith, paid), omega (arith, paid, all, more))
