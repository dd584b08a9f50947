-- The way from the start to a stored class.
use Rattle.std.proofs.Common.{◌≡◌, ℕ, ◌+◌, ◌-◌, ◌<◌, ◌≤◌, List, [], ◌∷◌, ◌++◌, length, reverse, refl, sym, ◌∙◌, ap, subst, ⊎_elim, arith}
use Rattle.std.proofs.lemmas.List.{length-append, reverse-append}
use Rattle.fc_position.specs.Board.{Board}
use Rattle.fc_position.specs.Position.{IsPosition}
use Rattle.fc_moves.specs.declared.steps.Move.{Move}
use Rattle.fc_moves.specs.GameRules.{GameRules, IsPositionOf}
use Rattle.fc_moves.specs.Run.{Run}
use Rattle.fc_moves.proofs.StepLemmas.{run_keeps, step_keeps}
use Rattle.fc_moves.specs.Class.{SameClass}
use Rattle.fc_moves.proofs.ClassLemmas.{class-sym, class_step}
use Rattle.fc_home.specs.Settles.{SettlesBy}
use Rattle.fc_home.proofs.MateLemmas.{class_settle}
use Rattle.fc_home.proofs.SettleLemmas.{settles_keep, settles_run}
use Rattle.fc_home.proofs.WayLemmas.{settles_once}
use Rattle.fc_best_first.specs.declared.books.Mark.{Mark}
use Rattle.fc_best_first.specs.Kept.{IsSound}
use Rattle.fc_best_first.specs.Store.{Store, IsStored}
use Rattle.fc_best_first.proofs.KeptLemmas.{same_entry}
use Rattle.fc_codes.specs.State.{IsCodeOf}
use Rattle.fc_codes.specs.Spelled.{board_of_code}
use Rattle.fc_classes.specs.Namings.{IsNaming, by_codes}
use Rattle.fc_classes.proofs.PathLemmas.{run_on}
use Rattle.fc_search.specs.Problem.{Problem, task_of_problem}
use Rattle.fc_search.specs.inner.Walk.{IsStart, IsWay, IsAtClass, frame_of_problem}
use Rattle.fc_space.specs.Ways.{LeadsWithin}

-- from the board that a walk came to, a step leads on to the next class within what is left of its cost
pub leads_on : (pr : Problem) (s : Store (List ℕ)) → IsNaming (by_codes pr.start) pr.game pr.start → IsPositionOf pr.game pr.start
    → IsSound (task_of_problem pr) s → (number next : ℕ) (made : List Move) (b : Board) (x : List ℕ) (mark : Mark)
    → IsAtClass pr.game s pr.start number made b → IsStored s next x mark → mark.parent ≡ number → (number ≡ next → ⊥)
    → (length made ≤ mark.cost) × ((m : Move) × LeadsWithin (frame_of_problem pr) b x (mark.cost - length made) m)
leads_on pr s names pp sound number next made b x mark (y, mine, there, run, same, le) at parent other =
    ⊎_elim
    (λ (own, start). absurd (other (sym parent ∙ own)))
    (λ (w, was, c, stands, (kw, (m, z, count, step, (q, settles, code), paid)), less).
    let here = subst (λ n. IsStored s n w was) parent stands in
    let one = same_entry s number w y was mine here there in
    let mates : SameClass b (board_of_code pr.start w) = subst (λ k. SameClass b (board_of_code pr.start k)) (sym one.0) same in
    let cost : was.cost ≡ mine.cost = ap (λ n. n.cost) one.1 in
    let pb = run_keeps pr.game pr.start b made pp run in
    let next_step = class_step pr.game (board_of_code pr.start w) b z m kw.position pb (class-sym b (board_of_code pr.start w) mates) step in
    let settled = class_settle pr.game pr.method.rule z next_step.1 q count next_step.3 settles in
    let left : 1 + count ≤ mark.cost - length made = omega (arith, less, paid, le, cost) in
    let pz = step_keeps pr.game (board_of_code pr.start w) z m kw.position step in
    let pq = settles_keep pr.game pr.method.rule z q count pz settles in
    let own_code = names.alike q settled.0 x pq.position settled.2 code in (
      omega (arith, less, le, cost),
      (next_step.0, (count, (next_step.1, next_step.2, (settled.0, settled.1, own_code)), left)),
    ))
    (sound.comes next x mark at)

-- having walked on
pub walked_on : (g : GameRules) (p : Board) (s : Store (List ℕ)) → IsNaming (by_codes p) g p
    → (number next : ℕ) (made more : List Move) (b c : Board) (x : List ℕ) (mark : Mark)
    → IsAtClass g s p number made b → IsStored s next x mark → length made ≤ mark.cost → Run g b more c
    → length more ≤ mark.cost - length made → IsCodeOf p c x → IsPositionOf g c → IsAtClass g s p next (made ++ more) c
walked_on g p s names number next made more b c x mark (y, mine, there, run, same, le) at room on few code pc = (
  x,
  mark,
  at,
  run_on g p b c made more run on,
  (names.spells c x pc code).1,
  (let long = length-append made more in omega (arith, long, few, room)),
)

-- a walk begins at a class that starts, where the start settles
pub walk_begins : (pr : Problem) (s : Store (List ℕ)) → IsNaming (by_codes pr.start) pr.game pr.start → IsPositionOf pr.game pr.start
    → IsSound (task_of_problem pr) s → (number : ℕ) (settling : List Move) (q : Board) → IsStart s number
    → SettlesBy pr.game pr.method.rule pr.start settling q → IsPosition q → IsAtClass pr.game s pr.start number settling q
walk_begins pr s names pp sound number settling q (x, mark, at, own) by pq =
    ⊎_elim
    (λ (parent, (r, settles, code)).
    let one = settles_once pr.game pr.method.rule pr.start r q mark.cost (length settling) pp.position settles (settling, refl, by) in
    let here : IsCodeOf pr.start q x = subst (λ v. IsCodeOf pr.start v x) one.1 code in
    let kept = settles_keep pr.game pr.method.rule pr.start q (length settling) pp (settling, refl, by) in
    let few : length settling ≤ mark.cost = let e = one.0 in omega (arith, e) in
    (x, mark, at, settles_run pr.game pr.method.rule pr.start q settling by, (names.spells q x kept here).1, few))
    (λ (w, was, c, stands, (kw, (m, z, count, step, to, paid)), less).
    let here = subst (λ n. IsStored s n w was) own stands in
    let same = same_entry s number w x was mark here at in
    let cost : was.cost ≡ mark.cost = ap (λ n. n.cost) same.1 in
    absurd (omega (arith, less, paid, cost)))
    (sound.comes number x mark at)

-- a class's parent costs less than it does
pub parent_less : (pr : Problem) (s : Store (List ℕ)) → IsSound (task_of_problem pr) s
    → (number parent : ℕ) (x : List ℕ) (mark : Mark) → IsStored s number x mark → mark.parent ≡ parent → (parent ≡ number → ⊥)
    → (w : List ℕ) × (was : Mark) × IsStored s parent w was × (was.cost < mark.cost)
parent_less pr s sound number parent x mark at by other =
    ⊎_elim
    (λ (own, start). absurd (other (sym by ∙ own)))
    (λ (w, was, c, stands, (kw, (m, z, count, step, to, paid)), less).
    (w, was, subst (λ n. IsStored s n w was) by stands, omega (arith, less, paid)))
    (sound.comes number x mark at)

-- the next class on a way, and what is left of it
pub next_on : (s : Store (List ℕ)) (at next target : ℕ) (way rest : List ℕ) → way ≡ rest ++ next ∷ []
    → IsWay s at (reverse way) target → IsWay s at (next ∷ reverse rest) target
next_on s at next target way rest e leads =
    subst (λ l. IsWay s at l target) (ap reverse e ∙ reverse-append rest (next ∷ [])) leads
