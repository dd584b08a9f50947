-- After a move of an idle card no card goes home, and no less is shown.
use Rattle.std.proofs.Common.{◌≡◌, ◌≢◌, ℕ, zero, suc, ◌+◌, ◌<◌, ◌≤◌, Bool, true, false, cond, Some, List, [], ◌∷◌, ◌++◌, reverse, refl, sym, ◌∙◌, ap, subst, ⊎_elim, arith}
use Rattle.std.specs.Prelude.{◌==◌, ◌↔◌, not, IsTrue, Contains, filter}
use Rattle.std.specs.Int.{bit_at}
use Rattle.std.proofs.lemmas.List.Elements.{Contains-append_cases, Contains-append_left, Contains-append_right}
use Rattle.std.proofs.lemmas.List.Sorted.{Contains-permutation, IsPermutation-reverse}
use Rattle.std.proofs.lemmas.Nat.Bits.{bit_at-lt}
use Rattle.fc_cards.specs.declared.places.Place.{Place}
use Rattle.fc_cards.specs.declared.places.Place.TheVariants.{Home}
use Rattle.fc_position.specs.Board.{Board, playable}
use Rattle.fc_moves.specs.declared.steps.Move.{Move}
use Rattle.fc_moves.specs.GameRules.{GameRules, IsPositionOf}
use Rattle.fc_moves.specs.inner.GameLaws.{Contains-filter, Contains-from_filter}
use Rattle.fc_moves.specs.Step.{Step, Takes}
use Rattle.fc_moves.proofs.StepLemmas.{step_keeps}
use Rattle.fc_canonical.specs.Distinct.{ListsWanted, is_wanted, takes_wanted}
use Rattle.fc_canonical.proofs.PickedLemmas.{picked_in_all, wanted_picked}
use Rattle.fc_home.specs.Settles.{NoneGoesHome, Settles}
use Rattle.fc_home.proofs.WayLemmas.{settles_once}
use Rattle.fc_bound.specs.declared.kinds.BoundKind.{BoundKind}
use Rattle.fc_bound.specs.Bound.{is_held_back}
use Rattle.fc_bound.specs.Kinds.{IsShown, low_of}
use Rattle.fc_bound.proofs.FamilyAfter.{after_lift, after_put}
use Rattle.fc_best_first.specs.declared.spaces.Child.{Child}
use Rattle.fc_best_first.specs.Turn.{AreChildren}
use Rattle.fc_codes.specs.Spelled.{board_of_code}
use Rattle.fc_classes.specs.Namings.{IsCodeIn}
use Rattle.fc_space.specs.Children.{Frame, AreChildrenBy}
use Rattle.fc_space.specs.inner.Children.{classes_in}
use Rattle.fc_space.specs.inner.Idle.{IsIdle, LeavesIdle}
use Rattle.fc_space.proofs.ChildLemmas.{IsFrame, child_of, children_all, children_exist, least_at}
use Rattle.fc_space.proofs.StayLemmas.{beneath_stays, flips, others_stay, settled_here}

-- once a move of an idle card has settled no less is shown than before
pub idle_shows : (kind : BoundKind) (g : GameRules) (rule : ℕ) (b : Board) (m : Move) (number note : ℕ) → IsPositionOf g b
    → NoneGoesHome rule g b → IsShown kind b number note → ((u : ℕ) → playable b m.from ≡ Some u → IsIdle b note m.from u)
    → (z q : Board) (count : ℕ) → Step g b m z → Settles g rule z count q
    → (n : ℕ) × (more : ℕ) × IsShown kind q n more × (number ≤ n)
idle_shows kind g rule b m number note p none shown idle z q count step settles =
    let u = step.card in
    let is = idle u step.playable in
    let away : m.to ≢ Home = λ e. is.next (subst (Takes g b u) e step.takes) in
    let lift = after_lift kind b m.from u number note false p.position step.playable (λ _. is.held) (λ _ _. is.noted) shown in
    let put = after_put kind g b z m u lift.0 note step p.position refl away lift.1 in
    let stays = settled_here rule g z m.from (others_stay rule g b z m step away none)
    (beneath_stays rule g b z m false step away (λ c there next. absurd (is.beneath c there next)) refl) in
    let once = settles_once g rule z z q 0 count (step_keeps g b z m p step).position stays settles in (
      lift.0 + cond (is_held_back z u) 1 0,
      note,
      subst (λ x. IsShown kind x (lift.0 + cond (is_held_back z u) 1 0) note) once.1 put,
      omega (arith, lift.2),
    )

not_one : (n : ℕ) → n < 2 → (n == 1) ≡ false → n ≡ 0
not_one zero few other = refl
not_one (suc zero) few other = absurd (cc other)
not_one (suc (suc n)) few other = absurd (omega (arith, few))

-- a move that takes no wanted card takes one whose bit isn't set
unwanted : (b : Board) (cards u : ℕ) (m : Move) → playable b m.from ≡ Some u → takes_wanted b cards m ≡ false → bit_at cards u ≡ 0
unwanted b cards u m card other = not_one (bit_at cards u) (bit_at-lt cards u) (sym (ap (is_wanted cards) card) ∙ other)

first_of : (ms : List Move) → ms ≢ [] → (m : Move) × Contains ms m
first_of [] some = absurd (some refl)
first_of (m ∷ ms) some = (m, (0, omega arith, refl))

-- where the wanted moves are listed and a card that isn't wanted is idle, those of idle cards alone are left out
pub leaves_idle : (g : GameRules) (b : Board) (note cards : ℕ) (moves : List Move) (t : Bool) → ListsWanted g b cards moves t
    → ((from : Place) (u : ℕ) → playable b from ≡ Some u → bit_at cards u ≡ 0 → IsIdle b note from u)
    → (left : List Move) × LeavesIdle g b note left moves × (IsTrue t ↔ (left ≢ []))
leaves_idle g b note cards moves t w idle =
    let out : Move → Bool = λ m. not (takes_wanted b cards m) in
    let left : List Move = filter out w.all in (
      left,
      record {
        allowed = λ m there.
            w.classes.allowed m (⊎_elim (λ a. (Contains-from_filter out w.all m a).0)
            (λ a. (picked_in_all g b cards moves t w m a).0) (Contains-append_cases left moves m there));
        complete = λ m x step.
            let (n, y, among, made, same) = w.classes.complete m x step in (
              n,
              y,
              elim (takes_wanted b cards n) as (λ s. takes_wanted b cards n ≡ s → Contains (left ++ moves) n) [
                | true ↦ λ e. Contains-append_right left moves n (wanted_picked g b cards moves t w n among e)
                | false ↦ λ e. Contains-append_left left moves n (Contains-filter out w.all n among (ap not e))
              ] refl,
              made,
              same,
            );
        idle = λ m u there card.
            idle m.from u card (unwanted b cards u m card (flips (takes_wanted b cards m) (Contains-from_filter out w.all m there).1));
      },
      (
        λ is e.
            let (m, among, fails) = w.left_out.0 is in
            let there : Contains [] m = subst (λ (l : List Move). Contains l m) e (Contains-filter out w.all m among (ap not fails)) in
            absurd (omega (arith, there.1)),
        λ some.
            let (m, there) = first_of left some in
            let (among, passes) = Contains-from_filter out w.all m there in
            w.left_out.1 (m, among, flips (takes_wanted b cards m) passes),
      ),
    )

-- children of two lists of moves, one behind the other
children_both : (w : Frame) (b : Board) (ms ns : List Move) (cs ds : List (Child (List ℕ))) → AreChildrenBy w b ms cs
    → AreChildrenBy w b ns ds → AreChildrenBy w b (ms ++ ns) (cs ++ ds)
children_both w b [] ns [] ds one two = two
children_both w b [] ns (c ∷ cs) ds one two = absurd one
children_both w b (m ∷ ms) ns [] ds one two = absurd one
children_both w b (m ∷ ms) ns (c ∷ cs) ds (is, one) two = (is, children_both w b ms ns cs ds one two)

-- there are no children exactly where there are no moves
none_left : (w : Frame) (b : Board) (ms : List Move) (cs : List (Child (List ℕ))) → AreChildrenBy w b ms cs → cs ≡ [] → ms ≡ []
none_left w b [] cs are none = refl
none_left w b (m ∷ ms) [] are none = absurd are
none_left w b (m ∷ ms) (c ∷ cs) are none = absurd (cc none)

none_made : (w : Frame) (b : Board) (ms : List Move) (cs : List (Child (List ℕ))) → AreChildrenBy w b ms cs → ms ≡ [] → cs ≡ []
none_made w b ms [] are none = refl
none_made w b [] (c ∷ cs) are none = absurd are
none_made w b (m ∷ ms) (c ∷ cs) are none = absurd (cc none)

-- the children of the moves, behind those of the moves that are left out, are the ends of the edges, and of what is left out the
-- bound is no less than what is shown
pub children_but : (w : Frame) (x : List ℕ) (number note : ℕ) (left moves : List Move) (t : Bool) (children : List (Child (List ℕ)))
    → IsFrame w → IsCodeIn w.start w.game x → NoneGoesHome w.rule w.game (board_of_code w.start x)
    → IsShown w.kind (board_of_code w.start x) number note → LeavesIdle w.game (board_of_code w.start x) note left moves
    → (IsTrue t ↔ (left ≢ [])) → AreChildrenBy w (board_of_code w.start x) (reverse moves) children
    → (others : List (Child (List ℕ))) × AreChildren (classes_in w) x (others ++ children)
    × ((child : Child (List ℕ)) → Contains others child → number ≤ low_of w.kind (board_of_code w.start child.key))
    × (IsTrue t ↔ (others ≢ []))
children_but w x number note left moves t children f valid none shown lists told are =
    let b = board_of_code w.start x in
    let gone = children_exist w b x left f valid.position valid.coded
    (λ m there. lists.allowed m (Contains-append_left left moves m there)) in (
      gone.0,
      children_all w x (left ++ reverse moves) (gone.0 ++ children) f valid
          (λ m z step. let (n, v, there, made, same) = lists.complete m z step in (
            n,
            v,
            ⊎_elim (λ a. Contains-append_left left (reverse moves) n a)
                (λ a. Contains-append_right left (reverse moves) n (Contains-permutation moves (reverse moves) n (IsPermutation-reverse moves) a))
                (Contains-append_cases left moves n there),
            made,
            same,
          ))
          (children_both w b left (reverse moves) gone.0 children gone.1 are),
      λ child there.
          let (m, among, is) = child_of w b left gone.0 child gone.1 there in
          least_at w b (Some m) child.key number f valid.position (child.cost, is)
          (λ n z q count e step settles.
          let same : m ≡ n = cc e in
          idle_shows w.kind w.game w.rule b n number note valid.position none shown
          (subst (λ (k : Move). (u : ℕ) → playable b k.from ≡ Some u → IsIdle b note k.from u) same (λ u. lists.idle m u among))
          z q count step settles)
          (λ e. absurd (cc e)),
      (λ is e. told.0 is (none_left w b left gone.0 gone.1 e), λ some. told.1 (λ e. some (none_made w b left gone.0 gone.1 e))),
    )
