-- The children of a class are the ends of its edges.
use Rattle.std.proofs.Common.{◌≡◌, ℕ, zero, suc, ◌+◌, ◌≤◌, List, [], ◌∷◌, ◌++◌, reverse, refl, sym, ◌∙◌, ap, subst, arith}
use Rattle.std.specs.Prelude.{Contains, Option, Some, None}
use Rattle.std.proofs.lemmas.List.{reverse-append}
use Rattle.std.proofs.lemmas.List.Elements.{Contains-append_right}
use Rattle.fc_position.specs.Board.{Board}
use Rattle.fc_moves.specs.declared.steps.Move.{Move}
use Rattle.fc_moves.specs.GameRules.{GameRules, IsGame, IsPositionOf}
use Rattle.fc_moves.proofs.StepLemmas.{step_keeps}
use Rattle.fc_moves.specs.Step.{Allows, Step}
use Rattle.fc_moves.specs.Class.{SameClass}
use Rattle.fc_moves.proofs.ClassLemmas.{class-refl, class-sym}
use Rattle.fc_moves.proofs.StepLemmas.{step_once}
use Rattle.fc_home.proofs.MateLemmas.{class_settle}
use Rattle.fc_home.specs.Settles.{Settles}
use Rattle.fc_home.proofs.SettleLemmas.{settles_keep}
use Rattle.fc_home.proofs.WayLemmas.{settles_once}
use Rattle.fc_bound.specs.Kinds.{low_of, IsShown}
use Rattle.fc_home.proofs.EveryLemmas.{every_settles}
use Rattle.fc_bound.proofs.KindLemmas.{bounds_lower}
use Rattle.fc_bound.proofs.RingHeld.{shown_under}
use Rattle.fc_bound.proofs.RingLaws.{mates_show}
use Rattle.fc_best_first.specs.declared.spaces.Child.{Child}
use Rattle.fc_best_first.specs.Graph.{IsReached}
use Rattle.fc_best_first.specs.Turn.{AreChildren}
use Rattle.fc_codes.specs.State.{IsCodeOf}
use Rattle.fc_codes.specs.Spelled.{board_of_code}
use Rattle.fc_classes.specs.Namings.{IsNaming, IsCodeIn, by_codes}
use Rattle.fc_classes.specs.Classes.{SettlesTo}
use Rattle.fc_classes.proofs.NamingLemmas.{codes_name, named_settled}
use Rattle.fc_classes.proofs.PathLemmas.{reached_of_positions}
use Rattle.fc_space.specs.Children.{Frame, frame_of, IsChildOf, IsSettledChild, AreChildrenBy, ChildrenLeft, StandsAt}
use Rattle.fc_space.specs.inner.Children.{AreAllowed, classes_in}

-- a game's position that the codes are seen from
pub record IsFrame (w : Frame) : Type 0 where
  pub sound : IsGame w.game
  pub fits : IsPositionOf w.game w.start

naming_of : (w : Frame) → IsFrame w → IsNaming (by_codes w.start) w.game w.start
naming_of w f = codes_name w.game w.start f.sound f.fits

-- a code that is reached spells a position of the game, which is settled
pub reached_code : (w : Frame) (x : List ℕ) (d : ℕ) → IsFrame w → IsReached (classes_in w) x d
    → IsCodeIn w.start w.game x × Settles w.game w.rule (board_of_code w.start x) 0 (board_of_code w.start x)
reached_code w x d f reached =
    reached_of_positions (by_codes w.start) w.kind w.game w.rule w.start x d (naming_of w f) f.fits reached

-- the code of a position of the game spells a class-mate
class_spelled : (w : Frame) (q : Board) (x : List ℕ) → IsFrame w → IsPositionOf w.game q → IsCodeOf w.start q x
    → SameClass q (board_of_code w.start x)
class_spelled w q x f pq code = ((naming_of w f).spells q x pq code).1

-- what is shown of where a walk stands is shown of the code
pub shown_at : (w : Frame) (b : Board) (last : Option Move) (code : List ℕ) (number note : ℕ) → IsFrame w → IsPositionOf w.game b
    → StandsAt w b last code
    → ((m : Move) (z q : Board) (count : ℕ) → last ≡ Some m → Step w.game b m z → Settles w.game w.rule z count q → IsShown w.kind q number note)
    → (last ≡ None → IsShown w.kind b number note) → IsShown w.kind (board_of_code w.start code) number note
shown_at w b None code number note f p at moved here =
    mates_show w.kind b (board_of_code w.start code) number note (class_spelled w b code f p at) (here refl)
shown_at w b (Some m) code number note f p (cost, (z, step, (q, count, settles, coded, paid))) moved here =
    mates_show w.kind q (board_of_code w.start code) number note
    (class_spelled w q code f (settles_keep w.game w.rule z q count (step_keeps w.game b z m p step) settles) coded)
    (moved m z q count refl step settles)

-- and what is no more than something that is shown is no greater than the bound of the code
pub least_at : (w : Frame) (b : Board) (last : Option Move) (code : List ℕ) (least : ℕ) → IsFrame w → IsPositionOf w.game b
    → StandsAt w b last code
    → ((m : Move) (z q : Board) (count : ℕ) → last ≡ Some m → Step w.game b m z → Settles w.game w.rule z count q
    → (number : ℕ) × (note : ℕ) × IsShown w.kind q number note × (least ≤ number))
    → (last ≡ None → least ≡ 0) → least ≤ low_of w.kind (board_of_code w.start code)
least_at w b None code least f p at moved none = let no = none refl in omega (arith, no)
least_at w b (Some m) code least f p (cost, (z, step, (q, count, settles, coded, paid))) moved none =
    let s = moved m z q count refl step settles in
    let under = shown_under w.kind q s.0 s.1 s.2 in
    let same = (bounds_lower w.kind).1.alike q (board_of_code w.start code)
    (class_spelled w q code f (settles_keep w.game w.rule z q count (step_keeps w.game b z m p step) settles) coded) in
    omega (arith, under, same, s.3)

-- a walk stands at a child of the move that came last
pub child_at : (w : Frame) (b : Board) (last : Option Move) (m : Move) (y : List ℕ) (cost : ℕ) → last ≡ Some m → StandsAt w b last y
    → ((z q : Board) (count : ℕ) → Step w.game b m z → Settles w.game w.rule z count q → cost ≡ 1 + count)
    → IsChildOf w b m (record { key = y; cost = cost })
child_at w b last m y cost is at costs =
    let (paid, (z, step, (q, count, settles, coded, e))) = subst (λ l. StandsAt w b l y) is at in
    (z, step, (q, count, settles, coded, costs z q count step settles))

-- of class-mates that settle, the one child has the code of what the other settles to, at as many moves
pub child_once : (w : Frame) (x z : Board) (moves count : ℕ) (child : Child (List ℕ)) (y : List ℕ) → IsFrame w
    → IsPositionOf w.game x → IsPositionOf w.game z → SameClass x z → IsSettledChild w z moves child
    → SettlesTo (by_codes w.start) w.game w.rule x count y → (child.key ≡ y) × (child.cost ≡ moves + count)
child_once w x z moves count child y f px pz same (r, number, there, code, cost) (q, settles, also) =
    let mate = class_settle w.game w.rule x z q count same settles in
    let once = settles_once w.game w.rule z r mate.0 number count pz.position there mate.1 in
    let pr = settles_keep w.game w.rule z r number pz there in
    let pq = settles_keep w.game w.rule x q count px settles in
    let mates : SameClass r q = subst (λ b. SameClass b q) (sym once.1) (class-sym q mate.0 mate.2) in
    let tell = (naming_of w f).tells r q child.key y pr.position pq.position code also in
    (tell.1 mates, omega (arith, cost, once.0))

-- every allowed move from a position with a code has a child
pub child_exists : (w : Frame) (b : Board) (code : List ℕ) (m : Move) → IsFrame w → IsPositionOf w.game b → IsCodeOf w.start b code
    → Allows w.game b m → (child : Child (List ℕ)) × IsChildOf w b m child
child_exists w b code m f pb is (z, step) =
    let settling = every_settles w.game w.rule z in
    let naming = naming_of w f in
    let name = named_settled (by_codes w.start) w.game w.rule w.start z settling.1 settling.0 naming
    (step_keeps w.game b z m pb step) (naming.steps b z m code pb is step) settling.2 in (
      record { key = name.0; cost = 1 + settling.0 },
      (z, step, (settling.1, settling.0, settling.2, name.1, refl)),
    )

-- allowed moves have their children
pub children_exist : (w : Frame) (b : Board) (code : List ℕ) (moves : List Move) → IsFrame w → IsPositionOf w.game b
    → IsCodeOf w.start b code → AreAllowed w.game b moves → (children : List (Child (List ℕ))) × AreChildrenBy w b moves children
children_exist w b code [] f pb is allowed = ([], tt)
children_exist w b code (m ∷ moves) f pb is allowed =
    let first = child_exists w b code m f pb is (allowed m (0, omega arith, refl)) in
    let rest = children_exist w b code moves f pb is (λ n there. allowed n (Contains-append_right (m ∷ []) moves n there)) in
    (first.0 ∷ rest.0, (first.1, rest.1))

-- each child is by one of the moves
pub child_of : (w : Frame) (b : Board) (moves : List Move) (children : List (Child (List ℕ))) (child : Child (List ℕ))
    → AreChildrenBy w b moves children → Contains children child → (m : Move) × Contains moves m × IsChildOf w b m child
child_of w b [] [] child are (k, lt, e) = absurd (omega (arith, lt))
child_of w b [] (other ∷ children) child are there = absurd are
child_of w b (m ∷ moves) [] child are there = absurd are
child_of w b (m ∷ moves) (other ∷ children) child (is, are) (zero, lt, e) =
    (m, (0, omega arith, refl), subst (IsChildOf w b m) e is)
child_of w b (m ∷ moves) (other ∷ children) child (is, are) (suc k, lt, e) =
    let rest = child_of w b moves children child are (k, omega (arith, lt), e) in
    (rest.0, Contains-append_right (m ∷ []) moves rest.0 rest.1, rest.2)

-- each of the moves has a child
move_of : (w : Frame) (b : Board) (moves : List Move) (children : List (Child (List ℕ))) (m : Move)
    → AreChildrenBy w b moves children → Contains moves m
    → (child : Child (List ℕ)) × Contains children child × IsChildOf w b m child
move_of w b [] children m are (k, lt, e) = absurd (omega (arith, lt))
move_of w b (n ∷ moves) [] m are there = absurd are
move_of w b (n ∷ moves) (child ∷ children) m (is, are) (zero, lt, e) =
    (child, (0, omega arith, refl), subst (λ o. IsChildOf w b o child) e is)
move_of w b (n ∷ moves) (child ∷ children) m (is, are) (suc k, lt, e) =
    let rest = move_of w b moves children m are (k, omega (arith, lt), e) in
    (rest.0, Contains-append_right (child ∷ []) children rest.0 rest.1, rest.2)

-- the children by moves that lead to each class to which a move leads are the ends of the edges
pub children_all : (w : Frame) (x : List ℕ) (moves : List Move) (children : List (Child (List ℕ))) → IsFrame w
    → IsCodeIn w.start w.game x
    → ((m : Move) (z : Board) → Step w.game (board_of_code w.start x) m z
    → (n : Move) × (v : Board) × Contains moves n × Step w.game (board_of_code w.start x) n v × SameClass z v)
    → AreChildrenBy w (board_of_code w.start x) moves children → AreChildren (classes_in w) x children
children_all w x moves children f valid complete are = record {
  edges = λ child there.
      let is = child_of w (board_of_code w.start x) moves children child are there in
      let m = is.0 in
      let z = is.2.0 in
      let step = is.2.1 in
      let settled = is.2.2 in
      (valid, (m, z, settled.1, step, (settled.0, settled.2, settled.3), settled.4));
  whole = λ c y edge.
      let at = board_of_code w.start x in
      let e = edge.1 in
      let other = complete e.0 e.1 e.3 in
      let n = other.0 in
      let v = other.1 in
      let px = step_keeps w.game at e.1 e.0 valid.position e.3 in
      let pv = step_keeps w.game at v n valid.position other.3 in
      let has = move_of w at moves children n are other.2 in
      let child = has.0 in
      let is = has.2 in
      let same = step_once w.game at n is.0 v is.1 other.3 in
      let settled = subst (λ b. IsSettledChild w b 1 child) same is.2 in
      let once = child_once w e.1 v 1 e.2 child y f px pv other.4 settled e.4 in
      (child, has.1, once.0, omega (arith, once.1, e.5));
}

-- the last of the moves leads to the first of the children
pub next_child : (w : Frame) (b : Board) (moves rest : List Move) (m : Move) (child : Child (List ℕ))
    (children : List (Child (List ℕ))) → moves ≡ rest ++ m ∷ [] → IsChildOf w b m child
    → AreChildrenBy w b (reverse rest) children → AreChildrenBy w b (reverse moves) (child ∷ children)
next_child w b moves rest m child children e is are =
    subst (λ l. AreChildrenBy w b l (child ∷ children)) (sym (ap reverse e ∙ reverse-append rest (m ∷ []))) (is, are)

-- this child starts
pub settled_starts : (w : Frame) (child : Child (List ℕ)) → IsSettledChild w w.start 0 child
    → SettlesTo (by_codes w.start) w.game w.rule w.start child.cost child.key
settled_starts w child (q, count, settles, code, cost) =
    let same : count ≡ child.cost = omega (arith, cost) in
    subst (λ n. SettlesTo (by_codes w.start) w.game w.rule w.start n child.key) same (q, settles, code)

-- what starts is this child, at no less
pub start_alone : (w : Frame) (child : Child (List ℕ)) → IsFrame w → IsSettledChild w w.start 0 child
    → (x : List ℕ) (d : ℕ) → SettlesTo (by_codes w.start) w.game w.rule w.start d x → (x ≡ child.key) × (child.cost ≤ d)
start_alone w child f settled x d starts =
    let once = child_once w w.start w.start 0 d child x f f.fits f.fits (class-refl w.start) settled starts in
    (sym once.0, omega (arith, once.1))

-- a walk stands at the same codes where it differs by the moves alone that are left
pub stands_same : {G : Type 0} (rules : G → GameRules) (old new : ChildrenLeft G) (last : Option Move) (y : List ℕ)
    → (new.game ≡ old.game) × (new.rule ≡ old.rule) × (new.kind ≡ old.kind) × (new.start ≡ old.start)
    × (new.position ≡ old.position)
    → StandsAt (frame_of (rules new.game) new.rule new.kind new.start) new.position last y
    → StandsAt (frame_of (rules old.game) old.rule old.kind old.start) old.position last y
stands_same rules old new last y (game, rule, kind, start, position) at =
    subst (λ v. StandsAt (frame_of (rules v) old.rule old.kind old.start) old.position last y) game
    (subst (λ v. StandsAt (frame_of (rules new.game) v old.kind old.start) old.position last y) rule
    (subst (λ v. StandsAt (frame_of (rules new.game) new.rule v old.start) old.position last y) kind
    (subst (λ v. StandsAt (frame_of (rules new.game) new.rule new.kind v) old.position last y) start
    (subst (λ v. StandsAt (frame_of (rules new.game) new.rule new.kind new.start) v last y) position at))))

-- what is left of the children stays where the walk differs by the move alone that came last
pub children_same : {G : Type 0} (rules : G → GameRules) (old new : ChildrenLeft G)
    → (new.game ≡ old.game) × (new.rule ≡ old.rule) × (new.kind ≡ old.kind) × (new.start ≡ old.start)
    × (new.position ≡ old.position) × (new.moves ≡ old.moves)
    → (children : List (Child (List ℕ)))
    → AreChildrenBy (frame_of (rules new.game) new.rule new.kind new.start) new.position (reverse new.moves) children
    → AreChildrenBy (frame_of (rules old.game) old.rule old.kind old.start) old.position (reverse old.moves) children
children_same rules old new (game, rule, kind, start, position, moves) children are =
    subst (λ v. AreChildrenBy (frame_of (rules v) old.rule old.kind old.start) old.position (reverse old.moves) children) game
    (subst (λ v. AreChildrenBy (frame_of (rules new.game) v old.kind old.start) old.position (reverse old.moves) children) rule
    (subst (λ v. AreChildrenBy (frame_of (rules new.game) new.rule v old.start) old.position (reverse old.moves) children) kind
    (subst (λ v. AreChildrenBy (frame_of (rules new.game) new.rule new.kind v) old.position (reverse old.moves) children) start
    (subst (λ v. AreChildrenBy (frame_of (rules new.game) new.rule new.kind new.start) v (reverse old.moves) children) position
    (subst (λ v. AreChildrenBy (frame_of (rules new.game) new.rule new.kind new.start) new.position (reverse v) children)
    moves are)))))
