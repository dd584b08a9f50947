-- Lists that are played, with moves home put in.
use Rattle.std.proofs.Common.{◌≡◌, ◌∙◌, ◌⊎◌, inl, inr, ℕ, ◌+◌, ◌-◌, ◌<◌, ◌≤◌, Option, Some, None, List, [], ◌∷◌, ◌++◌, length, drop, get_or, refl, sym, subst, ap, arith, add-one, drop-cons, length-append, length-drop, ⊎_elim}
use Rattle.std.specs.Prelude.{All, Contains, IfNone, IfSome, IsSome, slice_set, sum_by}
use Rattle.std.proofs.lemmas.Bool.{false≢true, cases_lt}
use Rattle.std.proofs.lemmas.List.{drop_all, get_or_default}
use Rattle.std.proofs.lemmas.Option.{none-some}
use Rattle.std.proofs.lemmas.List.Elements.{All-append, All-cons, All-nil}
use Rattle.std.proofs.lemmas.List.Sums.{sum_by-set, sum_by-le}
use Rattle.fc_cards.specs.Card.{rank, suit}
use Rattle.fc_cards.specs.declared.places.Place.{Place}
use Rattle.fc_cards.specs.declared.places.Place.TheVariants.{Home}
use Rattle.fc_position.specs.Board.{Board, IsNext, board_without, board_with}
use Rattle.fc_position.proofs.BoardLemmas.{home_most, homes-lifted}
use Rattle.fc_moves.specs.declared.steps.Move.{Move}
use Rattle.fc_moves.specs.GameRules.{GameRules, IsPositionOf}
use Rattle.fc_moves.specs.Run.{Run}
use Rattle.fc_moves.specs.Step.{Allows, ListsMoves, Step, Takes}
use Rattle.fc_moves.proofs.StepLemmas.{step_keeps}
use Rattle.fc_moves.specs.MoveText.{HasText}
use Rattle.fc_sequences.proofs.RunLemmas.{run_on}
use Rattle.fc_position.specs.Position.{IsPosition, IsWon}
use Rattle.fc_lists.specs.Weaving.{AllowsEntry, EndsAtHome, IsEntryFor, IsHomeBefore, IsMoveHome, IsPlayed, IsRefusedEntry, AllowsNoMoveHome, Thread, Weaves, begins, goes_on, no_moves, passes, sends_home, IsWayHome, MakesWay}
use Rattle.fc_lists.specs.declared.written_entries.Entry.{Entry}
use Rattle.fc_lists.specs.declared.written_entries.Entry.TheVariants.{Card as of_card}
use Rattle.fc_lists.specs.inner.Ways.{IsReady, SomeMakesWay}
use Rattle.fc_lists.proofs.PlayedLemmas.{run_texts}

-- how many cards are home
abbrev pub total : List ℕ → ℕ
total homes = sum_by (λ n. n) homes

-- a next card that goes home is one more
total-next : (homes : List ℕ) (c : ℕ) → length homes ≡ 4 → IsNext homes c → total (slice_set homes (suit c) (rank c)) ≡ total homes + 1
total-next homes c four next =
    let changed = sum_by-set (λ n. n) homes (suit c) (rank c) 0 (omega arith) in omega (arith, changed, next)

-- no more than 52 cards are home
total-most : (b : Board) → IsPosition b → total b.homes ≤ 52
total-most b p =
    let few : All (λ n. n ≤ 13) b.homes = λ k d below. omega (arith, home_most b p k, get_or_default b.homes k d 0 below) in
    omega (arith, sum_by-le (λ n. n) 13 b.homes few, p.homes)

-- a move home has one card more home, of 52
pub home_more : (g : GameRules) (b c : Board) (m : Move) → IsPositionOf g b → IsMoveHome m → Step g b m c
    → (total c.homes ≡ total b.homes + 1) × (total b.homes < 52)
home_more g b c m p home step =
    let takes : IsNext b.homes step.card = subst (λ to. Takes g b step.card to) home step.takes in
    let after : c ≡ board_with (board_without b m.from) step.card Home = subst (λ to. c ≡ board_with (board_without b m.from) step.card to) home step.after in
    let homes : c.homes ≡ slice_set b.homes (suit step.card) (rank step.card) =
    ap (λ x. x.homes) after ∙ ap (λ h. slice_set h (suit step.card) (rank step.card)) (homes-lifted b m.from) in
    let more : total c.homes ≡ total b.homes + 1 = ap total homes ∙ total-next b.homes step.card p.position.homes takes in
    let most : total c.homes ≤ 52 = total-most c (step_keeps _ _ _ _ p step).position in
    (more, omega (arith, more, most))

-- moves home behind moves home
pub homes_on : (g : GameRules) (b c d : Board) (homes : List Move) (m : Move) → All IsMoveHome homes → Run g b homes c → IsMoveHome m → Step g c m d
    → All IsMoveHome (homes ++ m ∷ []) × Run g b (homes ++ m ∷ []) d
homes_on g b c d homes m all run home step = (
  All-append IsMoveHome homes (m ∷ []) all (All-cons IsMoveHome m [] home (All-nil IsMoveHome)),
  run_on g b c d homes (m ∷ []) run (d, step, refl),
)

-- nothing is no move
is_none : (o : Option Move) → o ≡ None → IsSome o → ⊥
is_none None same some = false≢true some
is_none (Some m) same some = none-some m (sym same)

-- so far no move home was met, nor is this one
pub met_none : (list : List Move) (i k : ℕ) (before result : Option Move) (d e : Move) → i < length list
    → ((result ≡ before) × (IsMoveHome (get_or list i e) → IsSome before)) ⊎ ((result ≡ Some (get_or list i e)) × IsMoveHome (get_or list i e))
    → (before ≡ None → (j : ℕ) (f : Move) → j < i → IsMoveHome (get_or list j f) → ⊥) → result ≡ None → k < i + 1 → IsMoveHome (get_or list k d) → ⊥
met_none list i k before result d e within (inr (some, home)) none same below goes = none-some (get_or list i e) (sym same ∙ some)
met_none list i k before result d e within (inl (kept, first)) none same below goes =
    let empty : before ≡ None = sym kept ∙ same in
    let last : k ≡ i → ⊥ = λ e'. is_none before empty (first (subst (λ n. IsMoveHome (get_or list n e)) e' (subst IsMoveHome (get_or_default list k d e (omega (arith, e', within))) goes))) in
    none empty k d (omega (arith, below, last)) goes

-- no move home was met among all that are allowed
pub left_none : (g : GameRules) (b : Board) (list : List Move) (i : ℕ) (chosen : Option Move) → ListsMoves g b list → length list ≤ i
    → (chosen ≡ None → (j : ℕ) (f : Move) → j < i → IsMoveHome (get_or list j f) → ⊥) → IfNone chosen (AllowsNoMoveHome g b)
left_none g b list i None lists all none = λ m home allowed.
    let there = lists.complete m allowed in
    let low = there.1 in
    none refl there.0 m (omega (arith, low, all)) (subst IsMoveHome (sym there.2) home)
left_none g b list i (Some m) lists all none = tt

-- no allowed move does
pub none_takes : (g : GameRules) (b : Board) (list : List Move) (i : ℕ) (card : ℕ) (to : Place) → ListsMoves g b list → length list ≤ i
    → ((j : ℕ) (d : Move) → j < i → IsEntryFor b (of_card card to) (get_or list j d) → ⊥) → AllowsEntry g b (of_card card to) → ⊥
none_takes g b list i card to lists all none (m, is, allowed) =
    let there = lists.complete m allowed in
    let low = there.1 in
    none there.0 m (omega (arith, low, all)) (subst (IsEntryFor b (of_card card to)) (sym there.2) is)

-- no allowed move does
pub none_goes : (g : GameRules) (b : Board) (list : List Move) (i : ℕ) → ListsMoves g b list → length list ≤ i
    → ((j : ℕ) (d : Move) → j < i → IsMoveHome (get_or list j d) → ⊥) → AllowsNoMoveHome g b
none_goes g b list i lists all none = λ m home allowed.
    let there = lists.complete m allowed in
    let low = there.1 in
    none there.0 m (omega (arith, low, all)) (subst IsMoveHome (sym there.2) home)

-- an entry of the list that isn't allowed or passed over, and before which no card can go home
pub refused_at : (g : GameRules) (b : Board) (list : List Entry) (i : ℕ) (e : Entry) (t : Thread) (here : Board) → i < length list
    → Weaves g b list (e ∷ drop (i + 1) list) t here → (AllowsEntry g here e → ⊥) → (IsHomeBefore here e → ⊥) → IsReady g here e ⊎ AllowsNoMoveHome g here
    → IsRefusedEntry g b list (i + 1)
refused_at g b list i e t here within woven refused needed (inl (inl passed)) = absurd (needed passed)
refused_at g b list i e t here within woven refused needed (inl (inr allowed)) = absurd (refused allowed)
refused_at g b list i e t here within woven refused needed (inr stuck) = record {
  e = e;
  rest = drop (i + 1) list;
  front = t;
  here = here;
  woven = woven;
  refused = refused;
  needed = needed;
  stuck = stuck;
  place = let size = length-drop (i + 1) list in omega (arith, size, within);
}

-- the next entry, and those behind it
pub entries_at : (list : List Entry) (i : ℕ) (e : Entry) → i < length list → e ≡ get_or list i e → drop i list ≡ e ∷ drop (i + 1) list
entries_at list i e within is =
    let next : drop i list ≡ get_or list i e ∷ drop (i + 1) list = rw (add-one, drop-cons list i e) in
    next ∙ ap (λ x. x ∷ drop (i + 1) list) (sym is)

-- before the first entry
pub begins_at : (g : GameRules) (b : Board) (list : List Entry) (moves : List Move) (here : Board) → moves ≡ [] → here ≡ b
    → Weaves g b list list (record { moves = moves; listed = 0 }) here
begins_at g b list moves here none same =
    subst (λ l. Weaves g b list list (record { moves = l; listed = 0 }) here) (sym none) (subst (λ c. Weaves g b list list no_moves c) (sym same) begins)

-- the chosen move stays one home that is allowed
pub chosen_on : (g : GameRules) (b : Board) (before result : Option Move) (m : Move) → Allows g b m
    → ((result ≡ before) × (IsMoveHome m → IsSome before)) ⊎ ((result ≡ Some m) × IsMoveHome m) → IfSome before (λ x. IsMoveHome x × Allows g b x)
    → IfSome result (λ x. IsMoveHome x × Allows g b x)
chosen_on g b before result m allowed (inl (kept, first)) good = subst (λ o. IfSome o (λ x. IsMoveHome x × Allows g b x)) (sym kept) good
chosen_on g b before result m allowed (inr (new, home)) good = subst (λ o. IfSome o (λ x. IsMoveHome x × Allows g b x)) (sym new) (home, allowed)

-- what stands at a place of a list is in it
pub is_in : (all list : List Move) (i : ℕ) (d : Move) → all ≡ list → i < length all → Contains list (get_or all i d)
is_in all list i d same below = subst (λ l. Contains l (get_or all i d)) same (i, below, get_or_default all i (get_or all i d) d below)

-- what is woven runs
weaves_run : (g : GameRules) (b : Board) (list rest : List Entry) (t : Thread) (c : Board) → Weaves g b list rest t c → Run g b t.moves c
weaves_run g b list rest t c begins = refl
weaves_run g b list rest t d (goes_on e m rest' before c d' woven is step) =
    run_on g b c d before.moves (m ∷ []) (weaves_run g b list (e ∷ rest) before c woven) (d, step, refl)
weaves_run g b list rest t c (passes e rest' before c' woven passed) = weaves_run g b list (e ∷ rest) t c woven
weaves_run g b list rest t d (sends_home e home rest' before c d' woven refused needed goes step) =
    run_on g b c d before.moves (home ∷ []) (weaves_run g b list rest before c woven) (d, step, refl)

-- no more moves are listed than there are
pub weaves_listed : (g : GameRules) (b : Board) (list rest : List Entry) (t : Thread) (c : Board) → Weaves g b list rest t c → t.listed ≤ length t.moves
weaves_listed g b list rest t c begins = omega arith
weaves_listed g b list rest t d (goes_on e m rest' before c d' woven is step) =
    let so = weaves_listed g b list (e ∷ rest) before c woven in
    let size = length-append before.moves (m ∷ []) in omega (arith, so, size)
weaves_listed g b list rest t c (passes e rest' before c' woven passed) = weaves_listed g b list (e ∷ rest) t c woven
weaves_listed g b list rest t d (sends_home e home rest' before c d' woven refused needed goes step) =
    let so = weaves_listed g b list rest before c woven in
    let size = length-append before.moves (home ∷ []) in omega (arith, so, size)

-- moves home that are kept run
kept_run : (g : GameRules) (b : Board) (homes all : List Move) (end : Board) → Run g b all end
    → (IsWon end × (homes ≡ all)) ⊎ ((IsWon end → ⊥) × (homes ≡ [])) → (c : Board) × Run g b homes c
kept_run g b homes all end run (inl (won, same)) = (end, subst (λ l. Run g b l end) (sym same) run)
kept_run g b homes all end run (inr (lost, none)) = (b, subst (λ l. Run g b l b) (sym none) refl)

ended_run : (g : GameRules) (b : Board) (homes : List Move) → EndsAtHome g b homes → (c : Board) × Run g b homes c
ended_run g b homes ended = kept_run g b homes ended.all ended.end ended.run ended.kept

pub played_run : (g : GameRules) (b : Board) (list : List Entry) (moves : List Move) (inserted : ℕ) → IsPlayed g b list moves inserted
    → (c : Board) × Run g b moves c
played_run g b list moves inserted played =
    let run = ended_run g played.here played.homes played.ended in (
      run.0,
      subst (λ l. Run g b l run.0) (sym played.parts)
          (run_on g b played.here run.0 played.front.moves played.homes (weaves_run g b list [] played.front played.here played.woven) run.1),
    )

pub played_texts : (g : GameRules) (b : Board) (list : List Entry) (moves : List Move) (inserted : ℕ) → IsPositionOf g b → IsPlayed g b list moves inserted
    → All HasText moves
played_texts g b list moves inserted p played = let run = played_run g b list moves inserted played in run_texts g b run.0 moves p run.1

-- all of a list is played, and what is behind it
pub played_at : (g : GameRules) (b : Board) (list : List Entry) (front homes part moves : List Move) (listed inserted : ℕ) (here : Board) (i : ℕ) → length list ≤ i
    → Weaves g b list (drop i list) (record { moves = front; listed = listed }) here → EndsAtHome g here homes → moves ≡ front ++ part → part ≡ homes
    → inserted ≡ length moves - listed → IsPlayed g b list moves inserted
played_at g b list front homes part moves listed inserted here i all woven ended parts same count =
    let few = weaves_listed g b list (drop i list) (record { moves = front; listed = listed }) here woven in
    let size : length moves ≡ length front + length part = ap length parts ∙ length-append front part in
    record {
      front = record { moves = front; listed = listed };
      homes = homes;
      here = here;
      parts = parts ∙ ap (λ l. front ++ l) same;
      count = omega (arith, few, size, count);
      woven = subst (λ l. Weaves g b list l (record { moves = front; listed = listed }) here) (drop_all i list all) woven;
      ended = ended;
    }

-- where a move home among those so far makes way, the chosen one does
pub way_on : (g : GameRules) (b : Board) (list : List Move) (i k : ℕ) (before result : Option Move) (d e : Move) (w : Entry) → i < length list
    → (SomeMakesWay g b before w ⊎ (IsMoveHome (get_or list i e) × MakesWay g b (get_or list i e) w)
    → SomeMakesWay g b result w)
    → ((j : ℕ) (f : Move) → j < i → IsMoveHome (get_or list j f) → MakesWay g b (get_or list j f) w → SomeMakesWay g b before w)
    → k < i + 1 → IsMoveHome (get_or list k d) → MakesWay g b (get_or list k d) w → SomeMakesWay g b result w
way_on g b list i k before result d e w within next so below goes makes =
    ⊎_elim (λ less. next (inl (so k d less goes makes)))
    (λ more.
    let last : k ≡ i = omega (arith, below, more) in
    let same : get_or list k d ≡ get_or list i e = get_or_default list k d e (omega (arith, last, within)) ∙ ap (λ n. get_or list n e) last in
    next (inr (subst IsMoveHome same goes, subst (λ x. MakesWay g b x w) same makes)))
    (cases_lt k i)

-- where any move home makes way, the chosen one does
pub way_left : (g : GameRules) (b : Board) (list : List Move) (i : ℕ) (chosen : Option Move) (w : Entry) → ListsMoves g b list → length list ≤ i
    → IfSome chosen (λ m. IsMoveHome m × Allows g b m)
    → ((j : ℕ) (f : Move) → j < i → IsMoveHome (get_or list j f) → MakesWay g b (get_or list j f) w → SomeMakesWay g b chosen w)
    → IfSome chosen (IsWayHome g b w)
way_left g b list i None w lists all good so = tt
way_left g b list i (Some m) w lists all good so = (
  good.0,
  λ other goes makes.
      let there = lists.complete other (makes.0, makes.1) in
      let low = there.1 in
      so there.0 other (omega (arith, low, all)) (subst IsMoveHome (sym there.2) goes) (subst (λ x. MakesWay g b x w) (sym there.2) makes),
)
