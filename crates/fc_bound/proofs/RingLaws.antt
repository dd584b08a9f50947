-- What moves do to rings, and to what is shown by them.
use Rattle.std.proofs.Common.{◌≡◌, ◌≢◌, ℕ, ◌+◌, ◌<◌, true, false, cond, Some, List, [], ◌∷◌, ◌++◌, All, Contains, get_or, set, length, refl, sym, ◌∙◌, ap, subst, ⊎_elim, true≢false, arith}
use Rattle.std.specs.Prelude.{nat_lt, count_by, slice_index}
use Rattle.std.specs.List.{list_any}
use Rattle.std.specs.List.Sorted.{IsPermutation}
use Rattle.std.proofs.lemmas.Bool.{cases_eq}
use Rattle.std.proofs.lemmas.Bool.Decides.{nat_tests}
use Rattle.std.proofs.lemmas.List.{get_or-set_same}
use Rattle.std.proofs.lemmas.List.Sorted.{list_any-IsPermutation}
use Rattle.fc_cards.specs.Card.{rank, suit, all_cards}
use Rattle.fc_cards.specs.declared.places.Place.{Place}
use Rattle.fc_cards.specs.declared.places.Place.TheVariants.{Column, Cell, Home}
use Rattle.fc_position.specs.Board.{Board, column, playable, board_without, board_with, IsNext}
use Rattle.fc_position.specs.Position.{IsPosition}
use Rattle.fc_position.proofs.BoardLemmas.{playable_below, homes-lifted}
use Rattle.fc_moves.specs.declared.steps.Move.{Move}
use Rattle.fc_moves.specs.GameRules.{GameRules}
use Rattle.fc_moves.specs.Step.{Takes}
use Rattle.fc_home.specs.Settles.{SettlesBy, sent_home}
use Rattle.fc_home.proofs.SettleLemmas.{goes_next, sent_position}
use Rattle.fc_bound.specs.declared.kinds.BoundKind.{BoundKind}
use Rattle.fc_bound.specs.declared.kinds.BoundKind.TheVariants.{Plain, Clearing}
use Rattle.fc_bound.specs.Bound.{bound, is_away, is_held_back, is_above_lower}
use Rattle.fc_bound.specs.Clearing.{waits}
use Rattle.fc_bound.specs.Kinds.{IsShown}
use Rattle.fc_bound.specs.Laws.{RingsStay, RingsKeepFromHome, ClassMatesShowTheSame, HomeShowsOneLess, SettlingShowsOneLessEach}
use Rattle.fc_bound.specs.Rings.{is_at_or_beneath, waits_beneath, IsFamily, IsRing}
use Rattle.fc_bound.proofs.AboveLemmas.{not_true}
use Rattle.fc_bound.proofs.ClearingOrders.{fronts-wait, without-front}
use Rattle.fc_bound.proofs.ClearingSteps.{next_waits}
use Rattle.fc_bound.proofs.CountLemmas.{count-but_one, count-same}
use Rattle.fc_bound.proofs.HeldLemmas.{any-set, away-home, class_bound, held-lifted, next_free}
use Rattle.fc_bound.proofs.RingCosts.{beneath-other, beneath-without, not_in, ring-kept, ring-waits}
use Rattle.fc_bound.proofs.RingHeld.{single-ring}

-- a card that is lifted or placed changes for no other card what waits beneath it
pub beneath-lifted : (b : Board) (from : Place) (u c e : ℕ) → playable b from ≡ Some u → u ≢ e
    → waits_beneath (board_without b from).columns c e ≡ waits_beneath b.columns c e
beneath-lifted b (Column i) u c e last other = beneath-without b.columns i u c e last other
beneath-lifted b (Cell i) u c e full other = refl
beneath-lifted b Home u c e none other = refl

pub beneath-placed : (b : Board) (u : ℕ) (to : Place) (c e : ℕ) → u ≢ e
    → waits_beneath (board_with b u to).columns c e ≡ waits_beneath b.columns c e
beneath-placed b u (Column j) c e other =
    any-set (is_at_or_beneath c e) b.columns j (column b j ++ u ∷ []) (beneath-other c e u (column b j) other)
beneath-placed b u (Cell j) c e other = refl
beneath-placed b u Home c e other = refl

-- so a ring stays one where another card is lifted, and where it is placed
ring-lifted : (b : Board) (from : Place) (u : ℕ) (ring : List ℕ) → playable b from ≡ Some u → (Contains ring u → ⊥)
    → IsRing b.columns ring → IsRing (board_without b from).columns ring
ring-lifted b from u ring there outside =
    ring-kept b.columns (board_without b from).columns ring (λ c e here. beneath-lifted b from u c e there (not_in u e ring outside here))

ring-placed : (b : Board) (u : ℕ) (to : Place) (ring : List ℕ) → (Contains ring u → ⊥) → IsRing b.columns ring
    → IsRing (board_with b u to).columns ring
ring-placed b u to ring outside =
    ring-kept b.columns (board_with b u to).columns ring (λ c e here. beneath-placed b u to c e (not_in u e ring outside here))

pub rings_stay : RingsStay
rings_stay g b c m u ring p step there outside r =
    let same : step.card ≡ u = let e = step.playable in cc in
    let after : c ≡ board_with (board_without b m.from) u m.to = step.after ∙ ap (λ v. board_with (board_without b m.from) v m.to) same in
    subst (λ x. IsRing x.columns ring) (sym after)
    (ring-placed (board_without b m.from) u m.to ring outside (ring-lifted b m.from u ring there outside r))

-- a card of a ring waits, and a card that is next doesn't
pub rings_keep : RingsKeepFromHome
rings_keep b u ring p r here next = true≢false (sym (ring-waits b.columns u ring r here) ∙ next_waits b u p next)

-- a family stays one where a card moves that is in none of its rings: what waits beneath the other cards stays, and whether
-- they are held back
pub family-kept : (columns others : List (List ℕ)) (u cards : ℕ) (rings : List (List ℕ))
    → ((c e : ℕ) → u ≢ e → waits_beneath others c e ≡ waits_beneath columns c e)
    → ((c : ℕ) → u ≢ c → list_any (is_above_lower c) others ≡ list_any (is_above_lower c) columns)
    → All (λ ring. Contains ring u → ⊥) rings → IsFamily columns cards rings → IsFamily others cards rings
family-kept columns others u cards rings beneath held outside f = record {
  are = λ k d below. ring-kept columns others (get_or rings k d)
      (λ c e here. beneath c e (not_in u e (get_or rings k d) (outside k d below) here)) (f.are k d below);
  apart = f.apart;
  among = f.among;
  free = λ k d below c here. held c (not_in u c (get_or rings k d) (outside k d below) here) ∙ f.free k d below c here;
}

-- columns in another order have the same families
family-moved : (xs ys : List (List ℕ)) (cards : ℕ) (rings : List (List ℕ)) → IsPermutation xs ys → IsFamily xs cards rings
    → IsFamily ys cards rings
family-moved xs ys cards rings p f = record {
  are = λ k d below. ring-kept xs ys (get_or rings k d) (λ c e here. sym (list_any-IsPermutation (is_at_or_beneath c e) xs ys p))
      (f.are k d below);
  apart = f.apart;
  among = f.among;
  free = λ k d below c here. sym (list_any-IsPermutation (is_above_lower c) xs ys p) ∙ f.free k d below c here;
}

pub mates_show : ClassMatesShowTheSame
mates_show Plain b c number note s is = is ∙ class_bound b c s
mates_show Clearing b c number note s (rings, f, is) =
    (rings, family-moved b.columns c.columns note rings s.columns f, is ∙ ap (λ n. n + length rings) (class_bound b c s))

-- so much less is shown of a board
abbrev ShowsLess : BoundKind → Board → ℕ → ℕ → ℕ → Type 0
ShowsLess kind b number count note = (less : ℕ) × (number ≡ less + count) × IsShown kind b less note

-- a next card that goes home is one card less that is not home
bound-home : (b : Board) (u : ℕ) → length b.homes ≡ 4 → u < 52 → IsNext b.homes u → bound b ≡ bound (board_with b u Home) + 1
unfolding bound
bound-home b u four below next =
    let away = count-but_one u (is_away b) (is_away (board_with b u Home)) below (λ c other. away-home b.homes u c four next other) in
    let before : ◌≡◌ {A = ℕ} (cond (is_away b u) 1 0) 1 = go_before (slice_index b.homes (suit u)) (rank u) next in
    let after : ◌≡◌ {A = ℕ} (cond (is_away (board_with b u Home) u) 1 0) 0 =
    go_after (slice_index (set b.homes (suit u) (rank u)) (suit u)) (rank u)
    (get_or-set_same b.homes (suit u) (rank u) 0 (omega arith)) in
    omega (arith, away, before, after)
  where
    go_before : (h r : ℕ) → h + 1 ≡ r → ◌≡◌ {A = ℕ} (cond (nat_lt h r) 1 0) 1
    go_before h r next = grind (arith, nat_tests)

    go_after : (h r : ℕ) → h ≡ r → ◌≡◌ {A = ℕ} (cond (nat_lt h r) 1 0) 0
    go_after h r same = grind (arith, nat_tests)

shown-home : (kind : BoundKind) (b : Board) (u number note : ℕ) → length b.homes ≡ 4 → u < 52 → IsNext b.homes u
    → IsShown kind b number note → ShowsLess kind (board_with b u Home) number 1 note
shown-home Plain b u number note four below next is =
    (bound (board_with b u Home), is ∙ bound-home b u four below next, refl)
shown-home Clearing b u number note four below next (rings, f, is) =
    (bound (board_with b u Home) + length rings, omega (arith, is, bound-home b u four below next), (rings, f, refl))

-- the same of the board from which the card was lifted
shown-sent : (kind : BoundKind) (b : Board) (from : Place) (u number note : ℕ) → IsPosition b → playable b from ≡ Some u
    → IsNext b.homes u → IsShown kind (board_without b from) number note → ShowsLess kind (sent_home b from u) number 1 note
shown-sent kind b from u number note p there next =
    shown-home kind (board_without b from) u number note (ap length (homes-lifted b from) ∙ p.homes) (playable_below b from u p there)
    (subst (λ h. IsNext h u) (sym (homes-lifted b from)) next)

pub home_shows : HomeShowsOneLess
home_shows kind g b c m number note p step home is =
    let after : c ≡ sent_home b m.from step.card = step.after ∙ ap (board_with (board_without b m.from) step.card) home in
    subst (λ x. ShowsLess kind x number 1 note) (sym after)
    (shown-sent kind b m.from step.card number note p step.playable (subst (Takes g b step.card) home step.takes) is)

-- a next card is not held back where it is lifted
waits-lifted : (b : Board) (from : Place) (u : ℕ) → waits (board_without b from).columns (Some u) ≡ true → waits b.columns (Some u) ≡ true
waits-lifted b (Column i) u waiting = fronts-wait (board_without b (Column i)).columns b.columns (Some u) (without-front b.columns i) waiting
waits-lifted b (Cell i) u waiting = waiting
waits-lifted b Home u waiting = waiting

free-lifted : (b : Board) (from : Place) (u : ℕ) → IsPosition b → IsNext b.homes u → is_held_back (board_without b from) u ≡ false
free-lifted b from u p next = not_true (is_held_back (board_without b from) u) (λ held.
    let columns = (board_without b from).columns in
    let waiting = ring-waits columns u (u ∷ []) (single-ring columns u held) (0, omega arith, refl) in
    true≢false (sym (waits-lifted b from u waiting) ∙ next_waits b u p next))

-- so lifting a next card changes nothing in what is shown
bound-lifted : (b : Board) (from : Place) (u : ℕ) → IsPosition b → playable b from ≡ Some u → IsNext b.homes u
    → bound (board_without b from) ≡ bound b
unfolding bound
bound-lifted b from u p there next =
    let away : count_by (is_away (board_without b from)) all_cards ≡ count_by (is_away b) all_cards =
    ap (λ h. count_by (λ x. nat_lt (slice_index h (suit x)) (rank x)) all_cards) (homes-lifted b from) in
    let held = count-same (is_held_back (board_without b from)) (is_held_back b) (λ c below. ⊎_elim
    (λ e. subst (λ x. is_held_back (board_without b from) x ≡ is_held_back b x) e (free-lifted b from u p next ∙ sym (next_free b u p next)))
    (λ other. held-lifted b from u c there other) (cases_eq u c)) in
    omega (arith, away, held)

family-lifted : (b : Board) (from : Place) (u cards : ℕ) (rings : List (List ℕ)) → IsPosition b → playable b from ≡ Some u
    → IsNext b.homes u → IsFamily b.columns cards rings → IsFamily (board_without b from).columns cards rings
family-lifted b from u cards rings p there next f =
    family-kept b.columns (board_without b from).columns u cards rings (λ c e. beneath-lifted b from u c e there)
    (λ c. held-lifted b from u c there) (λ k d below here. rings_keep b u (get_or rings k d) p (f.are k d below) here next) f

shown-lifted : (kind : BoundKind) (b : Board) (from : Place) (u number note : ℕ) → IsPosition b → playable b from ≡ Some u
    → IsNext b.homes u → IsShown kind b number note → IsShown kind (board_without b from) number note
shown-lifted Plain b from u number note p there next is = is ∙ sym (bound-lifted b from u p there next)
shown-lifted Clearing b from u number note p there next (rings, f, is) = (
  rings,
  family-lifted b from u note rings p there next f,
  is ∙ ap (λ n. n + length rings) (sym (bound-lifted b from u p there next)),
)

-- each card that goes home in settling is one less
shown-settled : (kind : BoundKind) (g : GameRules) (rule : ℕ) (ms : List Move) (b q : Board) (number note : ℕ) → IsPosition b
    → SettlesBy g rule b ms q → IsShown kind b number note → ShowsLess kind q number (length ms) note
shown-settled kind g rule [] b q number note p (same, none) is =
    (number, omega arith, subst (λ x. IsShown kind x number note) (sym same) is)
shown-settled kind g rule (m ∷ ms) b q number note p (c, first, home, rest) is =
    let next = goes_next rule g b.homes c first.goes in
    let one = shown-sent kind b m.from c number note p first.there next (shown-lifted kind b m.from c number note p first.there next is) in
    let later = shown-settled kind g rule ms (sent_home b m.from c) q one.0 note (sent_position rule g b m.from c p first) rest one.2 in
    (later.0, omega (arith, one.1, later.1), later.2)

pub settling_shows : SettlingShowsOneLessEach
settling_shows kind g rule b q count number note p (ms, long, settles) is =
    let less = shown-settled kind g rule ms b q number note p settles is in
    (less.0, omega (arith, less.1, long), less.2)
