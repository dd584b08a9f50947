-- The layers so far, one more, and how their growth ends.
use Rattle.std.proofs.Common.{arith, ◌≡◌, ◌≢◌, ℕ, ◌+◌, ◌-◌, ◌<◌, ◌≤◌, zero, suc, List, [], ◌∷◌, ◌++◌, length, take, drop, Some, refl, sym, ◌∙◌, ap, subst, ⊎_elim}
use Rattle.std.specs.Prelude.{slice_get, get_or, Contains, All, AllPairs}
use Rattle.std.proofs.lemmas.Bool.{cases_lt}
use Rattle.std.proofs.lemmas.List.{take_all}
use Rattle.std.proofs.lemmas.List.Elements.{All-get_or}
use Rattle.std.proofs.lemmas.Option.{slice_get_within, slice_get-get_or, get_or_from_slice_get}
use Rattle.fc_position.specs.Board.{Board}
use Rattle.fc_position.specs.Position.{IsWon}
use Rattle.fc_moves.specs.GameRules.{GameRules, IsPositionOf}
use Rattle.fc_sequences.specs.declared.layers.Layer.{Layer}
use Rattle.fc_sequences.specs.declared.list_expansions.TheConstants.{MOST_BOARDS}
use Rattle.fc_sequences.specs.declared.list_expansions.ListFault.TheVariants.{Refused, TooMany}
use Rattle.fc_sequences.specs.declared.pairs.Pair.{Pair}
use Rattle.fc_sequences.specs.Following.{Follows, LeadsToMany, LeadToFewBefore, IsListFault}
use Rattle.fc_sequences.specs.inner.Layers.{AreLinked, IsGrown, IsLinked, IsNext, link_at}
use Rattle.fc_sequences.proofs.GetLemmas.{no_more, take_next}
use Rattle.fc_sequences.proofs.GrowLemmas.{place_of}
use Rattle.fc_sequences.proofs.FollowLemmas.{follows_push, follows_pop}

-- one layer more
pub linked_push : (g : GameRules) (first mid last : List Board) (ps : List Pair) (layers : List Layer) (pair : Pair) (layer : Layer)
    → AreLinked g first ps layers mid → IsLinked g mid pair (link_at layer) last → AreLinked g first (ps ++ pair ∷ []) (layers ++ layer ∷ []) last
linked_push g first mid last [] [] pair layer same linked = (last, subst (λ l. IsLinked g l pair (link_at layer) last) same linked, refl)
linked_push g first mid last (p ∷ ps) (l ∷ layers) pair layer (next, one, rest) linked =
    (next, one, linked_push g next mid last ps layers pair layer rest linked)
linked_push g first mid last [] (l ∷ layers) pair layer none linked = absurd none
linked_push g first mid last (p ∷ ps) [] pair layer none linked = absurd none

-- the last layer apart
pub linked_pop : (g : GameRules) (first last : List Board) (ps : List Pair) (layers : List Layer) (pair : Pair) (layer : Layer)
    → AreLinked g first (ps ++ pair ∷ []) (layers ++ layer ∷ []) last
    → (mid : List Board) × AreLinked g first ps layers mid × IsLinked g mid pair (link_at layer) last
linked_pop g first last [] [] pair layer (mid, one, same) = (first, refl, subst (IsLinked g first pair (link_at layer)) (sym same) one)
linked_pop g first last (p ∷ ps) (l ∷ layers) pair layer (next, one, rest) =
    let found = linked_pop g next last ps layers pair layer rest in (found.0, (next, one, found.1), found.2)
linked_pop g first last [] (l ∷ []) pair layer (next, one, none) = absurd none
linked_pop g first last [] (l ∷ k ∷ layers) pair layer (next, one, none) = absurd none
linked_pop g first last (p ∷ []) [] pair layer (next, one, none) = absurd none
linked_pop g first last (p ∷ q ∷ ps) [] pair layer (next, one, none) = absurd none

-- there is a layer for each entry
pub linked_long : (g : GameRules) (first last : List Board) (ps : List Pair) (layers : List Layer) → AreLinked g first ps layers last → length ps ≡ length layers
linked_long g first last [] [] linked = refl
linked_long g first last (p ∷ ps) (l ∷ layers) (next, one, rest) = ap suc (linked_long g next last ps layers rest)
linked_long g first last [] (l ∷ layers) none = absurd none
linked_long g first last (p ∷ ps) [] none = absurd none

-- before the first entry
pub grown_first : (g : GameRules) (b : Board) → IsPositionOf g b → IsGrown g b [] [] (b ∷ [])
grown_first g b fits = record {
  is_layer = record {
    whole = λ k d below. let first : 0 ≡ k = omega arith in subst (λ i. IsPositionOf g (get_or (b ∷ []) i d)) first fits;
    once = λ i j d before below. absurd (omega arith);
  };
  linked = refl;
  reached = λ k d below. let first : 0 ≡ k = omega arith in subst (λ i. Follows g b [] (get_or (b ∷ []) i d)) first refl;
  complete = λ c same. (0, omega arith, sym same);
}

-- one more entry is played
pub grown_next : (g : GameRules) (b : Board) (ps : List Pair) (layers : List Layer) (before boards : List Board) (pair : Pair) (layer : Layer)
    → IsGrown g b ps layers before → IsNext g before pair layer boards → IsGrown g b (ps ++ pair ∷ []) (layers ++ layer ∷ []) boards
grown_next g b ps layers before boards pair layer grown next = record {
  is_layer = next.is_layer;
  linked = linked_push g (b ∷ []) before boards ps layers pair layer grown.linked next.linked;
  reached = λ k d below.
      let came = next.linked k (get_or boards k d) (slice_get-get_or boards k d below) in
      let within = slice_get_within before came.0 came.2 came.4 in
      let follows : Follows g b ps came.2 =
      subst (Follows g b ps) (get_or_from_slice_get before came.0 came.2 d came.4) (All-get_or (Follows g b ps) before came.0 d within grown.reached) in
      follows_push g b came.2 (get_or boards k d) ps pair follows (came.1, came.5);
  complete = λ c follows.
      let last = follows_pop g b c ps pair follows in
      let held = place_of before last.0 (grown.complete last.0 last.1) in
      next.complete held.0 last.0 c held.1 last.2;
}

-- the boards to which the entries so far lead, by the number of these
pub grown_at : (g : GameRules) (b : Board) (ps : List Pair) (n : ℕ) (layers : List Layer) (before boards : List Board) (pair : Pair) (layer : Layer)
    → IsGrown g b (take n ps) layers before → slice_get ps n ≡ Some pair → IsNext g before pair layer boards
    → IsGrown g b (take (n + 1) ps) (layers ++ layer ∷ []) boards
grown_at g b ps n layers before boards pair layer grown entry next =
    let more : n + 1 ≡ suc n = omega arith in
    subst (λ l. IsGrown g b l (layers ++ layer ∷ []) boards) (sym (ap (λ k. take k ps) more ∙ take_next ps n pair entry))
    (grown_next g b (take n ps) layers before boards pair layer grown next)

-- the entries before lead somewhere, and with the next one they don't
pub ends_refused : (g : GameRules) (b : Board) (ps : List Pair) (n step : ℕ) (layers new : List Layer) (before boards : List Board) (d : Board)
    → IsGrown g b (take n ps) layers before → 0 < length before → IsGrown g b (take (n + 1) ps) new boards → length boards ≡ 0
    → n < length ps → step ≡ n + 1 → LeadToFewBefore g b ps (n + 1) → IsListFault g b ps (Refused step)
ends_refused g b ps n step layers new before boards d grown some next none within place few = (
  omega (arith, place),
  omega (arith, place),
  λ c follows. let held = next.complete c (subst (λ k. Follows g b (take k ps) c) place follows) in omega (arith, none, held.1),
  (get_or before 0 d, subst (λ k. Follows g b (take k ps) (get_or before 0 d)) (omega (arith, place)) (All-get_or (Follows g b (take n ps)) before 0 d some grown.reached)),
  subst (LeadToFewBefore g b ps) (sym place) few,
)

-- they lead to too many boards
pub ends_wide : (g : GameRules) (b : Board) (ps : List Pair) (n step : ℕ) (layers : List Layer) (boards : List Board)
    → IsGrown g b (take (n + 1) ps) layers boards → MOST_BOARDS < length boards → n < length ps → step ≡ n + 1
    → LeadToFewBefore g b ps (n + 1) → IsListFault g b ps (TooMany step)
ends_wide g b ps n step layers boards grown many within place few = (
  omega (arith, place),
  omega (arith, place),
  subst (λ k. LeadsToMany g b (take k ps)) (sym place) (boards, many, grown.is_layer.once, grown.reached),
  subst (LeadToFewBefore g b ps) (sym place) few,
)

-- they lead to no more boards than were grown
narrow : (g : GameRules) (b : Board) (ps : List Pair) (layers : List Layer) (boards : List Board) → IsGrown g b ps layers boards
    → length boards ≤ MOST_BOARDS → LeadsToMany g b ps → ⊥
narrow g b ps layers boards grown few (others, many, once, led) =
    let most = no_more others boards once (λ k d within. grown.complete (get_or others k d) (led k d within)) in
    omega (arith, most, many, few)

-- so that no entries so far lead to too many
pub few_so_far : (g : GameRules) (b : Board) (ps : List Pair) (n : ℕ) (layers : List Layer) (boards : List Board) → IsGrown g b (take n ps) layers boards
    → length boards ≤ MOST_BOARDS → LeadToFewBefore g b ps n → LeadToFewBefore g b ps (n + 1)
few_so_far g b ps n layers boards grown few before earlier below =
    ⊎_elim (λ less. before earlier less)
    (λ most.
    let same : n ≡ earlier = omega arith in
    subst (λ k. LeadsToMany g b (take k ps) → ⊥) same (narrow g b (take n ps) layers boards grown few))
    (cases_lt earlier n)

-- all entries were played
pub grown_whole : (g : GameRules) (b : Board) (ps : List Pair) (n : ℕ) (layers : List Layer) (boards : List Board) → IsGrown g b (take n ps) layers boards
    → length ps ≤ n → IsGrown g b ps layers boards
grown_whole g b ps n layers boards grown all = subst (λ l. IsGrown g b l layers boards) (take_all n ps all) grown

-- where no board is won, none of them is
pub none_won : (boards : List Board) (c : Board) → ((i : ℕ) (d : Board) → i < length boards → slice_get boards i ≡ Some d → IsWon d → ⊥)
    → (d : Board) → Contains boards d → IsWon d → IsWon c
none_won boards c none d held won =
    let at = place_of boards d held in absurd (none at.0 d (slice_get_within boards at.0 d at.1) at.1 won)

-- an entry that stands at a number
pub entry_at : (ps : List Pair) (i : ℕ) (d : Pair) → i < length ps → slice_get ps i ≡ Some (get_or ps i d)
entry_at ps i d within = slice_get-get_or ps i d within

-- the first of some boards
pub first_board : (boards : List Board) → 0 < length boards → (c : Board) × (slice_get boards 0 ≡ Some c)
first_board [] some = absurd (omega arith)
first_board (b ∷ boards) some = (b, refl)
