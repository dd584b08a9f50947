-- A layer of boards that grows, and the layers so far with one more.
use Rattle.std.proofs.Common.{rules, arith, ◌≡◌, ◌≢◌, ◌↔◌, ℕ, ◌+◌, ◌<◌, ◌≤◌, zero, suc, List, [], ◌∷◌, ◌++◌, length, Option, Some, None, option_map, refl, sym, ◌∙◌, ap, subst, inl, inr, ⊎_elim, length-append}
use Rattle.std.specs.Prelude.{slice_get, get_or, Contains, All, AllPairs, Any, IsTrue}
use Rattle.std.proofs.lemmas.Bool.{cases_lt}
use Rattle.std.proofs.lemmas.List.Elements.{All-push, All-get_or, All-from_get_or, Contains-append_left, Contains-get_or, Contains-push}
use Rattle.std.proofs.lemmas.List.Quantifiers.{all_pairs_push}
use Rattle.std.proofs.lemmas.Option.{slice_get_within, slice_get-get_or, get_or_from_slice_get}
use Rattle.fc_cards.specs.declared.places.Place.{Place}
use Rattle.fc_cards.specs.declared.places.Place.TheVariants.{Column, Cell, Home}
use Rattle.fc_position.specs.Board.{Board, board_without, board_with}
use Rattle.fc_moves.specs.declared.steps.Move.{Move}
use Rattle.fc_moves.specs.GameRules.{GameRules, IsPositionOf}
use Rattle.fc_moves.specs.Step.{Allows, Step}
use Rattle.fc_moves.proofs.BackLemmas.{taken_back}
use Rattle.fc_moves.proofs.StepLemmas.{step_keeps, step_once}
use Rattle.fc_sequences.specs.declared.layers.Growth.{Growth}
use Rattle.fc_sequences.specs.declared.layers.Layer.{Layer}
use Rattle.fc_sequences.specs.declared.layers.Layer.TheVariants.{Stepped, Linked}
use Rattle.fc_sequences.specs.declared.layers.Link.{Link}
use Rattle.fc_sequences.specs.declared.pairs.Pair.{Pair}
use Rattle.fc_sequences.specs.Pair.{PlaysCards, PlaysBy, PlaysPair}
use Rattle.fc_sequences.specs.Following.{Follows}
use Rattle.fc_sequences.specs.inner.Layers.{AreLinked, AreStepped, IsGrowing, IsGrown, IsLayer, IsLinked, IsNext, IsSingle, link_at, link_parts}
use Rattle.fc_sequences.proofs.GetLemmas.{get_old, get_cases}
use Rattle.fc_sequences.proofs.FollowLemmas.{follows_push, follows_pop}

-- an entry leads by one number of cards to one board
cards_once : (g : GameRules) (b : Board) (from to : Place) (k : ℕ) (c d : Board) → PlaysCards g b from to k c
    → PlaysCards g b from to k d → c ≡ d
cards_once g b (Column i) (Column j) k c d one two = one.1 ∙ sym two.1
cards_once g b (Column i) (Cell j) k c d one two = step_once g b _ c d one.1 two.1
cards_once g b (Column i) Home k c d one two = step_once g b _ c d one.1 two.1
cards_once g b (Cell i) to k c d one two = step_once g b _ c d one.1 two.1
cards_once g b Home to k c d one two = step_once g b _ c d one.1 two.1

pub plays_once : (g : GameRules) (b : Board) (p : Pair) (k : ℕ) (c d : Board) → PlaysBy g b p k c → PlaysBy g b p k d → c ≡ d
plays_once g b p k c d one two = cards_once g b p.from p.to k c d one.1 two.1

-- an element that a place has is one of the list
pub contains_at : {X : Type 0} (xs : List X) (i : ℕ) (x : X) → slice_get xs i ≡ Some x → Contains xs x
contains_at xs i x found =
    subst (Contains xs) (get_or_from_slice_get xs i x x found) (Contains-get_or xs i x (slice_get_within xs i x found))

-- an element of a list has a place
pub place_of : {X : Type 0} (xs : List X) (x : X) → Contains xs x → (i : ℕ) × (slice_get xs i ≡ Some x)
place_of xs x (i, below, same) = (i, slice_get-get_or xs i x below ∙ ap Some same)

-- one of some boards, as a closure tells it
pub any_held : (boards : List Board) (c : Board) → Any (λ b. b ≡ c) boards → Contains boards c
any_held boards c (k, x, below, stands, same) = (k, below, subst (λ y. get_or boards k y ≡ y) same stands)

pub held_any : (boards : List Board) (c : Board) → Contains boards c → Any (λ b. b ≡ c) boards
held_any boards c (k, below, stands) = (k, c, below, stands, refl)

-- before the first board is added
pub growing_first : (g : GameRules) (before : List Board) (pair : Pair) (growth : Growth) → growth.boards.items ≡ [] → growth.links.items ≡ []
    → ((b c : Board) → PlaysBy g b pair 0 c → ⊥) → IsGrowing g before pair growth (0, 1)
growing_first g before pair growth none no_links never = record {
  is_layer = record {
    whole = subst (All (IsPositionOf g)) (sym none) (λ k d below. absurd (omega arith));
    once = subst (AllPairs (λ x y. x ≢ y)) (sym none) (λ i j d before below. absurd (omega arith));
  };
  long = ap length no_links ∙ sym (ap length none);
  linked = λ place c found. let gone : slice_get [] place ≡ Some c = subst (λ l. slice_get l place ≡ Some c) none found in absurd (cc gone);
  met = λ i b c below found plays. absurd (omega arith);
  here = λ b c k found below plays. absurd (never b c (subst (λ n. PlaysBy g b pair n c) (omega arith) plays));
}

-- one more number of cards was tried, and the board to which it leads is there
growing_there : (g : GameRules) (before : List Board) (pair : Pair) (growth : Growth) (p n : ℕ) (b : Board) → IsGrowing g before pair growth (p, n)
    → slice_get before p ≡ Some b → ((c : Board) → PlaysBy g b pair n c → Contains growth.boards.items c) → IsGrowing g before pair growth (p, n + 1)
growing_there g before pair growth p n b growing stands led = record {
  is_layer = growing.is_layer;
  long = growing.long;
  linked = growing.linked;
  met = growing.met;
  here = λ d c k found below plays. ⊎_elim (λ less. growing.here d c k found less plays)
      (λ most.
      let same : k ≡ n = omega arith in
      let one : d ≡ b = cc (sym found ∙ stands) in
      led c (subst (λ x. PlaysBy g x pair n c) one (subst (λ q. PlaysBy g d pair q c) same plays)))
      (cases_lt k n);
}

-- by so many cards the entry leads nowhere
pub growing_skip : (g : GameRules) (before : List Board) (pair : Pair) (growth : Growth) (p n : ℕ) (b : Board) → IsGrowing g before pair growth (p, n)
    → slice_get before p ≡ Some b → ((c : Board) × PlaysBy g b pair n c → ⊥) → IsGrowing g before pair growth (p, n + 1)
growing_skip g before pair growth p n b growing stands never =
    growing_there g before pair growth p n b growing stands (λ c plays. absurd (never (c, plays)))

-- or to a board that is there
pub growing_held : (g : GameRules) (before : List Board) (pair : Pair) (growth : Growth) (p n : ℕ) (b child : Board) → IsGrowing g before pair growth (p, n)
    → slice_get before p ≡ Some b → PlaysBy g b pair n child → Contains growth.boards.items child → IsGrowing g before pair growth (p, n + 1)
growing_held g before pair growth p n b child growing stands plays held =
    growing_there g before pair growth p n b growing stands
    (λ c other. subst (Contains growth.boards.items) (plays_once g b pair n child c plays other) held)

-- a link that a place has, of links with one more
link_old : (links : List Link) (link : Link) (place : ℕ) (x : ℕ × ℕ) → option_map link_parts (slice_get links place) ≡ Some x
    → option_map link_parts (slice_get (links ++ link ∷ []) place) ≡ Some x
link_old [] link place x e = absurd (cc e)
link_old (l ∷ links) link zero x e = e
link_old (l ∷ links) link (suc place) x e = link_old links link place x e

link_new : (links : List Link) (link : Link) → option_map link_parts (slice_get (links ++ link ∷ []) (length links)) ≡ Some (link_parts link)
link_new [] link = refl
link_new (l ∷ links) link = link_new links link

-- the layer with one more board
grown_by : (g : GameRules) (before : List Board) (pair : Pair) (old new : Growth) (p n : ℕ) (b child : Board) (link : Link) → IsGrowing g before pair old (p, n)
    → slice_get before p ≡ Some b → link_parts link ≡ (p, n) → PlaysBy g b pair n child → IsPositionOf g child → (Contains old.boards.items child → ⊥)
    → new.boards.items ≡ old.boards.items ++ child ∷ [] → new.links.items ≡ old.links.items ++ link ∷ [] → IsGrowing g before pair new (p, n)
grown_by g before pair old new p n b child link growing stands tells plays position fresh boards links =
    let stays : (c : Board) → Contains old.boards.items c → Contains new.boards.items c = λ c held.
    subst (λ l. Contains l c) (sym boards) (Contains-append_left old.boards.items (child ∷ []) c held) in
    let linked : (place : ℕ) (c : Board) → slice_get (old.boards.items ++ child ∷ []) place ≡ Some c
    → (parent : ℕ) × (count : ℕ) × (d : Board) × (option_map link_parts (slice_get (old.links.items ++ link ∷ []) place) ≡ Some (parent, count))
    × (slice_get before parent ≡ Some d) × PlaysBy g d pair count c = λ place c found. ⊎_elim
    (λ there.
    let known = growing.linked place c there in
    (known.0, known.1, known.2, link_old old.links.items link place (known.0, known.1) known.3, known.4, known.5))
    (λ last.
    let at : place ≡ length old.links.items = last.0 ∙ sym growing.long in (
      p,
      n,
      b,
      ap (λ i. option_map link_parts (slice_get (old.links.items ++ link ∷ []) i)) at ∙ link_new old.links.items link ∙ ap Some tells,
      stands,
      subst (PlaysBy g b pair n) last.1 plays,
    ))
    (get_cases old.boards.items child place c found) in
    record {
      is_layer = record {
        whole = subst (All (IsPositionOf g)) (sym boards) (All-push (IsPositionOf g) old.boards.items child growing.is_layer.whole position);
        once = subst (AllPairs (λ x y. x ≢ y)) (sym boards) (all_pairs_push (λ x y. x ≢ y) old.boards.items child growing.is_layer.once
            (λ k d below e. fresh (subst (Contains old.boards.items) e (Contains-get_or old.boards.items k d below))));
      };
      long = omega (arith, ap length boards, ap length links, length-append old.boards.items (child ∷ []), length-append old.links.items (link ∷ []), growing.long);
      linked = subst (λ l. IsLinked g before pair (λ place. option_map link_parts (slice_get l place)) new.boards.items) (sym links)
          (subst (IsLinked g before pair (λ place. option_map link_parts (slice_get (old.links.items ++ link ∷ []) place))) (sym boards) linked);
      met = λ i d c below found led. stays c (growing.met i d c below found led);
      here = λ d c k found below led. stays c (growing.here d c k found below led);
    }

-- by so many cards the entry leads to a board that isn't there yet
pub growing_new : (g : GameRules) (before : List Board) (pair : Pair) (old new : Growth) (p n : ℕ) (b child : Board) (link : Link) → IsGrowing g before pair old (p, n)
    → slice_get before p ≡ Some b → link_parts link ≡ (p, n) → PlaysBy g b pair n child → IsPositionOf g child → (Contains old.boards.items child → ⊥)
    → new.boards.items ≡ old.boards.items ++ child ∷ [] → new.links.items ≡ old.links.items ++ link ∷ [] → IsGrowing g before pair new (p, n + 1)
growing_new g before pair old new p n b child link growing stands tells plays position fresh boards links =
    growing_held g before pair new p n b child (grown_by g before pair old new p n b child link growing stands tells plays position fresh boards links) stands plays
    (subst (λ l. Contains l child) (sym boards) (Contains-push old.boards.items child))

-- the next board is played from
pub growing_next : (g : GameRules) (before : List Board) (pair : Pair) (growth : Growth) (p n : ℕ) → IsGrowing g before pair growth (p, n)
    → ((b c : Board) (k : ℕ) → PlaysBy g b pair k c → (1 ≤ k) × (k < n)) → IsGrowing g before pair growth (p + 1, 1)
growing_next g before pair growth p n growing few = record {
  is_layer = growing.is_layer;
  long = growing.long;
  linked = growing.linked;
  met = λ i b c below found plays. ⊎_elim (λ less. growing.met i b c less found plays)
      (λ most.
      let same : i ≡ p = omega arith in
      growing.here b c plays.0 (ap (slice_get before) (sym same) ∙ found) (few b c plays.0 plays.1).1 plays.1)
      (cases_lt i p);
  here = λ b c k found below plays. let some = (few b c k plays).0 in absurd (omega (arith, some));
}

-- all boards were played from
pub growing_last : (g : GameRules) (before : List Board) (pair : Pair) (growth : Growth) (p : ℕ) → length before ≤ p → IsGrowing g before pair growth (p, 1)
    → IsNext g before pair (Linked growth.links) growth.boards.items
growing_last g before pair growth p all growing = record {
  is_layer = growing.is_layer;
  linked = growing.linked;
  complete = λ i b c found plays. growing.met i b c (omega (arith, all, slice_get_within before i b found)) found plays;
}
