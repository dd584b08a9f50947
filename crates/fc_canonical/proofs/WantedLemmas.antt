-- Listing the moves of the cards that are wanted.
use Rattle.std.proofs.Common.{◌≡◌, ℕ, ◌+◌, ◌*◌, ◌<◌, ◌⊎◌, ◌↔◌, Bool, true, false, cond, is_some, Option, Some, None, List, [], ◌∷◌, ◌++◌, length, refl, sym, ◌∙◌, ap, subst, inl, inr, ⊎_elim, arith}
use Rattle.std.specs.Prelude.{All, IsTrue, filter}
use Rattle.std.specs.Int.{bit_at}
use Rattle.std.proofs.lemmas.List.{append-nil}
use Rattle.std.proofs.lemmas.List.Elements.{All-contains, All-head, All-tail, Contains-append_cases, Contains-append_left, filter-append}
use Rattle.fc_cards.specs.declared.places.Place.{Place}
use Rattle.fc_cards.specs.declared.places.Place.TheVariants.{Column, Cell, Home}
use Rattle.fc_position.specs.Board.{Board, column, playable, last_of, IsNext}
use Rattle.fc_position.specs.Position.{IsPosition}
use Rattle.fc_moves.specs.declared.steps.Move.{Move}
use Rattle.fc_moves.specs.GameRules.{GameRules, IsGame, IsPair, Stands}
use Rattle.fc_moves.specs.MoveText.{IsSource}
use Rattle.fc_moves.specs.Step.{place_number}
use Rattle.fc_moves.proofs.StepLemmas.{allowed_has_text, place_most}
use Rattle.fc_canonical.specs.Distinct.{ListsWanted, is_wanted, takes_wanted}
use Rattle.fc_canonical.specs.inner.Distinct.{AddsDistinct, HaveHosts, IsCellOf, IsListed, IsOpening, ListsDistinctBelow}
use Rattle.fc_canonical.specs.inner.Wanted.{HasHost, HasListed, ListsWantedBelow}
use Rattle.fc_canonical.proofs.DecideLemmas.{moves_of}
use Rattle.fc_canonical.proofs.ListedLemmas.{lists_all, lists_first}
use Rattle.fc_canonical.proofs.ListingLemmas.{home_listed, source_passes, stands_listed}

-- what a test tells of a card, it tells of the place that has the card
pub card_told : (b : Board) (cards : ℕ) (from : Place) (u : ℕ) (told is : Bool) → playable b from ≡ Some u
    → told ≡ is_wanted cards (Some u) → told ≡ is → is_wanted cards (playable b from) ≡ is
card_told b cards from u told is there same holds = ap (is_wanted cards) there ∙ sym same ∙ holds

-- a test keeps a list whose elements all pass, and drops one whose elements all fail
pub filter_kept : (test : Move → Bool) (ms : List Move) → All (λ m. test m ≡ true) ms → filter test ms ≡ ms
filter_kept test [] all = refl
filter_kept test (m ∷ ms) all =
    ap (λ t. cond t (m ∷ filter test ms) (filter test ms)) (All-head (λ n. test n ≡ true) m ms all)
    ∙ ap (λ l. m ∷ l) (filter_kept test ms (All-tail (λ n. test n ≡ true) m ms all))

filter_dropped : (test : Move → Bool) (ms : List Move) → All (λ m. test m ≡ false) ms → filter test ms ≡ []
filter_dropped test [] all = refl
filter_dropped test (m ∷ ms) all =
    ap (λ t. cond t (m ∷ filter test ms) (filter test ms)) (All-head (λ n. test n ≡ false) m ms all)
    ∙ filter_dropped test ms (All-tail (λ n. test n ≡ false) m ms all)

-- what is wanted of a place's moves is what is wanted of its card
all_wanted : (b : Board) (cards : ℕ) (from : Place) (t : Bool) (ms : List Move) → All (λ m. m.from ≡ from) ms
    → is_wanted cards (playable b from) ≡ t → All (λ m. takes_wanted b cards m ≡ t) ms
all_wanted b cards from t ms source is = λ k d below. ap (λ p. is_wanted cards (playable b p)) (source k d below) ∙ is

-- there is no move with a number below 0, and a list of no length is empty
pub nothing_listed : (g : GameRules) (b : Board) → ListsDistinctBelow g b (0 * 13) []
nothing_listed g b = record {
  listed = λ m (k, below, _). absurd (omega arith);
  complete = λ m ok below. absurd (omega arith);
  rising = λ i j d lt last. absurd (omega arith);
}

pub empty_moves : (ms : List Move) → length ms ≡ 0 → ms ≡ []
empty_moves [] long = refl
empty_moves (m ∷ ms) long = absurd (omega arith)

-- nothing is listed of nothing
pub wanted_none : (g : GameRules) (b : Board) (cards n : ℕ) (ms : List Move) → ListsDistinctBelow g b n [] → ms ≡ []
    → ListsWantedBelow g b cards n ms false
wanted_none g b cards n ms lists empty = record {
  all = [];
  lists = lists;
  picked = empty;
  left_out = (λ holds. absurd (cc), λ (m, (k, below, _), _). absurd (omega arith));
}

-- the moves of a card that is wanted are added
pub wanted_adds : (g : GameRules) (b : Board) (cards : ℕ) (from : Place) (low high : ℕ) (old new : List Move) (others : Bool)
    → is_wanted cards (playable b from) ≡ true → AddsDistinct g b from low high old new
    → ListsWantedBelow g b cards low old others → ListsWantedBelow g b cards high new others
wanted_adds g b cards from low high old new others wanted adds before =
    let test : Move → Bool = takes_wanted b cards in
    let passes = all_wanted b cards from true adds.added adds.source wanted in
    record {
      all = before.all ++ adds.added;
      lists = adds.lists before.all before.lists;
      picked = adds.items ∙ ap (λ l. l ++ adds.added) before.picked
          ∙ ap (λ l. filter test before.all ++ l) (sym (filter_kept test adds.added passes))
          ∙ sym (filter-append test before.all adds.added);
      left_out = (
        λ holds. let (m, found, out) = before.left_out.0 holds in
            (m, Contains-append_left before.all adds.added m found, out),
        λ (m, found, out). ⊎_elim (λ old. before.left_out.1 (m, old, out))
            (λ new. let pass = All-contains (λ n. test n ≡ true) adds.added m passes new in absurd (cc (sym pass ∙ out)))
            (Contains-append_cases before.all adds.added m found),
      );
    }

-- the moves of a card that isn't wanted are passed over, and then there are others where it has one
wanted_passes : (g : GameRules) (b : Board) (cards : ℕ) (from : Place) (ms : List Move) (others more : Bool) → IsPosition b
    → IsSource from → is_wanted cards (playable b from) ≡ false → (IsTrue more ↔ (IsTrue others ⊎ HasListed g b from))
    → ListsWantedBelow g b cards (place_number from * 13) ms others
    → ListsWantedBelow g b cards (place_number from * 13 + 13) ms more
wanted_passes g b cards from ms others more p source unwanted told before =
    let test : Move → Bool = takes_wanted b cards in
    let own = (moves_of g b from p source).1 in
    let fails = all_wanted b cards from false own.added own.source unwanted in
    let lists = own.lists before.all before.lists in
    record {
      all = before.all ++ own.added;
      lists = lists;
      picked = before.picked ∙ sym (append-nil (filter test before.all))
          ∙ ap (λ l. filter test before.all ++ l) (sym (filter_dropped test own.added fails))
          ∙ sym (filter-append test before.all own.added);
      left_out = (
        λ holds. ⊎_elim
            (λ old. let (m, found, out) = before.left_out.0 old in
            (m, Contains-append_left before.all own.added m found, out))
            (λ (to, ok).
            let m : Move = record { from = from; to = to } in
            let most = place_most to (allowed_has_text g b m p ok.allowed).to in
            (m, lists.complete m ok (omega (arith, most)), unwanted))
            (told.0 holds),
        λ (m, found, out). told.1 (⊎_elim (λ old. inl (before.left_out.1 (m, old, out)))
            (λ new.
            let here : m.from ≡ from = All-contains (λ (n : Move). n.from ≡ from) own.added m own.source new in
            let ok : IsListed g b m = (lists.listed m found).0 in
            inr (m.to, subst (λ q. IsListed g b (record { from = q; to = m.to })) here ok))
            (Contains-append_cases before.all own.added m found)),
      );
    }

-- until there are others, a card that isn't wanted is asked for a move, and from then on none is
pub wanted_asks : (g : GameRules) (b : Board) (cards : ℕ) (from : Place) (ms : List Move) (others more : Bool) → IsPosition b
    → IsSource from → is_wanted cards (playable b from) ≡ false → others ≡ false → (IsTrue more ↔ HasListed g b from)
    → ListsWantedBelow g b cards (place_number from * 13) ms others
    → ListsWantedBelow g b cards (place_number from * 13 + 13) ms more
wanted_asks g b cards from ms others more p source unwanted none told before =
    wanted_passes g b cards from ms others more p source unwanted (
      λ holds. inr (told.0 holds),
      λ either. ⊎_elim (λ old. absurd (cc (sym none ∙ old))) (λ has. told.1 has) either,
    )
    before

pub wanted_asks_no_more : (g : GameRules) (b : Board) (cards : ℕ) (from : Place) (ms : List Move) (others : Bool)
    → IsPosition b → IsSource from → is_wanted cards (playable b from) ≡ false → others ≡ true
    → ListsWantedBelow g b cards (place_number from * 13) ms others
    → ListsWantedBelow g b cards (place_number from * 13 + 13) ms others
wanted_asks_no_more g b cards from ms others p source unwanted some before =
    wanted_passes g b cards from ms others others p source unwanted (λ holds. inl holds, λ _. some) before

-- a place with no card has no move
pub wanted_no_card : (g : GameRules) (b : Board) (cards : ℕ) (from : Place) (ms : List Move) (others : Bool) → IsPosition b
    → IsSource from → playable b from ≡ None → ListsWantedBelow g b cards (place_number from * 13) ms others
    → ListsWantedBelow g b cards (place_number from * 13 + 13) ms others
wanted_no_card g b cards from ms others p source none before = record {
  all = before.all;
  lists = source_passes g b from before.all p source none before.lists;
  picked = before.picked;
  left_out = before.left_out;
}

-- a list of what is wanted of all the moves to be listed
pub wanted_all : (g : GameRules) (b : Board) (cards : ℕ) (ms : List Move) (others : Bool) → IsPosition b
    → ListsWantedBelow g b cards (12 * 13) ms others → ListsWanted g b cards ms others
wanted_all g b cards ms others p lists = record {
  all = lists.all;
  classes = lists_all g b lists.all p lists.lists;
  first = lists_first g b lists.all p lists.lists;
  order = lists.lists.rising;
  picked = lists.picked;
  left_out = lists.left_out;
}

-- a column on whose last card a card may be put has its bit among the hosts
pub host_bit : (g : GameRules) (b : Board) (u hosts : ℕ) → IsGame g → HaveHosts b u hosts → (j l : ℕ) → j < 8
    → last_of (column b j) ≡ Some l → Stands g u l → bit_at hosts j ≡ 1
host_bit g b u hosts game have j l inside last (k, below, e) =
    have j l inside last (subst IsPair e (game.pairs k (u, l) below)).2

-- what gives a card a move that is to be listed: a cell, its suit, an empty column, or a host
pub listed_in_cell : (g : GameRules) (b : Board) (from : Place) (held : Option ℕ) (j : ℕ) → IsCellOf g b from held
    → held ≡ Some j → HasListed g b from
listed_in_cell g b from held j told is = (Cell j, (told j).0 is)

pub listed_at_home : (g : GameRules) (b : Board) (from : Place) (u : ℕ) → IsSource from → playable b from ≡ Some u
    → IsNext b.homes u → HasListed g b from
listed_at_home g b from u source there next = (Home, (home_listed g b from u source there).0 next)

pub listed_on_host : (g : GameRules) (b : Board) (from : Place) (u : ℕ) → IsPosition b → IsGame g → playable b from ≡ Some u
    → HasHost g b u → HasListed g b from
listed_on_host g b from u p game there (j, l, inside, last, stands) =
    (Column j, stands_listed g b from u l j p game there inside last stands)

-- and nothing else does
pub listed_on_host_alone : (g : GameRules) (b : Board) (from : Place) (u : ℕ) (held opening : Option ℕ) → IsPosition b
    → IsSource from → playable b from ≡ Some u → IsCellOf g b from held → IsOpening g b from opening → held ≡ None
    → (IsNext b.homes u → ⊥) → opening ≡ None → HasListed g b from → HasHost g b u
listed_on_host_alone g b from u held opening p source there cells opens no_cell waits no_column (Column j, ok) =
    ⊎_elim (λ (empty, _). let is = (opens j empty).1 ok in absurd (cc (sym no_column ∙ is)))
    (λ (l, last, stands). let card : ok.allowed.1.card ≡ u = let e = ok.allowed.1.playable in cc in
    (j, l, omega (arith, ok.allowed.1.takes.0, p.columns), last, subst (λ c. Stands g c l) card stands))
    ok.allowed.1.takes.1
listed_on_host_alone g b from u held opening p source there cells opens no_cell waits no_column (Cell j, ok) =
    let is = (cells j).1 ok in absurd (cc (sym no_cell ∙ is))
listed_on_host_alone g b from u held opening p source there cells opens no_cell waits no_column (Home, ok) =
    absurd (waits ((home_listed g b from u source there).1 ok))

-- a test for being there tells which option it is
pub some_there : (held : Option ℕ) (t : Bool) → t ≡ is_some held → t ≡ true → (j : ℕ) × (held ≡ Some j)
some_there None t told holds = let no : false ≡ true = sym told ∙ holds in absurd (cc)
some_there (Some j) t told holds = (j, refl)

pub none_there : (held : Option ℕ) (t : Bool) → t ≡ is_some held → t ≡ false → held ≡ None
none_there None t told fails = refl
none_there (Some j) t told fails = let no : true ≡ false = sym told ∙ fails in absurd (cc)
