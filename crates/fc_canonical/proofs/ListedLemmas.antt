-- Of the moves that lead to one class, exactly one is listed.
use Rattle.std.proofs.Common.{◌≡◌, ℕ, zero, suc, ◌+◌, ◌*◌, ◌<◌, ◌≤◌, ◌⊎◌, Option, Some, None, List, [], ◌∷◌, length, get_or, refl, sym, ◌∙◌, ap, subst, inl, inr, ⊎_elim, arith}
use Rattle.std.specs.Prelude.{Contains}
use Rattle.std.proofs.lemmas.List.Elements.{Contains-get_or}
use Rattle.std.proofs.lemmas.Bool.{cases_lt, cases_eq}
use Rattle.fc_cards.specs.declared.places.Place.{Place}
use Rattle.fc_cards.specs.declared.places.Place.TheVariants.{Column, Cell, Home}
use Rattle.fc_position.specs.Board.{Board, column, cell, playable, board_without, board_with, last_of}
use Rattle.fc_position.specs.Position.{IsPosition}
use Rattle.fc_moves.specs.declared.steps.Move.{Move}
use Rattle.fc_moves.specs.inner.GameLaws.{Contains-cases, Contains-first, Contains-later}
use Rattle.fc_moves.specs.GameRules.{GameRules, Opens}
use Rattle.fc_moves.specs.Step.{Allows, Joins, Takes, MayLand, place_number, move_number}
use Rattle.fc_moves.proofs.StepLemmas.{allowed_has_text, move_same, place_most, source_most}
use Rattle.fc_moves.specs.Class.{SameClass}
use Rattle.fc_canonical.specs.Distinct.{ListsClasses, AreFirst}
use Rattle.fc_canonical.specs.inner.Distinct.{ListsDistinctBelow, IsListed, IsLone, IsFirstEmpty, Stays}
use Rattle.fc_moves.proofs.ClassLemmas.{class-sym, class-trans}
use Rattle.fc_canonical.proofs.DistinctLemmas.{IsSameKind, IsAlike, only_card, alike_class}

-- of two numbers of which a fact holds first, each is the other
pub first_once : (P : ℕ → Type 0) (i j : ℕ) → P i → P j → ((k : ℕ) → k < i → P k → ⊥) → ((k : ℕ) → k < j → P k → ⊥) → i ≡ j
first_once P i j one two none before =
    ⊎_elim (λ e. e)
    (λ ne. ⊎_elim (λ lt. absurd (before i lt one)) (λ le. absurd (none j (omega arith) two)) (cases_lt i j))
    (cases_eq i j)

-- whether a decided fact holds of a number below n, and of which one first
pub first_below : (P : ℕ → Type 0) → ((k : ℕ) → P k ⊎ (P k → ⊥)) → (n : ℕ)
    → ((k : ℕ) × (k < n) × P k × ((i : ℕ) → i < k → P i → ⊥)) ⊎ ((k : ℕ) → k < n → P k → ⊥)
first_below P decided zero = inr (λ k below. absurd (omega arith))
first_below P decided (suc n) =
    ⊎_elim (λ (k, below, here, none). inl (k, omega arith, here, none))
    (λ none. ⊎_elim (λ here. inl (n, omega arith, here, none))
    (λ fails. inr (λ k below here. ⊎_elim (λ lt. none k lt here)
    (λ le. let e : k ≡ n = omega arith in fails (subst P e here)) (cases_lt k n)))
    (decided n))
    (first_below P decided n)

-- of which number a decided fact holds first, where it holds of n
first_to : (P : ℕ → Type 0) → ((k : ℕ) → P k ⊎ (P k → ⊥)) → (n : ℕ) → P n
    → (k : ℕ) × (k ≤ n) × P k × ((i : ℕ) → i < k → P i → ⊥)
first_to P decided n here =
    ⊎_elim (λ (k, below, holds, none). (k, omega arith, holds, none)) (λ none. absurd (none n (omega arith) here))
    (first_below P decided (n + 1))

-- whether a column or a cell is empty, and whether a column has one card alone that may go to an empty column
pub empty_or_not : (cards : List ℕ) → (cards ≡ []) ⊎ (cards ≡ [] → ⊥)
empty_or_not [] = inl refl
empty_or_not (c ∷ rest) = inr (λ e. absurd (cc e))

pub none_or_not : (held : Option ℕ) → (held ≡ None) ⊎ (held ≡ None → ⊥)
none_or_not None = inl refl
none_or_not (Some u) = inr (λ e. absurd (cc e))

pub contained_or_not : (xs : List ℕ) (u : ℕ) → Contains xs u ⊎ (Contains xs u → ⊥)
contained_or_not [] u = inr (λ (k, below, e). absurd (omega arith))
contained_or_not (x ∷ xs) u =
    ⊎_elim (λ e. inl (subst (Contains (x ∷ xs)) e (Contains-first xs x)))
    (λ other. ⊎_elim (λ found. inl (Contains-later x xs u found))
    (λ none. inr (λ found. ⊎_elim other none (Contains-cases x xs u found))) (contained_or_not xs u))
    (cases_eq x u)

pub lone_or_not : (g : GameRules) (cards : List ℕ) → IsLone g cards ⊎ (IsLone g cards → ⊥)
lone_or_not g [] = inr (λ (u, e, opens). absurd (cc e))
lone_or_not g (c ∷ []) =
    ⊎_elim (λ opens. inl (c, refl, opens))
    (λ closed. inr (λ (u, e, opens). let same : u ≡ c = cc e in closed (subst (Opens g) same opens)))
    (contained_or_not g.openers c)
lone_or_not g (c ∷ d ∷ rest) = inr (λ (u, e, opens). absurd (cc e))

-- an empty column has no last card
pub no_last : (cards : List ℕ) (u : ℕ) → cards ≡ [] → last_of cards ≡ Some u → ⊥
no_last cards u e last = let none : last_of cards ≡ None = ap last_of e in cc

-- a card that may land on an empty column opens it
pub opens_it : (g : GameRules) (cards : List ℕ) (u : ℕ) → cards ≡ [] → MayLand g cards u → Opens g u
opens_it g cards u e lands = ⊎_elim (λ (_, opens). opens) (λ (l, last, _). absurd (no_last cards l e last)) lands

-- a playable card may go to an empty column, which isn't its own
pub joins_empty : (b : Board) (from : Place) (u j : ℕ) → playable b from ≡ Some u → column b j ≡ [] → Joins from (Column j)
joins_empty b (Column i) u j there empty = λ e. no_last (column b i) u (ap (column b) (sym e) ∙ empty) there
joins_empty b (Cell i) u j there empty = tt
joins_empty b Home u j there empty = absurd (cc there)

-- a move of a playable card to a place that joins and takes it is allowed
pub allows_to : (g : GameRules) (b : Board) (from to : Place) (u : ℕ) → playable b from ≡ Some u → Joins from to
    → Takes g b u to → Allows g b (record { from = from; to = to })
allows_to g b from to u there joins takes = (
  board_with (board_without b from) u to,
  record { card = u; playable = there; joins = joins; takes = takes; after = refl },
)

-- a move that leads to the class itself takes a lone card of a column to an empty one
record Stayer (g : GameRules) (b : Board) (from to : Place) : Type 0 where
  source : ℕ
  target : ℕ
  from_column : from ≡ Column source
  to_column : to ≡ Column target
  lone : IsLone g (column b source)
  empty : column b target ≡ []

stayer : (g : GameRules) (b : Board) (from to : Place) (u : ℕ) → playable b from ≡ Some u → Takes g b u to
    → Stays b from to → Stayer g b from to
stayer g b (Column i) (Column j) u there takes (long, empty) = record {
  source = i;
  target = j;
  from_column = refl;
  to_column = refl;
  lone = (u, only_card (column b i) u there long, opens_it g (column b j) u empty takes.1);
  empty = empty;
}
stayer g b (Column i) (Cell j) u there takes stays = absurd stays
stayer g b (Column i) Home u there takes stays = absurd stays
stayer g b (Cell i) to u there takes stays = absurd stays
stayer g b Home to u there takes stays = absurd stays

-- of places of one kind that take a card, one is the first
kind_once : (g : GameRules) (b : Board) (to target : Place) (u v : ℕ) → Takes g b u to → Takes g b v target
    → IsFirstEmpty b to → IsFirstEmpty b target → IsSameKind b to target → to ≡ target
kind_once g b (Column i) (Column j) u v takes taken one two kind =
    ⊎_elim (λ e. ap (λ (n : ℕ). Column n) e)
    (λ (x, y). ap (λ (n : ℕ). Column n) (first_once (λ k. column b k ≡ []) i j x y (one x) (two y))) kind
kind_once g b (Cell i) (Cell j) u v takes taken one two kind =
    ap (λ (n : ℕ). Cell n) (first_once (λ k. cell b k ≡ None) i j takes.2 taken.2 one two)
kind_once g b Home Home u v takes taken one two kind = refl
kind_once g b (Column i) (Cell j) u v takes taken one two kind = absurd kind
kind_once g b (Column i) Home u v takes taken one two kind = absurd kind
kind_once g b (Cell i) (Column j) u v takes taken one two kind = absurd kind
kind_once g b (Cell i) Home u v takes taken one two kind = absurd kind
kind_once g b Home (Column j) u v takes taken one two kind = absurd kind
kind_once g b Home (Cell j) u v takes taken one two kind = absurd kind

-- moves that lead to the class itself and are listed have one source, and places of one kind to go to
stays_once : (g : GameRules) (b : Board) (m n : Move) → IsListed g b m → IsListed g b n → Stayer g b m.from m.to
    → Stayer g b n.from n.to → Stays b m.from m.to → Stays b n.from n.to → (m.from ≡ n.from) × IsSameKind b m.to n.to
stays_once g b m n one two s t stays stay =
    let same : s.source ≡ t.source =
    first_once (λ k. IsLone g (column b k)) s.source t.source s.lone t.lone
    (λ k below lone. one.stays stays (k, omega (arith, ap place_number s.from_column, below), lone))
    (λ k below lone. two.stays stay (k, omega (arith, ap place_number t.from_column, below), lone)) in (
      s.from_column ∙ ap (λ (k : ℕ). Column k) same ∙ sym t.from_column,
      subst (λ p. IsSameKind b p n.to) (sym s.to_column)
          (subst (λ q. IsSameKind b (Column s.target) q) (sym t.to_column) (inr (s.empty, t.empty))),
    )

-- of moves that are alike, one is listed
listed_once : (g : GameRules) (b : Board) (m n : Move) → IsListed g b m → IsListed g b n → IsAlike b m n → m ≡ n
listed_once g b m n one two alike =
    let s = one.allowed.1 in
    let t = two.allowed.1 in
    let both : (m.from ≡ n.from) × IsSameKind b m.to n.to =
    ⊎_elim (λ e. e) (λ (stays, stay). stays_once g b m n one two
    (stayer g b m.from m.to s.card s.playable s.takes stays)
    (stayer g b n.from n.to t.card t.playable t.takes stay) stays stay) alike in
    move_same m n both.0 (kind_once g b m.to n.to s.card t.card s.takes t.takes one.first two.first both.1)

-- a listed move that is alike to a move from the one place to the other, and has no higher number
abbrev Mate : GameRules → Board → Place → Place → Type 0
Mate g b from to = (n : Move) × IsListed g b n × IsAlike b n (record { from = from; to = to })
    × (move_number n ≤ place_number from * 13 + place_number to)

-- the mate of a move to an empty column, of which k is the first
mate_opens : (g : GameRules) (b : Board) (from : Place) (u j k : ℕ) → playable b from ≡ Some u → j < length b.columns
    → k ≤ j → Opens g u → column b j ≡ [] → column b k ≡ [] → ((n : ℕ) → n < k → column b n ≡ [] → ⊥)
    → Mate g b from (Column j)
mate_opens g b (Column i) u j k there inside le opens empty first none =
    let takes : Takes g b u (Column k) = (omega (arith, inside, le), inl (first, opens)) in
    ⊎_elim
    (λ lone. let h = first_to (λ n. IsLone g (column b n)) (λ n. lone_or_not g (column b n)) i lone in
    let last : last_of (column b h.0) ≡ Some h.2.0 = ap last_of h.2.1 in (
      record { from = Column h.0; to = Column k },
      record {
        allowed = allows_to g b (Column h.0) (Column k) h.2.0 last (joins_empty b (Column h.0) h.2.0 k last first)
            (omega (arith, inside, le), inl (first, h.2.2));
        first = λ _. none;
        stays = λ _ (n, below, other). h.3 n below other;
      },
      inr ((ap length h.2.1, first), (ap length lone.1, empty)),
      omega (arith, h.1, le),
    ))
    (λ other. (
      record { from = Column i; to = Column k },
      record {
        allowed = allows_to g b (Column i) (Column k) u there (joins_empty b (Column i) u k there first) takes;
        first = λ _. none;
        stays = λ stays _. other (u, only_card (column b i) u there stays.0, opens);
      },
      inl (refl, inr (first, empty)),
      omega (arith, le),
    ))
    (lone_or_not g (column b i))
mate_opens g b (Cell i) u j k there inside le opens empty first none = (
  record { from = Cell i; to = Column k },
  record {
    allowed = allows_to g b (Cell i) (Column k) u there tt (omega (arith, inside, le), inl (first, opens));
    first = λ _. none;
    stays = λ stays _. absurd stays;
  },
  inl (refl, inr (first, empty)),
  omega (arith, le),
)
mate_opens g b Home u j k there inside le opens empty first none = absurd (cc there)

-- a card that may go to a cell may go to any
joins_cells : (from : Place) (j k : ℕ) → Joins from (Cell j) → Joins from (Cell k)
joins_cells (Column i) j k joins = tt
joins_cells (Cell i) j k joins = absurd joins
joins_cells Home j k joins = absurd joins

-- a move that isn't to an empty column leads to another class
pub moves_on : (g : GameRules) (b : Board) (from to : Place) (u : ℕ) → playable b from ≡ Some u → Takes g b u to
    → ((j : ℕ) → to ≡ Column j → column b j ≡ [] → ⊥) → Stays b from to → ⊥
moves_on g b from to u there takes held stays =
    let s = stayer g b from to u there takes stays in held s.target s.to_column s.empty

-- each allowed move has a mate
mate : (g : GameRules) (b : Board) (from to : Place) (u : ℕ) → playable b from ≡ Some u → Joins from to → Takes g b u to
    → Mate g b from to
mate g b from (Column j) u there joins takes =
    ⊎_elim
    (λ empty. let k = first_to (λ n. column b n ≡ []) (λ n. empty_or_not (column b n)) j empty in
    mate_opens g b from u j k.0 there takes.0 k.1 (opens_it g (column b j) u empty takes.1) empty k.2 k.3)
    (λ held. (
      record { from = from; to = Column j },
      record {
        allowed = allows_to g b from (Column j) u there joins takes;
        first = λ empty. absurd (held empty);
        stays = λ stays _. moves_on g b from (Column j) u there takes
            (λ k e empty. let same : j ≡ k = cc e in held (ap (column b) same ∙ empty)) stays;
      },
      inl (refl, inl refl),
      omega arith,
    ))
    (empty_or_not (column b j))
mate g b from (Cell j) u there joins takes =
    let k = first_to (λ n. cell b n ≡ None) (λ n. none_or_not (cell b n)) j takes.2 in
    let taken : Takes g b u (Cell k.0) = (omega (arith, takes.0, k.1), omega (arith, takes.1, k.1), k.2) in (
      record { from = from; to = Cell k.0 },
      record {
        allowed = allows_to g b from (Cell k.0) u there (joins_cells from j k.0 joins) taken;
        first = k.3;
        stays = λ stays _. moves_on g b from (Cell k.0) u there taken (λ n e _. absurd (cc e)) stays;
      },
      inl (refl, tt),
      omega (arith, k.1),
    )
mate g b from Home u there joins takes = (
  record { from = from; to = Home },
  record {
    allowed = allows_to g b from Home u there joins takes;
    first = tt;
    stays = λ stays _. moves_on g b from Home u there takes (λ n e _. absurd (cc e)) stays;
  },
  inl (refl, tt),
  omega arith,
)

-- a list of all the moves to be listed leads to each class once
pub lists_all : (g : GameRules) (b : Board) (ms : List Move) → IsPosition b → ListsDistinctBelow g b (12 * 13) ms → ListsClasses g b ms
lists_all g b ms p lists = record {
  allowed = λ m found. (lists.listed m found).0.allowed;
  complete = λ m x step.
      let n = mate g b m.from m.to step.card step.playable step.joins step.takes in
      let other = n.1.allowed in
      let text = allowed_has_text g b n.0 p other in
      let low = source_most n.0.from text.from in
      let high = place_most n.0.to text.to in (
        n.0,
        other.0,
        lists.complete n.0 n.1 (omega (arith, low, high)),
        other.1,
        class-sym other.0 x ((alike_class g b n.0 m other.0 x p other.1 step).0 n.2),
      );
  apart = λ i j d x y lt inside s t same.
      let one = (lists.listed (get_or ms i d) (Contains-get_or ms i d (omega (arith, lt, inside)))).0 in
      let two = (lists.listed (get_or ms j d) (Contains-get_or ms j d inside)).0 in
      let e = listed_once g b (get_or ms i d) (get_or ms j d) one two
      ((alike_class g b (get_or ms i d) (get_or ms j d) x y p s t).1 same) in
      absurd (omega (arith, lists.rising i j d lt inside, ap move_number e));
}

-- and to each by the first move that leads to it
pub lists_first : (g : GameRules) (b : Board) (ms : List Move) → IsPosition b → ListsDistinctBelow g b (12 * 13) ms → AreFirst g b ms
lists_first g b ms p lists m n x y found one two same =
    let k = mate g b n.from n.to two.card two.playable two.joins two.takes in
    let (z, step) = k.1.allowed in
    let mates : SameClass z y = (alike_class g b k.0 n z y p step two).0 k.2 in
    let alike = (alike_class g b m k.0 x z p one step).1 (class-trans x y z same (class-sym z y mates)) in
    let e = listed_once g b m k.0 (lists.listed m found).0 k.1 alike in
    omega (arith, ap move_number e, k.3)
