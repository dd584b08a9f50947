-- A sequence carried over free cells: its last card to a cell, the others to their place, and the last after them.
use Rattle.std.proofs.Common.{◌≡◌, ◌≢◌, ℕ, suc, ◌+◌, ◌-◌, ◌*◌, ◌≤◌, ◌<◌, ⊎_elim, Some, None, List, [], ◌∷◌, ◌++◌, length, set, get_or, take, drop, refl, sym, ◌∙◌, ap, subst, arith}
use Rattle.std.specs.Prelude.{slice_index}
use Rattle.std.proofs.lemmas.Bool.{cases_eq}
use Rattle.std.proofs.lemmas.List.{append_assoc, drop_more, drop_all, take_rest, get_or-set_same, get_or-set_other, length-set, set-set, set-get_or}
use Rattle.std.proofs.lemmas.Option.{slice_get-get_or, get_or_from_slice_get, same_Some}
use Rattle.fc_cards.specs.declared.places.Place.TheVariants.{Column, Cell}
use Rattle.fc_position.specs.Board.{Board, column, cell, last_of, board_without, board_with}
use Rattle.fc_moves.specs.declared.steps.Move.{Move}
use Rattle.fc_moves.specs.GameRules.{GameRules}
use Rattle.fc_moves.specs.Step.{Allows, Step, MayLand}
use Rattle.fc_moves.proofs.StepLemmas.{step_keeps}
use Rattle.fc_sequences.specs.Sequence.{last_cards, cards_before, board_after_carry}
use Rattle.fc_sequences.specs.Carry.{AddsRun}
use Rattle.fc_sequences.specs.inner.Carry.{Carries, reached_at, MayCarryBy, load_of, AreFreeCells, MayLie, EndsInSequence}
use Rattle.fc_sequences.proofs.BoardLemmas.{Changed, carried_so, changed_once}
use Rattle.fc_sequences.proofs.CardLemmas.{before-before, last-last, lands_after}
use Rattle.fc_sequences.proofs.LieLemmas.{lies_rest, once_head, once_tail}
use Rattle.fc_sequences.proofs.RunLemmas.{adds_on}

-- a move from a column to a column, from a column to a cell, and from a cell to a column
abbrev pub across : ℕ → ℕ → Move
across i j = record { from = Column i; to = Column j }

abbrev pub aside : ℕ → ℕ → Move
aside i a = record { from = Column i; to = Cell a }

abbrev pub back : ℕ → ℕ → Move
back a j = record { from = Cell a; to = Column j }

-- the last card of a column that has one
last_is : (cards : List ℕ) → 1 ≤ length cards → last_of cards ≡ Some (slice_index cards (length cards - 1))
last_is cards some_cards = slice_get-get_or cards (length cards - 1) 0 (omega arith)

last_one : (cards : List ℕ) (u : ℕ) → 1 ≤ length cards → last_of cards ≡ Some u → last_cards 1 cards ≡ u ∷ []
last_one cards u some_cards last =
    let e : length cards - 1 + 1 ≡ length cards = omega arith in
    let none : drop (length cards - 1 + 1) cards ≡ [] = drop_all (length cards - 1 + 1) cards (omega arith) in
    drop_more cards (length cards - 1) 0 (omega arith) ∙ ap (λ l. slice_index cards (length cards - 1) ∷ l) none
    ∙ ap (λ n. n ∷ []) (get_or_from_slice_get cards (length cards - 1) u 0 last)

-- the last card may go where it may lie
pub allows_across : (g : GameRules) (b : Board) (i j k : ℕ) → length b.columns ≡ 8 → k ≡ 1 → MayLie g b i j k → Allows g b (across i j)
allows_across g b i j k long one may =
    let cards = column b i in
    let u = slice_index cards (length cards - 1) in (
      board_with (board_without b (Column i)) u (Column j),
      record {
        card = u;
        playable = last_is cards (omega (arith, may.there));
        joins = may.other;
        takes = (omega (arith, may.to), subst (λ n. MayLand g (column b j) (slice_index cards (length cards - n))) one may.lands);
        after = refl;
      },
    )

-- and then one card was carried
pub after_across : (g : GameRules) (b c : Board) (i j k : ℕ) → length b.columns ≡ 8 → k ≡ 1 → MayLie g b i j k → Step g b (across i j) c
    → c ≡ board_after_carry b i j k
after_across g b c i j k long one may step =
    let cards = column b i in
    let there : 1 ≤ length cards = omega (arith, may.there, may.some_cards) in
    let base : get_or (set b.columns i (cards_before 1 cards)) j [] ≡ column b j = get_or-set_other b.columns i j (cards_before 1 cards) [] may.other in
    let make : List ℕ → Board = λ l. record b { columns = set (set b.columns i (cards_before 1 cards)) j l } in
    let two : get_or (set b.columns i (cards_before 1 cards)) j [] ++ step.card ∷ [] ≡ column b j ++ last_cards 1 cards =
    ap (λ l. l ++ step.card ∷ []) base ∙ ap (λ l. column b j ++ l) (sym (last_one cards step.card there step.playable)) in
    step.after ∙ ap make two ∙ ap (board_after_carry b i j) (sym one)

-- where there are more cards than one, a free cell takes the last
pub allows_aside : (g : GameRules) (b : Board) (i j k a : ℕ) (cells others : List ℕ) → cells ≡ a ∷ others → MayCarryBy g b (load_of i j k) cells
    → Allows g b (aside i a)
allows_aside g b i j k a cells others e may =
    let cards = column b i in
    let u = slice_index cards (length cards - 1) in
    let free = may.free.free 0 0 (omega (arith, ap length e)) in
    let here : get_or cells 0 0 ≡ a = ap (λ (l : List ℕ). get_or l 0 0) e in (
      board_with (board_without b (Column i)) u (Cell a),
      record {
        card = u;
        playable = last_is cards (omega (arith, may.lies.there, may.lies.some_cards));
        joins = tt;
        takes = (omega (arith, free.0, here), omega (arith, free.1, here, may.fits.position.cells), subst (λ x. cell b x ≡ None) here free.2);
        after = refl;
      },
    )

-- what that changes
pub record Aside (b c : Board) (i a u : ℕ) : Type 0 where
  pub last : last_of (column b i) ≡ Some u
  pub left : column c i ≡ cards_before 1 (column b i)
  pub others : (x : ℕ) → x ≢ i → column c x ≡ column b x
  pub long : length c.columns ≡ length b.columns
  pub cells : c.cells ≡ set b.cells a (Some u)
  pub homes : c.homes ≡ b.homes

pub aside_so : (g : GameRules) (b c : Board) (i a : ℕ) → i < length b.columns → (step : Step g b (aside i a) c) → Aside b c i a step.card
aside_so g b c i a within step =
    let front = cards_before 1 (column b i) in record {
      last = step.playable;
      left = ap (λ x. column x i) step.after ∙ get_or-set_same b.columns i front [] within;
      others = λ x ni. ap (λ y. column y x) step.after ∙ get_or-set_other b.columns i x front [] ni;
      long = ap (λ x. length x.columns) step.after ∙ length-set b.columns i front;
      cells = ap (λ x. x.cells) step.after;
      homes = ap (λ x. x.homes) step.after;
    }

-- the last card of several is put aside in the first of the cells
pub record PutsAside (g : GameRules) (b : Board) (i j k a : ℕ) (cells others : List ℕ) (c : Board) : Type 0 where
  pub may : MayCarryBy g b (load_of i j k) cells
  pub more : k ≢ 1
  pub first : cells ≡ a ∷ others
  pub step : Step g b (aside i a) c

-- the cells after the first
abbrev pub later : List ℕ → List ℕ
later cells = take (length cells - 1) (drop 1 cells)

parted : (cells : List ℕ) → 1 ≤ length cells → cells ≡ get_or cells 0 0 ∷ later cells
parted cells some_cells = drop_more cells 0 0 (omega arith) ∙ ap (λ l. get_or cells 0 0 ∷ l) (sym (take_rest cells 1))

-- more cards than one may be carried where there is a cell
pub parts : (g : GameRules) (b : Board) (i j k : ℕ) (cells : List ℕ) → MayCarryBy g b (load_of i j k) cells → k ≢ 1
    → cells ≡ get_or cells 0 0 ∷ later cells
parts g b i j k cells may more =
    parted cells (⊎_elim (λ e. absurd (more e)) (λ ne. omega (arith, may.enough, may.lies.some_cards)) (cases_eq k 1))

pub puts_aside : (g : GameRules) (b : Board) (i j k : ℕ) (cells : List ℕ) (c : Board) → MayCarryBy g b (load_of i j k) cells → k ≢ 1
    → Step g b (aside i (get_or cells 0 0)) c → PutsAside g b i j k (get_or cells 0 0) cells (later cells) c
puts_aside g b i j k cells c may more step = record {
  may = may;
  more = more;
  first = parts g b i j k cells may more;
  step = step;
}

long_of : (g : GameRules) (b c : Board) (i j k a : ℕ) (cells others : List ℕ) (p : PutsAside g b i j k a cells others c)
    → Aside b c i a p.step.card
long_of g b c i j k a cells others p = aside_so g b c i a (omega (arith, p.may.lies.from, p.may.fits.position.columns)) p.step

-- then the others may be carried over the other cells
pub by_rest : (g : GameRules) (b c : Board) (i j k a : ℕ) (cells others : List ℕ) → PutsAside g b i j k a cells others c
    → MayCarryBy g c (load_of i j (k - 1)) others
by_rest g b c i j k a cells others p =
    let lies = p.may.lies in
    let d = long_of g b c i j k a cells others p in
    let more : 1 ≤ k - 1 = ⊎_elim (λ e. absurd (p.more e)) (λ ne. omega (arith, lies.some_cards)) (cases_eq k 1) in
    let sum : k ≡ 1 + (k - 1) = omega arith in
    let free = subst (λ (l : List ℕ). AreFreeCells g b l) p.first p.may.free in
    let rest : AreFreeCells g c others = record {
      free = λ n x within.
          let f = free.free (suc n) x (omega arith) in
          let ne = once_head a others free.once n x within in
          let here : cell c (get_or others n x) ≡ None =
          ap (λ l. get_or l (get_or others n x) None) d.cells
          ∙ get_or-set_other b.cells a (get_or others n x) (Some p.step.card) None ne ∙ f.2 in
          (f.0, f.1, here);
      once = once_tail a others free.once;
      few = omega (arith, free.few);
    } in
    record {
      lies = lies_rest g b c i j 1 (k - 1) (subst (MayLie g b i j) sum lies) more d.left (d.others j lies.other);
      free = rest;
      enough = omega (arith, p.may.enough, ap length p.first);
      fits = step_keeps g b c (aside i a) p.may.fits p.step;
    }

-- the board when they are there
pub record Between (b d : Board) (i j k a u : ℕ) : Type 0 where
  pub left : column d i ≡ cards_before k (column b i)
  pub target : column d j ≡ column b j ++ last_cards (k - 1) (cards_before 1 (column b i))
  pub others : (x : ℕ) → x ≢ i → x ≢ j → column d x ≡ column b x
  pub long : length d.columns ≡ length b.columns
  pub cells : d.cells ≡ set b.cells a (Some u)
  pub homes : d.homes ≡ b.homes

between_so : (g : GameRules) (b c d : Board) (i j k a : ℕ) (cells others : List ℕ) (p : PutsAside g b i j k a cells others c)
    → d ≡ board_after_carry c i j (k - 1) → Between b d i j k a p.step.card
between_so g b c d i j k a cells others p after =
    let lies = p.may.lies in
    let q = long_of g b c i j k a cells others p in
    let all : length c.columns ≡ 8 = q.long ∙ p.may.fits.position.columns in
    let by : Changed c d i j (cards_before (k - 1) (column c i)) (column c j ++ last_cards (k - 1) (column c i)) =
    subst (λ x. Changed c x i j (cards_before (k - 1) (column c i)) (column c j ++ last_cards (k - 1) (column c i))) (sym after)
    (carried_so c i j (k - 1) all lies.from lies.to lies.other) in
    let sum : 1 + (k - 1) ≡ k = omega (arith, lies.some_cards) in
    record {
      left = by.first ∙ ap (cards_before (k - 1)) q.left ∙ before-before 1 (k - 1) (column b i)
          ∙ ap (λ n. cards_before n (column b i)) sum;
      target = by.second ∙ ap (λ l. l ++ last_cards (k - 1) (column c i)) (q.others j lies.other)
          ∙ ap (λ l. column b j ++ last_cards (k - 1) l) q.left;
      others = λ x ni nj. by.others x ni nj ∙ q.others x ni;
      long = by.long ∙ q.long;
      cells = by.cells ∙ q.cells;
      homes = by.homes ∙ q.homes;
    }

held : (g : GameRules) (b c d : Board) (i j k a : ℕ) (cells others : List ℕ) (p : PutsAside g b i j k a cells others c)
    → Between b d i j k a p.step.card → cell d a ≡ Some p.step.card
held g b c d i j k a cells others p q =
    let free = p.may.free.free 0 0 (omega (arith, ap length p.first)) in
    let here : get_or cells 0 0 ≡ a = ap (λ (l : List ℕ). get_or l 0 0) p.first in
    ap (λ l. get_or l a None) q.cells
    ∙ get_or-set_same b.cells a (Some p.step.card) None (omega (arith, here, free.1, p.may.fits.position.cells))

-- and the card may go on them
pub allows_back : (g : GameRules) (b c d : Board) (i j k a : ℕ) (cells others : List ℕ) → PutsAside g b i j k a cells others c
    → d ≡ board_after_carry c i j (k - 1) → Allows g d (back a j)
allows_back g b c d i j k a cells others p after =
    let lies = p.may.lies in
    let cards = column b i in
    let u = p.step.card in
    let q = between_so g b c d i j k a cells others p after in
    let more : 1 ≤ k - 1 = ⊎_elim (λ e. absurd (p.more e)) (λ ne. omega (arith, lies.some_cards)) (cases_eq k 1) in
    let sum : k ≡ 1 + (k - 1) = omega arith in
    let on : MayLand g (column b j ++ last_cards (k - 1) (cards_before 1 cards)) (slice_index cards (length cards - 1)) =
    lands_after g 1 (k - 1) cards (column b j) (omega arith) more (omega (arith, lies.there)) (subst (λ n. EndsInSequence g n cards) sum lies.sequence) in
    let card : slice_index cards (length cards - 1) ≡ u = get_or_from_slice_get cards (length cards - 1) u 0 p.step.playable in (
      board_with (board_without d (Cell a)) u (Column j),
      record {
        card = u;
        playable = held g b c d i j k a cells others p q;
        joins = tt;
        takes = (omega (arith, q.long, p.may.fits.position.columns, lies.to), subst (λ (l : List ℕ). MayLand g l u) (sym q.target) (subst (λ n. MayLand g (column b j ++ last_cards (k - 1) (cards_before 1 cards)) n) card on));
        after = refl;
      },
    )

-- so that all were carried
after_back : (g : GameRules) (b c d e : Board) (i j k a : ℕ) (cells others : List ℕ) → PutsAside g b i j k a cells others c
    → d ≡ board_after_carry c i j (k - 1) → Step g d (back a j) e → e ≡ board_after_carry b i j k
after_back g b c d e i j k a cells others p after step =
    let lies = p.may.lies in
    let cards = column b i in
    let u = p.step.card in
    let q = between_so g b c d i j k a cells others p after in
    let eight = p.may.fits.position.columns in
    let there : 1 ≤ length cards = omega (arith, lies.there, lies.some_cards) in
    let card : step.card ≡ u = same_Some step.card u (sym step.playable ∙ held g b c d i j k a cells others p q) in
    let pile = column d j ++ step.card ∷ [] in
    let sum : 1 + (k - 1) ≡ k = omega (arith, lies.some_cards) in
    let full : pile ≡ column b j ++ last_cards k cards =
    ap (λ l. l ++ step.card ∷ []) q.target ∙ append_assoc (column b j) (last_cards (k - 1) (cards_before 1 cards)) (step.card ∷ [])
    ∙ ap (λ n. column b j ++ (last_cards (k - 1) (cards_before 1 cards) ++ n ∷ [])) card
    ∙ ap (λ l. column b j ++ (last_cards (k - 1) (cards_before 1 cards) ++ l)) (sym (last_one cards u there p.step.playable))
    ∙ ap (λ l. column b j ++ l) (last-last 1 (k - 1) cards (omega (arith, lies.there)))
    ∙ ap (λ n. column b j ++ last_cards n cards) sum in
    let free = p.may.free.free 0 0 (omega (arith, ap length p.first)) in
    let here : get_or cells 0 0 ≡ a = ap (λ (l : List ℕ). get_or l 0 0) p.first in
    let none : cell b a ≡ None = subst (λ x. cell b x ≡ None) here free.2 in
    let by : Changed b e i j (cards_before k cards) (column b j ++ last_cards k cards) = record {
      first = ap (λ x. column x i) step.after ∙ get_or-set_other d.columns j i pile [] (λ h. lies.other (sym h)) ∙ q.left;
      second = ap (λ x. column x j) step.after ∙ get_or-set_same d.columns j pile [] (omega (arith, q.long, eight, lies.to)) ∙ full;
      others = λ x ni nj. ap (λ y. column y x) step.after ∙ get_or-set_other d.columns j x pile [] nj ∙ q.others x ni nj;
      long = ap (λ x. length x.columns) step.after ∙ length-set d.columns j pile ∙ q.long;
      cells = ap (λ x. x.cells) step.after ∙ ap (λ l. set l a None) q.cells ∙ set-set b.cells a (Some u) None
          ∙ ap (set b.cells a) (sym none) ∙ set-get_or b.cells a None;
      homes = ap (λ x. x.homes) step.after ∙ q.homes;
    } in
    changed_once b e (board_after_carry b i j k) i j (cards_before k cards) (column b j ++ last_cards k cards) by
    (carried_so b i j k eight lies.from lies.to lies.other)

pub carried_by : (g : GameRules) (b c d e : Board) (i j k a : ℕ) (cells others : List ℕ) (w x y z : List Move)
    → PutsAside g b i j k a cells others c → AddsRun g b w c x → length x ≡ length w + 1 → Carries g (load_of i j (k - 1)) (2 * (k - 1) - 1) (reached_at c x) (reached_at d y)
    → Step g d (back a j) e → AddsRun g d y e z → length z ≡ length y + 1 → Carries g (load_of i j k) (2 * k - 1) (reached_at b w) (reached_at e z)
carried_by g b c d e i j k a cells others w x y z p one first two step three last = record {
  after = after_back g b c d e i j k a cells others p two.after step;
  run = adds_on g b d e w y z (adds_on g b c d w x y one two.run) three;
  count_is =
      let more : 1 ≤ k - 1 = ⊎_elim (λ e. absurd (p.more e)) (λ ne. omega (arith, p.may.lies.some_cards)) (cases_eq k 1) in
      omega (arith, more, first, two.count_is, last);
}
