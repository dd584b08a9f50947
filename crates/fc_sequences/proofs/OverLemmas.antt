-- A sequence carried by halves: the last cards to a spare column, the others to their place, and the last after them.
use Rattle.std.proofs.Common.{◌≡◌, ◌≢◌, ℕ, suc, ◌+◌, ◌-◌, ◌*◌, ◌^◌, ◌≤◌, ⊎_elim, List, ◌∷◌, ◌++◌, length, refl, sym, ◌∙◌, ap, subst, arith}
use Rattle.std.proofs.Math.Nat.{pow-suc, mul_assoc, mul-pos}
use Rattle.std.proofs.lemmas.Nat.{pow_pos}
use Rattle.std.proofs.lemmas.Bool.{cases_eq}
use Rattle.std.proofs.lemmas.List.{append_assoc}
use Rattle.fc_position.specs.Board.{Board, column}
use Rattle.fc_moves.specs.declared.steps.Move.{Move}
use Rattle.fc_moves.specs.GameRules.{GameRules, IsPositionOf}
use Rattle.fc_sequences.specs.Sequence.{last_cards, cards_before, board_after_carry}
use Rattle.fc_sequences.specs.Carry.{carry_moves}
use Rattle.fc_sequences.specs.inner.Carry.{Carries, reached_at, MayCarryOver, load_of, AreSpareColumns, EndOpens}
use Rattle.fc_sequences.proofs.BoardLemmas.{Changed, carried_so, changed_once}
use Rattle.fc_sequences.proofs.CardLemmas.{length-last, before-before, last-last, last_all, before_all, opens_before, opens_last}
use Rattle.fc_sequences.proofs.LieLemmas.{lies_aside, lies_rest, lies_back, free_same, spare_still}
use Rattle.fc_sequences.proofs.MovesLemmas.{moves_alone, moves_others, moves_halves}
use Rattle.fc_sequences.proofs.RunLemmas.{adds_on}

-- where the other columns are enough, the first is not needed
pub over_others : (g : GameRules) (b : Board) (i j k s : ℕ) (cells columns others : List ℕ) → columns ≡ s ∷ others
    → k ≤ (length cells + 1) * 2 ^ length others → MayCarryOver g b (load_of i j k) cells columns → MayCarryOver g b (load_of i j k) cells others
over_others g b i j k s cells columns others e enough may = record {
  lies = may.lies;
  opens = may.opens;
  free = may.free;
  spare = spare_still b b i j s i j others (subst (λ (l : List ℕ). AreSpareColumns b i j l) e may.spare) (λ x ni nj ns. (ni, nj, refl));
  enough = enough;
  fits = may.fits;
}

-- the last k cards are h and the r before them, as many as the columns after the first can do
pub record Halves (g : GameRules) (b : Board) (i j s h r : ℕ) (cells others : List ℕ) : Type 0 where
  pub may : MayCarryOver g b (load_of i j (h + r)) cells (s ∷ others)
  pub last : 1 ≤ h
  pub rest : r ≡ (length cells + 1) * 2 ^ length others

pub halves : (g : GameRules) (b : Board) (i j k s h r : ℕ) (cells columns others : List ℕ) → columns ≡ s ∷ others → k ≡ h + r → 1 ≤ h
    → r ≡ (length cells + 1) * 2 ^ length others → MayCarryOver g b (load_of i j k) cells columns → Halves g b i j s h r cells others
halves g b i j k s h r cells columns others e sum last rest may = record {
  may = subst (λ n. MayCarryOver g b (load_of i j n) cells (s ∷ others)) sum (subst (λ (l : List ℕ). MayCarryOver g b (load_of i j k) cells l) e may);
  last = last;
  rest = rest;
}

-- the first column doubles the room
doubled : (a m : ℕ) → a * 2 ^ suc m ≡ a * 2 ^ m + a * 2 ^ m
doubled a m = let p = pow-suc 2 m in ap (λ n. a * n) p ∙ sym (mul_assoc a (2 ^ m) 2) ∙ omega arith

one_power : (a m : ℕ) → 1 ≤ (a + 1) * 2 ^ m
one_power a m = omega (arith, mul-pos {m = a + 1} {n = 2 ^ m} (omega arith) (pow_pos m))

-- the last half may be carried aside
pub over_aside : (g : GameRules) (b : Board) (i j s h r : ℕ) (cells others : List ℕ) → Halves g b i j s h r cells others
    → MayCarryOver g b (load_of i s h) cells others
over_aside g b i j s h r cells others p =
    let may = p.may in
    let first = may.spare.spare 0 0 (omega arith) in
    let some_rest : 1 ≤ r = omega (arith, p.rest, one_power (length cells) (length others)) in
    let twice = doubled (length cells + 1) (length others) in
    record {
      lies = lies_aside g b i j s h r may.lies may.opens p.last some_rest first.0 first.1 first.3;
      opens = λ a low within. may.opens a (omega arith) within;
      free = may.free;
      spare = spare_still b b i j s i s others may.spare (λ x ni nj ns. (ni, ns, refl));
      enough = omega (arith, may.enough, p.rest, twice);
      fits = may.fits;
    }

-- then the cards before them to their place
pub over_rest : (g : GameRules) (b c : Board) (i j s h r : ℕ) (cells others : List ℕ) → Halves g b i j s h r cells others
    → IsPositionOf g c → c ≡ board_after_carry b i s h → MayCarryOver g c (load_of i j r) cells others
over_rest g b c i j s h r cells others p fits after =
    let may = p.may in
    let cards = column b i in
    let first = may.spare.spare 0 0 (omega arith) in
    let some_rest : 1 ≤ r = omega (arith, p.rest, one_power (length cells) (length others)) in
    let by : Changed b c i s (cards_before h cards) (column b s ++ last_cards h cards) =
    subst (λ x. Changed b x i s (cards_before h cards) (column b s ++ last_cards h cards)) (sym after)
    (carried_so b i s h may.fits.position.columns may.lies.from first.0 first.1) in
    record {
      lies = lies_rest g b c i j h r may.lies some_rest by.first (by.others j may.lies.other (λ e. first.2 (sym e)));
      opens = subst (EndOpens g r) (sym by.first) (opens_before g h r cards may.opens);
      free = free_same g b c cells by.cells may.free;
      spare = spare_still b c i j s i j others may.spare (λ x ni nj ns. (ni, nj, by.others x ni ns));
      enough = omega (arith, p.rest);
      fits = fits;
    }

-- the columns once both halves were carried
pub record Between (b d : Board) (i j s h r : ℕ) : Type 0 where
  pub left : column d i ≡ cards_before (h + r) (column b i)
  pub target : column d j ≡ column b j ++ last_cards r (cards_before h (column b i))
  pub held : column d s ≡ last_cards h (column b i)
  pub others : (x : ℕ) → x ≢ i → x ≢ j → x ≢ s → column d x ≡ column b x
  pub long : length d.columns ≡ length b.columns
  pub cells : d.cells ≡ b.cells
  pub homes : d.homes ≡ b.homes

between_so : (g : GameRules) (b c d : Board) (i j s h r : ℕ) (cells others : List ℕ) → Halves g b i j s h r cells others
    → c ≡ board_after_carry b i s h → d ≡ board_after_carry c i j r → Between b d i j s h r
between_so g b c d i j s h r cells others p one two =
    let may = p.may in
    let cards = column b i in
    let first = may.spare.spare 0 0 (omega arith) in
    let eight = may.fits.position.columns in
    let by : Changed b c i s (cards_before h cards) (column b s ++ last_cards h cards) =
    subst (λ x. Changed b x i s (cards_before h cards) (column b s ++ last_cards h cards)) (sym one)
    (carried_so b i s h eight may.lies.from first.0 first.1) in
    let more : Changed c d i j (cards_before r (column c i)) (column c j ++ last_cards r (column c i)) =
    subst (λ x. Changed c x i j (cards_before r (column c i)) (column c j ++ last_cards r (column c i))) (sym two)
    (carried_so c i j r (by.long ∙ eight) may.lies.from may.lies.to may.lies.other) in
    record {
      left = more.first ∙ ap (cards_before r) by.first ∙ before-before h r cards;
      target = more.second ∙ ap (λ l. l ++ last_cards r (column c i)) (by.others j may.lies.other (λ e. first.2 (sym e)))
          ∙ ap (λ l. column b j ++ last_cards r l) by.first;
      held = more.others s first.1 first.2 ∙ by.second ∙ ap (λ l. l ++ last_cards h cards) first.3;
      others = λ x ni nj ns. more.others x ni nj ∙ by.others x ni ns;
      long = more.long ∙ by.long;
      cells = more.cells ∙ by.cells;
      homes = more.homes ∙ by.homes;
    }

-- and then the last half after them
pub over_back : (g : GameRules) (b c d : Board) (i j s h r : ℕ) (cells others : List ℕ) → Halves g b i j s h r cells others
    → IsPositionOf g d → c ≡ board_after_carry b i s h → d ≡ board_after_carry c i j r → MayCarryOver g d (load_of s j h) cells others
over_back g b c d i j s h r cells others p fits one two =
    let may = p.may in
    let cards = column b i in
    let first = may.spare.spare 0 0 (omega arith) in
    let some_rest : 1 ≤ r = omega (arith, p.rest, one_power (length cells) (length others)) in
    let twice = doubled (length cells + 1) (length others) in
    let q = between_so g b c d i j s h r cells others p one two in
    record {
      lies = lies_back g b d i j s h r (column b j) may.lies p.last some_rest first.0 first.2 q.held q.target;
      opens = subst (EndOpens g h) (sym q.held)
          (opens_last g h cards (omega (arith, may.lies.there)) (λ a low within. may.opens a (omega arith) within));
      free = free_same g b d cells q.cells may.free;
      spare = spare_still b d i j s s j others may.spare (λ x ni nj ns. (ns, nj, q.others x ni nj ns));
      enough = omega (arith, may.enough, p.rest, twice);
      fits = fits;
    }

-- so that all were carried
after_back : (g : GameRules) (b c d e : Board) (i j s h r : ℕ) (cells others : List ℕ) → Halves g b i j s h r cells others
    → c ≡ board_after_carry b i s h → d ≡ board_after_carry c i j r → e ≡ board_after_carry d s j h → e ≡ board_after_carry b i j (h + r)
after_back g b c d e i j s h r cells others p one two three =
    let may = p.may in
    let cards = column b i in
    let first = may.spare.spare 0 0 (omega arith) in
    let eight = may.fits.position.columns in
    let there : h ≤ length cards = omega (arith, may.lies.there) in
    let q = between_so g b c d i j s h r cells others p one two in
    let by : Changed d e s j (cards_before h (column d s)) (column d j ++ last_cards h (column d s)) =
    subst (λ x. Changed d x s j (cards_before h (column d s)) (column d j ++ last_cards h (column d s))) (sym three)
    (carried_so d s j h (q.long ∙ eight) first.0 may.lies.to (λ x. first.2 (sym x))) in
    let size : length (column d s) ≡ h = ap length q.held ∙ length-last h cards there in
    let empty : column e s ≡ column b s = by.first ∙ before_all h (column d s) size ∙ sym first.3 in
    let full : column e j ≡ column b j ++ last_cards (h + r) cards =
    by.second ∙ ap (λ l. column d j ++ l) (last_all h (column d s) size) ∙ ap (λ l. column d j ++ l) q.held
    ∙ ap (λ l. l ++ last_cards h cards) q.target
    ∙ append_assoc (column b j) (last_cards r (cards_before h cards)) (last_cards h cards)
    ∙ ap (λ l. column b j ++ l) (last-last h r cards may.lies.there) in
    let all : Changed b e i j (cards_before (h + r) cards) (column b j ++ last_cards (h + r) cards) = record {
      first = by.others i (λ x. first.1 (sym x)) (λ x. may.lies.other (sym x)) ∙ q.left;
      second = full;
      others = λ x ni nj.
          ⊎_elim (λ same. ap (column e) same ∙ empty ∙ ap (column b) (sym same))
          (λ ns. by.others x ns nj ∙ q.others x ni nj ns) (cases_eq x s);
      long = by.long ∙ q.long;
      cells = by.cells ∙ q.cells;
      homes = by.homes ∙ q.homes;
    } in
    changed_once b e (board_after_carry b i j (h + r)) i j (cards_before (h + r) cards) (column b j ++ last_cards (h + r) cards) all
    (carried_so b i j (h + r) eight may.lies.from may.lies.to may.lies.other)

pub carried_over : (g : GameRules) (b c d e : Board) (i j k s h r : ℕ) (cells columns others : List ℕ) (w x y z : List Move) → k ≡ h + r
    → columns ≡ s ∷ others → Halves g b i j s h r cells others → Carries g (load_of i s h) (carry_moves (length cells) (length others) h) (reached_at b w) (reached_at c x)
    → Carries g (load_of i j r) (carry_moves (length cells) (length others) r) (reached_at c x) (reached_at d y)
    → Carries g (load_of s j h) (carry_moves (length cells) (length others) h) (reached_at d y) (reached_at e z)
    → Carries g (load_of i j k) (carry_moves (length cells) (length columns) k) (reached_at b w) (reached_at e z)
carried_over g b c d e i j k s h r cells columns others w x y z sum parts p one two three = record {
  after = after_back g b c d e i j s h r cells others p one.after two.after three.after ∙ ap (board_after_carry b i j) (sym sum);
  run = adds_on g b d e w y z (adds_on g b c d w x y one.run two.run) three.run;
  count_is =
      let all = ap (λ (l : List ℕ). carry_moves (length cells) (length l) k) parts
      ∙ moves_halves (length cells) (length others) k h r sum p.last p.rest in
      omega (arith, all, one.count_is, two.count_is, three.count_is);
}

-- where the other columns did it
pub carried_by_others : (g : GameRules) (b c : Board) (i j k s : ℕ) (cells columns others : List ℕ) (w x : List Move) → columns ≡ s ∷ others
    → k ≤ (length cells + 1) * 2 ^ length others → Carries g (load_of i j k) (carry_moves (length cells) (length others) k) (reached_at b w) (reached_at c x)
    → Carries g (load_of i j k) (carry_moves (length cells) (length columns) k) (reached_at b w) (reached_at c x)
carried_by_others g b c i j k s cells columns others w x parts few one =
    subst (λ n. Carries g (load_of i j k) n (reached_at b w) (reached_at c x))
    (sym (ap (λ (l : List ℕ). carry_moves (length cells) (length l) k) parts ∙ moves_others (length cells) (length others) k few)) one

-- where there are none
pub carried_alone : (g : GameRules) (b c : Board) (i j k : ℕ) (cells columns : List ℕ) (w x : List Move) → length columns ≡ 0
    → Carries g (load_of i j k) (2 * k - 1) (reached_at b w) (reached_at c x) → Carries g (load_of i j k) (carry_moves (length cells) (length columns) k) (reached_at b w) (reached_at c x)
carried_alone g b c i j k cells columns w x none one =
    subst (λ n. Carries g (load_of i j k) n (reached_at b w) (reached_at c x))
    (sym (ap (λ n. carry_moves (length cells) n k) none ∙ moves_alone (length cells) k)) one
