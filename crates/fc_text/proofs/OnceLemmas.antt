-- Lines without a fault spell at most one board.
use Rattle.std.proofs.Common.{true, false, eqb, ◌≡◌, ℕ, ◌+◌, ◌≤◌, ◌<◌, Option, Some, None, List, [], ◌∷◌, ◌++◌, length, inr, refl, sym, ◌∙◌, ap, subst, ⊎_elim, arith}
use Rattle.std.specs.Prelude.{Contains, codes, slice_get}
use Rattle.std.specs.Char.{to_ascii_uppercase}
use Rattle.std.specs.List.{AllZip}
use Rattle.std.proofs.lemmas.List.{ext_get_or, length-append}
use Rattle.std.proofs.lemmas.Option.{slice_get-get_or}
use Rattle.std.proofs.lemmas.Bool.{cases_order, eqb-false}
use Rattle.fc_cards.specs.Texts.{IsRank, IsRankText, rank_letter}
use Rattle.fc_cards.proofs.EachRank.{by_rank}
use Rattle.fc_cards.proofs.TextLemmas.{card_text_once, rank_text_once}
use Rattle.fc_position.specs.Board.{Board, column, cell, home}
use Rattle.fc_text.specs.declared.lines.LineKind.{LineKind}
use Rattle.fc_text.specs.declared.lines.LineKind.TheVariants.{Foundations, Freecells, Column}
use Rattle.fc_text.specs.Line.{Line}
use Rattle.fc_text.specs.Spelling.{SpellsBoard, SpellsCard, SpellsCellAt, SpellsCount, SpellsHome, SpellsHomeIn, IsMark, tokens_at}
use Rattle.fc_position.specs.Board.{places}
use Rattle.fc_position.specs.Tally.{IsFaultOf}
use Rattle.fc_position.proofs.TallyLemmas.{no_fault}
use Rattle.fc_position.specs.declared.faults.PartsFault.{PartsFault}
use Rattle.fc_position.specs.declared.faults.PartsFault.TheVariants.{Repeated, Missing}
use Rattle.fc_text.specs.declared.faults.LineFault.{LineFault}
use Rattle.fc_text.specs.declared.faults.BoardFault.TheVariants.{TooLong, BadCard, BadFoundation, TooManyCells, TooManyColumns, RepeatedLine, RepeatedCard, MissingCard}
use Rattle.fc_text.specs.Line.{board_lines}
use Rattle.fc_text.specs.Spelling.{is_foundations}
use Rattle.fc_text.specs.Board.{Spells, HasLineFault, HasCardFault}
use Rattle.fc_text.specs.Laws.{TextsSpellOnePosition, TextsThatSpellHaveNoFault}
use Rattle.fc_text.proofs.FinishLemmas.{parted}
use Rattle.fc_text.proofs.FitLemmas.{first_of}
use Rattle.std.proofs.lemmas.Option.{slice_get_within}
use Rattle.fc_text.specs.Fault.{NamesSuitTwice, HasBadFoundation, AreSound}

card_once : (token : List ℕ) (c d : ℕ) → SpellsCard token c → SpellsCard token d → c ≡ d
card_once token c d p q = card_text_once c d token p.below q.below p.text q.text

cards_once : (tokens : List (List ℕ)) (xs ys : List ℕ) → AllZip SpellsCard tokens xs → AllZip SpellsCard tokens ys → xs ≡ ys
cards_once [] [] [] p q = refl
cards_once [] [] (y ∷ ys) p q = absurd q
cards_once [] (x ∷ xs) ys p q = absurd p
cards_once (t ∷ ts) [] ys p q = absurd p
cards_once (t ∷ ts) (x ∷ xs) [] p q = absurd q
cards_once (t ∷ ts) (x ∷ xs) (y ∷ ys) p q =
    ap (λ z. z ∷ xs) (card_once t x y p.0 q.0) ∙ ap (λ zs. y ∷ zs) (cards_once ts xs ys p.1 q.1)

-- an empty cell's mark is no card
mark_no_card : (token : List ℕ) (c : ℕ) → IsMark token → SpellsCard token c → ⊥
mark_no_card token c mark card =
    let rank_part = card.text.rank_part in
    let size : length token ≡ length (rank_part ++ card.text.suit_part ∷ []) = ap length card.text.parts in
    let parts : length (rank_part ++ card.text.suit_part ∷ []) ≡ length rank_part + length (card.text.suit_part ∷ []) =
    length-append rank_part (card.text.suit_part ∷ []) in
    let ranked : 1 ≤ length rank_part = ⊎_elim
    (λ one. let e = ap length one.1 in omega (arith, e))
    (λ ten. let e = ap length ten.1 in omega (arith, e)) card.text.spells_rank in
    ⊎_elim (λ e. let one = ap length e in omega (arith, size, parts, ranked, one))
    (λ e. let one = ap length e in omega (arith, size, parts, ranked, one)) mark

cell_once : (r : Option (List ℕ)) (x y : Option ℕ) → SpellsCellAt r x → SpellsCellAt r y → x ≡ y
cell_once None x y p q = p ∙ sym q
cell_once (Some token) None None p q = refl
cell_once (Some token) None (Some d) p q = absurd (mark_no_card token d p q)
cell_once (Some token) (Some c) None p q = absurd (mark_no_card token c q p)
cell_once (Some token) (Some c) (Some d) p q = ap (λ z. Some z) (card_once token c d p q)

not_zero_letter : (r : ℕ) → IsRank r → rank_letter r ≡ 48 → ⊥
not_zero_letter r rank same = eqb-false (rank_letter r) 48 (by_rank (λ r. eqb (rank_letter r) 48 ≡ false) refl refl refl refl refl refl refl refl refl refl refl refl refl r rank) same

-- `0` is no rank
zero_no_rank : (n : ℕ) → IsRank n → IsRankText n (codes "0") → ⊥
zero_no_rank n rank = ⊎_elim
    (λ one. let byte : 48 ≡ one.0 = cc one.1 in
    not_zero_letter n rank (sym one.2 ∙ ap to_ascii_uppercase (sym byte)))
    (λ ten. let e = ap length ten.1 in omega (arith, e))

count_once : (text : List ℕ) (n m : ℕ) → SpellsCount text n → SpellsCount text m → n ≡ m
count_once text n m = ⊎_elim
    (λ z. ⊎_elim (λ y. z.1 ∙ sym y.1) (λ q. absurd (zero_no_rank m q.0 (subst (IsRankText m) z.0 q.1))))
    (λ p. ⊎_elim (λ y. absurd (zero_no_rank n p.0 (subst (IsRankText n) y.0 p.1))) (λ q. rank_text_once n m text p.0 q.0 p.1 q.1))

home_count_once : (token : List ℕ) (s n m : ℕ) → SpellsHome token s n → SpellsHome token s m → n ≡ m
home_count_once token s n m p q =
    let same : p.rank_part ≡ q.rank_part = cc (p.parts, q.parts) in
    count_once q.rank_part n m (subst (λ t. SpellsCount t n) same p.count) q.count

told_once : (tokens : List (List ℕ)) (s n m : ℕ) → s < 4 → (NamesSuitTwice tokens → ⊥) → (one other : List ℕ) → Contains tokens one
    → Contains tokens other → SpellsHome one s n → SpellsHome other s m → n ≡ m
told_once tokens s n m below once one other p q first second =
    let at_p : slice_get tokens p.0 ≡ Some one = slice_get-get_or tokens p.0 one p.1 ∙ ap (λ v. Some v) p.2 in
    let at_q : slice_get tokens q.0 ≡ Some other = slice_get-get_or tokens q.0 other q.1 ∙ ap (λ v. Some v) q.2 in
    ⊎_elim
    (λ e. let same : one ≡ other = cc (sym at_p ∙ ap (slice_get tokens) e ∙ at_q) in
    home_count_once other s n m (subst (λ t. SpellsHome t s n) same first) second)
    (λ apart. absurd (once (⊎_elim
    (λ lt. record {
      suit = s;
      below = below;
      first = p.0;
      second = q.0;
      order = lt;
      one = (one, n, at_p, first);
      other = (other, m, at_q, second);
    })
    (λ gt. record {
      suit = s;
      below = below;
      first = q.0;
      second = p.0;
      order = gt;
      one = (other, m, at_q, second);
      other = (one, n, at_p, first);
    })
    apart)))
    (cases_order p.0 q.0)

-- two tokens that tell of one suit are one, unless the line names it twice
homes_once : (tokens : List (List ℕ)) (s n m : ℕ) → s < 4 → (NamesSuitTwice tokens → ⊥) → SpellsHomeIn tokens s n → SpellsHomeIn tokens s m → n ≡ m
homes_once tokens s n m below once = ⊎_elim
    (λ p. ⊎_elim (λ q. told_once tokens s n m below once p.0 q.0 p.1 q.1 p.2 q.2) (λ q. absurd (q.0 p.0 n p.1 p.2)))
    (λ p. ⊎_elim (λ q. absurd (p.0 q.0 m q.1 q.2)) (λ q. p.1 ∙ sym q.1))

-- lines of which the foundation line names no suit twice spell one board
pub board_once : (lines : List Line) (b c : Board) → (NamesSuitTwice (tokens_at lines Foundations 0) → ⊥) → SpellsBoard lines b
    → SpellsBoard lines c → b ≡ c
board_once lines b c once p q =
    let columns : b.columns ≡ c.columns = ext_get_or [] b.columns c.columns (p.shape.columns ∙ sym q.shape.columns)
    (λ i below. let inside : i < 8 = omega (arith, below, p.shape.columns) in
    cards_once (tokens_at lines Column i) (column b i) (column c i) (p.columns i inside) (q.columns i inside)) in
    let cells : b.cells ≡ c.cells = ext_get_or None b.cells c.cells (p.shape.cells ∙ sym q.shape.cells)
    (λ i below. let inside : i < 4 = omega (arith, below, p.shape.cells) in
    cell_once (slice_get (tokens_at lines Freecells 0) i) (cell b i) (cell c i) (p.cells i inside) (q.cells i inside)) in
    let homes : b.homes ≡ c.homes = ext_get_or 0 b.homes c.homes (p.shape.homes ∙ sym q.shape.homes)
    (λ s below. let inside : s < 4 = omega (arith, below, p.shape.homes) in
    homes_once (tokens_at lines Foundations 0) s (home b s) (home c s) inside once (p.homes s inside) (q.homes s inside)) in
    ap (λ cs. parted cs b.cells b.homes) columns ∙ ap (λ hs. parted c.columns hs b.homes) cells
    ∙ ap (λ ns. parted c.columns c.cells ns) homes

foundations_is : (kind : LineKind) → is_foundations kind ≡ true → kind ≡ Foundations
foundations_is Foundations same = refl
foundations_is Freecells same = absurd (cc same)
foundations_is Column same = absurd (cc same)

-- sound lines name no suit twice
pub no_twice : (n : ℕ) (lines : List Line) → AreSound n lines → NamesSuitTwice (tokens_at lines Foundations 0) → ⊥
no_twice n lines sound twice =
    let size : twice.second < length (tokens_at lines Foundations 0) =
    slice_get_within (tokens_at lines Foundations 0) twice.second twice.other.0 twice.other.2 in
    let f = first_of Foundations lines (omega (arith, size)) in
    sound f.front f.rest f.line f.parts LineFault.BadFoundation
    (subst (λ k. HasBadFoundation k f.line.tokens) (sym (foundations_is f.line.kind f.same)) (inr (subst NamesSuitTwice (sym f.tokens) twice)))

-- no text spells two positions
pub spell_one : TextsSpellOnePosition
spell_one n text b c p q = board_once (board_lines text) b c (no_twice n (board_lines text) p.sound) p.spelled q.spelled

no_card_fault : (n : ℕ) (text : List ℕ) (b : Board) (fault : PartsFault) → Spells n text b → HasCardFault n text fault → ⊥
no_card_fault n text b fault p f =
    let same : f.board ≡ b = board_once (board_lines text) f.board b (no_twice n (board_lines text) p.sound) f.spelled p.spelled in
    no_fault (places b) fault p.position.once (subst (λ x. IsFaultOf (places x) fault) same f.here)

no_line_fault : (n : ℕ) (text : List ℕ) (b : Board) (k : ℕ) (fault : LineFault) → Spells n text b → HasLineFault n text k fault → ⊥
no_line_fault n text b k fault p f =
    p.sound f.first.front f.first.rest f.first.line f.first.parts fault f.first.here

-- no text that spells a position has a fault
pub spell_no_fault : TextsThatSpellHaveNoFault
spell_no_fault n text b TooLong p f = omega (arith, f, p.short)
spell_no_fault n text b (BadCard k) p f = no_line_fault n text b k LineFault.BadCard p f
spell_no_fault n text b (BadFoundation k) p f = no_line_fault n text b k LineFault.BadFoundation p f
spell_no_fault n text b (TooManyCells k) p f = no_line_fault n text b k LineFault.TooManyCells p f
spell_no_fault n text b (TooManyColumns k) p f = no_line_fault n text b k LineFault.TooManyColumns p f
spell_no_fault n text b (RepeatedLine k) p f = no_line_fault n text b k LineFault.RepeatedLine p f
spell_no_fault n text b (RepeatedCard c) p f = no_card_fault n text b (Repeated c) p f
spell_no_fault n text b (MissingCard c) p f = no_card_fault n text b (Missing c) p f
