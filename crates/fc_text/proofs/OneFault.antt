-- No text has two faults.
use Rattle.std.proofs.Common.{◌≡◌, ℕ, ◌+◌, ◌<◌, ◌⊎◌, List, [], ◌∷◌, ◌++◌, length, inl, inr, refl, sym, ◌∙◌, ap, subst, ⊎_elim, arith}
use Rattle.std.specs.Prelude.{count_by}
use Rattle.std.proofs.lemmas.Bool.{cases_order}
use Rattle.fc_position.specs.Board.{places}
use Rattle.fc_position.specs.Tally.{IsFaultOf}
use Rattle.fc_position.specs.declared.faults.PartsFault.{PartsFault}
use Rattle.fc_position.specs.declared.faults.PartsFault.TheVariants.{Repeated, Missing}
use Rattle.fc_text.specs.declared.faults.BoardFault.{BoardFault}
use Rattle.fc_text.specs.declared.faults.BoardFault.TheVariants.{TooLong, RepeatedCard, MissingCard}
use Rattle.fc_text.specs.declared.faults.LineFault.{LineFault}
use Rattle.fc_text.specs.declared.faults.LineFault.TheVariants.{BadCard, BadFoundation, TooManyCells, TooManyColumns, RepeatedLine}
use Rattle.fc_text.specs.declared.lines.LineKind.{LineKind}
use Rattle.fc_text.specs.declared.lines.LineKind.TheVariants.{Foundations, Freecells, Column}
use Rattle.fc_text.specs.Line.{Line, board_lines}
use Rattle.fc_text.specs.Spelling.{is_kind}
use Rattle.fc_text.specs.Fault.{HasBadCard, HasBadFoundation, HasTooManyCells, HasTooManyColumns, IsRepeated, IsLineFault, IsFirstFault}
use Rattle.fc_text.specs.Board.{HasLineFault, HasCardFault, IsBoardFault}
use Rattle.fc_text.specs.inner.Board.{card_fault, line_fault}
use Rattle.fc_text.specs.Laws.{TextsHaveOneFault}
use Rattle.fc_text.proofs.OnceLemmas.{no_twice, board_once}

-- kinds of lines have faults of their own
card_or_foundation : (kind : LineKind) (tokens : List (List ℕ)) → HasBadCard kind tokens → HasBadFoundation kind tokens → ⊥
card_or_foundation Foundations tokens p q = p
card_or_foundation Freecells tokens p q = q
card_or_foundation Column tokens p q = q

foundation_or_cells : (n : ℕ) (kind : LineKind) (tokens : List (List ℕ)) → HasBadFoundation kind tokens → HasTooManyCells n kind tokens → ⊥
foundation_or_cells n Foundations tokens p q = q
foundation_or_cells n Freecells tokens p q = p
foundation_or_cells n Column tokens p q = p

foundation_or_columns : (before : ℕ) (kind : LineKind) (tokens : List (List ℕ)) → HasBadFoundation kind tokens
    → HasTooManyColumns before kind tokens → ⊥
foundation_or_columns before Foundations tokens p q = q
foundation_or_columns before Freecells tokens p q = q
foundation_or_columns before Column tokens p q = p

cells_or_columns : (n before : ℕ) (kind : LineKind) (tokens : List (List ℕ)) → HasTooManyCells n kind tokens
    → HasTooManyColumns before kind tokens → ⊥
cells_or_columns n before Foundations tokens p q = p
cells_or_columns n before Freecells tokens p q = q
cells_or_columns n before Column tokens p q = p

columns_or_repeated : (before : ℕ) (kind : LineKind) (tokens : List (List ℕ)) → HasTooManyColumns before kind tokens
    → IsRepeated before kind → ⊥
columns_or_repeated before Foundations tokens p q = p
columns_or_repeated before Freecells tokens p q = p
columns_or_repeated before Column tokens p q = q

-- a line has one fault
line_fault_once : (n before : ℕ) (line : Line) (f g : LineFault) → IsLineFault n before line f → IsLineFault n before line g → f ≡ g
line_fault_once n before line BadCard BadCard p q = refl
line_fault_once n before line BadCard BadFoundation p q = absurd (card_or_foundation line.kind line.tokens p q)
line_fault_once n before line BadCard TooManyCells p q = absurd (q.0 p)
line_fault_once n before line BadCard TooManyColumns p q = absurd (q.0 p)
line_fault_once n before line BadCard RepeatedLine p q = absurd (q.0 p)
line_fault_once n before line BadFoundation BadCard p q = absurd (card_or_foundation line.kind line.tokens q p)
line_fault_once n before line BadFoundation BadFoundation p q = refl
line_fault_once n before line BadFoundation TooManyCells p q = absurd (foundation_or_cells n line.kind line.tokens p q.1)
line_fault_once n before line BadFoundation TooManyColumns p q = absurd (foundation_or_columns before line.kind line.tokens p q.1)
line_fault_once n before line BadFoundation RepeatedLine p q = absurd (q.1 p)
line_fault_once n before line TooManyCells BadCard p q = absurd (p.0 q)
line_fault_once n before line TooManyCells BadFoundation p q = absurd (foundation_or_cells n line.kind line.tokens q p.1)
line_fault_once n before line TooManyCells TooManyCells p q = refl
line_fault_once n before line TooManyCells TooManyColumns p q = absurd (cells_or_columns n before line.kind line.tokens p.1 q.1)
line_fault_once n before line TooManyCells RepeatedLine p q = absurd (q.2 p.1)
line_fault_once n before line TooManyColumns BadCard p q = absurd (p.0 q)
line_fault_once n before line TooManyColumns BadFoundation p q = absurd (foundation_or_columns before line.kind line.tokens q p.1)
line_fault_once n before line TooManyColumns TooManyCells p q = absurd (cells_or_columns n before line.kind line.tokens q.1 p.1)
line_fault_once n before line TooManyColumns TooManyColumns p q = refl
line_fault_once n before line TooManyColumns RepeatedLine p q = absurd (columns_or_repeated before line.kind line.tokens p.1 q.3)
line_fault_once n before line RepeatedLine BadCard p q = absurd (p.0 q)
line_fault_once n before line RepeatedLine BadFoundation p q = absurd (p.1 q)
line_fault_once n before line RepeatedLine TooManyCells p q = absurd (p.2 q.1)
line_fault_once n before line RepeatedLine TooManyColumns p q = absurd (columns_or_repeated before line.kind line.tokens q.1 p.3)
line_fault_once n before line RepeatedLine RepeatedLine p q = refl

-- a line stands before what is later, with these lines in front of it
abbrev StandsBefore : List Line → Line → List Line → Type 0
StandsBefore front line later = (rest : List Line) × (later ≡ front ++ line ∷ rest)

-- of two lines of a text the one stands before the other, or they are one
compared : (f g r s : List Line) (l m : Line) → f ++ l ∷ r ≡ g ++ m ∷ s → StandsBefore f l g ⊎ (StandsBefore g m f ⊎ ((f ≡ g) × (l ≡ m)))
compared [] [] r s l m same = inr (inr (refl, cc same))
compared [] (y ∷ g) r s l m same = inl (g, cc same)
compared (x ∷ f) [] r s l m same = inr (inl (f, cc same))
compared (x ∷ f) (y ∷ g) r s l m same =
    let head : x ≡ y = cc same in
    let tail : f ++ l ∷ r ≡ g ++ m ∷ s = cc same in
    ⊎_elim
    (λ one. inl (one.0, cc (sym head, one.1)))
    (⊎_elim (λ two. inr (inl (two.0, cc (head, two.1)))) (λ both. inr (inr (cc (head, both.0), both.1))))
    (compared f g r s l m tail)

abbrev BothSame : ℕ → ℕ → LineFault → LineFault → Type 0
BothSame k j f g = (k ≡ j) × (f ≡ g)

first_fault_once : (n : ℕ) (lines : List Line) (k j : ℕ) (f g : LineFault) → IsFirstFault n lines k f → IsFirstFault n lines j g → BothSame k j f g
first_fault_once n lines k j f g p q = ⊎_elim
    (λ one. absurd (q.sound p.front one.0 p.line one.1 f p.here))
    (⊎_elim (λ two. absurd (p.sound q.front two.0 q.line two.1 g q.here))
    (λ both. let here : IsLineFault n (count_by (is_kind q.line.kind) q.front) q.line f =
    subst (λ l. IsLineFault n (count_by (is_kind l.kind) q.front) l f) both.1
    (subst (λ front. IsLineFault n (count_by (is_kind p.line.kind) front) p.line f) both.0 p.here) in (
      p.place ∙ ap (λ front. length front + 1) both.0 ∙ sym q.place,
      line_fault_once n (count_by (is_kind q.line.kind) q.front) q.line f g here q.here,
    )))
    (compared p.front q.front p.rest q.rest p.line q.line (sym p.parts ∙ q.parts))

-- cards have one fault
fault_once : (times : ℕ → ℕ) (f g : PartsFault) → IsFaultOf times f → IsFaultOf times g → f ≡ g
fault_once times (Repeated c) (Repeated d) p q = ⊎_elim
    (λ e. ap Repeated e)
    (⊎_elim (λ lt. absurd (omega (arith, p.1, q.2 c lt))) (λ lt. absurd (omega (arith, q.1, p.2 d lt))))
    (cases_order c d)
fault_once times (Repeated c) (Missing d) p q = absurd (omega (arith, p.1, q.3 c p.0))
fault_once times (Missing c) (Repeated d) p q = absurd (omega (arith, q.1, p.3 d q.0))
fault_once times (Missing c) (Missing d) p q = ⊎_elim
    (λ e. ap Missing e)
    (⊎_elim (λ lt. absurd (omega (arith, p.1, q.2 c lt))) (λ lt. absurd (omega (arith, q.1, p.2 d lt))))
    (cases_order c d)

card_fault_once : (n : ℕ) (text : List ℕ) (f g : PartsFault) → HasCardFault n text f → HasCardFault n text g → f ≡ g
card_fault_once n text f g p q =
    let same : p.board ≡ q.board = board_once (board_lines text) p.board q.board (no_twice n (board_lines text) p.sound) p.spelled q.spelled in
    fault_once (places q.board) f g (subst (λ b. IsFaultOf (places b) f) same p.here) q.here

-- a fault is of a text that is too long, of a line, or of the cards
abbrev OfLength : List ℕ → BoardFault → Type 0
OfLength text fault = (4096 < length text) × (fault ≡ TooLong)

abbrev OfLine : ℕ → List ℕ → BoardFault → Type 0
OfLine n text fault = (k : ℕ) × (f : LineFault) × HasLineFault n text k f × (fault ≡ line_fault k f)

abbrev OfCards : ℕ → List ℕ → BoardFault → Type 0
OfCards n text fault = (f : PartsFault) × HasCardFault n text f × (fault ≡ card_fault f)

sorted : (n : ℕ) (text : List ℕ) (fault : BoardFault) → IsBoardFault n text fault
    → OfLength text fault ⊎ (OfLine n text fault ⊎ OfCards n text fault)
sorted n text TooLong p = inl (p, refl)
sorted n text (BoardFault.BadCard k) p = inr (inl (k, BadCard, p, refl))
sorted n text (BoardFault.BadFoundation k) p = inr (inl (k, BadFoundation, p, refl))
sorted n text (BoardFault.TooManyCells k) p = inr (inl (k, TooManyCells, p, refl))
sorted n text (BoardFault.TooManyColumns k) p = inr (inl (k, TooManyColumns, p, refl))
sorted n text (BoardFault.RepeatedLine k) p = inr (inl (k, RepeatedLine, p, refl))
sorted n text (RepeatedCard c) p = inr (inr (Repeated c, p, refl))
sorted n text (MissingCard c) p = inr (inr (Missing c, p, refl))

line_or_cards : (n : ℕ) (text : List ℕ) (k : ℕ) (f : LineFault) (g : PartsFault) → HasLineFault n text k f → HasCardFault n text g → ⊥
line_or_cards n text k f g p q = q.sound p.first.front p.first.rest p.first.line p.first.parts f p.first.here

of_line_once : (n : ℕ) (text : List ℕ) (f g : BoardFault) → OfLine n text f → OfLine n text g → f ≡ g
of_line_once n text f g p q =
    let both = first_fault_once n (board_lines text) p.0 q.0 p.1 q.1 p.2.first q.2.first in
    p.3 ∙ ap (λ k. line_fault k p.1) both.0 ∙ ap (line_fault q.0) both.1 ∙ sym q.3

of_cards_once : (n : ℕ) (text : List ℕ) (f g : BoardFault) → OfCards n text f → OfCards n text g → f ≡ g
of_cards_once n text f g p q = p.2 ∙ ap card_fault (card_fault_once n text p.0 q.0 p.1 q.1) ∙ sym q.2

pub one_fault : TextsHaveOneFault
one_fault n text f g p q = ⊎_elim
    (λ long. ⊎_elim (λ also. long.1 ∙ sym also.1)
    (⊎_elim (λ line. absurd (omega (arith, long.0, line.2.short))) (λ cards. absurd (omega (arith, long.0, cards.1.short))))
    (sorted n text g q))
    (⊎_elim
    (λ line. ⊎_elim (λ long. absurd (omega (arith, long.0, line.2.short)))
    (⊎_elim (λ also. of_line_once n text f g line also) (λ cards. absurd (line_or_cards n text line.0 line.1 cards.0 line.2 cards.1)))
    (sorted n text g q))
    (λ cards. ⊎_elim (λ long. absurd (omega (arith, long.0, cards.1.short)))
    (⊎_elim (λ line. absurd (line_or_cards n text line.0 line.1 cards.0 line.2 cards.1)) (λ also. of_cards_once n text f g cards also))
    (sorted n text g q)))
    (sorted n text f p)
