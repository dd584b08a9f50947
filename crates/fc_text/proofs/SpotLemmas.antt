-- Where in a text its fault lies, and where a card is told.
use Rattle.std.proofs.Common.{◌≡◌, ◌↔◌, ℕ, zero, suc, ◌+◌, ◌<◌, Bool, true, false, eqb, IsTrue, List, [], ◌∷◌, ◌++◌, length, take, drop, get_or, set, ◌⊎◌, inl, inr, refl, sym, ◌∙◌, ap, subst, ⊎_elim, arith}
use Rattle.std.specs.Prelude.{Contains, slice_index_or}
use Rattle.std.proofs.lemmas.List.{append_assoc, drop_more, get_or_at, get_or-set_same, get_or-set_other, get_or-take, length-take, same_from_push, take-append-drop}
use Rattle.std.proofs.lemmas.List.Elements.{Contains-push, Contains-push_cases, Contains-append_left}
use Rattle.std.proofs.lemmas.Option.{slice_get_within, get_or_from_slice_get}
use Rattle.std.proofs.lemmas.Bool.{cases_eq, eqb-true, eq-eqb}
use Rattle.fc_cards.proofs.TextLemmas.{card_text_once}
use Rattle.fc_text.specs.declared.faults.BoardFault.{BoardFault}
use Rattle.fc_text.specs.declared.faults.LineFault.{LineFault}
use Rattle.fc_text.specs.declared.faults.LineFault.TheVariants.{BadCard, BadFoundation, TooManyCells, TooManyColumns, RepeatedLine}
use Rattle.fc_text.specs.declared.lines.LineKind.{LineKind}
use Rattle.fc_text.specs.declared.lines.LineKind.TheVariants.{Foundations, Freecells, Column}
use Rattle.fc_text.specs.Line.{Line, board_lines}
use Rattle.fc_text.specs.Spelling.{SpellsCard, SpellsHome}
use Rattle.fc_text.specs.Fault.{NamesSuitTwice, HasBadCard, HasBadFoundation, HasTooManyCells, HasTooManyColumns, IsLineFault}
use Rattle.fc_text.specs.Board.{HasLineFault, IsBoardFault}
use Rattle.fc_text.specs.inner.Board.{line_fault}
use Rattle.fc_text.specs.Spot.{HasCard, HasLine, HasNamed, HasSpelled, IsBadHome, IsBadToken, IsFirstBad, IsFirstSpelled, IsLastIn, IsLastOf, IsLastSpelled, IsSpot, IsSpotIn, LiesAtNone, NamesSuit, NoneHasCard, NoneIsBad}
use Rattle.fc_text.specs.inner.Spot.{AreNoted, AreNamed}
use Rattle.fc_text.proofs.HomeLemmas.{home_suit_once}
use Rattle.fc_text.proofs.PassLemmas.{Passed, pass_here}

-- one line has a number
line_once : (lines : List Line) (number : ℕ) (l m : Line) → HasLine lines number l → HasLine lines number m → l ≡ m
line_once lines number l m p q =
    let at_p : get_or lines (length q.above) l ≡ l =
    ap (λ ls. get_or ls (length q.above) l) p.parts ∙ get_or_at p.above l p.below l (length q.above) (omega (arith, p.place, q.place)) in
    sym at_p ∙ ap (λ ls. get_or ls (length q.above) l) q.parts ∙ get_or_at q.above m q.below l (length q.above) refl

-- a token spells the card where it is the one that was read
pub spells_is : (token : List ℕ) (told card : ℕ) (b : Bool) → b ≡ eqb told card → SpellsCard token told → IsTrue b ↔ SpellsCard token card
spells_is token told card b test read = (
  λ t. subst (SpellsCard token) (eqb-true told card (sym test ∙ t)) read,
  λ s. test ∙ eq-eqb told card (card_text_once told card token read.below s.below read.text s.text),
)

-- a token that names a suit is bad where the suit is noted
pub home_bad : (before : List (List ℕ)) (named : List Bool) (token : List ℕ) (s n : ℕ) → s < 4 → SpellsHome token s n
    → AreNamed before named → IsTrue (slice_index_or named s false) ↔ IsBadHome before token
home_bad before named token s n below spelled marks = (
  λ mark. inr (s, below, (n, spelled), (marks s below).0 mark),
  ⊎_elim
      (λ nothing. absurd (nothing s n below spelled))
      (λ (t, lt, (m, told), has). (marks s below).1 (subst (λ x. HasNamed x before) (sym (home_suit_once token s t n m below lt spelled told)) has)),
)

-- the suit that a token names is noted
pub home_noted : (before : List (List ℕ)) (named : List Bool) (token : List ℕ) (s n : ℕ) → s < 4 → SpellsHome token s n → length named ≡ 4
    → AreNamed before named → AreNamed (before ++ token ∷ []) (set named s true)
home_noted before named token s n below spelled four marks t lt = ⊎_elim
    (λ e. (
      λ _. (token, Contains-push before token, subst (λ x. NamesSuit x token) (sym e) (n, spelled)),
      λ _. ap (λ k. get_or (set named s true) k false) e ∙ get_or-set_same named s true false (omega (arith, four)),
    ))
    (λ ne. (
      λ mark. let old = (marks t lt).0 (sym (get_or-set_other named s t true false ne) ∙ mark) in
          (old.0, Contains-append_left before (token ∷ []) old.0 old.1, old.2),
      λ (other, found, (m, told)). ⊎_elim
          (λ f. get_or-set_other named s t true false ne ∙ (marks t lt).1 (other, f, (m, told)))
          (λ q. absurd (ne (home_suit_once other t s m n lt below told (subst (λ x. SpellsHome x s n) q spelled))))
          (Contains-push_cases before token other found),
    ))
    (cases_eq t s)

unmarked : (s : ℕ) → slice_index_or (false ∷ false ∷ false ∷ false ∷ []) s false ≡ true → ⊥
unmarked zero e = cc e
unmarked (suc zero) e = cc e
unmarked (suc (suc zero)) e = cc e
unmarked (suc (suc (suc zero))) e = cc e
unmarked (suc (suc (suc (suc s)))) e = cc e

-- at first no suit is noted
pub none_named : (named : List Bool) → named ≡ false ∷ false ∷ false ∷ false ∷ [] → AreNamed [] named
none_named named fresh s below = (
  λ mark. absurd (unmarked s (ap (λ ns. slice_index_or ns s false) (sym fresh) ∙ mark)),
  λ (token, found, names). absurd (omega (arith, found.1)),
)

-- a list is empty, or has a last element
last_of : {A : Type 0} (xs : List A) → (xs ≡ []) ⊎ ((front : List A) × (x : A) × (xs ≡ front ++ x ∷ []))
last_of [] = inl refl
last_of (y ∷ xs) = ⊎_elim
    (λ e. inr ([], y, ap (λ ys. y ∷ ys) e))
    (λ (front, x, e). inr (y ∷ front, x, ap (λ ys. y ∷ ys) e))
    (last_of xs)

-- one more token that isn't bad
pub none_push : (n : ℕ) (fault : LineFault) (kind : LineKind) (tokens : List (List ℕ)) (token : List ℕ) → NoneIsBad n fault kind tokens
    → (IsBadToken n fault kind tokens token → ⊥) → NoneIsBad n fault kind (tokens ++ token ∷ [])
none_push n fault kind tokens token none here before behind other same bad = ⊎_elim
    (λ e. let both = same_from_push tokens before token other (same ∙ ap (λ ts. before ++ other ∷ ts) e) in
    here (subst (λ ts. IsBadToken n fault kind ts token) (sym both.0) (subst (IsBadToken n fault kind before) (sym both.1) bad)))
    (λ (front, last, e). let whole = same ∙ ap (λ ts. before ++ other ∷ ts) e ∙ sym (append_assoc before (other ∷ front) (last ∷ [])) in
    none before front other (same_from_push tokens (before ++ other ∷ front) token last whole).0 bad)
    (last_of behind)

-- the next token is the first that is bad
pub bad_here : (n : ℕ) (fault : LineFault) (kind : LineKind) (named : List Bool) (all left after : List (List ℕ)) (token : List ℕ) (count : ℕ)
    → Passed (λ before. NoneIsBad n fault kind before × AreNoted fault kind before named) all left count → left ≡ token ∷ after
    → ((before : List (List ℕ)) → count ≡ length before → AreNoted fault kind before named → IsBadToken n fault kind before token)
    → IsFirstBad n fault (record { kind = kind; tokens = all }) (count + 1) token
bad_here n fault kind named all left after token count p first bad = record {
  before = p.front;
  behind = after;
  parts = pass_here (λ before. NoneIsBad n fault kind before × AreNoted fault kind before named) all left after token count p first;
  number = ap (λ k. k + 1) p.size;
  here = bad p.front p.size p.so.1;
  first = p.so.0;
}

-- a list, parted at an element
parted_at : {A : Type 0} (xs : List A) (i : ℕ) (x : A) → i < length xs → get_or xs i x ≡ x → xs ≡ take i xs ++ x ∷ drop (i + 1) xs
parted_at xs i x lt e =
    sym (take-append-drop i xs) ∙ ap (λ l. take i xs ++ l) (drop_more xs i x lt ∙ ap (λ y. y ∷ drop (i + 1) xs) e)

-- a line with a fault has a token by which it has it, unless it tells again
bad_card : (n : ℕ) (kind : LineKind) (tokens : List (List ℕ)) → HasBadCard kind tokens → NoneIsBad n BadCard kind tokens → ⊥
bad_card n Foundations tokens bad none = bad
bad_card n Freecells tokens bad none =
    none (take bad.1.0 tokens) (drop (bad.1.0 + 1) tokens) bad.0 (parted_at tokens bad.1.0 bad.0 bad.1.1 bad.1.2) (bad.2, bad.3)
bad_card n Column tokens bad none =
    none (take bad.1.0 tokens) (drop (bad.1.0 + 1) tokens) bad.0 (parted_at tokens bad.1.0 bad.0 bad.1.1 bad.1.2) bad.2

named_before : (tokens : List (List ℕ)) (twice : NamesSuitTwice tokens) → Contains (take twice.second tokens) twice.one.0
named_before tokens twice =
    let second = slice_get_within tokens twice.second twice.other.0 twice.other.2 in (
      twice.first,
      omega (arith, length-take twice.second tokens, twice.order, second),
      get_or-take twice.second tokens twice.first twice.one.0 twice.order ∙ get_or_from_slice_get tokens twice.first twice.one.0 twice.one.0 twice.one.2,
    )

bad_foundation : (n : ℕ) (kind : LineKind) (tokens : List (List ℕ)) → HasBadFoundation kind tokens → NoneIsBad n BadFoundation kind tokens → ⊥
bad_foundation n Foundations tokens bad none = ⊎_elim
    (λ (token, found, nothing). none (take found.0 tokens) (drop (found.0 + 1) tokens) token (parted_at tokens found.0 token found.1 found.2) (inl nothing))
    (λ twice.
    let second = slice_get_within tokens twice.second twice.other.0 twice.other.2 in
    let other = get_or_from_slice_get tokens twice.second twice.other.0 twice.other.0 twice.other.2 in
    none (take twice.second tokens) (drop (twice.second + 1) tokens) twice.other.0 (parted_at tokens twice.second twice.other.0 second other)
    (inr (twice.suit, twice.below, (twice.other.1, twice.other.3), (twice.one.0, named_before tokens twice, (twice.one.1, twice.one.3)))))
    bad
bad_foundation n Freecells tokens bad none = bad
bad_foundation n Column tokens bad none = bad

many_cells : (n : ℕ) (kind : LineKind) (tokens : List (List ℕ)) → HasTooManyCells n kind tokens → NoneIsBad n TooManyCells kind tokens → ⊥
many_cells n Foundations tokens bad none = bad
many_cells n Freecells tokens bad none =
    none (take n tokens) (drop (n + 1) tokens) (get_or tokens n []) (sym (take-append-drop n tokens) ∙ ap (λ l. take n tokens ++ l) (drop_more tokens n [] bad))
    (refl, omega (arith, length-take n tokens, bad))
many_cells n Column tokens bad none = bad

many_columns : (n before : ℕ) (kind : LineKind) (tokens : List (List ℕ)) → HasTooManyColumns before kind tokens
    → NoneIsBad n TooManyColumns kind tokens → ⊥
many_columns n before Foundations tokens bad none = bad
many_columns n before Freecells tokens bad none = bad
many_columns n before Column [] bad none = omega (arith, bad.1)
many_columns n before Column (t ∷ ts) bad none = none [] ts t refl (refl, refl)

-- where no token is bad, the line's fault lies at none
no_bad_token : (n before number : ℕ) (line : Line) (fault : LineFault) → IsLineFault n before line fault
    → NoneIsBad n fault line.kind line.tokens → LiesAtNone (line_fault number fault)
no_bad_token n before number line BadCard bad none = bad_card n line.kind line.tokens bad none
no_bad_token n before number line BadFoundation bad none = bad_foundation n line.kind line.tokens bad none
no_bad_token n before number line TooManyCells bad none = many_cells n line.kind line.tokens bad.1 none
no_bad_token n before number line TooManyColumns bad none = many_columns n before line.kind line.tokens bad.1 none
no_bad_token n before number line RepeatedLine bad none = tt

of_line : (n : ℕ) (text : List ℕ) (number : ℕ) (fault : LineFault) → IsBoardFault n text (line_fault number fault) → HasLineFault n text number fault
of_line n text number BadCard bad = bad
of_line n text number BadFoundation bad = bad
of_line n text number TooManyCells bad = bad
of_line n text number TooManyColumns bad = bad
of_line n text number RepeatedLine bad = bad

-- where no token of the line with the number is bad, or no line has it, the text's fault lies at none
pub no_spot : (n : ℕ) (text : List ℕ) (number : ℕ) (f : LineFault) (fault : BoardFault) → fault ≡ line_fault number f
    → ((line : Line) → HasLine (board_lines text) number line → NoneIsBad n f line.kind line.tokens)
    → IsBoardFault n text fault → LiesAtNone fault
no_spot n text number f fault same none bad =
    let told = of_line n text number f (subst (IsBoardFault n text) same bad) in
    let there : HasLine (board_lines text) number told.first.line = record {
      above = told.first.front;
      below = told.first.rest;
      parts = told.first.parts;
      place = told.first.place;
    } in
    subst LiesAtNone (sym same)
    (no_bad_token n _ number told.first.line f told.first.here (none told.first.line there))

-- where no token of this line is bad, none of the line with its number is
pub none_there : (n : ℕ) (fault : LineFault) (lines : List Line) (number : ℕ) (l m : Line) → HasLine lines number l
    → NoneIsBad n fault l.kind l.tokens → HasLine lines number m → NoneIsBad n fault m.kind m.tokens
none_there n fault lines number l m p none q =
    subst (λ line. NoneIsBad n fault line.kind line.tokens) (line_once lines number l m p q) none

-- the first token by which a line has its fault is where the text's fault lies
pub spot_there : (n : ℕ) (text : List ℕ) (number place : ℕ) (token : List ℕ) (fault : LineFault)
    → IsSpotIn n text fault number place token → IsSpot n text (line_fault number fault) number place token
spot_there n text number place token BadCard there = (refl, there)
spot_there n text number place token BadFoundation there = (refl, there)
spot_there n text number place token TooManyCells there = (refl, there)
spot_there n text number place token TooManyColumns there = (refl, there)
spot_there n text number place token RepeatedLine there = there.2.here

-- one more token that doesn't spell the card
pub spelled_push : (c : ℕ) (tokens : List (List ℕ)) (token : List ℕ) → (HasSpelled c tokens → ⊥) → (SpellsCard token c → ⊥)
    → HasSpelled c (tokens ++ token ∷ []) → ⊥
spelled_push c tokens token none here (other, found, spelled) = ⊎_elim
    (λ f. none (other, f, spelled))
    (λ e. here (subst (λ t. SpellsCard t c) (sym e) spelled))
    (Contains-push_cases tokens token other found)

-- no token spells the card
pub no_spelled : (c : ℕ) → HasSpelled c [] → ⊥
no_spelled c (token, found, spelled) = omega (arith, found.1)

-- one more line that doesn't have the card
pub card_push : (c : ℕ) (lines : List Line) (line : Line) → NoneHasCard c lines → (HasCard c line → ⊥) → NoneHasCard c (lines ++ line ∷ [])
card_push c lines line none here other found has = ⊎_elim
    (λ f. none other f has)
    (λ e. here (subst (HasCard c) (sym e) has))
    (Contains-push_cases lines line other found)

-- no line has the card
pub no_lines : (c : ℕ) → NoneHasCard c []
no_lines c line found has = omega (arith, found.1)

-- the next token is the first that spells the card
pub first_here : (c : ℕ) (all left after : List (List ℕ)) (token : List ℕ) (count : ℕ)
    → Passed (λ before. HasSpelled c before → ⊥) all left count → left ≡ token ∷ after → SpellsCard token c
    → IsFirstSpelled c all (count + 1) token
first_here c all left after token count p first spelled = (
  record {
    before = p.front;
    behind = after;
    parts = pass_here (λ before. HasSpelled c before → ⊥) all left after token count p first;
    number = ap (λ k. k + 1) p.size;
    here = spelled;
  },
  p.so,
)

-- the last token so far spells the card
pub last_here : (c : ℕ) (front : List (List ℕ)) (token : List ℕ) (count : ℕ) → count ≡ length front → SpellsCard token c
    → IsLastSpelled c (front ++ token ∷ []) (count + 1) token
last_here c front token count size spelled = (
  record {
    before = front;
    behind = [];
    parts = refl;
    number = ap (λ k. k + 1) size;
    here = spelled;
  },
  no_spelled c,
)

-- one more token that doesn't spell the card leaves the last as it is
pub last_push : (c : ℕ) (tokens : List (List ℕ)) (next token : List ℕ) (place : ℕ) → IsLastSpelled c tokens place token
    → (SpellsCard next c → ⊥) → IsLastSpelled c (tokens ++ next ∷ []) place token
last_push c tokens next token place last other = (
  record {
    before = last.0.before;
    behind = last.0.behind ++ next ∷ [];
    parts = ap (λ ts. ts ++ next ∷ []) last.0.parts ∙ append_assoc last.0.before (token ∷ last.0.behind) (next ∷ []);
    number = last.0.number;
    here = last.0.here;
  },
  spelled_push c last.0.behind next last.1 other,
)

-- the last line so far has the card
pub last_line_here : (c : ℕ) (front : List Line) (line : Line) (count place : ℕ) (token : List ℕ) → count ≡ length front
    → IsLastIn c line place token → IsLastOf (front ++ line ∷ []) c (count + 1) place token
last_line_here c front line count place token size last = (
  line,
  last,
  (
    record {
      above = front;
      below = [];
      parts = refl;
      place = ap (λ k. k + 1) size;
    },
    no_lines c,
  ),
)

-- one more line that doesn't have the card leaves the last as it is
pub last_line_push : (c : ℕ) (lines : List Line) (next : Line) (number place : ℕ) (token : List ℕ) → IsLastOf lines c number place token
    → (HasCard c next → ⊥) → IsLastOf (lines ++ next ∷ []) c number place token
last_line_push c lines next number place token (line, last, (there, none)) other = (
  line,
  last,
  (
    record {
      above = there.above;
      below = there.below ++ next ∷ [];
      parts = ap (λ ls. ls ++ next ∷ []) there.parts ∙ append_assoc there.above (line ∷ there.below) (next ∷ []);
      place = there.place;
    },
    card_push c there.below next none other,
  ),
)

-- of no tokens none is bad
pub none_bad : (n : ℕ) (fault : LineFault) (kind : LineKind) → NoneIsBad n fault kind []
none_bad n fault kind [] behind token same bad = cc same
none_bad n fault kind (b ∷ before) behind token same bad = cc same

-- whether a foundation is bad, in the words of faults
pub home_token : (n : ℕ) (fault : LineFault) (kind : LineKind) (before : List (List ℕ)) (token : List ℕ) (b : Bool) → fault ≡ BadFoundation
    → kind ≡ Foundations → (IsTrue b ↔ IsBadHome before token) → IsTrue b ↔ IsBadToken n fault kind before token
home_token n fault kind before token b f k h =
    subst (λ x. IsTrue b ↔ IsBadToken n x kind before token) (sym f)
    (subst (λ x. IsTrue b ↔ IsBadToken n BadFoundation x before token) (sym k) h)
