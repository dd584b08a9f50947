-- Pieces that are pushed one behind the other, and those for which there is no room.
use Rattle.std.proofs.Common.{◌≡◌, ℕ, suc, ◌+◌, ◌-◌, ◌<◌, ◌≤◌, Option, None, List, [], ◌∷◌, ◌++◌, length, sym, ◌∙◌, ap, subst, append_assoc, arith, length-append}
use Rattle.std.specs.Prelude.{Result, Ok, Err, IfErr}
use Rattle.std.specs.Result.{IsErrAnd}
use Rattle.std.specs.List.{flat_map, range_with_len}
use Rattle.std.proofs.lemmas.List.{append-nil}
use Rattle.fc_cards.specs.Texts.{with_line_end}
use Rattle.fc_row_text.specs.declared.faults.RowTextFault.{RowTextFault}
use Rattle.fc_row_text.specs.declared.faults.RowTextFault.TheVariants.{TooLong}
use Rattle.fc_row_text.specs.RowText.{RowLine, line_of_column, text_in_columns, columns_text, front_text, home_entry, most_bytes, row_lines}
use Rattle.fc_row_text.specs.inner.RowLine.{IsFull}

-- one more piece
pub pushed_next : (old mid new front piece : List ℕ) → mid ≡ old ++ front → new ≡ mid ++ piece → new ≡ old ++ (front ++ piece)
pushed_next old mid new front piece before after = after ∙ ap (λ t. t ++ piece) before ∙ append_assoc old front piece

-- where there is no room for a piece, there is none for what stands before and behind it either
pub full_next : (old mid front piece : List ℕ) (fault : RowTextFault) → mid ≡ old ++ front → IsFull mid piece fault
    → IsFull old (front ++ piece) fault
full_next old mid front piece fault before full =
    (full.0, omega (arith, full.1, ap length before, length-append mid piece, length-append old front, length-append old (front ++ piece), length-append front piece))

pub full_front : (old front piece : List ℕ) (fault : RowTextFault) → IsFull old front fault → IsFull old (front ++ piece) fault
full_front old front piece fault full =
    (full.0, omega (arith, full.1, length-append old front, length-append old (front ++ piece), length-append front piece))

-- what is left, once a piece of it was pushed
pub left_next : (whole mid new piece others : List ℕ) → mid ++ (piece ++ others) ≡ whole → new ≡ mid ++ piece → new ++ others ≡ whole
left_next whole mid new piece others so after = ap (λ t. t ++ others) after ∙ append_assoc mid piece others ∙ so

-- or where there is no room for the piece
pub left_full : (old text mid piece others : List ℕ) (fault : RowTextFault) → mid ++ (piece ++ others) ≡ old ++ text → IsFull mid piece fault
    → IsFull old text fault
left_full old text mid piece others fault so full =
    (full.0, omega (arith, full.1, ap length so, length-append mid piece, length-append mid (piece ++ others), length-append piece others))

-- nothing is left
pub left_none : (whole mid others : List ℕ) → mid ++ others ≡ whole → others ≡ [] → mid ≡ whole
left_none whole mid others so none = sym (append-nil mid) ∙ sym (ap (λ t. mid ++ t) none) ∙ so

-- of so many numbers those from this one on
pub range_next : (i most : ℕ) → i < most → range_with_len i (most - i) ≡ i ∷ range_with_len (i + 1) (most - (i + 1))
range_next i most below =
    let next : most - i ≡ suc (most - (i + 1)) = omega arith in
    ap (range_with_len i) next

pub range_none : (i most : ℕ) → most ≤ i → range_with_len i (most - i) ≡ []
range_none i most past = let none : most - i ≡ 0 = omega arith in ap (range_with_len i) none

-- of the texts of so many numbers those from this one on are left
module _ (f : ℕ → List ℕ) where
  pub range_start : (old mid front : List ℕ) (most : ℕ) → mid ≡ old ++ front
      → mid ++ flat_map f (range_with_len 0 (most - 0)) ≡ old ++ (front ++ flat_map f (range_with_len 0 most))
  range_start old mid front most before =
      let all : most - 0 ≡ most = omega arith in
      ap (λ n. mid ++ flat_map f (range_with_len 0 n)) all ∙ ap (λ t. t ++ flat_map f (range_with_len 0 most)) before
      ∙ append_assoc old front (flat_map f (range_with_len 0 most))

  pub range_pushed : (whole mid new : List ℕ) (i most : ℕ) → i < most → mid ++ flat_map f (range_with_len i (most - i)) ≡ whole
      → new ≡ mid ++ f i → new ++ flat_map f (range_with_len (i + 1) (most - (i + 1))) ≡ whole
  range_pushed whole mid new i most below so after =
      left_next whole mid new (f i) (flat_map f (range_with_len (i + 1) (most - (i + 1))))
      (sym (ap (λ r. mid ++ flat_map f r) (range_next i most below)) ∙ so) after

  pub range_full : (old text mid : List ℕ) (i most : ℕ) (fault : RowTextFault) → i < most
      → mid ++ flat_map f (range_with_len i (most - i)) ≡ old ++ text → IsFull mid (f i) fault → IsFull old text fault
  range_full old text mid i most fault below so full =
      left_full old text mid (f i) (flat_map f (range_with_len (i + 1) (most - (i + 1)))) fault
      (sym (ap (λ r. mid ++ flat_map f r) (range_next i most below)) ∙ so) full

  pub range_all : (whole mid : List ℕ) (i most : ℕ) → most ≤ i → mid ++ flat_map f (range_with_len i (most - i)) ≡ whole → mid ≡ whole
  range_all whole mid i most past so = left_none whole mid _ so (ap (flat_map f) (range_none i most past))

-- of the texts of lines those of these lines are left
module _ (f : RowLine → List ℕ) where
  pub told_pushed : (whole mid new : List ℕ) (lines others : List RowLine) (told : RowLine) → lines ≡ told ∷ others
      → mid ++ flat_map f lines ≡ whole → new ≡ mid ++ f told → new ++ flat_map f others ≡ whole
  told_pushed whole mid new lines others told steps so after =
      left_next whole mid new (f told) (flat_map f others) (sym (ap (λ ls. mid ++ flat_map f ls) steps) ∙ so) after

  pub told_full : (old text mid : List ℕ) (lines others : List RowLine) (told : RowLine) (fault : RowTextFault) → lines ≡ told ∷ others
      → mid ++ flat_map f lines ≡ old ++ text → IsFull mid (f told) fault → IsFull old text fault
  told_full old text mid lines others told fault steps so full =
      left_full old text mid (f told) (flat_map f others) fault (sym (ap (λ ls. mid ++ flat_map f ls) steps) ∙ so) full

  pub told_all : (whole mid : List ℕ) (lines : List RowLine) → lines ≡ [] → mid ++ flat_map f lines ≡ whole → mid ≡ whole
  told_all whole mid lines none so = left_none whole mid (flat_map f lines) so (ap (flat_map f) none)

-- the columns, before the first one was pushed
pub columns_start : (old : List ℕ) (lines : List RowLine) (most : ℕ)
    → old ++ flat_map (λ k. with_line_end (line_of_column k lines)) (range_with_len 0 (most - 0)) ≡ old ++ columns_text lines most
unfolding columns_text
columns_start old lines most =
    let all : most - 0 ≡ most = omega arith in
    ap (λ n. old ++ flat_map (λ k. with_line_end (line_of_column k lines)) (range_with_len 0 n)) all

-- what a foundation holds was pushed
pub home_pushed : (old mid new front word told : List ℕ) (letter : ℕ) → mid ≡ old ++ front → new ≡ mid ++ 32 ∷ home_entry letter word
    → word ≡ told → new ≡ old ++ (front ++ 32 ∷ home_entry letter told)
home_pushed old mid new front word told letter before after is =
    pushed_next old mid new front (32 ∷ home_entry letter told) before (after ∙ ap (λ t. mid ++ 32 ∷ home_entry letter t) is)

-- the whole text in columns was pushed
pub columns_made : (text none front all : List ℕ) → none ≡ [] → front ≡ none ++ flat_map front_text (row_lines text)
    → all ≡ front ++ columns_text (row_lines text) 8 → all ≡ text_in_columns text
unfolding text_in_columns
columns_made text none front all empty first last =
    last ∙ ap (λ t. t ++ columns_text (row_lines text) 8) (first ∙ ap (λ t. t ++ flat_map front_text (row_lines text)) empty)

-- or there was no room for what stands before the columns, or for these
pub front_full : (text none : List ℕ) (fault : RowTextFault) → none ≡ [] → IsFull none (flat_map front_text (row_lines text)) fault
    → (fault ≡ TooLong) × (most_bytes < length (text_in_columns text))
unfolding text_in_columns
front_full text none fault empty full =
    let all = full_front none (flat_map front_text (row_lines text)) (columns_text (row_lines text) 8) fault full in
    (all.0, subst (λ t. most_bytes < length (t ++ (flat_map front_text (row_lines text) ++ columns_text (row_lines text) 8))) empty all.1)

pub columns_full : (text none front : List ℕ) (fault : RowTextFault) → none ≡ [] → front ≡ none ++ flat_map front_text (row_lines text)
    → IsFull front (columns_text (row_lines text) 8) fault → (fault ≡ TooLong) × (most_bytes < length (text_in_columns text))
unfolding text_in_columns
columns_full text none front fault empty first full =
    let all = full_next none front (flat_map front_text (row_lines text)) (columns_text (row_lines text) 8) fault first full in
    (all.0, subst (λ t. most_bytes < length (t ++ (flat_map front_text (row_lines text) ++ columns_text (row_lines text) 8))) empty all.1)

-- a fault that is handed on
pub handed_on : {T E : Type 0} (P : E → Type 0) (r : Result T E) (f : E) → IsErrAnd r (λ e. e ≡ f) → P f → IfErr r P
handed_on P (Ok x) f is p = tt
handed_on P (Err e) f is p = subst P (sym is) p
