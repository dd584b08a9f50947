-- Cards that are told in either order are read.
use Rattle.std.proofs.Common.{◌≡◌, ℕ, ◌<◌, Some, None, List, [], ◌∷◌, ◌++◌, true, false, refl, sym, ◌∙◌, ap, subst, inr, ⊎_elim, arith}
use Rattle.std.specs.Option.{option_or}
use Rattle.std.proofs.lemmas.Bool.{and_from, and_left, cond-true, cond-false}
use Rattle.fc_cards.specs.Card.{rank, suit}
use Rattle.fc_cards.specs.Texts.{IsRank, IsRankText, IsSuitText, rank_letter, suit_letter}
use Rattle.fc_cards.proofs.EachRank.{by_rank, by_suit}
use Rattle.fc_text.specs.Spelling.{SpellsHome}
use Rattle.fc_typed.specs.Laws.{CardsAreRead, HomesAreRead}
use Rattle.fc_typed.specs.Respelled.{card_spelling, home_spelling, is_rank, is_rank_letter, is_suit, is_suit_letter, rank_first, respelled_home, suit_first}
use Rattle.fc_typed.proofs.KeptLemmas.{rank_no_suit}

letter_suit : (s : ℕ) → s < 4 → is_suit_letter (suit_letter s) ≡ true
letter_suit = by_suit (λ s. is_suit_letter (suit_letter s) ≡ true) refl refl refl refl

letter_rank : (r : ℕ) → IsRank r → is_rank_letter (rank_letter r) ≡ true
letter_rank =
    by_rank (λ r. is_rank_letter (rank_letter r) ≡ true) refl refl refl refl refl refl refl refl refl refl refl refl refl

-- what the reader takes for a suit or a rank is one
text_suit : (s byte : ℕ) → s < 4 → IsSuitText s byte → is_suit byte ≡ true
text_suit s byte below text = ap is_suit_letter text ∙ letter_suit s below

text_rank : (r : ℕ) (text : List ℕ) → IsRank r → IsRankText r text → is_rank text ≡ true
text_rank r text is spells = ⊎_elim
    (λ one. ap is_rank one.1 ∙ ap is_rank_letter one.2 ∙ letter_rank r is)
    (λ ten. ap is_rank ten.1) spells

-- a suit and a rank
suit_told : (s byte r : ℕ) (text : List ℕ) → s < 4 → IsSuitText s byte → IsRank r → IsRankText r text
    → suit_first (byte ∷ text) ≡ Some (byte, text)
suit_told s byte r text below told is spells =
    cond-true _ (Some (byte, text)) None (and_from _ _ (text_suit s byte below told) (text_rank r text is spells))

-- a rank and a suit
rank_told : (s byte r : ℕ) (text : List ℕ) → s < 4 → IsSuitText s byte → IsRank r → IsRankText r text
    → option_or (suit_first (text ++ byte ∷ [])) (rank_first (text ++ byte ∷ [])) ≡ Some (byte, text)
rank_told s byte r text below told is spells =
    let suits = text_suit s byte below told in
    let ranks = text_rank r text is spells in
    ⊎_elim
    (λ one.
    let letter = one.0 in
    let token = letter ∷ byte ∷ [] in
    let none : is_suit letter ≡ false = ap is_suit_letter one.2 ∙ rank_no_suit r is in
    let front : is_rank (letter ∷ []) ≡ true = ap is_rank (sym one.1) ∙ ranks in
    let here : option_or (suit_first token) (rank_first token) ≡ Some (byte, letter ∷ []) =
    ap (λ o. option_or o (rank_first token)) (cond-false _ (Some (letter, byte ∷ [])) None (and_left _ _ none))
    ∙ cond-true _ (Some (byte, letter ∷ [])) None (and_from _ _ suits front) in
    subst (λ t. option_or (suit_first (t ++ byte ∷ [])) (rank_first (t ++ byte ∷ [])) ≡ Some (byte, t)) (sym one.1) here)
    (λ ten.
    let here : option_or (suit_first (49 ∷ 48 ∷ byte ∷ [])) (rank_first (49 ∷ 48 ∷ byte ∷ [])) ≡ Some (byte, 49 ∷ 48 ∷ []) =
    cond-true _ (Some (byte, 49 ∷ 48 ∷ [])) None (and_from _ _ suits refl) in
    subst (λ t. option_or (suit_first (t ++ byte ∷ [])) (rank_first (t ++ byte ∷ [])) ≡ Some (byte, t)) (sym ten.1) here)
    spells

-- a card that is told by its suit first is read
pub cards_are_read : CardsAreRead
cards_are_read c byte text below told spells = record {
  below = below;
  text = record {
    rank_part = text;
    suit_part = byte;
    parts = ap (card_spelling (byte ∷ text)) (suit_told (suit c) byte (rank c) text (omega arith) told (record { least = omega arith; greatest = omega arith }) spells);
    spells_rank = spells;
    spells_suit = told;
  };
}

-- a foundation that is told by its last card is read
home_told : (token : List ℕ) (s n byte : ℕ) (text : List ℕ) → option_or (suit_first token) (rank_first token) ≡ Some (byte, text)
    → IsSuitText s byte → IsRank n → IsRankText n text → SpellsHome (respelled_home token) s n
home_told token s n byte text found told is spells = record {
  suit_part = byte;
  rank_part = text;
  parts = ap (home_spelling token) found;
  suit = told;
  count = inr (is, spells);
}

pub homes_are_read : HomesAreRead
homes_are_read s n byte text below told is spells = (
  home_told (byte ∷ text) s n byte text
      (ap (λ o. option_or o (rank_first (byte ∷ text))) (suit_told s byte n text below told is spells)) told is spells,
  home_told (text ++ byte ∷ []) s n byte text (rank_told s byte n text below told is spells) told is spells,
)
