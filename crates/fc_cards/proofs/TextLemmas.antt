-- The texts of ranks, suits and cards tell them apart.
use Rattle.std.proofs.Common.{◌≡◌, ℕ, ◌-◌, ◌<◌, Option, Some, List, [], ◌∷◌, ◌++◌, eqb, refl, sym, ◌∙◌, ap, subst, inl, ⊎_elim, arith}
use Rattle.std.specs.Prelude.{codes, position}
use Rattle.std.specs.Char.{to_ascii_uppercase}
use Rattle.std.proofs.lemmas.List.{same_from_push}
use Rattle.fc_cards.specs.Card.{rank, suit}
use Rattle.fc_cards.specs.Texts.{IsRank, IsRankText, IsCardText, rank_letter, suit_letter}
use Rattle.fc_cards.specs.Laws.{TextsSpellOneCard, TextsReadBack}
use Rattle.fc_cards.proofs.EachRank.{by_rank, by_suit}

-- where a letter stands among the letters of the ranks
abbrev place_of_letter : ℕ → Option ℕ
place_of_letter b = position (λ l. eqb l b) (codes "A23456789TJQK")

place_of_letter-rank : (r : ℕ) → IsRank r → place_of_letter (rank_letter r) ≡ Some (r - 1)
place_of_letter-rank =
    by_rank (λ r. place_of_letter (rank_letter r) ≡ Some (r - 1))
    refl refl refl refl refl refl refl refl refl refl refl refl refl

-- two ranks have two letters
pub rank_letter_once : (r s : ℕ) → IsRank r → IsRank s → rank_letter r ≡ rank_letter s → r ≡ s
rank_letter_once r s a b e =
    let same : Some (r - 1) ≡ Some (s - 1) =
    sym (place_of_letter-rank r a) ∙ ap place_of_letter e ∙ place_of_letter-rank s b in
    let less : r - 1 ≡ s - 1 = cc in
    omega (arith, a.least, b.least)

abbrev place_of_suit : ℕ → Option ℕ
place_of_suit b = position (λ l. eqb l b) (codes "CDHS")

place_of_suit-suit : (s : ℕ) → s < 4 → place_of_suit (suit_letter s) ≡ Some s
place_of_suit-suit = by_suit (λ s. place_of_suit (suit_letter s) ≡ Some s) refl refl refl refl

-- two suits have two letters
pub suit_letter_once : (s t : ℕ) → s < 4 → t < 4 → suit_letter s ≡ suit_letter t → s ≡ t
suit_letter_once s t a b e =
    let same : Some s ≡ Some t = sym (place_of_suit-suit s a) ∙ ap place_of_suit e ∙ place_of_suit-suit t b in cc

-- no text spells two ranks
pub rank_text_once : (r s : ℕ) (text : List ℕ) → IsRank r → IsRank s → IsRankText r text → IsRankText s text → r ≡ s
rank_text_once r s text a b p q =
    ⊎_elim
    (λ x. ⊎_elim
    (λ y. let same : x.0 ≡ y.0 = cc (x.1, y.1) in
    rank_letter_once r s a b (sym x.2 ∙ ap to_ascii_uppercase same ∙ y.2))
    (λ y. absurd (cc (x.1, y.1))) q)
    (λ x. ⊎_elim (λ y. absurd (cc (x.1, y.1))) (λ y. x.0 ∙ sym y.0) q) p

-- no text spells two cards
pub card_text_once : TextsSpellOneCard
card_text_once c d text a b p q =
    let parts = same_from_push p.rank_part q.rank_part p.suit_part q.suit_part (sym p.parts ∙ q.parts) in
    let ranks : rank c ≡ rank d =
    rank_text_once (rank c) (rank d) p.rank_part (record { least = omega arith; greatest = omega arith })
    (record { least = omega arith; greatest = omega arith }) p.spells_rank
    (subst (IsRankText (rank d)) (sym parts.0) q.spells_rank) in
    let suits : suit c ≡ suit d =
    suit_letter_once (suit c) (suit d) (omega arith) (omega arith)
    (sym p.spells_suit ∙ ap to_ascii_uppercase parts.1 ∙ q.spells_suit) in
    omega (arith, ranks, suits)

-- a letter of a rank, and one of a suit, is no small letter
pub rank_letter-upper : (r : ℕ) → IsRank r → to_ascii_uppercase (rank_letter r) ≡ rank_letter r
rank_letter-upper =
    by_rank (λ r. to_ascii_uppercase (rank_letter r) ≡ rank_letter r)
    refl refl refl refl refl refl refl refl refl refl refl refl refl

pub suit_letter-upper : (s : ℕ) → s < 4 → to_ascii_uppercase (suit_letter s) ≡ suit_letter s
suit_letter-upper = by_suit (λ s. to_ascii_uppercase (suit_letter s) ≡ suit_letter s) refl refl refl refl

-- a card's text spells the card
pub card_text_back : TextsReadBack
card_text_back c a = record {
  rank_part = rank_letter (rank c) ∷ [];
  suit_part = suit_letter (suit c);
  parts = refl;
  spells_rank =
      inl (rank_letter (rank c), refl, rank_letter-upper (rank c) (record { least = omega arith; greatest = omega arith }));
  spells_suit = suit_letter-upper (suit c) (omega arith);
}

-- where no rank is spelled before the last byte, no card is spelled
pub no_rank_no_card : (text rest : List ℕ) (last : ℕ) → text ≡ rest ++ last ∷ []
    → ((r : ℕ) → IsRank r → IsRankText r rest → ⊥) → (c : ℕ) → c < 52 → IsCardText c text → ⊥
no_rank_no_card text rest last cut none c below spelled =
    let parts = same_from_push spelled.rank_part rest spelled.suit_part last (sym spelled.parts ∙ cut) in
    none (rank c) (record { least = omega arith; greatest = omega arith })
    (subst (IsRankText (rank c)) parts.0 spelled.spells_rank)
