-- Lines that the reader accepts are not respelled.
use Rattle.std.proofs.Common.{◌≡◌, ℕ, suc, ◌-◌, ◌==◌, ◌&&◌, Bool, true, false, cond, Option, Some, None, ◌⊎◌, List, [], ◌∷◌, ◌++◌, length, take, get_or, refl, sym, ◌∙◌, ap, subst, inl, inr, ⊎_elim, arith}
use Rattle.std.specs.Prelude.{All, Contains, filter}
use Rattle.std.specs.Option.{option_or}
use Rattle.std.proofs.lemmas.List.{append-nil, append_assoc}
use Rattle.std.proofs.lemmas.List.Elements.{All-cons, All-head, All-tail, Contains-get_or}
use Rattle.std.proofs.lemmas.Bool.{and_parts, cases_Bool, cases_eq, cond_both, cond-false, eqb-true}
use Rattle.fc_cards.specs.Card.{rank, suit}
use Rattle.fc_cards.specs.Texts.{IsRank, rank_letter}
use Rattle.fc_cards.proofs.EachRank.{by_rank}
use Rattle.fc_text.specs.Fault.{IsNoCard, IsNoHome}
use Rattle.fc_text.specs.Line.{after_colon, begin_part, is_blank, is_token, parts_of, sorted_line, tokens_of}
use Rattle.fc_text.specs.Spelling.{IsMark}
use Rattle.fc_typed.specs.Respelled.{card_spelling, each_token, home_spelling, is_dash_alone, is_rank, is_suit, is_suit_letter, rank_first, respelled_card, respelled_column, respelled_home}
use Rattle.fc_typed.proofs.SpelledLemmas.{IsClean}

-- a token that is told by its suit first
pub record IsSuitFirst (token : List ℕ) : Type 0 where
  pub suit : ℕ
  pub rank : List ℕ
  pub parts : token ≡ suit ∷ rank
  pub is : is_suit suit ≡ true

card_or_suit : (token : List ℕ) → (respelled_card token ≡ token) ⊎ IsSuitFirst token
card_or_suit [] = inl refl
card_or_suit (suit ∷ rank) = ⊎_elim
    (λ is. inr (record { suit = suit; rank = rank; parts = refl; is = (and_parts (is_suit suit) (is_rank rank) is).0 }))
    (λ no. inl (ap (card_spelling (suit ∷ rank)) (cond-false _ (Some (suit, rank)) None no)))
    (cases_Bool (is_suit suit && is_rank rank))

-- no rank's letter is a suit's
pub rank_no_suit : (r : ℕ) → IsRank r → is_suit_letter (rank_letter r) ≡ false
rank_no_suit =
    by_rank (λ r. is_suit_letter (rank_letter r) ≡ false) refl refl refl refl refl refl refl refl refl refl refl refl refl

-- so no card is told by its suit first, to the reader
pub suit_no_card : (token : List ℕ) → IsSuitFirst token → IsNoCard token
suit_no_card token first c card =
    let below = card.below in
    let text = card.text in
    ⊎_elim
    (λ one.
    let same : first.suit ∷ first.rank ≡ one.0 ∷ text.suit_part ∷ [] =
    sym first.parts ∙ text.parts ∙ ap (λ r. r ++ text.suit_part ∷ []) one.1 in
    let here : first.suit ≡ one.0 = cc same in
    let none = rank_no_suit (rank c) (record { least = omega arith; greatest = omega arith }) in
    absurd (cc (sym first.is ∙ ap is_suit here ∙ ap is_suit_letter one.2 ∙ none)))
    (λ ten.
    let same : first.suit ∷ first.rank ≡ 49 ∷ 48 ∷ text.suit_part ∷ [] =
    sym first.parts ∙ text.parts ∙ ap (λ r. r ++ text.suit_part ∷ []) ten.1 in
    let here : first.suit ≡ 49 = cc same in
    absurd (cc (sym first.is ∙ ap is_suit here)))
    text.spells_rank

-- nor a cell's mark
suit_no_mark : (token : List ℕ) → IsSuitFirst token → IsMark token → ⊥
suit_no_mark token first mark = ⊎_elim
    (λ e.
    let same : first.suit ∷ first.rank ≡ 45 ∷ [] = sym first.parts ∙ e in
    let here : first.suit ≡ 45 = cc same in
    absurd (cc (sym first.is ∙ ap is_suit here)))
    (λ e.
    let same : first.suit ∷ first.rank ≡ 42 ∷ [] = sym first.parts ∙ e in
    let here : first.suit ≡ 42 = cc same in
    absurd (cc (sym first.is ∙ ap is_suit here))) mark

-- a dash is no card
dash_no_card : IsNoCard (45 ∷ [])
dash_no_card c card =
    let text = card.text in
    ⊎_elim
    (λ one. absurd (cc (text.parts ∙ ap (λ r. r ++ text.suit_part ∷ []) one.1)))
    (λ ten. absurd (cc (text.parts ∙ ap (λ r. r ++ text.suit_part ∷ []) ten.1)))
    text.spells_rank

-- a test of two, of which one fails
second_fails : {A : Type 0} (a b : Bool) (x y : A) → b ≡ false → cond (a && b) x y ≡ y
second_fails true true x y e = absurd (cc e)
second_fails true false x y e = refl
second_fails false b x y e = refl

-- a foundation's text stays
dash_no_rank : (rest : List ℕ) → is_rank (45 ∷ rest) ≡ false
dash_no_rank [] = refl
dash_no_rank (c ∷ []) = refl
dash_no_rank (c ∷ d ∷ rest) = refl

dash_front : (s : ℕ) (rest : List ℕ) → rank_first (s ∷ 45 ∷ rest) ≡ None
dash_front s [] = refl
dash_front s (c ∷ []) =
    second_fails _ _ _ None (elim (s == 49) as (λ t. (t && (45 == 48)) ≡ false) [ true ↦ refl | false ↦ refl ])
dash_front s (c ∷ d ∷ rest) =
    let token = s ∷ 45 ∷ c ∷ d ∷ rest in
    let size : length token - 1 ≡ suc (suc (suc (length rest))) = omega arith in
    second_fails _ _ _ None (ap (λ n. is_rank (take n token)) size)

dash_home : (s : ℕ) (rest : List ℕ) → respelled_home (s ∷ 45 ∷ rest) ≡ s ∷ 45 ∷ rest
dash_home s rest =
    let token = s ∷ 45 ∷ rest in
    ap (λ o. home_spelling token (option_or o (rank_first token))) (second_fails (is_suit s) (is_rank (45 ∷ rest)) _ None (dash_no_rank rest))
    ∙ ap (home_spelling token) (dash_front s rest) ∙ second_fails (is_suit s) (45 == 58) (s ∷ 45 ∷ rest) token refl

home_stays : (token : List ℕ) → (IsNoHome token → ⊥) → respelled_home token ≡ token
home_stays [] is = absurd (is (λ s n few home. cc home.parts))
home_stays (s ∷ []) is = absurd (is (λ t n few home. cc home.parts))
home_stays (s ∷ d ∷ rest) is = ⊎_elim
    (λ dash. subst (λ x. respelled_home (s ∷ x ∷ rest) ≡ s ∷ x ∷ rest) (sym dash) (dash_home s rest))
    (λ other. absurd (is (λ t n few home. other (cc home.parts))))
    (cases_eq d 45)

-- where each token of a piece stays, so does the piece
module _ (f : List ℕ → List ℕ) (empty : f [] ≡ []) where
  abbrev Same : List ℕ → Type 0
  Same t = f t ≡ t

  abbrev onto : List ℕ → List (List ℕ) → List (List ℕ)
  onto token [] = token ∷ []
  onto token (part ∷ parts) = (token ++ part) ∷ parts

  onto-begun : (token : List ℕ) (b : ℕ) (parts : List (List ℕ)) → onto token (begin_part b parts) ≡ onto (token ++ b ∷ []) parts
  onto-begun token b [] = refl
  onto-begun token b (part ∷ parts) = ap (λ t. t ∷ parts) (sym (append_assoc token (b ∷ []) part))

  onto-none : (parts : List (List ℕ)) → All Same parts → All Same (onto [] parts)
  onto-none [] all = All-cons Same [] [] empty all
  onto-none (part ∷ parts) all = all

  each_from : (token rest : List ℕ) → All Same (onto token (parts_of is_blank rest)) → each_token f token rest ≡ token ++ rest
  each_from token [] all = All-head Same token [] all ∙ sym (append-nil token)
  each_from token (b ∷ bytes) all =
      let parts = parts_of is_blank bytes in
      elim (is_blank b) as (λ t. All Same (onto token (cond t ([] ∷ parts) (begin_part b parts)))
      → cond t (f token ++ b ∷ each_token f [] bytes) (each_token f (token ++ b ∷ []) bytes) ≡ token ++ b ∷ bytes) [
        | true ↦ λ here.
            let first : f token ≡ token =
            subst Same (append-nil token) (All-head Same (token ++ []) parts here) in
            let others = each_from [] bytes (onto-none parts (All-tail Same (token ++ []) parts here)) in
            ap (λ t. t ++ b ∷ each_token f [] bytes) first ∙ ap (λ t. token ++ b ∷ t) others
        | false ↦ λ here.
            each_from (token ++ b ∷ []) bytes (subst (All Same) (onto-begun token b parts) here)
            ∙ append_assoc token (b ∷ []) bytes
      ] all

  kept_parts : (parts : List (List ℕ)) → All Same (filter is_token parts) → All Same parts
  kept_parts [] all = all
  kept_parts ([] ∷ parts) all = All-cons Same [] parts empty (kept_parts parts all)
  kept_parts ((b ∷ part) ∷ parts) all =
      All-cons Same (b ∷ part) parts (All-head Same (b ∷ part) (filter is_token parts) all)
      (kept_parts parts (All-tail Same (b ∷ part) (filter is_token parts) all))

  pub each_stays : (piece : List ℕ) → All Same (tokens_of piece) → each_token f [] piece ≡ piece
  each_stays piece all = each_from [] piece (onto-none (parts_of is_blank piece) (kept_parts (parts_of is_blank piece) all))

-- the pieces of lines without a bad token stay
pub homes_stay : (piece : List ℕ) (cells : Option (List ℕ)) (rest : List ℕ) → IsClean (sorted_line (Some piece) cells rest)
    → each_token respelled_home [] piece ≡ piece
homes_stay piece cells rest clean =
    each_stays respelled_home refl piece (λ k d within. home_stays (get_or (tokens_of piece) k d) (λ bad.
    clean.foundation (inl (get_or (tokens_of piece) k d, Contains-get_or (tokens_of piece) k d within, bad))))

pub cells_stay : (piece rest : List ℕ) → IsClean (sorted_line None (Some piece) rest) → each_token respelled_card [] piece ≡ piece
cells_stay piece rest clean =
    each_stays respelled_card refl piece (λ k d within. ⊎_elim (λ same. same)
    (λ first. absurd (clean.card (
      get_or (tokens_of piece) k d,
      Contains-get_or (tokens_of piece) k d within,
      suit_no_card _ first,
      suit_no_mark _ first,
    )))
    (card_or_suit (get_or (tokens_of piece) k d)))

dash_tokens : (tokens : List (List ℕ)) → is_dash_alone tokens ≡ true → tokens ≡ (45 ∷ []) ∷ []
dash_tokens [] e = absurd (cc e)
dash_tokens ([] ∷ tokens) e = absurd (cc e)
dash_tokens ((b ∷ []) ∷ []) e = ap (λ x. (x ∷ []) ∷ []) (eqb-true b 45 e)
dash_tokens ((b ∷ []) ∷ t ∷ tokens) e = absurd (cc e)
dash_tokens ((b ∷ c ∷ bytes) ∷ tokens) e = absurd (cc e)

pub column_stays : (rest : List ℕ) → IsClean (sorted_line None None rest) → respelled_column (after_colon rest) ≡ after_colon rest
column_stays rest clean =
    let piece = after_colon rest in
    cond_both _ [] (each_token respelled_card [] piece) (λ t. t ≡ piece)
    (λ dash. absurd (clean.card (
      45 ∷ [],
      subst (λ ts. Contains ts (45 ∷ [])) (sym (dash_tokens (tokens_of piece) dash)) (0, omega arith, refl),
      dash_no_card,
    )))
    (λ _. each_stays respelled_card refl piece (λ k d within. ⊎_elim (λ same. same)
    (λ first. absurd (clean.card (get_or (tokens_of piece) k d, Contains-get_or (tokens_of piece) k d within, suit_no_card _ first)))
    (card_or_suit (get_or (tokens_of piece) k d))))
