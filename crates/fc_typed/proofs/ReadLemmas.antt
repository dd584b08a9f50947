-- A text that spells a position is ASCII alone, and has no labels, comments or commas.
use Rattle.std.proofs.Common.{◌≡◌, ℕ, suc, ◌+◌, ◌<◌, ◌==◌, ◌&&◌, Bool, true, false, not, cond, Option, Some, None, List, [], ◌∷◌, ◌++◌, length, map, take, drop, get_or, inl, refl, sym, ◌∙◌, ap, subst, ⊎_elim, arith}
use Rattle.std.specs.Prelude.{All, codes, filter, nat_lt}
use Rattle.std.specs.Char.{to_ascii_lowercase, to_ascii_uppercase}
use Rattle.std.specs.List.{join_with_byte, position_or_len, slice_split}
use Rattle.std.proofs.lemmas.List.{take-append-drop}
use Rattle.std.proofs.lemmas.List.Elements.{All-nil, All-cons, All-head, All-tail, All-append, All-same, Contains-get_or}
use Rattle.std.proofs.lemmas.List.Splits.{join_with_byte-slice_split}
use Rattle.std.proofs.lemmas.Bool.{and_parts, cases_Bool, cond-false, cond-true, cond_both, eqb-true, ltb-true}
use Rattle.std.proofs.lemmas.Bool.Decides.{nat_tests}
use Rattle.std.proofs.lemmas.Slice.Eq.{bytes_eq-Decides}
use Rattle.fc_cards.specs.Card.{rank, suit}
use Rattle.fc_cards.specs.Texts.{IsRank, IsRankText, rank_letter, suit_letter}
use Rattle.fc_cards.proofs.EachRank.{by_rank, by_suit}
use Rattle.fc_position.specs.Board.{Board}
use Rattle.fc_text.specs.Board.{Spells}
use Rattle.fc_text.specs.Line.{Line, after_blanks, after_colon, after_name, begin_part, begins_with, cell_names, foundation_names, is_blank, is_line_end, is_token, line_of, parts_of, sorted_line, tokens_of, without_return}
use Rattle.fc_text.specs.Spelling.{IsMark, SpellsCard, SpellsHome}
use Rattle.fc_typed.specs.Tidy.{after_mark, is_column_line, tidy_lines, without_label, without_signs}
use Rattle.fc_typed.proofs.LineLemmas.{Stays, after_blanks-label, digit_no_blank, label_or_not, labels_stay, parts-split, return-cons, trimmed-all}
use Rattle.fc_typed.proofs.SpelledLemmas.{IsClean, clean_line, label_bad, told_lines}
use Rattle.fc_typed.proofs.StayLemmas.{ascii_stays}

-- a byte of ASCII that begins no comment and is no comma
abbrev pub is_low : ℕ → Bool
is_low b = nat_lt b 128 && (not (b == 35) && not (b == 44))

abbrev pub IsLow : ℕ → Type 0
IsLow b = is_low b ≡ true

pub low_below : (b : ℕ) → IsLow b → b < 128
low_below b low = ltb-true b 128 (and_parts (nat_lt b 128) _ low).0

abbrev pub IsAscii : List ℕ → Type 0
IsAscii bytes = All IsLow bytes

-- a test of a text for such bytes
abbrev is_ascii : List ℕ → Bool
is_ascii [] = true
is_ascii (b ∷ bytes) = is_low b && is_ascii bytes

ascii_from : (bytes : List ℕ) → is_ascii bytes ≡ true → IsAscii bytes
ascii_from [] e = All-nil IsLow
ascii_from (b ∷ bytes) e =
    let both = and_parts (is_low b) (is_ascii bytes) e in
    All-cons IsLow b bytes both.0 (ascii_from bytes both.1)

-- what cannot be otherwise than ASCII is
ascii_stable : (bytes : List ℕ) → ((IsAscii bytes → ⊥) → ⊥) → IsAscii bytes
ascii_stable bytes stable k d within = ⊎_elim
    (λ low. low) (λ high. absurd (stable (λ all. cc (sym (all k d within) ∙ high))))
    (cases_Bool (is_low (get_or bytes k d)))

-- letters that are ASCII in one case are in the other
upper_low : (b : ℕ) → IsLow (to_ascii_uppercase b) → IsLow b
upper_low b low = grind (arith, nat_tests)

lower_low : (b : ℕ) → IsLow (to_ascii_lowercase b) → IsLow b
lower_low b low = grind (arith, nat_tests)

low_lower : (b : ℕ) → IsLow b → IsLow (to_ascii_lowercase b)
low_lower b low = grind (arith, nat_tests)

rank_low : (r : ℕ) → IsRank r → IsLow (rank_letter r)
rank_low = by_rank (λ r. IsLow (rank_letter r)) refl refl refl refl refl refl refl refl refl refl refl refl refl

suit_low : (s : ℕ) → s < 4 → IsLow (suit_letter s)
suit_low = by_suit (λ s. IsLow (suit_letter s)) refl refl refl refl

-- tokens that the reader takes are ASCII
rank_ascii : (r : ℕ) (text : List ℕ) → IsRank r → IsRankText r text → IsAscii text
rank_ascii r text is spells = ⊎_elim
    (λ one. All-same IsLow text (one.0 ∷ []) one.1
    (All-cons IsLow one.0 [] (upper_low one.0 (subst IsLow (sym one.2) (rank_low r is))) (All-nil IsLow)))
    (λ ten. All-same IsLow text (codes "10") ten.1 (ascii_from (codes "10") refl))
    spells

suit_part_low : (s byte : ℕ) → s < 4 → to_ascii_uppercase byte ≡ suit_letter s → IsLow byte
suit_part_low s byte few e = upper_low byte (subst IsLow (sym e) (suit_low s few))

card_ascii : (token : List ℕ) (c : ℕ) → SpellsCard token c → IsAscii token
card_ascii token c card =
    let below = card.below in
    let text = card.text in
    All-same IsLow token (text.rank_part ++ text.suit_part ∷ []) text.parts
    (All-append IsLow text.rank_part (text.suit_part ∷ [])
    (rank_ascii (rank c) text.rank_part (record { least = omega arith; greatest = omega arith }) text.spells_rank)
    (All-cons IsLow text.suit_part [] (suit_part_low (suit c) text.suit_part (omega arith) text.spells_suit) (All-nil IsLow)))

mark_ascii : (token : List ℕ) → IsMark token → IsAscii token
mark_ascii token mark = ⊎_elim
    (λ e. All-same IsLow token (codes "-") e (ascii_from (codes "-") refl))
    (λ e. All-same IsLow token (codes "*") e (ascii_from (codes "*") refl)) mark

home_ascii : (token : List ℕ) (s n : ℕ) → s < 4 → SpellsHome token s n → IsAscii token
home_ascii token s n few home =
    let count : IsAscii home.rank_part = ⊎_elim
    (λ none. All-same IsLow home.rank_part (codes "0") none.0 (ascii_from (codes "0") refl))
    (λ some. rank_ascii n home.rank_part some.0 some.1) home.count in
    All-same IsLow token (home.suit_part ∷ 45 ∷ home.rank_part) home.parts
    (All-cons IsLow home.suit_part (45 ∷ home.rank_part) (suit_part_low s home.suit_part few home.suit)
    (All-cons IsLow 45 home.rank_part refl count))

-- the tokens of a clean line are ASCII
tokens_ascii : (homes cells : Option (List ℕ)) (rest : List ℕ) → IsClean (sorted_line homes cells rest)
    → All IsAscii (sorted_line homes cells rest).tokens
tokens_ascii (Some piece) cells rest clean k d within = ascii_stable _ (λ bad.
    clean.foundation (inl (get_or (tokens_of piece) k d, Contains-get_or (tokens_of piece) k d within, λ s n few home. bad (home_ascii _ s n few home))))
tokens_ascii None (Some piece) rest clean k d within = ascii_stable _ (λ bad.
    clean.card (
      get_or (tokens_of piece) k d,
      Contains-get_or (tokens_of piece) k d within,
      λ c card. bad (card_ascii _ c card),
      λ mark. bad (mark_ascii _ mark),
    ))
tokens_ascii None None rest clean k d within = ascii_stable _ (λ bad.
    clean.card (
      get_or (tokens_of (after_colon rest)) k d,
      Contains-get_or (tokens_of (after_colon rest)) k d within,
      λ c card. bad (card_ascii _ c card),
    ))

-- a text is ASCII where its parts are, and what ends them
begun_parts : (P : ℕ → Type 0) (b : ℕ) (parts : List (List ℕ)) (bytes : List ℕ) → (All (All P) parts → All P bytes)
    → All (All P) (begin_part b parts) → P b × All P bytes
begun_parts P b [] bytes more all =
    (All-head P b [] (All-head (All P) (b ∷ []) [] all), more (All-nil (All P)))
begun_parts P b (part ∷ parts) bytes more all =
    let first = All-head (All P) (b ∷ part) parts all in
    (All-head P b part first, more (All-cons (All P) part parts (All-tail P b part first) (All-tail (All P) (b ∷ part) parts all)))

pub parts_all : (P : ℕ → Type 0) (p : ℕ → Bool) → ((b : ℕ) → p b ≡ true → P b) → (text : List ℕ) → All (All P) (parts_of p text) → All P text
parts_all P p ends [] all = All-nil P
parts_all P p ends (b ∷ text) all =
    elim (p b) as (λ t. p b ≡ t → All (All P) (cond t ([] ∷ parts_of p text) (begin_part b (parts_of p text))) → All P (b ∷ text)) [
      | true ↦ λ is parts. All-cons P b text (ends b is) (parts_all P p ends text (All-tail (All P) [] (parts_of p text) parts))
      | false ↦ λ is parts.
          let both = begun_parts P b (parts_of p text) text (parts_all P p ends text) parts in
          All-cons P b text both.0 both.1
    ] refl all

-- and where its tokens are
kept_parts : (P : ℕ → Type 0) (parts : List (List ℕ)) → All (All P) (filter is_token parts) → All (All P) parts
kept_parts P [] all = All-nil (All P)
kept_parts P ([] ∷ parts) all = All-cons (All P) [] parts (All-nil P) (kept_parts P parts all)
kept_parts P ((b ∷ part) ∷ parts) all =
    All-cons (All P) (b ∷ part) parts (All-head (All P) (b ∷ part) (filter is_token parts) all)
    (kept_parts P parts (All-tail (All P) (b ∷ part) (filter is_token parts) all))

pub blank_low : (b : ℕ) → is_blank b ≡ true → IsLow b
blank_low b is = grind (arith, nat_tests)

pub end_low : (b : ℕ) → is_line_end b ≡ true → IsLow b
end_low b is = grind (arith, nat_tests)

piece_ascii : (piece : List ℕ) → All IsAscii (tokens_of piece) → IsAscii piece
piece_ascii piece all = parts_all IsLow is_blank blank_low piece (kept_parts IsLow (parts_of is_blank piece) all)

colon_ascii : (rest : List ℕ) → IsAscii (after_colon rest) → IsAscii rest
colon_ascii [] all = all
colon_ascii (b ∷ bytes) all =
    elim (b == 58) as (λ t. (b == 58) ≡ t → IsAscii (cond t bytes (b ∷ bytes)) → IsAscii (b ∷ bytes)) [
      | true ↦ λ is tail. All-cons IsLow b bytes (ap is_low (eqb-true b 58 is)) tail
      | false ↦ λ is whole. whole
    ] refl all

blanks_ascii : (line : List ℕ) → IsAscii (after_blanks line) → IsAscii line
blanks_ascii [] all = all
blanks_ascii (b ∷ line) all =
    let n = position_or_len (λ x. not (is_blank x)) line in
    let e : 1 + n ≡ suc n = omega arith in
    elim (is_blank b) as (λ t. is_blank b ≡ t → IsAscii (drop (cond (not (not t)) (1 + n) 0) (b ∷ line)) → IsAscii (b ∷ line)) [
      | true ↦ λ is tail.
          All-cons IsLow b line (blank_low b is) (blanks_ascii line (subst (λ k. IsAscii (drop k (b ∷ line))) e tail))
      | false ↦ λ is whole. whole
    ] refl all

-- a name is ASCII in either case
lowered_ascii : (xs ys : List ℕ) → map to_ascii_lowercase xs ≡ map to_ascii_lowercase ys → IsAscii ys → IsAscii xs
lowered_ascii [] ys same all = All-nil IsLow
lowered_ascii (x ∷ xs) [] same all = absurd (cc same)
lowered_ascii (x ∷ xs) (y ∷ ys) same all =
    let first : to_ascii_lowercase x ≡ to_ascii_lowercase y = cc same in
    let others : map to_ascii_lowercase xs ≡ map to_ascii_lowercase ys = cc same in
    let low = low_lower y (All-head IsLow y ys all) in
    All-cons IsLow x xs (lower_low x (subst IsLow (sym first) low)) (lowered_ascii xs ys others (All-tail IsLow y ys all))

are_ascii : List (List ℕ) → Bool
are_ascii [] = true
are_ascii (name ∷ names) = is_ascii name && are_ascii names

name_ascii : (names : List (List ℕ)) (rest piece : List ℕ) → are_ascii names ≡ true → after_name names rest ≡ Some piece
    → IsAscii piece → IsAscii rest
unfolding are_ascii
name_ascii [] rest piece names_low found all = absurd (cc found)
name_ascii (name ∷ names) rest piece names_low found all =
    let both = and_parts (is_ascii name) (are_ascii names) names_low in
    elim (begins_with rest name) as (λ t. begins_with rest name ≡ t → cond t (Some (drop (length name) rest)) (after_name names rest) ≡ Some piece → IsAscii rest) [
      | true ↦ λ is e.
          let same : drop (length name) rest ≡ piece = cc e in
          let front =
          lowered_ascii (take (length name) rest) name ((bytes_eq-Decides (map to_ascii_lowercase (take (length name) rest)) (map to_ascii_lowercase name)).0 is)
          (ascii_from name both.0) in
          All-same IsLow rest (take (length name) rest ++ drop (length name) rest) (sym (take-append-drop (length name) rest))
          (All-append IsLow (take (length name) rest) (drop (length name) rest) front (subst IsAscii (sym same) all))
      | false ↦ λ is e. name_ascii names rest piece both.1 e all
    ] refl found

foundation_names-ascii : are_ascii foundation_names ≡ true
unfolding are_ascii
foundation_names-ascii = refl

cell_names-ascii : are_ascii cell_names ≡ true
unfolding are_ascii
cell_names-ascii = refl

-- a line is ASCII where its tokens are
sorted_ascii : (homes cells : Option (List ℕ)) (rest : List ℕ) → after_name foundation_names rest ≡ homes
    → after_name cell_names rest ≡ cells → All IsAscii (sorted_line homes cells rest).tokens → IsAscii rest
sorted_ascii (Some piece) cells rest found other all =
    name_ascii foundation_names rest piece foundation_names-ascii found (piece_ascii piece all)
sorted_ascii None (Some piece) rest other found all = name_ascii cell_names rest piece cell_names-ascii found (piece_ascii piece all)
sorted_ascii None None rest one other all = colon_ascii rest (piece_ascii (after_colon rest) all)

pub line_ascii : (line : List ℕ) → IsClean (line_of line) → IsAscii line
line_ascii line clean =
    let rest = after_blanks line in
    let homes = after_name foundation_names rest in
    let cells = after_name cell_names rest in
    blanks_ascii line (sorted_ascii homes cells rest refl refl (tokens_ascii homes cells rest clean))

pub return_ascii : (line : List ℕ) → IsAscii (without_return line) → IsAscii line
return_ascii [] all = all
return_ascii (b ∷ []) all =
    elim (b == 13) as (λ t. (b == 13) ≡ t → IsAscii (cond t [] (b ∷ [])) → IsAscii (b ∷ [])) [
      | true ↦ λ is none. All-cons IsLow b [] (ap is_low (eqb-true b 13 is)) none
      | false ↦ λ is whole. whole
    ] refl all
return_ascii (b ∷ c ∷ bytes) all =
    let rest = without_return (c ∷ bytes) in
    let kept : IsAscii (b ∷ rest) = subst IsAscii (return-cons b c bytes) all in
    All-cons IsLow b (c ∷ bytes) (All-head IsLow b rest kept) (return_ascii (c ∷ bytes) (All-tail IsLow b rest kept))

-- a clean column line has no label
clean_stays : (line : List ℕ) → IsClean (line_of (without_return line)) → Stays line
clean_stays line clean before = ⊎_elim
    (λ is. ⊎_elim
    (λ found. absurd (label_bad (without_return line) (49 + before) (without_return found.rest) is (after_blanks-label before line found)
    (digit_no_blank before) clean))
    (λ same. cond-true _ (without_label before line) line is ∙ same) (label_or_not before line))
    (λ other. cond-false _ (without_label before line) line other)
    (cases_Bool (is_column_line line))

-- the parts of a text that spells a position are clean lines
pub each_clean : (parts : List (List ℕ)) → ((front rest : List Line) (line : Line) → told_lines parts ≡ front ++ line ∷ rest → IsClean line)
    → All (λ part. IsClean (line_of (without_return part))) parts
each_clean [] clean = All-nil (λ part. IsClean (line_of (without_return part)))
each_clean (x ∷ xs) clean =
    let first = line_of (without_return x) in
    All-cons (λ part. IsClean (line_of (without_return part))) x xs (clean [] (told_lines xs) first refl)
    (each_clean xs (λ front rest line e. clean (first ∷ front) rest line (ap (λ ls. first ∷ ls) e)))

-- a text that spells a position has no signs and no labels
pub spelled_shown : (cells : ℕ) (text : List ℕ) (b : Board) → Spells cells text b → tidy_lines (without_signs 0 (after_mark text)) ≡ text
spelled_shown cells text b spells =
    let parts = parts_of is_line_end text in
    let clean = each_clean parts (λ front rest line e. clean_line cells text b spells front rest line e) in
    let ascii : IsAscii text =
    parts_all IsLow is_line_end end_low text (λ k d within. return_ascii _ (line_ascii _ (clean k d within))) in
    let pieces = slice_split is_line_end text in
    let stay : All Stays pieces =
    trimmed-all Stays pieces (λ before. cond_both (is_column_line []) (without_label before []) [] (λ t. t ≡ []) (λ _. refl) (λ _. refl))
    (subst (All Stays) (parts-split is_line_end text) (λ k d within. clean_stays _ (clean k d within))) in
    ap tidy_lines (ascii_stays text (λ k d within. low_below (get_or text k d) (ascii k d within))) ∙ ap (join_with_byte 10) (labels_stay 0 pieces stay) ∙ join_with_byte-slice_split 10 text
