-- Lines of texts that spell a position.
use Rattle.std.proofs.Common.{◌≡◌, ℕ, ◌+◌, ◌<◌, ◌==◌, true, false, cond, Option, Some, None, List, [], ◌∷◌, ◌++◌, length, map, refl, sym, ◌∙◌, ap, subst, ⊎_elim, arith}
use Rattle.std.specs.Prelude.{All, Contains, IsTrue, filter}
use Rattle.std.specs.Char.{to_ascii_uppercase}
use Rattle.std.proofs.lemmas.List.{append_assoc}
use Rattle.std.proofs.lemmas.Bool.{cond_both}
use Rattle.fc_cards.specs.Card.{rank, suit}
use Rattle.fc_cards.specs.Texts.{IsRank, rank_letter, suit_letter}
use Rattle.fc_cards.proofs.EachRank.{by_rank, by_suit}
use Rattle.fc_position.specs.Board.{Board}
use Rattle.fc_text.specs.declared.faults.BoardFault.TheVariants.{BadCard, BadFoundation}
use Rattle.fc_text.specs.Board.{Spells}
use Rattle.fc_text.specs.Fault.{AreSound, HasBadCard, HasBadFoundation, IsNoCard}
use Rattle.fc_text.specs.Line.{Line, after_blanks, after_colon, after_name, begin_part, board_lines, cell_names, foundation_names, is_blank, is_token, line_of, parts_of, sorted_line, tokens_of, without_return}
use Rattle.fc_text.specs.Spelling.{is_column}
use Rattle.fc_text.proofs.OnceLemmas.{spell_no_fault}
use Rattle.fc_typed.proofs.LineLemmas.{after_blanks-front}

-- no token of the line is bad
pub record IsClean (line : Line) : Type 0 where
  pub card : HasBadCard line.kind line.tokens → ⊥
  pub foundation : HasBadFoundation line.kind line.tokens → ⊥

pub front_sound : (n : ℕ) (lines front rest : List Line) (line : Line) → lines ≡ front ++ line ∷ rest → AreSound n lines → AreSound n front
front_sound n lines front rest line parts sound before behind other e =
    sound before (behind ++ line ∷ rest) other (parts ∙ ap (λ ls. ls ++ line ∷ rest) e ∙ append_assoc before (other ∷ behind) (line ∷ rest))

-- the lines of a text that spells a position are clean
pub clean_line : (n : ℕ) (text : List ℕ) (b : Board) → Spells n text b → (front rest : List Line) (line : Line)
    → board_lines text ≡ front ++ line ∷ rest → IsClean line
clean_line n text b spells front rest line parts =
    let before = front_sound n (board_lines text) front rest line parts spells.sound in
    record {
      card = λ bad. spell_no_fault n text b (BadCard (length front + 1)) spells (record {
        short = spells.short;
        first = record { front = front; line = line; rest = rest; parts = parts; place = refl; sound = before; here = bad };
      });
      foundation = λ bad. spell_no_fault n text b (BadFoundation (length front + 1)) spells (record {
        short = spells.short;
        first = record { front = front; line = line; rest = rest; parts = parts; place = refl; sound = before; here = bad };
      });
    }

-- the lines that parts of a text are
abbrev pub told_lines : List (List ℕ) → List Line
told_lines parts = map line_of (map without_return parts)

-- a colon is no letter of a suit or a rank
colon_no_suit : (s : ℕ) → s < 4 → to_ascii_uppercase 58 ≡ suit_letter s → ⊥
colon_no_suit =
    by_suit (λ s. to_ascii_uppercase 58 ≡ suit_letter s → ⊥) (λ e. omega (arith, e)) (λ e. omega (arith, e)) (λ e. omega (arith, e))
    (λ e. omega (arith, e))

colon_no_rank : (r : ℕ) → IsRank r → to_ascii_uppercase 58 ≡ rank_letter r → ⊥
colon_no_rank =
    by_rank (λ r. to_ascii_uppercase 58 ≡ rank_letter r → ⊥) (λ e. omega (arith, e)) (λ e. omega (arith, e)) (λ e. omega (arith, e))
    (λ e. omega (arith, e)) (λ e. omega (arith, e)) (λ e. omega (arith, e)) (λ e. omega (arith, e)) (λ e. omega (arith, e))
    (λ e. omega (arith, e)) (λ e. omega (arith, e)) (λ e. omega (arith, e)) (λ e. omega (arith, e)) (λ e. omega (arith, e))

-- no card begins with a colon
colon_first : (bytes : List ℕ) → IsNoCard (58 ∷ bytes)
colon_first bytes c card =
    let below = card.below in
    let text = card.text in
    ⊎_elim
    (λ one.
    let same : 58 ∷ bytes ≡ one.0 ∷ text.suit_part ∷ [] = text.parts ∙ ap (λ r. r ++ text.suit_part ∷ []) one.1 in
    let first : one.0 ≡ 58 = cc same in
    colon_no_rank (rank c) (record { least = omega arith; greatest = omega arith }) (sym (ap to_ascii_uppercase first) ∙ one.2))
    (λ ten.
    let same : 58 ∷ bytes ≡ 49 ∷ 48 ∷ text.suit_part ∷ [] = text.parts ∙ ap (λ r. r ++ text.suit_part ∷ []) ten.1 in
    let first : ◌≡◌ {A = ℕ} 58 49 = cc same in
    omega (arith, first))
    text.spells_rank

-- no card has a colon as its second byte
colon_second : (b : ℕ) (bytes : List ℕ) → IsNoCard (b ∷ 58 ∷ bytes)
colon_second b bytes c card =
    let below = card.below in
    let text = card.text in
    ⊎_elim
    (λ one.
    let same : b ∷ 58 ∷ bytes ≡ one.0 ∷ text.suit_part ∷ [] = text.parts ∙ ap (λ r. r ++ text.suit_part ∷ []) one.1 in
    let second : text.suit_part ≡ 58 = cc same in
    colon_no_suit (suit c) (omega arith) (sym (ap to_ascii_uppercase second) ∙ text.spells_suit))
    (λ ten.
    let same : b ∷ 58 ∷ bytes ≡ 49 ∷ 48 ∷ text.suit_part ∷ [] = text.parts ∙ ap (λ r. r ++ text.suit_part ∷ []) ten.1 in
    let second : ◌≡◌ {A = ℕ} 58 48 = cc same in
    omega (arith, second))
    text.spells_rank

-- what a token begins with
pub one_begun : (b : ℕ) (parts : List (List ℕ))
    → (more : List ℕ) × (others : List (List ℕ)) × (filter is_token (begin_part b parts) ≡ (b ∷ more) ∷ others)
one_begun b [] = ([], [], refl)
one_begun b (part ∷ parts) = (part, filter is_token parts, refl)

pub two_begun : (b c : ℕ) (parts : List (List ℕ))
    → (more : List ℕ) × (others : List (List ℕ)) × (filter is_token (begin_part b (begin_part c parts)) ≡ (b ∷ c ∷ more) ∷ others)
two_begun b c [] = ([], [], refl)
two_begun b c (part ∷ parts) = (part, filter is_token parts, refl)

-- a token is one of the tokens that it is the first of
pub first_contained : (tokens others : List (List ℕ)) (token : List ℕ) → tokens ≡ token ∷ others → Contains tokens token
first_contained tokens others token e = subst (λ ts. Contains ts token) (sym e) (0, omega arith, refl)

abbrev HasNoCard : List ℕ → Type 0
HasNoCard piece = (token : List ℕ) × Contains (tokens_of piece) token × IsNoCard token

-- behind a column's colon, a byte and a colon begin no card
label_no_card : (b : ℕ) (rest : List ℕ) → is_blank b ≡ false → HasNoCard (after_colon (b ∷ 58 ∷ rest))
label_no_card b rest other =
    let rests = parts_of is_blank rest in
    cond_both (b == 58) (58 ∷ rest) (b ∷ 58 ∷ rest) HasNoCard
    (λ _.
    let begun = one_begun 58 rests in
    (58 ∷ begun.0, first_contained (tokens_of (58 ∷ rest)) begun.1 (58 ∷ begun.0) begun.2, colon_first begun.0))
    (λ _.
    let begun = two_begun b 58 rests in
    let tokens : tokens_of (b ∷ 58 ∷ rest) ≡ (b ∷ 58 ∷ begun.0) ∷ begun.1 =
    ap (λ t. filter is_token (cond t ([] ∷ begin_part 58 rests) (begin_part b (begin_part 58 rests)))) other ∙ begun.2 in
    (b ∷ 58 ∷ begun.0, first_contained (tokens_of (b ∷ 58 ∷ rest)) begun.1 (b ∷ 58 ∷ begun.0) tokens, colon_second b begun.0))

column_bad : (homes cells : Option (List ℕ)) (rest : List ℕ) → is_column (sorted_line homes cells rest).kind ≡ true
    → HasNoCard (after_colon rest) → HasBadCard (sorted_line homes cells rest).kind (sorted_line homes cells rest).tokens
column_bad (Some piece) cells rest column bad = absurd (cc column)
column_bad None (Some piece) rest column bad = absurd (cc column)
column_bad None None rest column bad = bad

-- a column line that begins with a byte and a colon isn't clean
pub label_bad : (line : List ℕ) (b : ℕ) (rest : List ℕ) → IsTrue (is_column (line_of line).kind) → after_blanks line ≡ b ∷ 58 ∷ rest
    → is_blank b ≡ false → IsClean (line_of line) → ⊥
label_bad line b rest column begins other clean =
    let from = after_blanks line in
    clean.card (column_bad (after_name foundation_names from) (after_name cell_names from) from column
    (subst (λ t. HasNoCard (after_colon t)) (sym begins) (label_no_card b rest other)))

-- a line that begins with a colon is a column's
abbrev of_rest : List ℕ → Line
of_rest rest = sorted_line (after_name foundation_names rest) (after_name cell_names rest) rest

pub colon_column : (blanks rest : List ℕ) → All (λ b. IsTrue (is_blank b)) blanks → is_column (line_of (blanks ++ 58 ∷ rest)).kind ≡ true
colon_column blanks rest blank = ap (λ t. is_column (of_rest t).kind) (after_blanks-front blanks 58 rest blank refl)

pub colon_tokens : (blanks rest : List ℕ) → All (λ b. IsTrue (is_blank b)) blanks
    → (line_of (blanks ++ 58 ∷ rest)).tokens ≡ tokens_of rest
colon_tokens blanks rest blank = ap (λ t. (of_rest t).tokens) (after_blanks-front blanks 58 rest blank refl)
