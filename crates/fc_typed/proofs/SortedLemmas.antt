-- Lines as what stands before their tokens and the piece that holds these, and how long they are respelled.
use Rattle.std.proofs.Common.{◌≡◌, ℕ, ◌+◌, ◌-◌, ◌*◌, ◌≤◌, ◌==◌, ◌&&◌, true, false, cond, not, Option, Some, None, List, [], ◌∷◌, ◌++◌, length, map, take, drop, refl, sym, ◌∙◌, ap, subst, arith}
use Rattle.std.specs.Prelude.{nat_lt, slice_index}
use Rattle.std.specs.List.{join_with_byte, position_or_len, slice_split}
use Rattle.std.specs.Option.{option_or}
use Rattle.std.proofs.lemmas.List.{append-nil, append_assoc, length-append, length-take, take_at, take-append-drop, drop_all}
use Rattle.std.proofs.lemmas.List.Splits.{join_with_byte-slice_split}
use Rattle.std.proofs.lemmas.Bool.{and_parts, cond_both}
use Rattle.fc_position.specs.Board.{front_of}
use Rattle.fc_text.specs.Line.{after_blanks, after_colon, after_name, begins_with, cell_names, foundation_names, is_blank, is_line_end, without_return}
use Rattle.fc_typed.specs.Comment.{blanks_of}
use Rattle.fc_typed.specs.Respelled.{after_label, before_piece, card_spelling, colon_dash, each_token, home_spelling, is_rank, is_suit, line_spelling, rank_first, respelled_text, respelled_card, respelled_column, respelled_home, respelled_line, sorted_spelling}

-- a line ends with a piece
pub record EndsWith (line piece : List ℕ) : Type 0 where
  pub front : List ℕ
  pub parts : line ≡ front ++ piece

-- what stands before the piece
pub before_piece-is : (line piece : List ℕ) (ends : EndsWith line piece) → before_piece piece line ≡ ends.front
before_piece-is line piece ends =
    let front = ends.front in
    let size : length (front ++ piece) - length piece ≡ length front = omega (arith, length-append front piece) in
    ap (before_piece piece) ends.parts ∙ ap (λ k. take k (front ++ piece)) size ∙ take_at front piece (length front) refl

ends_further : (line rest piece : List ℕ) → EndsWith line rest → EndsWith rest piece → EndsWith line piece
ends_further line rest piece one two =
    record {
      front = one.front ++ two.front;
      parts = one.parts ∙ ap (λ t. one.front ++ t) two.parts ∙ sym (append_assoc one.front two.front piece);
    }

pub blanks_parts : (line : List ℕ) → line ≡ blanks_of line ++ after_blanks line
blanks_parts line = sym (take-append-drop (position_or_len (λ b. not (is_blank b)) line) line)

blanks_end : (line : List ℕ) → EndsWith line (after_blanks line)
blanks_end line = record { front = blanks_of line; parts = blanks_parts line }

name_end : (names : List (List ℕ)) (rest piece : List ℕ) → after_name names rest ≡ Some piece → EndsWith rest piece
name_end [] rest piece found = absurd (cc found)
name_end (name ∷ names) rest piece found =
    elim (begins_with rest name) as (λ t. cond t (Some (drop (length name) rest)) (after_name names rest) ≡ Some piece → EndsWith rest piece) [
      | true ↦ λ e.
          let same : drop (length name) rest ≡ piece = cc e in
          record {
            front = take (length name) rest;
            parts = sym (take-append-drop (length name) rest) ∙ ap (λ t. take (length name) rest ++ t) same;
          }
      | false ↦ λ e. name_end names rest piece e
    ] found

colon_end : (rest : List ℕ) → EndsWith rest (after_colon rest)
colon_end [] = record { front = []; parts = refl }
colon_end (b ∷ bytes) =
    cond_both (b == 58) bytes (b ∷ bytes) (EndsWith (b ∷ bytes))
    (λ _. record { front = b ∷ []; parts = refl }) (λ _. record { front = []; parts = refl })

label_end : (rest : List ℕ) → EndsWith rest (after_label rest)
label_end [] = colon_end []
label_end (b ∷ []) = colon_end (b ∷ [])
label_end (b ∷ c ∷ bytes) =
    cond_both (nat_lt 48 b && (nat_lt b 57 && (c == 58))) bytes (after_colon (b ∷ c ∷ bytes)) (EndsWith (b ∷ c ∷ bytes))
    (λ _. record { front = b ∷ c ∷ []; parts = refl }) (λ _. colon_end (b ∷ c ∷ bytes))

-- what holds of a line of each kind, respelled, holds of the line
module _ (line : List ℕ) (Q : List ℕ → Type 0) where
  abbrev pub OfHomes : Type 0
  OfHomes = (piece : List ℕ) → after_name foundation_names (after_blanks line) ≡ Some piece
      → (ends : EndsWith line piece) → Q (ends.front ++ each_token respelled_home [] piece)

  abbrev pub OfCells : Type 0
  OfCells = (piece : List ℕ) → after_name foundation_names (after_blanks line) ≡ None
      → after_name cell_names (after_blanks line) ≡ Some piece
      → (ends : EndsWith line piece) → Q (ends.front ++ each_token respelled_card [] piece)

  abbrev pub OfColumn : Type 0
  OfColumn = after_name foundation_names (after_blanks line) ≡ None → after_name cell_names (after_blanks line) ≡ None
      → (ends : EndsWith line (after_label (after_blanks line))) → Q (ends.front ++ respelled_column (after_label (after_blanks line)))

  cells_case : (cells : Option (List ℕ)) → after_name foundation_names (after_blanks line) ≡ None
      → after_name cell_names (after_blanks line) ≡ cells → OfCells → OfColumn → Q (sorted_spelling None cells (after_blanks line) line)
  cells_case (Some piece) none found of_cells of_column =
      let ends = ends_further line (after_blanks line) piece (blanks_end line) (name_end cell_names (after_blanks line) piece found) in
      subst (λ t. Q (t ++ each_token respelled_card [] piece)) (sym (before_piece-is line piece ends)) (of_cells piece none found ends)
  cells_case None none other of_cells of_column =
      let piece = after_label (after_blanks line) in
      let ends = ends_further line (after_blanks line) piece (blanks_end line) (label_end (after_blanks line)) in
      subst (λ t. Q (t ++ respelled_column piece)) (sym (before_piece-is line piece ends)) (of_column none other ends)

  homes_case : (homes : Option (List ℕ)) → after_name foundation_names (after_blanks line) ≡ homes
      → OfHomes → OfCells → OfColumn → Q (sorted_spelling homes (after_name cell_names (after_blanks line)) (after_blanks line) line)
  homes_case (Some piece) found of_homes of_cells of_column =
      let ends = ends_further line (after_blanks line) piece (blanks_end line) (name_end foundation_names (after_blanks line) piece found) in
      subst (λ t. Q (t ++ each_token respelled_home [] piece)) (sym (before_piece-is line piece ends)) (of_homes piece found ends)
  homes_case None none of_homes of_cells of_column =
      cells_case (after_name cell_names (after_blanks line)) none refl of_cells of_column

  pub by_kind : OfHomes → OfCells → OfColumn → Q (line_spelling line)
  by_kind of_homes of_cells of_column = homes_case (after_name foundation_names (after_blanks line)) refl of_homes of_cells of_column

-- half as long again, at most
abbrev GrowsByHalf : List ℕ → List ℕ → Type 0
GrowsByHalf old new = 2 * length new ≤ 3 * length old

some_rank : (rank : List ℕ) → is_rank rank ≡ true → 1 ≤ length rank
some_rank [] e = absurd (cc e)
some_rank (b ∷ bytes) e = omega arith

card_long : (token : List ℕ) → GrowsByHalf token (respelled_card token)
card_long [] = omega arith
card_long (suit ∷ rank) =
    elim (is_suit suit && is_rank rank) as (λ t. GrowsByHalf (suit ∷ rank) (card_spelling (suit ∷ rank) (cond t (Some (suit, rank)) None))) [
      | true ↦ omega (arith, length-append rank (suit ∷ []))
      | false ↦ omega arith
    ]

length-dash : (token : List ℕ) → length (colon_dash token) ≡ length token
length-dash [] = refl
length-dash (suit ∷ []) = refl
length-dash (suit ∷ b ∷ rank) =
    cond_both (is_suit suit && (b == 58)) (suit ∷ 45 ∷ rank) (suit ∷ b ∷ rank) (λ t. length t ≡ length (suit ∷ b ∷ rank))
    (λ _. refl) (λ _. refl)

rank_first_long : (token : List ℕ) → GrowsByHalf token (home_spelling token (rank_first token))
rank_first_long token =
    let suit = slice_index token (length token - 1) in
    elim (is_suit suit && is_rank (front_of token)) as (λ t. (is_suit suit && is_rank (front_of token)) ≡ t → GrowsByHalf token (home_spelling token (cond t (Some (suit, front_of token)) None))) [
      | true ↦ λ e.
          let some : 1 ≤ length (front_of token) = some_rank (front_of token) (and_parts (is_suit suit) (is_rank (front_of token)) e).1 in
          omega (arith, some, length-take (length token - 1) token)
      | false ↦ λ _. omega (arith, length-dash token)
    ] refl

home_long : (token : List ℕ) → GrowsByHalf token (respelled_home token)
home_long [] = rank_first_long []
home_long (suit ∷ rank) =
    elim (is_suit suit && is_rank rank) as (λ t. (is_suit suit && is_rank rank) ≡ t → GrowsByHalf (suit ∷ rank) (home_spelling (suit ∷ rank) (option_or (cond t (Some (suit, rank)) None) (rank_first (suit ∷ rank))))) [
      | true ↦ λ e. let some : 1 ≤ length rank = some_rank rank (and_parts (is_suit suit) (is_rank rank) e).1 in omega (arith, some)
      | false ↦ λ _. rank_first_long (suit ∷ rank)
    ] refl

each_long : (f : List ℕ → List ℕ) → ((t : List ℕ) → GrowsByHalf t (f t)) → (token rest : List ℕ)
    → 2 * length (each_token f token rest) ≤ 3 * (length token + length rest)
each_long f long token [] = omega (arith, long token)
each_long f long token (b ∷ bytes) =
    cond_both (is_blank b) (f token ++ b ∷ each_token f [] bytes) (each_token f (token ++ b ∷ []) bytes)
    (λ t. 2 * length t ≤ 3 * (length token + length (b ∷ bytes)))
    (λ _. omega (arith, length-append (f token) (b ∷ each_token f [] bytes), long token, each_long f long [] bytes))
    (λ _. omega (arith, each_long f long (token ++ b ∷ []) bytes, length-append token (b ∷ [])))

column_long : (piece : List ℕ) → GrowsByHalf piece (respelled_column piece)
column_long piece =
    cond_both _ [] (each_token respelled_card [] piece) (GrowsByHalf piece)
    (λ _. omega arith) (λ _. omega (arith, each_long respelled_card card_long [] piece))

-- a line is its front and what was made of its piece
line_long : (line piece new : List ℕ) (ends : EndsWith line piece) → GrowsByHalf piece new → GrowsByHalf line (ends.front ++ new)
line_long line piece new ends long =
    omega (arith, length-append ends.front new, ap length ends.parts, length-append ends.front piece, long)

spelling_long : (line : List ℕ) → GrowsByHalf line (line_spelling line)
spelling_long line =
    by_kind line (GrowsByHalf line)
    (λ piece found ends. line_long line piece _ ends (omega (arith, each_long respelled_home home_long [] piece)))
    (λ piece none found ends. line_long line piece _ ends (omega (arith, each_long respelled_card card_long [] piece)))
    (λ none other ends. line_long line _ _ ends (column_long _))

-- a line is what stands before the CR that may end it, and the CR
pub return_parts : (line : List ℕ) → without_return line ++ drop (length (without_return line)) line ≡ line
return_parts line =
    cond_both _ (front_of line) line (λ t. t ++ drop (length t) line ≡ line)
    (λ _.
    let n = length line - 1 in
    let size : length (take n line) ≡ n = omega (arith, length-take n line) in
    ap (λ k. take n line ++ drop k line) size ∙ take-append-drop n line)
    (λ _. ap (λ t. line ++ t) (drop_all (length line) line (omega arith)) ∙ append-nil line)

line_grows : (line : List ℕ) → GrowsByHalf line (respelled_line line)
line_grows line =
    let body = without_return line in
    let end = drop (length body) line in
    omega (arith, spelling_long body, length-append (line_spelling body) end, ap length (return_parts line), length-append body end)

lines_grow : (lines : List (List ℕ)) → GrowsByHalf (join_with_byte 10 lines) (join_with_byte 10 (map respelled_line lines))
lines_grow [] = omega arith
lines_grow (x ∷ []) = line_grows x
lines_grow (x ∷ y ∷ ys) =
    omega (
      arith,
      length-append (respelled_line x) (10 ∷ join_with_byte 10 (map respelled_line (y ∷ ys))),
      length-append x (10 ∷ join_with_byte 10 (y ∷ ys)),
      line_grows x,
      lines_grow (y ∷ ys),
    )

-- a respelled text is half as long again, at most
pub text_grows : (text : List ℕ) → 2 * length (respelled_text text) ≤ 3 * length text
text_grows text =
    omega (arith, lines_grow (slice_split is_line_end text), ap length (join_with_byte-slice_split 10 text))
