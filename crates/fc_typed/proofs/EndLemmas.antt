-- What is made of a line without an LF has none.
use Rattle.std.proofs.Common.{◌≡◌, ℕ, zero, suc, ◌+◌, ◌-◌, ◌==◌, ◌||◌, ◌&&◌, false, cond, Option, Some, None, IfSome, List, [], ◌∷◌, ◌++◌, length, drop, map, codes, refl}
use Rattle.std.specs.Prelude.{All, option_map, slice_index}
use Rattle.std.specs.Option.{option_or}
use Rattle.std.proofs.lemmas.List.Elements.{All-nil, All-cons, All-head, All-tail, All-append, All-take, All-drop, All-map, All-weaker}
use Rattle.std.proofs.lemmas.Bool.{cond_both}
use Rattle.fc_position.specs.Board.{front_of}
use Rattle.fc_text.specs.Line.{after_blanks, after_colon, after_name, begins_with, cell_names, foundation_names, is_blank, is_line_end, tokens_of, without_return}
use Rattle.fc_typed.specs.Comment.{before_comment, blanks_of, comma_blank, is_comment, more_cell_names, more_home_names, mark_colon, renamed_line_by, renamed_line, said_line}
use Rattle.fc_typed.specs.Tidy.{selector_len, sign_of, sign_or, space_sign, suit_of_symbol, without_signs}
use Rattle.fc_typed.specs.Respelled.{after_label, before_piece, card_spelling, colon_dash, each_token, home_spelling, is_dash_alone, line_spelling, rank_first, respelled_card, respelled_column, respelled_home, respelled_line, sorted_spelling, suit_first}

-- the byte is no LF
abbrev pub IsNoEnd : ℕ → Type 0
IsNoEnd b = is_line_end b ≡ false

abbrev pub NoEnd : List ℕ → Type 0
NoEnd line = All IsNoEnd line

-- signs
abbrev clubs : ℕ → Option ℕ
clubs d = cond ((d == 163) || (d == 167)) (Some 67) None

abbrev diamonds : ℕ → Option ℕ
diamonds d = cond ((d == 162) || (d == 166)) (Some 68) (clubs d)

abbrev hearts : ℕ → Option ℕ
hearts d = cond ((d == 161) || (d == 165)) (Some 72) (diamonds d)

pub each_suit : (d : ℕ) (Q : Option ℕ → Type 0) → Q (Some 83) → Q (Some 72) → Q (Some 68) → Q (Some 67) → Q None → Q (suit_of_symbol d)
each_suit d Q s h d' c none =
    cond_both ((d == 160) || (d == 164)) (Some 83) (hearts d) Q (λ _. s)
    (λ _. cond_both ((d == 161) || (d == 165)) (Some 72) (diamonds d) Q (λ _. h)
    (λ _. cond_both ((d == 162) || (d == 166)) (Some 68) (clubs d) Q (λ _. d')
    (λ _. cond_both ((d == 163) || (d == 167)) (Some 67) None Q (λ _. c) (λ _. none))))

abbrev Keeps : ℕ → Option (ℕ × ℕ) → Type 0
Keeps b sign = IsNoEnd (sign_or b sign).0

space_keeps : (b c : ℕ) (bytes : List ℕ) → IsNoEnd b → Keeps b (space_sign (b ∷ c ∷ bytes))
space_keeps b c bytes own = cond_both ((b == 194) && (c == 160)) (Some (32, 2)) None (Keeps b) (λ _. refl) (λ _. own)

sign_keeps : (b : ℕ) (bytes : List ℕ) → IsNoEnd b → Keeps b (sign_of (b ∷ bytes))
sign_keeps b [] own = own
sign_keeps b (c ∷ []) own = space_keeps b c [] own
sign_keeps b (c ∷ d ∷ bytes) own =
    cond_both ((b == 226) && (c == 153)) (option_map (λ letter. (letter, 3 + selector_len bytes)) (suit_of_symbol d)) (space_sign (b ∷ c ∷ d ∷ bytes))
    (Keeps b)
    (λ _. each_suit d (λ suit. Keeps b (option_map (λ letter. (letter, 3 + selector_len bytes)) suit)) refl refl refl refl own)
    (λ _. space_keeps b c (d ∷ bytes) own)

pub signs_keep : (n : ℕ) (line : List ℕ) → NoEnd line → NoEnd (without_signs n line)
signs_keep n [] all = All-nil IsNoEnd
signs_keep (suc n) (b ∷ bytes) all = signs_keep n bytes (All-tail IsNoEnd b bytes all)
signs_keep zero (b ∷ bytes) all =
    let sign = sign_or b (sign_of (b ∷ bytes)) in
    All-cons IsNoEnd sign.0 (without_signs (sign.1 - 1) bytes) (sign_keeps b bytes (All-head IsNoEnd b bytes all))
    (signs_keep (sign.1 - 1) bytes (All-tail IsNoEnd b bytes all))

-- what a line says
comma_keeps : (line : List ℕ) → NoEnd line → NoEnd (map comma_blank line)
comma_keeps line all =
    All-map IsNoEnd comma_blank line
    (All-weaker IsNoEnd (λ b. IsNoEnd (comma_blank b)) (λ b own. cond_both _ 32 b IsNoEnd (λ _. refl) (λ _. own)) line all)

name_keeps : (names : List (List ℕ)) (piece : List ℕ) → NoEnd piece → IfSome (after_name names piece) NoEnd
name_keeps [] piece all = tt
name_keeps (name ∷ names) piece all =
    cond_both (begins_with piece name) (Some (drop (length name) piece)) (after_name names piece) (λ o. IfSome o NoEnd)
    (λ _. All-drop IsNoEnd (length name) piece all) (λ _. name_keeps names piece all)

numbered_keeps : (piece : List ℕ) → NoEnd piece → NoEnd (mark_colon piece)
numbered_keeps [] all = all
numbered_keeps (b ∷ []) all = all
numbered_keeps (b ∷ c ∷ bytes) all =
    cond_both _ (b ∷ 58 ∷ bytes) (b ∷ c ∷ bytes) NoEnd
    (λ _. All-cons IsNoEnd b (58 ∷ bytes) (All-head IsNoEnd b (c ∷ bytes) all)
    (All-cons IsNoEnd 58 bytes refl (All-tail IsNoEnd c bytes (All-tail IsNoEnd b (c ∷ bytes) all))))
    (λ _. all)

no_end_cells : NoEnd (codes "FC:")
no_end_cells =
    All-cons IsNoEnd 70 (67 ∷ 58 ∷ []) refl (All-cons IsNoEnd 67 (58 ∷ []) refl (All-cons IsNoEnd 58 [] refl (All-nil IsNoEnd)))

no_end_homes : NoEnd (codes "Deck:")
no_end_homes =
    All-cons IsNoEnd 68 (101 ∷ 99 ∷ 107 ∷ 58 ∷ []) refl (All-cons IsNoEnd 101 (99 ∷ 107 ∷ 58 ∷ []) refl
    (All-cons IsNoEnd 99 (107 ∷ 58 ∷ []) refl (All-cons IsNoEnd 107 (58 ∷ []) refl (All-cons IsNoEnd 58 [] refl (All-nil IsNoEnd)))))

renamed_keeps : (cells homes : Option (List ℕ)) (line : List ℕ) → IfSome cells NoEnd → IfSome homes NoEnd → NoEnd line
    → NoEnd (renamed_line_by cells homes line)
renamed_keeps (Some piece) homes line of_cells of_homes all =
    All-append IsNoEnd (blanks_of line) (codes "FC:" ++ map comma_blank piece) (All-take IsNoEnd _ line all)
    (All-append IsNoEnd (codes "FC:") (map comma_blank piece) no_end_cells (comma_keeps piece of_cells))
renamed_keeps None (Some piece) line of_cells of_homes all =
    All-append IsNoEnd (blanks_of line) (codes "Deck:" ++ map comma_blank piece) (All-take IsNoEnd _ line all)
    (All-append IsNoEnd (codes "Deck:") (map comma_blank piece) no_end_homes (comma_keeps piece of_homes))
renamed_keeps None None line of_cells of_homes all =
    comma_keeps (blanks_of line ++ mark_colon (after_blanks line))
    (All-append IsNoEnd (blanks_of line) (mark_colon (after_blanks line)) (All-take IsNoEnd _ line all)
    (numbered_keeps (after_blanks line) (All-drop IsNoEnd _ line all)))

pub said_keeps : (line : List ℕ) → NoEnd line → NoEnd (said_line line)
said_keeps line all =
    let told = before_comment line in
    let left : NoEnd told = All-take IsNoEnd _ line all in
    let piece : NoEnd (after_blanks told) = All-drop IsNoEnd _ told left in
    cond_both (is_comment line) [] (renamed_line told) NoEnd (λ _. All-nil IsNoEnd)
    (λ _. renamed_keeps (after_name more_cell_names (after_blanks told)) (after_name more_home_names (after_blanks told)) told
    (name_keeps more_cell_names (after_blanks told) piece) (name_keeps more_home_names (after_blanks told) piece) left)

-- tokens, respelled
abbrev OfCard : Option (ℕ × List ℕ) → Type 0
OfCard card = IfSome card (λ c. IsNoEnd c.0 × NoEnd c.1)

suit_first_keeps : (token : List ℕ) → NoEnd token → OfCard (suit_first token)
suit_first_keeps [] all = tt
suit_first_keeps (suit ∷ rank) all =
    cond_both _ (Some (suit, rank)) None OfCard (λ _. (All-head IsNoEnd suit rank all, All-tail IsNoEnd suit rank all)) (λ _. tt)

index_keeps : (token : List ℕ) (i : ℕ) → NoEnd token → IsNoEnd (slice_index token i)
index_keeps [] i all = refl
index_keeps (b ∷ token) zero all = All-head IsNoEnd b token all
index_keeps (b ∷ token) (suc i) all = index_keeps token i (All-tail IsNoEnd b token all)

rank_first_keeps : (token : List ℕ) → NoEnd token → OfCard (rank_first token)
rank_first_keeps token all =
    cond_both _ (Some (slice_index token (length token - 1), front_of token)) None OfCard
    (λ _. (index_keeps token (length token - 1) all, All-take IsNoEnd _ token all)) (λ _. tt)

card_keeps : (token : List ℕ) (card : Option (ℕ × List ℕ)) → NoEnd token → OfCard card → NoEnd (card_spelling token card)
card_keeps token None all of = all
card_keeps token (Some card) all of =
    All-append IsNoEnd card.1 (card.0 ∷ []) of.1 (All-cons IsNoEnd card.0 [] of.0 (All-nil IsNoEnd))

pub respelled_card_keeps : (token : List ℕ) → NoEnd token → NoEnd (respelled_card token)
respelled_card_keeps token all = card_keeps token (suit_first token) all (suit_first_keeps token all)

dash_keeps : (token : List ℕ) → NoEnd token → NoEnd (colon_dash token)
dash_keeps [] all = all
dash_keeps (suit ∷ []) all = all
dash_keeps (suit ∷ b ∷ rank) all =
    cond_both _ (suit ∷ 45 ∷ rank) (suit ∷ b ∷ rank) NoEnd
    (λ _. All-cons IsNoEnd suit (45 ∷ rank) (All-head IsNoEnd suit (b ∷ rank) all)
    (All-cons IsNoEnd 45 rank refl (All-tail IsNoEnd b rank (All-tail IsNoEnd suit (b ∷ rank) all))))
    (λ _. all)

home_keeps : (token : List ℕ) (card : Option (ℕ × List ℕ)) → NoEnd token → OfCard card → NoEnd (home_spelling token card)
home_keeps token None all of = dash_keeps token all
home_keeps token (Some card) all of = All-cons IsNoEnd card.0 (45 ∷ card.1) of.0 (All-cons IsNoEnd 45 card.1 refl of.1)

either_card : (a b : Option (ℕ × List ℕ)) → OfCard a → OfCard b → OfCard (option_or a b)
either_card (Some card) b of_a of_b = of_a
either_card None b of_a of_b = of_b

pub respelled_home_keeps : (token : List ℕ) → NoEnd token → NoEnd (respelled_home token)
respelled_home_keeps token all =
    home_keeps token (option_or (suit_first token) (rank_first token)) all
    (either_card (suit_first token) (rank_first token) (suit_first_keeps token all) (rank_first_keeps token all))

module _ (f : List ℕ → List ℕ) (keeps : (token : List ℕ) → NoEnd token → NoEnd (f token)) where
  each_keeps : (token piece : List ℕ) → NoEnd token → NoEnd piece → NoEnd (each_token f token piece)
  each_keeps token [] own all = keeps token own
  each_keeps token (b ∷ bytes) own all =
      let first = All-head IsNoEnd b bytes all in
      let behind = All-tail IsNoEnd b bytes all in
      cond_both (is_blank b) (f token ++ b ∷ each_token f [] bytes) (each_token f (token ++ b ∷ []) bytes) NoEnd
      (λ _. All-append IsNoEnd (f token) (b ∷ each_token f [] bytes) (keeps token own)
      (All-cons IsNoEnd b (each_token f [] bytes) first (each_keeps [] bytes (All-nil IsNoEnd) behind)))
      (λ _. each_keeps (token ++ b ∷ []) bytes
      (All-append IsNoEnd token (b ∷ []) own (All-cons IsNoEnd b [] first (All-nil IsNoEnd))) behind)

-- lines, respelled
colon_keeps : (piece : List ℕ) → NoEnd piece → NoEnd (after_colon piece)
colon_keeps [] all = all
colon_keeps (b ∷ bytes) all = cond_both _ bytes (b ∷ bytes) NoEnd (λ _. All-tail IsNoEnd b bytes all) (λ _. all)

label_keeps : (piece : List ℕ) → NoEnd piece → NoEnd (after_label piece)
label_keeps [] all = all
label_keeps (b ∷ []) all = colon_keeps (b ∷ []) all
label_keeps (b ∷ c ∷ bytes) all =
    cond_both _ bytes (after_colon (b ∷ c ∷ bytes)) NoEnd
    (λ _. All-tail IsNoEnd c bytes (All-tail IsNoEnd b (c ∷ bytes) all)) (λ _. colon_keeps (b ∷ c ∷ bytes) all)

column_keeps : (piece : List ℕ) → NoEnd piece → NoEnd (respelled_column piece)
column_keeps piece all =
    cond_both (is_dash_alone (tokens_of piece)) [] (each_token respelled_card [] piece) NoEnd (λ _. All-nil IsNoEnd)
    (λ _. each_keeps respelled_card respelled_card_keeps [] piece (All-nil IsNoEnd) all)

sorted_keeps : (homes cells : Option (List ℕ)) (rest line : List ℕ) → IfSome homes NoEnd → IfSome cells NoEnd → NoEnd rest → NoEnd line
    → NoEnd (sorted_spelling homes cells rest line)
sorted_keeps (Some piece) cells rest line of_homes of_cells left all =
    All-append IsNoEnd (before_piece piece line) (each_token respelled_home [] piece) (All-take IsNoEnd _ line all)
    (each_keeps respelled_home respelled_home_keeps [] piece (All-nil IsNoEnd) of_homes)
sorted_keeps None (Some piece) rest line of_homes of_cells left all =
    All-append IsNoEnd (before_piece piece line) (each_token respelled_card [] piece) (All-take IsNoEnd _ line all)
    (each_keeps respelled_card respelled_card_keeps [] piece (All-nil IsNoEnd) of_cells)
sorted_keeps None None rest line of_homes of_cells left all =
    All-append IsNoEnd (before_piece (after_label rest) line) (respelled_column (after_label rest)) (All-take IsNoEnd _ line all)
    (column_keeps (after_label rest) (label_keeps rest left))

pub respelled_keeps : (line : List ℕ) → NoEnd line → NoEnd (respelled_line line)
respelled_keeps line all =
    let body = without_return line in
    let rest = after_blanks body in
    let own : NoEnd body = cond_both _ (front_of line) line NoEnd (λ _. All-take IsNoEnd _ line all) (λ _. all) in
    let left : NoEnd rest = All-drop IsNoEnd _ body own in
    All-append IsNoEnd (line_spelling body) (drop (length body) line)
    (sorted_keeps (after_name foundation_names rest) (after_name cell_names rest) rest body
    (name_keeps foundation_names rest left) (name_keeps cell_names rest left) left own)
    (All-drop IsNoEnd (length body) line all)
