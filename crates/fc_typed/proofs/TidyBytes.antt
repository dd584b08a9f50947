-- Texts without colons, commas and comments, none of whose tokens is respelled, are tidy already.
use Rattle.std.proofs.Common.{◌≡◌, ℕ, zero, suc, ◌+◌, ◌-◌, ◌<◌, ◌==◌, ◌||◌, ◌&&◌, Bool, true, false, not, cond, Some, None, List, [], ◌∷◌, ◌++◌, length, map, take, drop, refl, sym, ◌∙◌, ap, subst, ⊎_elim, arith}
use Rattle.std.specs.Prelude.{All, nat_lt, slice_index}
use Rattle.std.specs.Char.{to_ascii_lowercase}
use Rattle.std.specs.List.{join_with_byte, position_or_len, slice_split}
use Rattle.std.proofs.lemmas.List.{drop_at}
use Rattle.std.proofs.lemmas.List.Elements.{All-nil, All-cons, All-head, All-tail, All-drop, All-same, All-take, All-weaker}
use Rattle.std.proofs.lemmas.List.Splits.{join_with_byte-slice_split}
use Rattle.std.proofs.lemmas.Bool.{and_parts, and_right, cond_both, cond-false, or_from}
use Rattle.std.proofs.lemmas.Bool.Decides.{nat_tests}
use Rattle.std.proofs.lemmas.Slice.Eq.{bytes_eq-Decides}
use Rattle.fc_text.specs.Line.{after_blanks, after_colon, after_name, begins_with, cell_names, foundation_names, is_blank, is_line_end, parts_of, tokens_of, without_return}
use Rattle.fc_text.proofs.PartLemmas.{tokens-gap}
use Rattle.fc_typed.specs.Comment.{is_column_digit, is_number_mark, more_cell_names, more_home_names, mark_colon, without_comments}
use Rattle.fc_typed.specs.Tidy.{after_mark, is_column_line, tidy, tidy_lines, without_label, without_signs}
use Rattle.fc_typed.specs.Respelled.{after_label, each_token, is_dash_alone, line_spelling, respelled_text, respelled_card, respelled_column}
use Rattle.fc_typed.specs.Title.{any_token, has_word, is_board_token, without_title}
use Rattle.fc_typed.specs.Unit.{in_bytes}
use Rattle.fc_typed.proofs.KeptLemmas.{each_stays}
use Rattle.fc_typed.proofs.LineLemmas.{Stays, label_or_not, labels_stay, parts-split, trimmed-all}
use Rattle.fc_typed.proofs.MeaningLemmas.{Kept, kept_line, line_stays, pieces_stay}
use Rattle.fc_typed.proofs.ReadLemmas.{IsLow, end_low, is_low, low_below, parts_all}
use Rattle.fc_typed.proofs.SaidLemmas.{SaysItself, said_stay, says_itself}
use Rattle.fc_typed.proofs.SortedLemmas.{by_kind}
use Rattle.fc_typed.proofs.StayLemmas.{ascii_stays}
use Rattle.fc_typed.proofs.TitleLemmas.{Untitled, untitled_stay}
use Rattle.fc_typed.proofs.UnitLemmas.{in_bytes_stays}

-- a byte of ASCII that is no colon, no comma, no CR and no mark of a number, and begins no comment
abbrev pub is_tidy_byte : ℕ → Bool
is_tidy_byte b = is_low b && (not (b == 58) && (not (b == 13) && not (is_number_mark b)))

abbrev IsTidyByte : ℕ → Type 0
IsTidyByte b = is_tidy_byte b ≡ true

-- a text is of such bytes
abbrev pub are_tidy : List ℕ → Bool
are_tidy [] = true
are_tidy (b ∷ bytes) = is_tidy_byte b && are_tidy bytes

-- a line of such bytes, whose tokens are no cards told suit first, no dash alone, and have no word
pub record IsTidyLine (line : List ℕ) : Type 0 where
  pub bytes : are_tidy line ≡ true
  pub tokens : map respelled_card (tokens_of line) ≡ tokens_of line
  pub dash : is_dash_alone (tokens_of line) ≡ false
  pub word : any_token has_word (tokens_of line) ≡ false

tidy_bytes : (bytes : List ℕ) → are_tidy bytes ≡ true → All IsTidyByte bytes
tidy_bytes [] e = All-nil IsTidyByte
tidy_bytes (b ∷ bytes) e =
    let both = and_parts (is_tidy_byte b) (are_tidy bytes) e in
    All-cons IsTidyByte b bytes both.0 (tidy_bytes bytes both.1)

-- what such a byte isn't
tidy_low : (b : ℕ) → IsTidyByte b → IsLow b
tidy_low b tidy = (and_parts (is_low b) _ tidy).0

tidy_no_return : (b : ℕ) → IsTidyByte b → (b == 13) ≡ false
tidy_no_return b tidy = grind (arith, nat_tests)

tidy_no_colon : (b : ℕ) → IsTidyByte b → (b == 58) ≡ false
tidy_no_colon b tidy = grind (arith, nat_tests)

tidy_no_mark : (b : ℕ) → IsTidyByte b → is_number_mark b ≡ false
tidy_no_mark b tidy = grind (arith, nat_tests)

lower_no_colon : (b : ℕ) → IsTidyByte b → (to_ascii_lowercase b == 58) ≡ false
lower_no_colon b tidy = grind (arith, nat_tests)

-- each name has a colon, so a text without one begins with none
abbrev has_colon : List ℕ → Bool
has_colon [] = false
has_colon (b ∷ bytes) = (b == 58) || has_colon bytes

abbrev have_colons : List (List ℕ) → Bool
have_colons [] = true
have_colons (name ∷ names) = has_colon (map to_ascii_lowercase name) && have_colons names

foundations_colons : have_colons foundation_names ≡ true
foundations_colons = refl

cells_colons : have_colons cell_names ≡ true
cells_colons = refl

more_colons : have_colons more_cell_names ≡ true
more_colons = refl

more_home_colons : have_colons more_home_names ≡ true
more_home_colons = refl

no_colon : (bytes : List ℕ) → All IsTidyByte bytes → has_colon (map to_ascii_lowercase bytes) ≡ false
no_colon [] tidy = refl
no_colon (b ∷ bytes) tidy =
    or_from _ _ (lower_no_colon b (All-head IsTidyByte b bytes tidy)) (no_colon bytes (All-tail IsTidyByte b bytes tidy))

unnamed : (names : List (List ℕ)) (rest : List ℕ) → have_colons names ≡ true → All IsTidyByte rest → after_name names rest ≡ None
unnamed [] rest colons tidy = refl
unnamed (name ∷ names) rest colons tidy =
    let both = and_parts (has_colon (map to_ascii_lowercase name)) (have_colons names) colons in
    let front = take (length name) rest in
    cond_both (begins_with rest name) (Some (drop (length name) rest)) (after_name names rest) (λ found. found ≡ None)
    (λ fits.
    let same = (bytes_eq-Decides (map to_ascii_lowercase front) (map to_ascii_lowercase name)).0 fits in
    absurd (cc (sym (no_colon front (All-take IsTidyByte (length name) rest tidy)) ∙ ap has_colon same ∙ both.0)))
    (λ _. unnamed names rest both.1 tidy)

-- nor with a label
no_label : (rest : List ℕ) → All IsTidyByte rest → after_label rest ≡ rest
no_label [] tidy = refl
no_label (b ∷ []) tidy = cond-false _ [] (b ∷ []) (tidy_no_colon b (All-head IsTidyByte b [] tidy))
no_label (b ∷ c ∷ bytes) tidy =
    let second = tidy_no_colon c (All-head IsTidyByte c bytes (All-tail IsTidyByte b (c ∷ bytes) tidy)) in
    cond-false _ bytes (after_colon (b ∷ c ∷ bytes)) (and_right (nat_lt 48 b) _ (and_right (nat_lt b 57) _ second))
    ∙ cond-false _ (c ∷ bytes) (b ∷ c ∷ bytes) (tidy_no_colon b (All-head IsTidyByte b (c ∷ bytes) tidy))

no_number : (before : ℕ) (line : List ℕ) → All IsTidyByte line → without_label before line ≡ line
no_number before line tidy = ⊎_elim
    (λ found.
    let blanks = found.blanks in
    let rest = (49 + before) ∷ 58 ∷ found.rest in
    let shown : All IsTidyByte (drop (length blanks) (blanks ++ rest)) =
    All-drop IsTidyByte (length blanks) (blanks ++ rest) (subst (All IsTidyByte) found.parts tidy) in
    let others : All IsTidyByte rest = subst (All IsTidyByte) (drop_at blanks rest (length blanks) refl) shown in
    let colon : IsTidyByte 58 = All-head IsTidyByte 58 found.rest (All-tail IsTidyByte (49 + before) (58 ∷ found.rest) others) in
    absurd (cc colon))
    (λ same. same) (label_or_not before line)

-- so a line of such bytes loses no label
told_tidy : (line : List ℕ) → All IsTidyByte line → Stays line
told_tidy line tidy before =
    cond_both (is_column_line line) (without_label before line) line (λ t. t ≡ line) (λ _. no_number before line tidy) (λ _. refl)

-- nor is it numbered
unnumbered : (piece : List ℕ) → All IsTidyByte piece → mark_colon piece ≡ piece
unnumbered [] tidy = refl
unnumbered (b ∷ []) tidy = refl
unnumbered (b ∷ c ∷ bytes) tidy =
    cond-false _ (b ∷ 58 ∷ bytes) (b ∷ c ∷ bytes)
    (and_right (is_column_digit b) _ (tidy_no_mark c (All-head IsTidyByte c bytes (All-tail IsTidyByte b (c ∷ bytes) tidy))))

-- and says itself
said_tidy : (line : List ℕ) → All IsTidyByte line → SaysItself line
said_tidy line tidy =
    says_itself line (All-weaker IsTidyByte IsLow tidy_low line tidy)
    (unnamed more_cell_names (after_blanks line) more_colons (All-drop IsTidyByte _ line tidy))
    (unnamed more_home_names (after_blanks line) more_home_colons (All-drop IsTidyByte _ line tidy))
    (unnumbered (after_blanks line) (All-drop IsTidyByte _ line tidy))

-- blanks before tokens are none of them
tokens_after : (line : List ℕ) → tokens_of (after_blanks line) ≡ tokens_of line
tokens_after [] = refl
tokens_after (b ∷ line) =
    let n = position_or_len (λ x. not (is_blank x)) line in
    let e : suc n ≡ 1 + n = omega arith in
    elim (is_blank b) as (λ t. is_blank b ≡ t → tokens_of (drop (cond (not (not t)) (1 + n) 0) (b ∷ line)) ≡ tokens_of (b ∷ line)) [
      | true ↦ λ blank. ap (λ k. tokens_of (drop k (b ∷ line))) (sym e) ∙ tokens_after line ∙ sym (tokens-gap is_blank b line blank)
      | false ↦ λ _. refl
    ] refl

-- where the tokens stay, so does each
each_same : (f : List ℕ → List ℕ) (tokens : List (List ℕ)) → map f tokens ≡ tokens → All (λ token. f token ≡ token) tokens
each_same f [] same = All-nil (λ token. f token ≡ token)
each_same f (token ∷ tokens) same =
    let first : f token ≡ token = cc same in
    let others : map f tokens ≡ tokens = cc same in
    All-cons (λ t. f t ≡ t) token tokens first (each_same f tokens others)

-- such a line isn't respelled
column_tidy : (line : List ℕ) → IsTidyLine line → respelled_column (after_blanks line) ≡ after_blanks line
column_tidy line tidy =
    let piece = after_blanks line in
    let tokens = tokens_after line in
    cond-false _ [] (each_token respelled_card [] piece) (ap is_dash_alone tokens ∙ tidy.dash)
    ∙ each_stays respelled_card refl piece
    (All-same (λ t. respelled_card t ≡ t) (tokens_of piece) (tokens_of line) tokens (each_same respelled_card (tokens_of line) tidy.tokens))

spelling_tidy : (line : List ℕ) → IsTidyLine line → line_spelling line ≡ line
spelling_tidy line tidy =
    let rest = after_blanks line in
    let bytes : All IsTidyByte rest = All-drop IsTidyByte _ line (tidy_bytes line tidy.bytes) in
    by_kind line (λ t. t ≡ line)
    (λ piece found ends. absurd (cc (sym found ∙ unnamed foundation_names rest foundations_colons bytes)))
    (λ piece none found ends. absurd (cc (sym found ∙ unnamed cell_names rest cells_colons bytes)))
    (λ none other ends. line_stays line (after_label rest) _ ends
    (subst (λ t. respelled_column t ≡ t) (sym (no_label rest bytes)) (column_tidy line tidy)))

-- and ends with no CR
no_return : (line : List ℕ) (i : ℕ) → All IsTidyByte line → (slice_index line i == 13) ≡ false
no_return [] i tidy = refl
no_return (b ∷ line) zero tidy = tidy_no_return b (All-head IsTidyByte b line tidy)
no_return (b ∷ line) (suc i) tidy = no_return line i (All-tail IsTidyByte b line tidy)

body_tidy : (line : List ℕ) → IsTidyLine line → without_return line ≡ line
body_tidy line tidy = cond-false _ _ line (no_return line (length line - 1) (tidy_bytes line tidy.bytes))

kept_tidy : (line : List ℕ) → IsTidyLine line → Kept line
kept_tidy line tidy =
    kept_line line (subst (λ t. line_spelling t ≡ t) (sym (body_tidy line tidy)) (spelling_tidy line tidy))

-- it is no title
untitled_tidy : (line : List ℕ) → IsTidyLine line → Untitled line
untitled_tidy line tidy =
    let bytes : All IsTidyByte (after_blanks line) = All-drop IsTidyByte _ line (tidy_bytes line tidy.bytes) in
    let tokens : tokens_of (after_label (after_blanks (without_return line))) ≡ tokens_of line =
    ap (λ t. tokens_of (after_label (after_blanks t))) (body_tidy line tidy) ∙ ap tokens_of (no_label (after_blanks line) bytes) ∙ tokens_after line in
    and_right (is_column_line line) _
    (ap (λ t. t && not (any_token is_board_token (tokens_of (after_label (after_blanks (without_return line))))))
    (ap (any_token has_word) tokens ∙ tidy.word))

-- nor does the empty line change, which stands behind the last LF
none_tidy : IsTidyLine []
none_tidy = record { bytes = refl; tokens = refl; dash = refl; word = refl }

-- a text of such lines is tidy already
pub tidy_already : (text : List ℕ) → All IsTidyLine (parts_of is_line_end text) → tidy text ≡ text
tidy_already text lines =
    let pieces = slice_split is_line_end text in
    let joined = join_with_byte-slice_split 10 text in
    let each : All IsTidyLine pieces =
    trimmed-all IsTidyLine pieces none_tidy (subst (All IsTidyLine) (parts-split is_line_end text) lines) in
    let bytes : (line : List ℕ) → IsTidyLine line → All IsTidyByte line = λ line tidy. tidy_bytes line tidy.bytes in
    let low : All IsLow text =
    parts_all IsLow is_line_end end_low text
    (All-weaker IsTidyLine (All IsLow) (λ line tidy. All-weaker IsTidyByte IsLow tidy_low line (bytes line tidy)) (parts_of is_line_end text) lines) in
    let units : in_bytes text ≡ text =
    in_bytes_stays text (λ a rest e high.
    let here = low_below a (All-head IsLow a rest (subst (All IsLow) e low)) in
    omega (arith, here, high)) in
    let signs : without_signs 0 (after_mark text) ≡ text = ascii_stays text (All-weaker IsLow (λ b. b < 128) low_below text low) in
    let said : without_comments text ≡ text =
    ap (join_with_byte 10) (said_stay pieces (All-weaker IsTidyLine SaysItself (λ line tidy. said_tidy line (bytes line tidy)) pieces each)) ∙ joined in
    let bare : without_title text ≡ text =
    ap (join_with_byte 10) (untitled_stay pieces (All-weaker IsTidyLine Untitled untitled_tidy pieces each)) ∙ joined in
    let spelled : respelled_text text ≡ text =
    ap (join_with_byte 10) (pieces_stay pieces (All-weaker IsTidyLine Kept kept_tidy pieces each)) ∙ joined in
    let shown : tidy_lines text ≡ text =
    ap (join_with_byte 10) (labels_stay 0 pieces (All-weaker IsTidyLine Stays (λ line tidy. told_tidy line (bytes line tidy)) pieces each)) ∙ joined in
    ap (λ t. tidy_lines (respelled_text (without_title (without_comments (without_signs 0 (after_mark t)))))) units
    ∙ ap (λ t. tidy_lines (respelled_text (without_title (without_comments t)))) signs
    ∙ ap (λ t. tidy_lines (respelled_text (without_title t))) said ∙ ap (λ t. tidy_lines (respelled_text t)) bare
    ∙ ap tidy_lines spelled ∙ shown
