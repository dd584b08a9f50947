-- What the loops over the tokens of a piece and the lines of a text keep.
use Rattle.std.proofs.Common.{◌≡◌, ℕ, ◌+◌, ◌<◌, true, false, Some, None, List, [], ◌∷◌, ◌++◌, length, map, take, drop, get_or, sym, ◌∙◌, ap, subst, arith}
use Rattle.std.specs.Prelude.{All, position}
use Rattle.std.specs.List.{join_with_byte, position_or_len, slice_split}
use Rattle.std.proofs.lemmas.List.{append-nil, append_assoc, get_or-take, length-map, length-take}
use Rattle.std.proofs.lemmas.List.Elements.{All-head, All-tail}
use Rattle.std.proofs.lemmas.List.Splits.{length-slice_split}
use Rattle.std.proofs.lemmas.List.Sums.{fails_before_first, passes_at_first, split_at_first}
use Rattle.std.proofs.lemmas.Bool.{cond-true, cond-false}
use Rattle.fc_text.specs.Line.{after_blanks, after_name, cell_names, foundation_names, is_blank, is_line_end}
use Rattle.fc_typed.specs.Respelled.{after_label, before_piece, each_token, line_spelling, respelled_card, respelled_column, respelled_home, sorted_spelling}
use Rattle.fc_typed.proofs.TidyLemmas.{first_at, first_line, join-cons, none_at, one_line}

-- a word holds no blank
abbrev NoBlank : ℕ → Type 0
NoBlank b = is_blank b ≡ false

-- a word before a blank is a token
each_word : (f : List ℕ → List ℕ) (token word after : List ℕ) (b : ℕ) → All NoBlank word → is_blank b ≡ true
    → each_token f token (word ++ b ∷ after) ≡ f (token ++ word) ++ b ∷ each_token f [] after
each_word f token [] after b none blank =
    cond-true _ _ _ blank ∙ ap (λ t. f t ++ b ∷ each_token f [] after) (sym (append-nil token))
each_word f token (x ∷ word) after b none blank =
    cond-false _ _ _ (All-head NoBlank x word none)
    ∙ each_word f (token ++ x ∷ []) word after b (All-tail NoBlank x word none) blank
    ∙ ap (λ t. f t ++ b ∷ each_token f [] after) (append_assoc token (x ∷ []) word)

-- so is a word that ends the piece
each_last : (f : List ℕ → List ℕ) (token word : List ℕ) → All NoBlank word → each_token f token word ≡ f (token ++ word)
each_last f token [] none = ap f (sym (append-nil token))
each_last f token (x ∷ word) none =
    cond-false _ _ _ (All-head NoBlank x word none) ∙ each_last f (token ++ x ∷ []) word (All-tail NoBlank x word none)
    ∙ ap f (append_assoc token (x ∷ []) word)

-- the bytes before the first blank hold none
front_word : (rest : List ℕ) (len : ℕ) → len ≡ position_or_len is_blank rest → All NoBlank (take len rest)
front_word rest len e k d within =
    let less : k < len = omega (arith, within, length-take len rest) in
    ap is_blank (get_or-take len rest k d less) ∙ fails_before_first is_blank rest k d (omega (arith, e, less))

-- the piece so far, once a token and the blank behind it were pushed
pub token_pushed : (f : List ℕ → List ℕ) (whole done rest after mid new : List ℕ) (len : ℕ) → done ++ each_token f [] rest ≡ whole
    → position is_blank rest ≡ Some len → after ≡ drop (len + 1) rest → mid ≡ done ++ f (take len rest)
    → new ≡ mid ++ get_or rest len 0 ∷ [] → new ++ each_token f [] after ≡ whole
token_pushed f whole done rest after mid new len so found left pushed ended =
    let at = first_at is_blank rest len found in
    let word = take len rest in
    let b = get_or rest len 0 in
    let blank : is_blank b ≡ true = ap (λ n. is_blank (get_or rest n 0)) (sym at.1) ∙ passes_at_first is_blank rest 0 at.0 in
    let cut : rest ≡ word ++ b ∷ after =
    subst (λ n. rest ≡ take n rest ++ get_or rest n 0 ∷ drop (n + 1) rest) at.1 (split_at_first is_blank rest 0 at.0)
    ∙ ap (λ t. word ++ b ∷ t) (sym left) in
    let told = each_word f [] word after b (front_word rest len (sym at.1)) blank in
    let tail = each_token f [] after in
    ap (λ t. t ++ tail) (ended ∙ ap (λ t. t ++ b ∷ []) pushed) ∙ append_assoc (done ++ f word) (b ∷ []) tail
    ∙ append_assoc done (f word) (b ∷ tail) ∙ ap (λ t. done ++ t) (sym (ap (each_token f []) cut ∙ told)) ∙ so

-- the whole piece, once its last token was pushed
pub last_token_pushed : (f : List ℕ → List ℕ) (whole done rest new : List ℕ) → done ++ each_token f [] rest ≡ whole
    → position is_blank rest ≡ None → new ≡ done ++ f rest → new ≡ whole
last_token_pushed f whole done rest new so none pushed =
    let far = none_at is_blank rest none in
    let word : All NoBlank rest = λ k d within. fails_before_first is_blank rest k d (omega (arith, far, within)) in
    pushed ∙ ap (λ t. done ++ t) (sym (each_last f [] rest word)) ∙ so

-- the lines of a text, each made what it is told as
abbrev told_each : (List ℕ → List ℕ) → List ℕ → List ℕ
told_each g text = join_with_byte 10 (map g (slice_split is_line_end text))

-- the text so far, once a line and the LF behind it were pushed
pub each_line_pushed : (g : List ℕ → List ℕ) (whole done rest after mid new : List ℕ) (len : ℕ) → done ++ told_each g rest ≡ whole
    → position is_line_end rest ≡ Some len → after ≡ drop (len + 1) rest → mid ≡ done ++ g (take len rest)
    → new ≡ mid ++ 10 ∷ [] → new ++ told_each g after ≡ whole
each_line_pushed g whole done rest after mid new len so found left pushed ended =
    let line = take len rest in
    let others = map g (slice_split is_line_end after) in
    let tail = join_with_byte 10 others in
    let some : 0 < length others = omega (arith, length-map (slice_split is_line_end after) g, length-slice_split is_line_end after) in
    let cut : told_each g rest ≡ g line ++ 10 ∷ tail =
    ap (λ ls. join_with_byte 10 (map g ls)) (first_line rest after len found left) ∙ join-cons (g line) others some in
    ap (λ t. t ++ tail) (ended ∙ ap (λ t. t ++ 10 ∷ []) pushed) ∙ append_assoc (done ++ g line) (10 ∷ []) tail
    ∙ append_assoc done (g line) (10 ∷ tail) ∙ ap (λ t. done ++ t) (sym cut) ∙ so

-- the whole text, once its last line was pushed
pub last_each_pushed : (g : List ℕ → List ℕ) (whole done rest new : List ℕ) → done ++ told_each g rest ≡ whole
    → position is_line_end rest ≡ None → new ≡ done ++ g rest → new ≡ whole
last_each_pushed g whole done rest new so none pushed =
    pushed ∙ ap (λ t. done ++ t) (sym (ap (λ ls. join_with_byte 10 (map g ls)) (one_line rest none))) ∙ so

-- a line is respelled by the name that it begins with
pub spelling_homes : (line piece : List ℕ) → after_name foundation_names (after_blanks line) ≡ Some piece
    → line_spelling line ≡ before_piece piece line ++ each_token respelled_home [] piece
spelling_homes line piece found =
    ap (λ o. sorted_spelling o (after_name cell_names (after_blanks line)) (after_blanks line) line) found

pub spelling_cells : (line piece : List ℕ) → after_name foundation_names (after_blanks line) ≡ None
    → after_name cell_names (after_blanks line) ≡ Some piece
    → line_spelling line ≡ before_piece piece line ++ each_token respelled_card [] piece
spelling_cells line piece none found =
    ap (λ o. sorted_spelling o (after_name cell_names (after_blanks line)) (after_blanks line) line) none
    ∙ ap (λ o. sorted_spelling None o (after_blanks line) line) found

pub spelling_column : (line : List ℕ) → after_name foundation_names (after_blanks line) ≡ None
    → after_name cell_names (after_blanks line) ≡ None
    → line_spelling line ≡ before_piece (after_label (after_blanks line)) line ++ respelled_column (after_label (after_blanks line))
spelling_column line none other =
    ap (λ o. sorted_spelling o (after_name cell_names (after_blanks line)) (after_blanks line) line) none
    ∙ ap (λ o. sorted_spelling None o (after_blanks line) line) other
