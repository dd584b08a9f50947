-- Printed tokens and lines are read one by one as they were printed.
use Rattle.std.proofs.Common.{true, false, Bool, ◌==◌, ◌≡◌, ℕ, zero, suc, ◌-◌, ◌<◌, List, [], ◌∷◌, ◌++◌, length, map, cond, refl, ◌∙◌, ap, append_assoc, arith}
use Rattle.std.specs.Prelude.{filter, slice_index}
use Rattle.std.specs.List.{flat_map}
use Rattle.std.proofs.lemmas.List.{append-nil}
use Rattle.std.proofs.lemmas.Bool.Decides.{nat_tests}
use Rattle.fc_cards.specs.Texts.{with_line_end}
use Rattle.fc_text.specs.Line.{parts_of, begin_part, is_line_end, is_blank, is_token, tokens_of, without_return, lines_of}
use Rattle.fc_text.specs.Printed.{entries_text}
use Rattle.fc_text.proofs.PartLemmas.{tokens-gap}

-- each byte is above the bound
abbrev pub AllAbove : ℕ → List ℕ → Type 0
AllAbove k [] = Unit {0}
AllAbove k (b ∷ bytes) = (k < b) × AllAbove k bytes

pub above-append : (k : ℕ) (xs ys : List ℕ) → AllAbove k xs → AllAbove k ys → AllAbove k (xs ++ ys)
above-append k [] ys p q = q
above-append k (x ∷ xs) ys p q = (p.0, above-append k xs ys p.1 q)

above-lower : (xs : List ℕ) → AllAbove 32 xs → AllAbove 31 xs
above-lower [] p = tt
above-lower (x ∷ xs) p = let here = p.0 in (omega arith, above-lower xs p.1)

-- a part that holds no end, and the end behind it
parts_of-end : (p : ℕ → Bool) (k : ℕ) → ((b : ℕ) → k < b → p b ≡ false) → (part : List ℕ) (e : ℕ) (rest : List ℕ) → AllAbove k part
    → p e ≡ true → parts_of p (part ++ e ∷ rest) ≡ part ∷ parts_of p rest
parts_of-end p k other [] e rest above here = rw here refl
parts_of-end p k other (b ∷ bytes) e rest above here =
    ap (λ t. cond t ([] ∷ parts_of p (bytes ++ e ∷ rest)) (begin_part b (parts_of p (bytes ++ e ∷ rest)))) (other b above.0)
    ∙ ap (begin_part b) (parts_of-end p k other bytes e rest above.1 here)

-- a last part that holds no end
parts_of-last : (p : ℕ → Bool) (k : ℕ) → ((b : ℕ) → k < b → p b ≡ false) → (b : ℕ) (bytes : List ℕ) → AllAbove k (b ∷ bytes)
    → parts_of p (b ∷ bytes) ≡ (b ∷ bytes) ∷ []
parts_of-last p k other b [] above = ap (λ t. cond t ([] ∷ []) ((b ∷ []) ∷ [])) (other b above.0)
parts_of-last p k other b (d ∷ bytes) above =
    ap (λ t. cond t ([] ∷ parts_of p (d ∷ bytes)) (begin_part b (parts_of p (d ∷ bytes)))) (other b above.0)
    ∙ ap (begin_part b) (parts_of-last p k other d bytes above.1)

no_blank : (b : ℕ) → 32 < b → is_blank b ≡ false
no_blank b above = grind (arith, nat_tests)

no_line_end : (b : ℕ) → 31 < b → is_line_end b ≡ false
no_line_end b above = grind (arith, nat_tests)

-- printed tokens have no blank, and aren't empty
abbrev pub IsPrinted : List ℕ → Type 0
IsPrinted [] = ⊥
IsPrinted (b ∷ bytes) = AllAbove 32 (b ∷ bytes)

abbrev pub ArePrinted : List (List ℕ) → Type 0
ArePrinted [] = Unit {0}
ArePrinted (token ∷ tokens) = IsPrinted token × ArePrinted tokens

tokens_of-first : (token : List ℕ) (tokens : List (List ℕ)) → IsPrinted token → ArePrinted tokens
    → tokens_of (token ++ entries_text tokens) ≡ token ∷ tokens
tokens_of-first [] tokens p q = absurd p
tokens_of-first (b ∷ bytes) [] p q =
    ap tokens_of (append-nil (b ∷ bytes)) ∙ ap (filter is_token) (parts_of-last is_blank 32 no_blank b bytes p)
tokens_of-first (b ∷ bytes) (u ∷ us) p q =
    ap (filter is_token) (parts_of-end is_blank 32 no_blank (b ∷ bytes) 32 (u ++ entries_text us) p refl)
    ∙ ap (λ ts. (b ∷ bytes) ∷ ts) (tokens_of-first u us q.0 q.1)

-- the tokens of printed entries
pub tokens_of-entries : (tokens : List (List ℕ)) → ArePrinted tokens → tokens_of (entries_text tokens) ≡ tokens
tokens_of-entries [] p = refl
tokens_of-entries (token ∷ tokens) p =
    tokens-gap is_blank 32 (token ++ entries_text tokens) refl ∙ tokens_of-first token tokens p.0 p.1

pub entries-above : (tokens : List (List ℕ)) → ArePrinted tokens → AllAbove 31 (entries_text tokens)
entries-above [] p = tt
entries-above ([] ∷ tokens) p = absurd p.0
entries-above ((b ∷ bytes) ∷ tokens) p =
    (omega arith, above-append 31 (b ∷ bytes) (entries_text tokens) (above-lower (b ∷ bytes) p.0) (entries-above tokens p.1))

-- lines that hold no end of a line
abbrev pub AreLines : List (List ℕ) → Type 0
AreLines [] = Unit {0}
AreLines (line ∷ lines) = AllAbove 31 line × AreLines lines

parts_of-lines : (lines : List (List ℕ)) → AreLines lines → parts_of is_line_end (flat_map with_line_end lines) ≡ lines
parts_of-lines [] p = refl
parts_of-lines (line ∷ lines) p =
    ap (parts_of is_line_end) (append_assoc line (10 ∷ []) (flat_map with_line_end lines))
    ∙ parts_of-end is_line_end 31 no_line_end line 10 (flat_map with_line_end lines) p.0 refl
    ∙ ap (λ ls. line ∷ ls) (parts_of-lines lines p.1)

no_return : (line : List ℕ) (i : ℕ) → AllAbove 31 line → (slice_index line i == 13) ≡ false
no_return [] i p = refl
no_return (b ∷ bytes) zero p = let above = p.0 in grind (arith, nat_tests)
no_return (b ∷ bytes) (suc i) p = no_return bytes i p.1

without_return-lines : (lines : List (List ℕ)) → AreLines lines → map without_return lines ≡ lines
without_return-lines [] p = refl
without_return-lines (line ∷ lines) p =
    let same : without_return line ≡ line = rw (no_return line (length line - 1) p.0) refl in
    ap (λ l. l ∷ map without_return lines) same ∙ ap (λ ls. line ∷ ls) (without_return-lines lines p.1)

pub lines_of-lines : (lines : List (List ℕ)) → AreLines lines → lines_of (flat_map with_line_end lines) ≡ lines
lines_of-lines lines p = ap (map without_return) (parts_of-lines lines p) ∙ without_return-lines lines p
