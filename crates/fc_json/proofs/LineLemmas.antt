-- No byte of an object's text ends a line.
use Rattle.std.proofs.Common.{◌≡◌, ◌<◌, ◌≤◌, ◌+◌, ◌/◌, ◌%◌, ◌^◌, ◌==◌, ◌||◌, ℕ, Bool, true, false, cond, List, [], ◌∷◌, ◌++◌, Option, Some, None, Ordering, Less, Equal, Greater, codes, arith, refl, subst, sym}
use Rattle.std.specs.Prelude.{IfSome, All, decimal, flat_map, nat_lt}
use Rattle.std.specs.Borrow.{Bor}
use Rattle.std.specs.Char.{digit_char}
use Rattle.std.specs.Ordering.{match_ordering}
use Rattle.std.proofs.lemmas.Fmt.{decimal_by_steps}
use Rattle.std.proofs.lemmas.List.Elements.{All-append, All-cons, All-nil}
use Rattle.json.specs.Print.{escape_byte, escape_letter, quoted}
use Rattle.serde_json.specs.Data.{Data, Members, no_members, member, number, object, put, string, unsigned}
use Rattle.serde_json.specs.Written.{comma_if, compact_text, members_text}
use Rattle.fc_json.specs.Laws.{HasListNumbers, HasNumbers, IsNumber, IsOneLine, ObjectsAreLines}
use Rattle.fc_json.specs.Objects.{board_members, list_members, with_number, with_text}
use Rattle.fc_json.specs.declared.objects.ToldBoard.{ToldBoard}
use Rattle.fc_json.specs.declared.reviews.ToldList.{ToldList}

-- the byte ends no line
abbrev IsInside : ℕ → Type 0
IsInside b = b ≡ 10 → ⊥

nothing : IsOneLine []
nothing = All-nil IsInside

one : (x : ℕ) (xs : List ℕ) → IsInside x → IsOneLine xs → IsOneLine (x ∷ xs)
one x xs here rest = All-cons IsInside x xs here rest

both : (xs ys : List ℕ) → IsOneLine xs → IsOneLine ys → IsOneLine (xs ++ ys)
both xs ys one_part other = All-append IsInside xs ys one_part other

number_by : (t : Bool) (a b : ℕ) → (t ≡ true → IsInside a) → (t ≡ false → IsInside b) → IsInside (cond t a b)
number_by true a b p q = p refl
number_by false a b p q = q refl

text_by : (t : Bool) (a b : List ℕ) → (t ≡ true → IsOneLine a) → (t ≡ false → IsOneLine b) → IsOneLine (cond t a b)
text_by true a b p q = p refl
text_by false a b p q = q refl

inside_digit : (d : ℕ) → IsInside (digit_char d)
inside_digit d = number_by (nat_lt d 10) (48 + d) (87 + d) (λ low ten. omega (arith, ten)) (λ high ten. omega (arith, ten))

-- a line's end is none of the two signs that are escaped by themselves, and not from 32 on
no_sign : (x : ℕ) → ((x == 34) || (x == 92)) ≡ true → IsInside x
no_sign x is ten =
    let at_ten : ((10 == 34) || (10 == 92)) ≡ true = subst (λ y. ((y == 34) || (y == 92)) ≡ true) ten is in
    absurd (cc at_ten)

no_low : (x : ℕ) → nat_lt x 32 ≡ false → IsInside x
no_low x high ten =
    let at_ten : nat_lt 10 32 ≡ false = subst (λ y. nat_lt y 32 ≡ false) ten high in
    absurd (cc at_ten)

inside_letter : (x : ℕ) → IsInside (escape_letter x)
inside_letter x =
    number_by ((x == 34) || (x == 92)) x (cond (x == 8) 98 (cond (x == 12) 102 (cond (x == 10) 110 (cond (x == 13) 114 (cond (x == 9) 116 0)))))
    (no_sign x) (λ other.
    number_by (x == 8) 98 (cond (x == 12) 102 (cond (x == 10) 110 (cond (x == 13) 114 (cond (x == 9) 116 0)))) (λ is ten. omega (arith, ten)) (λ other.
    number_by (x == 12) 102 (cond (x == 10) 110 (cond (x == 13) 114 (cond (x == 9) 116 0))) (λ is ten. omega (arith, ten)) (λ other.
    number_by (x == 10) 110 (cond (x == 13) 114 (cond (x == 9) 116 0)) (λ is ten. omega (arith, ten)) (λ other.
    number_by (x == 13) 114 (cond (x == 9) 116 0) (λ is ten. omega (arith, ten)) (λ other.
    number_by (x == 9) 116 0 (λ is ten. omega (arith, ten)) (λ other ten. omega (arith, ten)))))))

inside : (x : ℕ) → 10 < x → IsInside x
inside x above ten = omega (arith, above, ten)

escaped_line : (x : ℕ) → IsOneLine (escape_byte x)
unfolding escape_byte
escaped_line x =
    text_by (nat_lt 0 (escape_letter x)) (92 ∷ escape_letter x ∷ [])
    (cond (nat_lt x 32) (92 ∷ 117 ∷ 48 ∷ 48 ∷ digit_char (x / 16) ∷ digit_char (x % 16) ∷ []) (x ∷ []))
    (λ is. one 92 (escape_letter x ∷ []) (inside 92 (omega arith)) (one (escape_letter x) [] (inside_letter x) nothing))
    (λ other. text_by (nat_lt x 32) (92 ∷ 117 ∷ 48 ∷ 48 ∷ digit_char (x / 16) ∷ digit_char (x % 16) ∷ []) (x ∷ [])
    (λ low. one 92 (117 ∷ 48 ∷ 48 ∷ digit_char (x / 16) ∷ digit_char (x % 16) ∷ []) (inside 92 (omega arith))
    (one 117 (48 ∷ 48 ∷ digit_char (x / 16) ∷ digit_char (x % 16) ∷ []) (inside 117 (omega arith))
    (one 48 (48 ∷ digit_char (x / 16) ∷ digit_char (x % 16) ∷ []) (inside 48 (omega arith))
    (one 48 (digit_char (x / 16) ∷ digit_char (x % 16) ∷ []) (inside 48 (omega arith))
    (one (digit_char (x / 16)) (digit_char (x % 16) ∷ []) (inside_digit (x / 16))
    (one (digit_char (x % 16)) [] (inside_digit (x % 16)) nothing))))))
    (λ high. one x [] (no_low x high) nothing))

escape_line : (s : List ℕ) → IsOneLine (flat_map escape_byte s)
escape_line [] = nothing
escape_line (x ∷ s) = both (escape_byte x) (flat_map escape_byte s) (escaped_line x) (escape_line s)

quoted_line : (s : List ℕ) → IsOneLine (quoted s)
quoted_line s =
    one 34 (flat_map escape_byte s ++ 34 ∷ []) (inside 34 (omega arith))
    (both (flat_map escape_byte s) (34 ∷ []) (escape_line s) (one 34 [] (inside 34 (omega arith)) nothing))

digit_line : (n : ℕ) → n < 10 → IsOneLine ((48 + n) ∷ [])
digit_line n small = one (48 + n) [] (λ ten. omega (arith, ten)) nothing

decimal_line : (n : ℕ) → n < 2 ^ 64 → IsOneLine (decimal n)
decimal_line n small =
    decimal_by_steps (λ m ds. IsOneLine ds) digit_line
    (λ m ds much before. both ds ((48 + m % 10) ∷ []) before (digit_line (m % 10) (omega arith))) n small

-- the text of each member's value is one line
abbrev AreLines : Members → Type 0
AreLines no_members = Unit {0}
AreLines (member k d ms) = IsOneLine (compact_text d) × AreLines ms

comma_line : (later : Bool) → IsOneLine (comma_if later)
comma_line true = one 44 [] (inside 44 (omega arith)) nothing
comma_line false = nothing

members_line : (later : Bool) (ms : Members) → AreLines ms → IsOneLine (members_text later ms)
members_line later no_members all = one 125 [] (inside 125 (omega arith)) nothing
members_line later (member k d ms) all =
    both (comma_if later) (quoted k ++ 58 ∷ (compact_text d ++ members_text true ms)) (comma_line later)
    (both (quoted k) (58 ∷ (compact_text d ++ members_text true ms)) (quoted_line k)
    (one 58 (compact_text d ++ members_text true ms) (inside 58 (omega arith))
    (both (compact_text d) (members_text true ms) all.0 (members_line true ms all.1))))

object_line : (ms : Members) → AreLines ms → IsOneLine (compact_text (object ms))
object_line ms all = one 123 (members_text false ms) (inside 123 (omega arith)) (members_line false ms all)

lines_by : (o : Ordering) (a b c : Members) → AreLines a → AreLines b → AreLines c → AreLines (match_ordering o a b c)
lines_by Less a b c p q r = p
lines_by Equal a b c p q r = q
lines_by Greater a b c p q r = r

put_lines : (name : List ℕ) (d : Data) (members : Members) → IsOneLine (compact_text d) → AreLines members → AreLines (put name d members)
put_lines name d no_members here all = (here, tt)
put_lines name d (member l e ms) here all =
    lines_by _ (member name d (member l e ms)) (member l d ms) (member l e (put name d ms))
    (here, all) (here, all.1) (all.0, put_lines name d ms here all.1)

number_lines : (name : List ℕ) (n : Option ℕ) (members : Members) → IfSome n IsNumber → AreLines members → AreLines (with_number name n members)
number_lines name (Some n) ms small all = put_lines name (number (unsigned n)) ms (decimal_line n small) all
number_lines name None ms small all = all

text_lines : (name : List ℕ) (text : Option (Bor (List ℕ))) (members : Members) → AreLines members → AreLines (with_text name text members)
text_lines name (Some text) ms all = put_lines name (string text.now) ms (quoted_line text.now) all
text_lines name None ms all = all

board_lines : (told : ToldBoard) → HasNumbers told → AreLines (board_members told)
board_lines told fits =
    let ms0 = with_number (codes "turns") told.turns no_members in
    let all0 : AreLines ms0 = number_lines (codes "turns") told.turns no_members fits.turns tt in
    let ms1 = with_number (codes "stored") told.stored ms0 in
    let all1 : AreLines ms1 = number_lines (codes "stored") told.stored ms0 fits.stored all0 in
    let ms2 = with_number (codes "open") told.most_open ms1 in
    let all2 : AreLines ms2 = number_lines (codes "open") told.most_open ms1 fits.most_open all1 in
    let ms3 = with_number (codes "moves") told.moves ms2 in
    let all3 : AreLines ms3 = number_lines (codes "moves") told.moves ms2 fits.moves all2 in
    let ms4 = with_text (codes "list") told.list ms3 in
    let all4 : AreLines ms4 = text_lines (codes "list") told.list ms3 all3 in
    let ms5 = with_text (codes "hint") told.hint ms4 in
    let all5 : AreLines ms5 = text_lines (codes "hint") told.hint ms4 all4 in
    let ms6 = with_number (codes "floor") told.floor ms5 in
    let all6 : AreLines ms6 = number_lines (codes "floor") told.floor ms5 fits.floor all5 in
    let ms7 = with_text (codes "fault") told.fault ms6 in
    let all7 : AreLines ms7 = text_lines (codes "fault") told.fault ms6 all6 in
    let ms8 = with_number (codes "deal") told.deal ms7 in
    let all8 : AreLines ms8 = number_lines (codes "deal") told.deal ms7 fits.deal all7 in
    let ms9 = with_number (codes "by_hand") told.by_hand ms8 in
    let all9 : AreLines ms9 = number_lines (codes "by_hand") told.by_hand ms8 fits.by_hand all8 in
    let ms10 = with_number (codes "budget") told.budget ms9 in
    let all10 : AreLines ms10 = number_lines (codes "budget") told.budget ms9 fits.budget all9 in
    let ms11 = with_text (codes "board") told.board ms10 in
    let all11 : AreLines ms11 = text_lines (codes "board") told.board ms10 all10 in
    text_lines (codes "answer") (Some told.answer) ms11 all11

list_lines : (told : ToldList) → HasListNumbers told → AreLines (list_members told)
list_lines told fits =
    let ms0 = with_text (codes "review") (Some told.review) no_members in
    let all0 : AreLines ms0 = text_lines (codes "review") (Some told.review) no_members tt in
    let ms1 = with_number (codes "moves") told.moves ms0 in
    let all1 : AreLines ms1 = number_lines (codes "moves") told.moves ms0 fits.moves all0 in
    let ms2 = with_number (codes "lost_after") told.lost_after ms1 in
    let all2 : AreLines ms2 = number_lines (codes "lost_after") told.lost_after ms1 fits.lost_after all1 in
    let ms3 = with_text (codes "losing") told.losing ms2 in
    let all3 : AreLines ms3 = text_lines (codes "losing") told.losing ms2 all2 in
    let ms4 = with_text (codes "list") told.list ms3 in
    let all4 : AreLines ms4 = text_lines (codes "list") told.list ms3 all3 in
    let ms5 = with_number (codes "inserted") told.inserted ms4 in
    let all5 : AreLines ms5 = number_lines (codes "inserted") told.inserted ms4 fits.inserted all4 in
    let ms6 = with_number (codes "floor") told.floor ms5 in
    let all6 : AreLines ms6 = number_lines (codes "floor") told.floor ms5 fits.floor all5 in
    let ms7 = with_number (codes "deal") told.deal ms6 in
    let all7 : AreLines ms7 = number_lines (codes "deal") told.deal ms6 fits.deal all6 in
    let ms8 = with_number (codes "by_hand") told.by_hand ms7 in
    let all8 : AreLines ms8 = number_lines (codes "by_hand") told.by_hand ms7 fits.by_hand all7 in
    let ms9 = with_text (codes "board") told.board ms8 in
    let all9 : AreLines ms9 = text_lines (codes "board") told.board ms8 all8 in
    let ms10 = with_number (codes "best") told.best ms9 in
    let all10 : AreLines ms10 = number_lines (codes "best") told.best ms9 fits.best all9 in
    number_lines (codes "after") told.after ms10 fits.after all10

pub all_lines : ObjectsAreLines
all_lines = (λ told fits. object_line (board_members told) (board_lines told fits), λ told fits. object_line (list_members told) (list_lines told fits))
