-- Equally long lists of bytes have the order of the numbers that they spell, the highest byte first.
use Rattle.std.proofs.Common.{◌≡◌, ℕ, suc, ◌+◌, ◌*◌, ◌<◌, List, [], ◌∷◌, length, get_or, refl, sym, ◌∙◌, ap, ⊎_elim, arith}
use Rattle.std.specs.Int.{w64, from_be_bytes}
use Rattle.std.specs.Ordering.{nat_cmp, ordering_then}
use Rattle.std.specs.Cmp.Lexicographic.{slice_cmp}
use Rattle.std.specs.declared.cmp.Ordering.TheVariants.{Less, Equal, Greater}
use Rattle.std.proofs.lemmas.Bool.{cases_order}
use Rattle.std.proofs.lemmas.Bool.Decides.{nat_tests}

-- the number that the bytes spell behind those that spell n, the highest first
abbrev number_after : ℕ → List ℕ → ℕ
number_after n [] = n
number_after n (b ∷ bs) = number_after (n * 256 + b) bs

less : (x y : ℕ) → x < y → nat_cmp x y ≡ Less
less x y lt = grind (arith, nat_tests)

greater : (x y : ℕ) → y < x → nat_cmp x y ≡ Greater
greater x y lt = grind (arith, nat_tests)

level : (x y : ℕ) → x ≡ y → nat_cmp x y ≡ Equal
level x y e = grind (arith, nat_tests)

-- of two numbers the lower stays lower behind equally many bytes
rises : (a b : ℕ) (xs ys : List ℕ) → length xs ≡ length ys → ((k : ℕ) → get_or xs k 0 < 256) → a < b
    → number_after a xs < number_after b ys
rises a b [] [] e small lt = lt
rises a b [] (y ∷ ys) e small lt = absurd (omega arith)
rises a b (x ∷ xs) [] e small lt = absurd (omega arith)
rises a b (x ∷ xs) (y ∷ ys) e small lt =
    let here : x < 256 = small 0 in
    rises (a * 256 + x) (b * 256 + y) xs ys (omega arith) (λ k. small (suc k)) (omega arith)

-- equally many bytes have the order of the numbers that they spell
by_numbers : (a : ℕ) (xs ys : List ℕ) → length xs ≡ length ys → ((k : ℕ) → get_or xs k 0 < 256) → ((k : ℕ) → get_or ys k 0 < 256)
    → nat_cmp (number_after a xs) (number_after a ys) ≡ slice_cmp nat_cmp xs ys
by_numbers a [] [] e small little = level a a refl
by_numbers a [] (y ∷ ys) e small little = absurd (omega arith)
by_numbers a (x ∷ xs) [] e small little = absurd (omega arith)
by_numbers a (x ∷ xs) (y ∷ ys) e small little =
    let more : length xs ≡ length ys = omega arith in
    ⊎_elim
    (λ same. ap (λ z. nat_cmp (number_after (a * 256 + x) xs) (number_after (a * 256 + z) ys)) (sym same)
    ∙ by_numbers (a * 256 + x) xs ys more (λ k. small (suc k)) (λ k. little (suc k))
    ∙ sym (ap (λ r. ordering_then r (slice_cmp nat_cmp xs ys)) (level x y same)))
    (⊎_elim
    (λ under. less _ _ (rises (a * 256 + x) (a * 256 + y) xs ys more (λ k. small (suc k)) (omega arith))
    ∙ sym (ap (λ r. ordering_then r (slice_cmp nat_cmp xs ys)) (less x y under)))
    (λ over. greater _ _ (rises (a * 256 + y) (a * 256 + x) ys xs (sym more) (λ k. little (suc k)) (omega arith))
    ∙ sym (ap (λ r. ordering_then r (slice_cmp nat_cmp xs ys)) (greater x y over))))
    (cases_order x y)

-- eight bytes spell the number that they are read as
eight_said : (bs : List ℕ) (n : ℕ) → length bs ≡ 8 → n ≡ from_be_bytes w64 bs → n ≡ number_after 0 bs
eight_said [] n l is = absurd (omega arith)
eight_said (a ∷ []) n l is = absurd (omega arith)
eight_said (a ∷ b ∷ []) n l is = absurd (omega arith)
eight_said (a ∷ b ∷ c ∷ []) n l is = absurd (omega arith)
eight_said (a ∷ b ∷ c ∷ d ∷ []) n l is = absurd (omega arith)
eight_said (a ∷ b ∷ c ∷ d ∷ e ∷ []) n l is = absurd (omega arith)
eight_said (a ∷ b ∷ c ∷ d ∷ e ∷ f ∷ []) n l is = absurd (omega arith)
eight_said (a ∷ b ∷ c ∷ d ∷ e ∷ f ∷ g ∷ []) n l is = absurd (omega arith)
eight_said (a ∷ b ∷ c ∷ d ∷ e ∷ f ∷ g ∷ h ∷ []) n l is = omega arith
eight_said (a ∷ b ∷ c ∷ d ∷ e ∷ f ∷ g ∷ h ∷ i ∷ bs) n l is = absurd (omega arith)

-- eight bytes and eight others have the order of the numbers that they are read as
pub by_eight : (xs ys : List ℕ) (x y : ℕ) → length xs ≡ 8 → length ys ≡ 8 → ((k : ℕ) → get_or xs k 0 < 256) → ((k : ℕ) → get_or ys k 0 < 256)
    → x ≡ from_be_bytes w64 xs → y ≡ from_be_bytes w64 ys → nat_cmp x y ≡ slice_cmp nat_cmp xs ys
by_eight xs ys x y l m small little is are =
    (λ i. nat_cmp (eight_said xs x l is i) (eight_said ys y m are i)) ∙ by_numbers 0 xs ys (l ∙ sym m) small little
