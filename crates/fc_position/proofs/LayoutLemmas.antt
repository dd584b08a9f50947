-- What the fields of a layout say of its board.
use Rattle.std.proofs.Common.{◌≡◌, ℕ, ◌<◌, List, [], ◌∷◌, length, map, map-id, set, get_or, refl, sym, ◌∙◌, ap, arith}
use Rattle.std.specs.Prelude.{swap}
use Rattle.std.proofs.lemmas.List.{map-set, get_or-map, length-map}
use Rattle.std.proofs.lemmas.List.Edits.{swap_is}

-- exchanging two columns, where they are seen as lists
pub map-swap : {X Y : Type 0} (f : X → Y) (xs : List X) (i j : ℕ) (d : X) → i < length xs → j < length xs
    → map f (swap xs i j) ≡ swap (map f xs) i j
map-swap f xs i j d one two =
    let a = get_or xs i d in
    let b = get_or xs j d in
    ap (map f) (sym (swap_is xs i j d one two))
    ∙ map-set f (set xs i b) j a
    ∙ ap (λ l. set l j (f a)) (map-set f xs i b)
    ∙ ap (λ y. set (set (map f xs) i (f b)) j y) (sym (get_or-map f xs i d (f d) one))
    ∙ ap (λ y. set (set (map f xs) i y) j (get_or (map f xs) i (f d))) (sym (get_or-map f xs j d (f d) two))
    ∙ swap_is (map f xs) i j (f d) (rw length-map one) (rw length-map two)

-- eight columns, one by one
pub eight : {X Y : Type 0} (f : X → Y) (xs : List X) (a b c d e g h k : X) → length xs ≡ 8
    → f (get_or xs 0 a) ∷ f (get_or xs 1 b) ∷ f (get_or xs 2 c) ∷ f (get_or xs 3 d) ∷ f (get_or xs 4 e) ∷ f (get_or xs 5 g)
    ∷ f (get_or xs 6 h) ∷ f (get_or xs 7 k) ∷ [] ≡ map f xs
eight f (p ∷ q ∷ r ∷ s ∷ t ∷ u ∷ v ∷ w ∷ []) a b c d e g h k l = refl
eight f [] a b c d e g h k l = absurd (omega arith)
eight f (p ∷ []) a b c d e g h k l = absurd (omega arith)
eight f (p ∷ q ∷ []) a b c d e g h k l = absurd (omega arith)
eight f (p ∷ q ∷ r ∷ []) a b c d e g h k l = absurd (omega arith)
eight f (p ∷ q ∷ r ∷ s ∷ []) a b c d e g h k l = absurd (omega arith)
eight f (p ∷ q ∷ r ∷ s ∷ t ∷ []) a b c d e g h k l = absurd (omega arith)
eight f (p ∷ q ∷ r ∷ s ∷ t ∷ u ∷ []) a b c d e g h k l = absurd (omega arith)
eight f (p ∷ q ∷ r ∷ s ∷ t ∷ u ∷ v ∷ []) a b c d e g h k l = absurd (omega arith)
eight f (p ∷ q ∷ r ∷ s ∷ t ∷ u ∷ v ∷ w ∷ x ∷ xs) a b c d e g h k l = absurd (omega arith)

pub eight_same : {X : Type 0} (xs : List X) (a b c d e g h k : X) → length xs ≡ 8
    → get_or xs 0 a ∷ get_or xs 1 b ∷ get_or xs 2 c ∷ get_or xs 3 d ∷ get_or xs 4 e ∷ get_or xs 5 g ∷ get_or xs 6 h
    ∷ get_or xs 7 k ∷ [] ≡ xs
eight_same xs a b c d e g h k l = eight (λ v. v) xs a b c d e g h k l ∙ map-id xs
