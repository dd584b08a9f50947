-- Names, blanks and parts of a piece of text.
use Rattle.std.proofs.Common.{◌≡◌, ℕ, ◌+◌, ◌<◌, Bool, true, false, Option, Some, List, [], ◌∷◌, length, map, take, drop, get_or, min, refl, ◌∙◌, ap, subst, arith}
use Rattle.std.specs.Prelude.{IsTrue, ◌↔◌}
use Rattle.std.specs.Char.{to_ascii_lowercase}
use Rattle.std.proofs.lemmas.List.{take_min, at_drop_more, get_or-map, length-map}
use Rattle.std.proofs.lemmas.Slice.Eq.{bytes_eq-Decides}
use Rattle.std.proofs.lemmas.Bool.Decides.{same_from_decides}
use denote.Bor.{Bor}
use Rattle.fc_text.specs.Line.{begins_with, after_name}

-- the test of a piece's front without regard to case is whether it begins with the name
pub begins_with-is : (piece name : List ℕ) (n : ℕ) (b : Bool) → n ≡ min (length piece) (length name)
    → (IsTrue b ↔ (map to_ascii_lowercase (take n piece) ≡ map to_ascii_lowercase name)) → b ≡ begins_with piece name
begins_with-is piece name n b e test =
    let front : take n piece ≡ take (length name) piece =
    ap (λ k. take k piece) (e ∙ omega arith) ∙ take_min (length name) piece in
    let ends : IsTrue b ↔ (map to_ascii_lowercase (take (length name) piece) ≡ map to_ascii_lowercase name) =
    subst (λ x. IsTrue b ↔ (map to_ascii_lowercase x ≡ map to_ascii_lowercase name)) front test in
    same_from_decides b (begins_with piece name) (λ t. ends.0 t, λ q. ends.1 q)
    (bytes_eq-Decides (map to_ascii_lowercase (take (length name) piece)) (map to_ascii_lowercase name))

-- the first name that fits decides
pub after_name-fits : (name : List ℕ) (names : List (List ℕ)) (piece : List ℕ) → begins_with piece name ≡ true
    → after_name (name ∷ names) piece ≡ Some (drop (length name) piece)
after_name-fits name names piece fits = rw fits refl

pub after_name-other : (name : List ℕ) (names : List (List ℕ)) (piece : List ℕ) → begins_with piece name ≡ false
    → after_name (name ∷ names) piece ≡ after_name names piece
after_name-other name names piece other = rw other refl

-- the name at a place of a list of borrowed names
pub name_here : (F : List (List ℕ) → Option (List ℕ)) (names : List (Bor (List ℕ))) (i : ℕ) (d : Bor (List ℕ)) → i < length names
    → F (drop i (map (λ (n : Bor (List ℕ)). n.now) names))
    ≡ F ((get_or names i d).now ∷ drop (i + 1) (map (λ (n : Bor (List ℕ)). n.now) names))
name_here F names i d within =
    at_drop_more F (map (λ (n : Bor (List ℕ)). n.now) names) i [] (rw length-map within)
    ∙ ap (λ x. F (x ∷ drop (i + 1) (map (λ (n : Bor (List ℕ)). n.now) names))) (get_or-map (λ (n : Bor (List ℕ)). n.now) names i d [] within)
