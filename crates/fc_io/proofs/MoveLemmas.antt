-- Moves that come one after the other are one move. Callers over several transfers cite these too.
use Rattle.std.proofs.Common.{length-append, ◌≡◌, ℕ, zero, suc, ◌+◌, ◌≤◌, Bool, true, false, IsTrue, List, [], ◌∷◌, ◌++◌, length, take, drop, Option, None, Some, refl, sym, ap, ◌∙◌, zero-add, append_assoc, append-nil, length-take-le, take-append-drop, arith}
use Rattle.std.proofs.lemmas.List.{take-append-le}
use borrow.Rule.Slice.PartMut.{put_mid, post_of}
use Rattle.std.specs.Io.KnownBytes.{prepend_known, append_known}
use Rattle.fc_io.specs.Moves.{Gives, GivesAtMost, TakesBytes, TakesFront}

-- nothing was taken where nothing changed
pub TakesBytes-none : (held : Option (List ℕ)) → TakesBytes held held []
TakesBytes-none None = refl
TakesBytes-none (Some bytes) = ap Some (sym (append-nil bytes))

pub prepend_known-append : (xs ys : List ℕ) (known : Option (List ℕ))
    → prepend_known (xs ++ ys) known ≡ prepend_known xs (prepend_known ys known)
prepend_known-append xs ys None = refl
prepend_known-append xs ys (Some bytes) = ap Some (append_assoc xs ys bytes)

pub append_known-append : (known : Option (List ℕ)) (xs ys : List ℕ)
    → append_known known (xs ++ ys) ≡ append_known (append_known known xs) ys
append_known-append None xs ys = refl
append_known-append (Some bytes) xs ys = ap Some (sym (append_assoc bytes xs ys))

-- a source gave xs and then ys
pub Gives-both : (a b c : Option (List ℕ)) (xs ys : List ℕ) → Gives a b xs → Gives b c ys → Gives a c (xs ++ ys)
Gives-both a b c xs ys first second =
    first ∙ ap (prepend_known xs) second ∙ sym (prepend_known-append xs ys c)

-- a sink took xs and then ys
pub TakesBytes-both : (a b c : Option (List ℕ)) (xs ys : List ℕ) → TakesBytes a b xs → TakesBytes b c ys → TakesBytes a c (xs ++ ys)
TakesBytes-both a b c xs ys first second =
    second ∙ ap (λ known. append_known known ys) first ∙ sym (append_known-append a xs ys)

-- a device hasn't failed where that would make an `Ok` an `Err`
pub sound_at_ok : (has_failed : Bool) → (IsTrue has_failed → false ≡ true) → has_failed ≡ false
sound_at_ok true h = sym (h refl)
sound_at_ok false h = refl

take_past : (front rest : List ℕ) (n k : ℕ) → n ≡ length front + k → take n (front ++ rest) ≡ front ++ take k rest
take_past [] rest n k e = ap (λ m. take m rest) (e ∙ zero-add k)
take_past (x ∷ front) rest zero k e = absurd (omega arith)
take_past (x ∷ front) rest (suc n) k e = ap (λ l. x ∷ l) (take_past front rest n k (omega arith))

-- the first bytes of a room, once more came in behind those that stood there
pub take_filled : (filled count room : ℕ) (old more : List ℕ) → filled ≤ length old → count ≤ length more
    → take (filled + count) (put_mid filled room old more) ≡ take filled old ++ take count more
take_filled filled count room old more within fits =
    take_past (take filled old) (more ++ post_of filled room old) (filled + count) count
    (omega (arith, length-take-le filled old within))
    ∙ ap (λ l. take filled old ++ l) (take-append-le count more (post_of filled room old) fits)

-- the front of a piece that was written, once a front of the rest was written too
pub parts_later : (piece front rest : List ℕ) (count : ℕ) → piece ≡ front ++ rest
    → piece ≡ (front ++ take count rest) ++ drop count rest
parts_later piece front rest count e =
    e ∙ ap (λ l. front ++ l) (sym (take-append-drop count rest)) ∙ sym (append_assoc front (take count rest) (drop count rest))

-- a source gave xs and then at most so many bytes
pub gives_then_at_most : (a b c : Option (List ℕ)) (xs : List ℕ) (more limit : ℕ) → Gives a b xs → GivesAtMost b c more
    → length xs + more ≤ limit → GivesAtMost a c limit
gives_then_at_most a b c xs more limit first second fits = record {
  bytes = xs ++ second.bytes;
  within = omega (arith, second.within, length-append xs second.bytes);
  given = Gives-both a b c xs second.bytes first second.given;
}

-- a sink took xs and then a front of ys
pub takes_then_front : (a b c : Option (List ℕ)) (xs ys : List ℕ) → TakesBytes a b xs → TakesFront b c ys → TakesFront a c (xs ++ ys)
takes_then_front a b c xs ys first second = record {
  front = xs ++ second.front;
  rest = second.rest;
  parts = ap (λ l. xs ++ l) second.parts ∙ sym (append_assoc xs second.front second.rest);
  taken = TakesBytes-both a b c xs second.front first second.taken;
}
