-- The parts of a text, one after the other.
use Rattle.std.proofs.Common.{◌≡◌, ℕ, suc, ◌+◌, ◌≤◌, ◌<◌, Bool, true, false, not, cond, List, [], ◌∷◌, length, take, drop, ◌⊎◌, refl, sym, ◌∙◌, ap, subst, inl, inr, ⊎_elim, arith}
use Rattle.std.specs.Prelude.{filter}
use Rattle.std.specs.List.{position_or_len}
use Rattle.std.proofs.lemmas.List.Sums.{length-filter, count_by-le-length}
use Rattle.fc_text.specs.Line.{parts_of, begin_part, is_token, tokens_between}
use Rattle.fc_text.specs.inner.Line.{SplitsToken}

-- a text begins with its first part, and the other parts stand behind the byte that ends it
pub parts_of-first : (p : ℕ → Bool) (b : ℕ) (bytes : List ℕ)
    → let n = position_or_len p (b ∷ bytes) in
    parts_of p (b ∷ bytes) ≡ take n (b ∷ bytes) ∷ parts_of p (drop 1 (drop n (b ∷ bytes)))
parts_of-first p b [] =
    elim (p b) as (λ t. cond t ([] ∷ []) ((b ∷ []) ∷ []) ≡ take (cond (not t) (1 + 0) 0) (b ∷ []) ∷ parts_of p (drop 1 (drop (cond (not t) (1 + 0) 0) (b ∷ []))))
    [ true ↦ refl | false ↦ refl ]
parts_of-first p b (d ∷ bytes) =
    let n = position_or_len p (d ∷ bytes) in
    let rest = parts_of-first p d bytes in
    elim (p b) as (λ t. cond t ([] ∷ parts_of p (d ∷ bytes)) (begin_part b (parts_of p (d ∷ bytes)))
    ≡ take (cond (not t) (1 + n) 0) (b ∷ d ∷ bytes) ∷ parts_of p (drop 1 (drop (cond (not t) (1 + n) 0) (b ∷ d ∷ bytes)))) [
      | true ↦ refl
      | false ↦
          let e : suc n ≡ 1 + n = omega arith in
          ap (begin_part b) rest
          ∙ ap (λ k. take k (b ∷ d ∷ bytes) ∷ parts_of p (drop 1 (drop k (b ∷ d ∷ bytes)))) e
    ]

module _ (p : ℕ → Bool) where
  -- a gap before the tokens is none of them
  pub tokens-gap : (b : ℕ) (bytes : List ℕ) → p b ≡ true → tokens_between p (b ∷ bytes) ≡ tokens_between p bytes
  tokens-gap b bytes gap = rw gap refl

  -- gaps before the tokens are none of them
  tokens-gaps : (bytes : List ℕ) → tokens_between p (drop (position_or_len (λ b. not (p b)) bytes) bytes) ≡ tokens_between p bytes
  tokens-gaps [] = refl
  tokens-gaps (b ∷ bytes) =
      let n = position_or_len (λ x. not (p x)) bytes in
      let e : suc n ≡ 1 + n = omega arith in
      elim (p b) as (λ t. p b ≡ t → tokens_between p (drop (cond (not (not t)) (1 + n) 0) (b ∷ bytes)) ≡ tokens_between p (b ∷ bytes)) [
        | true ↦ λ gap.
            ap (λ k. tokens_between p (drop k (b ∷ bytes))) (sym e) ∙ tokens-gaps bytes ∙ sym (tokens-gap b bytes gap)
        | false ↦ λ _. refl
      ] refl

  -- the gap that ends a token is none of the tokens behind it
  tokens-end : (bytes : List ℕ)
      → tokens_between p (drop 1 (drop (position_or_len p bytes) bytes)) ≡ tokens_between p (drop (position_or_len p bytes) bytes)
  tokens-end [] = refl
  tokens-end (b ∷ bytes) =
      let n = position_or_len p bytes in
      let e : suc n ≡ 1 + n = omega arith in
      elim (p b) as (λ t. p b ≡ t
      → tokens_between p (drop 1 (drop (cond (not t) (1 + n) 0) (b ∷ bytes))) ≡ tokens_between p (drop (cond (not t) (1 + n) 0) (b ∷ bytes))) [
        | true ↦ λ gap. sym (tokens-gap b bytes gap)
        | false ↦ λ _.
            ap (λ k. tokens_between p (drop 1 (drop k (b ∷ bytes)))) (sym e) ∙ tokens-end bytes
            ∙ ap (λ k. tokens_between p (drop k (b ∷ bytes))) e
      ] refl

  -- a text that begins with a token
  tokens-token : (b : ℕ) (bytes : List ℕ) → p b ≡ false
      → let n = position_or_len p (b ∷ bytes) in
      tokens_between p (b ∷ bytes) ≡ take n (b ∷ bytes) ∷ tokens_between p (drop n (b ∷ bytes))
  tokens-token b bytes mark =
      let n = position_or_len p (b ∷ bytes) in
      let m = position_or_len p bytes in
      let size : n ≡ suc m = rw mark (omega arith) in
      let first = ap (filter is_token) (parts_of-first p b bytes) in
      let kept : filter is_token (take n (b ∷ bytes) ∷ parts_of p (drop 1 (drop n (b ∷ bytes))))
      ≡ take n (b ∷ bytes) ∷ tokens_between p (drop 1 (drop n (b ∷ bytes))) =
      let P : ℕ → Type 0 = λ k. filter is_token (take k (b ∷ bytes) ∷ parts_of p (drop 1 (drop n (b ∷ bytes))))
      ≡ take k (b ∷ bytes) ∷ tokens_between p (drop 1 (drop n (b ∷ bytes))) in
      let here : P (suc m) = refl in
      subst P (sym size) here in
      first ∙ kept ∙ ap (λ x. take n (b ∷ bytes) ∷ x) (tokens-end (b ∷ bytes))

  -- the first token of a text that begins with none of its gaps, by how many bytes it has
  splits_token : (bytes : List ℕ)
      → SplitsToken p bytes (take (position_or_len p bytes) bytes) (drop (position_or_len p bytes) bytes)
      ⊎ ((0 < length bytes) × (position_or_len p bytes ≡ 0))
  splits_token [] = inl (refl, refl)
  splits_token (b ∷ bytes) =
      elim (p b) as (λ t. p b ≡ t
      → SplitsToken p (b ∷ bytes) (take (position_or_len p (b ∷ bytes)) (b ∷ bytes)) (drop (position_or_len p (b ∷ bytes)) (b ∷ bytes))
      ⊎ ((0 < length (b ∷ bytes)) × (position_or_len p (b ∷ bytes) ≡ 0))) [
        | true ↦ λ gap. inr (omega arith, rw gap refl)
        | false ↦ λ mark.
            let n = position_or_len p (b ∷ bytes) in
            let m = position_or_len p bytes in
            let size : n ≡ suc m = rw mark (omega arith) in
            let P : ℕ → Type 0 = λ k. SplitsToken p (b ∷ bytes) (take k (b ∷ bytes)) (drop k (b ∷ bytes)) in
            let Q : ℕ → Type 0 = λ k. tokens_between p (b ∷ bytes) ≡ take k (b ∷ bytes) ∷ tokens_between p (drop k (b ∷ bytes)) in
            let split : Q (suc m) = subst Q size (tokens-token b bytes mark) in
            inl (subst P (sym size) split)
      ] refl

  -- what follows the gaps that a text begins with doesn't begin with a gap
  no_gap_first : (bytes : List ℕ)
      → 0 < length (drop (position_or_len (λ b. not (p b)) bytes) bytes)
      → position_or_len p (drop (position_or_len (λ b. not (p b)) bytes) bytes) ≡ 0 → ⊥
  no_gap_first [] = λ some none. absurd (omega arith)
  no_gap_first (b ∷ bytes) =
      let n = position_or_len (λ x. not (p x)) bytes in
      let e : suc n ≡ 1 + n = omega arith in
      elim (p b) as (λ t. p b ≡ t → 0 < length (drop (cond (not (not t)) (1 + n) 0) (b ∷ bytes))
      → position_or_len p (drop (cond (not (not t)) (1 + n) 0) (b ∷ bytes)) ≡ 0 → ⊥) [
        | true ↦ λ gap some none.
            no_gap_first bytes (subst (λ k. 0 < length (drop k (b ∷ bytes))) (sym e) some)
            (subst (λ k. position_or_len p (drop k (b ∷ bytes)) ≡ 0) (sym e) none)
        | false ↦ λ mark some none.
            let size : position_or_len p (b ∷ bytes) ≡ 1 + position_or_len p bytes = rw mark refl in
            absurd (omega arith)
      ] refl

  -- what parts one text parts another one with the same tokens
  splits-same : (a b token rest : List ℕ) → tokens_between p a ≡ tokens_between p b → SplitsToken p a token rest → SplitsToken p b token rest
  splits-same a b [] rest e split = (sym e ∙ split.0, split.1)
  splits-same a b (x ∷ token) rest e split = sym e ∙ split

  -- a text is parted behind its gaps and its first token
  pub split_token-is : (bytes piece token rest : List ℕ) (n k : ℕ) → n ≡ position_or_len (λ b. not (p b)) bytes
      → piece ≡ drop n bytes → k ≡ position_or_len p piece → token ≡ take k piece → rest ≡ drop k piece
      → SplitsToken p bytes token rest
  split_token-is bytes piece token rest n k gaps cut count front back =
      let from = drop (position_or_len (λ b. not (p b)) bytes) bytes in
      let same : piece ≡ from = cut ∙ ap (λ i. drop i bytes) gaps in
      let size : k ≡ position_or_len p from = count ∙ ap (position_or_len p) same in
      let head : token ≡ take (position_or_len p from) from =
      front ∙ ap (λ x. take k x) same ∙ ap (λ i. take i from) size in
      let tail : rest ≡ drop (position_or_len p from) from =
      back ∙ ap (λ x. drop k x) same ∙ ap (λ i. drop i from) size in
      let split =
      splits-same from bytes (take (position_or_len p from) from) (drop (position_or_len p from) from)
      (tokens-gaps bytes)
      (⊎_elim (λ s. s) (λ (some, none). absurd (no_gap_first bytes some none)) (splits_token from)) in
      subst (λ x. SplitsToken p bytes x rest) (sym head)
      (subst (λ y. SplitsToken p bytes (take (position_or_len p from) from) y) (sym tail) split)

-- a text is parted behind the byte that ends its first line
pub split_line-is : (p : ℕ → Bool) (text line rest : List ℕ) → 0 < length text
    → line ≡ take (position_or_len p text) text → rest ≡ drop (position_or_len p text) text
    → parts_of p text ≡ line ∷ parts_of p (drop 1 rest)
split_line-is p [] line rest some a b = absurd (omega arith)
split_line-is p (x ∷ text) line rest some a b =
    parts_of-first p x text ∙ ap (λ l. l ∷ parts_of p (drop 1 (drop (position_or_len p (x ∷ text)) (x ∷ text)))) (sym a)
    ∙ ap (λ r. line ∷ parts_of p (drop 1 r)) (sym b)

-- there are no more parts than bytes, and no more tokens
length-begin_part : (b : ℕ) (parts : List (List ℕ)) → length (begin_part b parts) ≤ 1 + length parts
length-begin_part b [] = omega arith
length-begin_part b (part ∷ parts) = omega arith

pub length-parts_of : (p : ℕ → Bool) (bytes : List ℕ) → length (parts_of p bytes) ≤ length bytes
length-parts_of p [] = omega arith
length-parts_of p (b ∷ bytes) =
    let rest = length-parts_of p bytes in
    elim (p b) as (λ t. length (cond t ([] ∷ parts_of p bytes) (begin_part b (parts_of p bytes))) ≤ length (b ∷ bytes))
    [ true ↦ omega arith | false ↦ omega (arith, length-begin_part b (parts_of p bytes)) ]

pub length-tokens_between : (p : ℕ → Bool) (text : List ℕ) → length (tokens_between p text) ≤ length text
length-tokens_between p text =
    omega (arith, length-parts_of p text, length-filter is_token (parts_of p text), count_by-le-length is_token (parts_of p text))
