-- Reading the tokens of a foundation line one by one.
use Rattle.std.proofs.Common.{◌≡◌, ℕ, zero, suc, ◌≤◌, ◌<◌, Bool, true, false, Some, List, [], ◌∷◌, ◌++◌, length, get_or, set, inl, inr, refl, sym, ◌∙◌, ap, subst, ⊎_elim, arith}
use Rattle.std.specs.Prelude.{All, Contains, slice_get, slice_index, slice_index_or}
use Rattle.std.specs.Char.{to_ascii_uppercase}
use Rattle.std.proofs.lemmas.List.{append_assoc, append-nil, get_or_append_left, get_or_at, length-append, length-set, get_or-set_same, get_or-set_other}
use Rattle.std.proofs.lemmas.List.Elements.{Contains-push, Contains-push_cases, Contains-append_left, Contains-append_right, All-set, All-replicate}
use Rattle.std.proofs.lemmas.Option.{slice_get_within, get_or_from_slice_get, slice_get-get_or}
use Rattle.std.proofs.lemmas.Bool.{cases_eq, cases_Bool}
use Rattle.fc_cards.proofs.TextLemmas.{suit_letter_once}
use Rattle.fc_text.specs.Fault.{IsNoHome, NamesSuitTwice, HasBadFoundation}
use Rattle.fc_text.specs.Line.{tokens_of}
use Rattle.fc_text.specs.inner.Reading.{ReadsHomes}
use Rattle.fc_text.specs.Spelling.{SpellsHome}
use Rattle.fc_text.specs.declared.lines.LineKind.TheVariants.{Foundations}
use Rattle.fc_text.proofs.ReaderLemmas.{at_push}

-- a token tells of one suit
pub home_suit_once : (token : List ℕ) (s t m n : ℕ) → s < 4 → t < 4 → SpellsHome token s m → SpellsHome token t n → s ≡ t
home_suit_once token s t m n one two p q =
    let same : p.suit_part ≡ q.suit_part = cc (p.parts, q.parts) in
    suit_letter_once s t one two (sym p.suit ∙ ap to_ascii_uppercase same ∙ q.suit)

-- what is at an index is in the list
pub Contains-at : {A : Type 0} (xs : List A) (i : ℕ) (x : A) → slice_get xs i ≡ Some x → Contains xs x
Contains-at xs i x found =
    (i, slice_get_within xs i x found, get_or_from_slice_get xs i x x found)

-- what the reader of a foundation line keeps from token to token
pub record HomesSoFar (piece rest : List ℕ) (kept : List ℕ) (named : List Bool) : Type 0 where
  pub tokens : List (List ℕ)
  pub parts : tokens ++ tokens_of rest ≡ tokens_of piece
  pub four : length kept ≡ 4
  pub marks : length named ≡ 4
  pub most : All (λ n. n ≤ 13) kept
  pub told : (s : ℕ) → s < 4 → slice_index_or named s false ≡ true
      → (token : List ℕ) × Contains tokens token × SpellsHome token s (slice_index kept s)
  pub untold : (s : ℕ) → s < 4 → slice_index_or named s false ≡ false
      → ((token : List ℕ) (m : ℕ) → Contains tokens token → SpellsHome token s m → ⊥) × (slice_index kept s ≡ 0)
  pub sound : HasBadFoundation Foundations tokens → ⊥

-- a suit that is told of again is told of twice
pub named_twice : (piece rest after kept : List ℕ) (named : List Bool) (token : List ℕ) (s n : ℕ)
    → HomesSoFar piece rest kept named → tokens_of rest ≡ token ∷ tokens_of after → s < 4 → SpellsHome token s n
    → slice_index_or named s false ≡ true → HasBadFoundation Foundations (tokens_of piece)
named_twice piece rest after kept named token s n so first below spelled again =
    let old = so.told s below again in
    let all = so.tokens ++ token ∷ tokens_of after in
    let whole : all ≡ tokens_of piece = ap (λ t. so.tokens ++ t) (sym first) ∙ so.parts in
    let size = length-append so.tokens (token ∷ tokens_of after) in
    let place : old.1.0 < length all = omega (arith, old.1.1, size) in
    let last : length so.tokens < length all = omega (arith, size) in
    let one : slice_get all old.1.0 ≡ Some old.0 =
    slice_get-get_or all old.1.0 old.0 place
    ∙ ap (λ v. Some v) (get_or_append_left so.tokens (token ∷ tokens_of after) old.0 old.1.0 old.1.1 ∙ old.1.2) in
    let other : slice_get all (length so.tokens) ≡ Some token =
    slice_get-get_or all (length so.tokens) token last
    ∙ ap (λ v. Some v) (get_or_at so.tokens token (tokens_of after) token (length so.tokens) refl) in
    let twice : NamesSuitTwice all = record {
      suit = s;
      below = below;
      first = old.1.0;
      second = length so.tokens;
      order = old.1.1;
      one = (old.0, slice_index kept s, one, old.2);
      other = (token, n, other, spelled);
    } in
    inr (subst NamesSuitTwice whole twice)

-- what is sound stays so with one more token that tells of a suit that wasn't told of
stays_sound : (tokens : List (List ℕ)) (token : List ℕ) (s n : ℕ) → s < 4 → SpellsHome token s n
    → ((other : List ℕ) (m : ℕ) → Contains tokens other → SpellsHome other s m → ⊥)
    → (HasBadFoundation Foundations tokens → ⊥) → HasBadFoundation Foundations (tokens ++ token ∷ []) → ⊥
stays_sound tokens token s n below spelled fresh sound =
    ⊎_elim
    (λ (other, found, nothing). ⊎_elim (λ f. sound (inl (other, f, nothing)))
    (λ q. nothing s n below (subst (λ x. SpellsHome x s n) q spelled)) (Contains-push_cases tokens token other found))
    (λ twice. ⊎_elim
    (λ (before, at). ⊎_elim
    (λ (lower, there). sound (inr (record {
      suit = twice.suit;
      below = twice.below;
      first = twice.first;
      second = twice.second;
      order = twice.order;
      one = (twice.one.0, twice.one.1, there, twice.one.3);
      other = (twice.other.0, twice.other.1, at, twice.other.3);
    })))
    (λ (last, _). omega (arith, last, before, twice.order))
    (at_push tokens token twice.one.0 twice.first twice.one.2))
    (λ (last, same). ⊎_elim
    (λ (lower, there).
    let suits = home_suit_once token s twice.suit n twice.other.1 below twice.below spelled
    (subst (λ x. SpellsHome x twice.suit twice.other.1) (sym same) twice.other.3) in
    fresh twice.one.0 twice.one.1 (Contains-at tokens twice.first twice.one.0 there)
    (subst (λ x. SpellsHome twice.one.0 x twice.one.1) (sym suits) twice.one.3))
    (λ (end, _). omega (arith, last, end, twice.order))
    (at_push tokens token twice.one.0 twice.first twice.one.2))
    (at_push tokens token twice.other.0 twice.second twice.other.2))

pub homes_next : (piece rest after kept : List ℕ) (named : List Bool) (token : List ℕ) (s n : ℕ)
    → HomesSoFar piece rest kept named → tokens_of rest ≡ token ∷ tokens_of after → s < 4 → n ≤ 13 → SpellsHome token s n
    → slice_index_or named s false ≡ false → HomesSoFar piece after (set kept s n) (set named s true)
homes_next piece rest after kept named token s n so first below most spelled fresh = record {
  tokens = so.tokens ++ token ∷ [];
  parts = append_assoc so.tokens (token ∷ []) (tokens_of after) ∙ ap (λ t. so.tokens ++ t) (sym first) ∙ so.parts;
  four = length-set kept s n ∙ so.four;
  marks = length-set named s true ∙ so.marks;
  most = All-set (λ k. k ≤ 13) kept s n most so.most;
  told = λ t lt mark. ⊎_elim
      (λ e. let value : slice_index (set kept s n) t ≡ n =
      ap (λ k. slice_index (set kept s n) k) e ∙ get_or-set_same kept s n 0 (omega (arith, so.four)) in
      (token, Contains-push so.tokens token, subst (SpellsHome token t) (sym value) (subst (λ k. SpellsHome token k n) (sym e) spelled)))
      (λ ne. let old = so.told t lt (sym (get_or-set_other named s t true false ne) ∙ mark) in (
        old.0,
        Contains-append_left so.tokens (token ∷ []) old.0 old.1,
        subst (SpellsHome old.0 t) (sym (get_or-set_other kept s t n 0 ne)) old.2,
      ))
      (cases_eq t s);
  untold = λ t lt mark. ⊎_elim
      (λ e. absurd (cc (sym mark ∙ ap (λ k. get_or (set named s true) k false) e ∙ get_or-set_same named s true false (omega (arith, so.marks)))))
      (λ ne. let old = so.untold t lt (sym (get_or-set_other named s t true false ne) ∙ mark) in (
        λ other m found told. ⊎_elim (λ f. old.0 other m f told)
            (λ q. ne (home_suit_once other t s m n lt below told (subst (λ x. SpellsHome x s n) q spelled)))
            (Contains-push_cases so.tokens token other found),
        get_or-set_other kept s t n 0 ne ∙ old.1,
      ))
      (cases_eq t s);
  sound = stays_sound so.tokens token s n below spelled (so.untold s below fresh).0 so.sound;
}

-- at first no suit is named, and none has a card home
no_mark : (s : ℕ) → slice_index_or (false ∷ false ∷ false ∷ false ∷ []) s false ≡ true → ⊥
no_mark zero e = cc e
no_mark (suc zero) e = cc e
no_mark (suc (suc zero)) e = cc e
no_mark (suc (suc (suc zero))) e = cc e
no_mark (suc (suc (suc (suc s)))) e = cc e

no_home : (s : ℕ) → slice_index (0 ∷ 0 ∷ 0 ∷ 0 ∷ []) s ≡ 0
no_home zero = refl
no_home (suc zero) = refl
no_home (suc (suc zero)) = refl
no_home (suc (suc (suc zero))) = refl
no_home (suc (suc (suc (suc s)))) = refl

pub homes_none : (piece rest : List ℕ) (kept : List ℕ) (named : List Bool) → rest ≡ piece → kept ≡ 0 ∷ 0 ∷ 0 ∷ 0 ∷ []
    → named ≡ false ∷ false ∷ false ∷ false ∷ [] → HomesSoFar piece rest kept named
homes_none piece rest kept named same none fresh = rw (none, fresh) (record {
  tokens = [];
  parts = ap tokens_of same;
  four = refl;
  marks = refl;
  most = All-replicate (λ n. n ≤ 13) 4 0 (omega arith);
  told = λ s below mark. absurd (no_mark s mark);
  untold = λ s below _. (λ token m found _. omega (arith, found.1), no_home s);
  sound = ⊎_elim (λ (_, found, _). omega (arith, found.1)) (λ twice. cc twice.one.2);
})

pub homes_all : (piece rest kept : List ℕ) (named : List Bool) → HomesSoFar piece rest kept named → tokens_of rest ≡ []
    → ReadsHomes (tokens_of piece) kept × (HasBadFoundation Foundations (tokens_of piece) → ⊥)
homes_all piece rest kept named so none =
    let whole : so.tokens ≡ tokens_of piece =
    sym (append-nil so.tokens) ∙ ap (λ t. so.tokens ++ t) (sym none) ∙ so.parts in
    let homes : ReadsHomes so.tokens kept = record {
      four = so.four;
      most = so.most;
      read = λ s below. ⊎_elim (λ mark. inl (so.told s below mark)) (λ fresh. inr (so.untold s below fresh))
          (cases_Bool (slice_index_or named s false));
    } in
    (subst (λ t. ReadsHomes t kept) whole homes, subst (λ t. HasBadFoundation Foundations t → ⊥) whole so.sound)

-- a token that tells of no foundation is one of the line's
pub no_home_bad : (piece rest after kept : List ℕ) (named : List Bool) (token : List ℕ) → HomesSoFar piece rest kept named
    → tokens_of rest ≡ token ∷ tokens_of after → IsNoHome token → HasBadFoundation Foundations (tokens_of piece)
no_home_bad piece rest after kept named token so first nothing =
    let whole : so.tokens ++ token ∷ tokens_of after ≡ tokens_of piece = ap (λ t. so.tokens ++ t) (sym first) ∙ so.parts in
    let listed : Contains (so.tokens ++ token ∷ tokens_of after) token =
    Contains-append_right so.tokens (token ∷ tokens_of after) token (0, omega arith, refl) in
    inl (token, subst (λ t. Contains t token) whole listed, nothing)
