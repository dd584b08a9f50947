-- What a token that isn't read spells: nothing.
use Rattle.std.proofs.Common.{◌≡◌, ℕ, ◌-◌, ◌<◌, Bool, true, false, eqb, Option, Some, None, List, length, take, drop, sym, ◌∙◌, ap, subst, ⊎_elim}
use Rattle.std.specs.Cmp.Lexicographic.{pointwise}
use Rattle.std.proofs.lemmas.List.{take_rest}
use Rattle.std.specs.Prelude.{IfNone, codes}
use Rattle.fc_cards.specs.Texts.{IsCardText, IsRank, IsRankText}
use Rattle.fc_text.specs.Fault.{IsNoCard, IsNoHome}
use Rattle.fc_text.specs.Spelling.{SpellsCount}

-- what follows from what a clause says of a `None`
pub none_then : {A P Q : Type 0} (r : Option A) → IfNone r P → (P → Q) → IfNone r Q
none_then None p f = f p
none_then (Some x) p f = p

-- a text that is no card's, in the words of tokens
pub no_card : (token : List ℕ) → ((c : ℕ) → c < 52 → IsCardText c token → ⊥) → IsNoCard token
no_card token none c spelled = none c spelled.below spelled.text

-- where what follows the dash is no count, no foundation is told
pub no_count_no_home : (token : List ℕ)
    → ((n : ℕ) → SpellsCount (take (length token - 2) (drop 2 token)) n → ⊥) → IsNoHome token
no_count_no_home token none s n below spelled =
    let same : spelled.rank_part ≡ take (length token - 2) (drop 2 token) =
    sym (take_rest token 2 ∙ ap (drop 2) spelled.parts) in
    none n (subst (λ x. SpellsCount x n) same spelled.count)

-- a text that the test for `0` refuses isn't `0`
pub not_zero : (text zero : List ℕ) (b : Bool) → zero ≡ codes "0" → b ≡ pointwise eqb text zero → b ≡ false
    → text ≡ codes "0" → ⊥
not_zero text zero b e test fails same =
    let sure : pointwise eqb text zero ≡ true = ap (λ t. pointwise eqb t zero) same ∙ ap (pointwise eqb (codes "0")) e in
    cc (sym sure ∙ sym test ∙ fails)

-- a text that is neither `0` nor a rank's is no count
pub no_rank_no_count : (text : List ℕ) → (text ≡ codes "0" → ⊥) → ((n : ℕ) → IsRank n → IsRankText n text → ⊥) → (n : ℕ)
    → SpellsCount text n → ⊥
no_rank_no_count text zero rank n = ⊎_elim (λ z. zero z.0) (λ r. rank n r.0 r.1)
