-- Words that tell entries.
use Rattle.std.proofs.Common.{◌≡◌, ◌∙◌, inl, inr, ℕ, ◌<◌, ◌≤◌, Bor, Option, Some, None, List, [], ◌∷◌, ◌++◌, length, get_or, map, refl, sym, subst, ap, arith, append_assoc, length-append, ⊎_elim}
use Rattle.std.specs.Prelude.{IfSome, codes}
use Rattle.std.proofs.lemmas.List.{length-map}
use Rattle.fc_sequences.specs.declared.pairs.Pair.{Pair}
use Rattle.fc_sequences.specs.Pair.{SpellsPair}
use Rattle.fc_sequences.specs.Saying.{SaysPair}
use Rattle.fc_lists.specs.Told.{HasCards, IsLetterOf, SaysEntry, TellsEntry, TellsWay}
use Rattle.fc_lists.specs.declared.told_entries.ToldEntry.{ToldEntry}
use Rattle.fc_lists.specs.inner.Told.{RefusesCards, RefusesWay, SaysNoEntry}

-- one word more behind the last
pub last_on : (words front more : List (List ℕ)) (last word : List ℕ) (left : List (List ℕ)) → words ≡ front ++ last ∷ left → left ≡ word ∷ more
    → (x : List (List ℕ)) × (words ≡ x ++ word ∷ more)
last_on words front more last word left is next =
    (front ++ last ∷ [], is ∙ ap (λ l. front ++ last ∷ l) next ∙ sym (append_assoc front (last ∷ []) (word ∷ more)))

-- lists have one last word
last_same : (xs ys : List (List ℕ)) (x y : List ℕ) → xs ++ x ∷ [] ≡ ys ++ y ∷ [] → x ≡ y
last_same [] [] x y same = cc same
last_same [] (b ∷ []) x y same = absurd (cc same)
last_same [] (b ∷ c ∷ ys) x y same = absurd (cc same)
last_same (a ∷ []) [] x y same = absurd (cc same)
last_same (a ∷ c ∷ xs) [] x y same = absurd (cc same)
last_same (a ∷ xs) (b ∷ ys) x y same = last_same xs ys x y (cc same)

-- a way from no place
pub refuses_name : (words rest : List (List ℕ)) (kind name : List ℕ) → words ≡ kind ∷ name ∷ rest → ((l : ℕ) → IsLetterOf name l → ⊥) → RefusesWay words
refuses_name words rest kind name parts none from to (k, n, last, between, is, here, there) =
    let same : n ≡ name = cc (is, parts) in none from (subst (λ w. IsLetterOf w from) same here)

-- a way to no place
pub refuses_last : (words front rest : List (List ℕ)) (kind name last : List ℕ) → words ≡ kind ∷ name ∷ rest → rest ≡ front ++ last ∷ []
    → ((l : ℕ) → IsLetterOf last l → ⊥) → RefusesWay words
refuses_last words front rest kind name last parts ends none from to (k, n, other, between, is, here, there) =
    let tails : between ++ other ∷ [] ≡ rest = cc (is, parts) in
    none to (subst (λ w. IsLetterOf w to) (last_same between front other last (tails ∙ ends)) there)

-- an entry of no cards
pub refuses_count : (words behind : List (List ℕ)) (number : List ℕ) → words ≡ number ∷ behind → RefusesCards behind
    → (told : ToldEntry) → TellsEntry words told → ⊥
refuses_count words behind number parts none told tells =
    let same : tells.behind ≡ behind = cc (tells.first, parts) in
    none told.count tells.way (subst (λ l. HasCards l told.count tells.way) same tells.cards)

-- what is left behind the cards
cards_once : (words : List (List ℕ)) (c d : ℕ) (r s : List (List ℕ)) → HasCards words c r → HasCards words d s → r ≡ s
cards_once words c d r s (cards, inl (card, one, size), parts) (others, inl (other, once, count), places) =
    cc (parts ∙ ap (λ l. l ++ codes "from" ∷ r) one, places ∙ ap (λ l. l ++ codes "from" ∷ s) once)
cards_once words c d r s (cards, inl (card, one, size), parts) (others, inr (number, deepest, to, last, many, count), places) =
    let differ : codes "from" ≡ codes "cards," = cc (parts ∙ ap (λ l. l ++ codes "from" ∷ r) one, places ∙ ap (λ l. l ++ codes "from" ∷ s) many) in
    absurd (omega (arith, ap length differ))
cards_once words c d r s (cards, inr (number, deepest, to, last, many, count), parts) (others, inl (card, one, size), places) =
    let differ : codes "from" ≡ codes "cards," = cc (parts ∙ ap (λ l. l ++ codes "from" ∷ r) many, places ∙ ap (λ l. l ++ codes "from" ∷ s) one) in
    absurd (omega (arith, ap length differ))
cards_once words c d r s (cards, inr (number, deepest, to, last, many, count), parts) (others, inr (number', deepest', to', last', many', count'), places) =
    cc (parts ∙ ap (λ l. l ++ codes "from" ∷ r) many, places ∙ ap (λ l. l ++ codes "from" ∷ s) many')

-- an entry of no way
pub refuses_way : (words behind rest : List (List ℕ)) (number : List ℕ) (count : ℕ) → words ≡ number ∷ behind → HasCards behind count rest → RefusesWay rest
    → (told : ToldEntry) → TellsEntry words told → ⊥
refuses_way words behind rest number count parts cards none told tells =
    let same : tells.behind ≡ behind = cc (tells.first, parts) in
    let left : tells.way ≡ rest = cards_once behind told.count count tells.way rest (subst (λ l. HasCards l told.count tells.way) same tells.cards) cards in
    none told.from told.to (subst (λ l. TellsWay l told.from told.to) left tells.places)

-- two words are their list
pub two_words : (words : List (Bor (List ℕ))) (d : Bor (List ℕ)) → 2 ≤ length words → length words < 3
    → map (λ (w : Bor (List ℕ)). w.now) words ≡ (get_or words 0 d).now ∷ (get_or words 1 d).now ∷ []
two_words [] d least most = absurd (omega (arith, least))
two_words (a ∷ []) d least most = absurd (omega (arith, least))
two_words (a ∷ b ∷ []) d least most = refl
two_words (a ∷ b ∷ c ∷ more) d least most = absurd (omega (arith, most))

-- an entry in letters
pub said_letters : (words : List (List ℕ)) (entry start : List ℕ) (read : Option Pair) → words ≡ start ∷ entry ∷ [] → start ≡ codes "Move:"
    → IfSome read (SpellsPair entry) → IfSome read (SaysEntry words)
said_letters words entry start None parts is spells = tt
said_letters words entry start (Some p) parts is spells = inr (entry, parts ∙ ap (λ w. w ∷ entry ∷ []) is, spells)

-- more words than an entry has
pub too_many : (words left more : List (List ℕ)) (word : List ℕ) (own : List (Bor (List ℕ))) → map (λ (w : Bor (List ℕ)). w.now) own ++ left ≡ words
    → left ≡ word ∷ more → length own ≡ 9 → SaysNoEntry words
too_many words left more word own parts next full p says =
    let size = length-append (map (λ (w : Bor (List ℕ)). w.now) own) left in
    let count = length-map own (λ (w : Bor (List ℕ)). w.now) in
    let all = ap length parts in
    let behind = ap length next in
    ⊎_elim (λ (s : SaysPair words p). absurd (omega (arith, size, count, all, behind, full, ap length s.1)))
    (λ (s : (entry : List ℕ) × (words ≡ codes "Move:" ∷ entry ∷ []) × SpellsPair entry p). absurd (omega (arith, size, count, all, behind, full, ap length s.1)))
    says
