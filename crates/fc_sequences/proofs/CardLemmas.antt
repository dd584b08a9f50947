-- The end of a column: the cards of a sequence, by halves.
use Rattle.std.proofs.Common.{◌≡◌, ℕ, ◌+◌, ◌-◌, ◌≤◌, ◌<◌, Some, List, [], ◌++◌, length, take, drop, get_or, refl, sym, ◌∙◌, ap, subst, inr, ⊎_elim, arith}
use Rattle.std.specs.Prelude.{slice_index}
use Rattle.std.proofs.lemmas.List.{length-take-le, length-drop, length-append, get_or-take, get_or-drop, get_or-append-add, drop-take, drop-drop, take-take, take-append-drop, get_or_read}
use Rattle.std.proofs.lemmas.Bool.{cases_lt}
use Rattle.std.proofs.lemmas.Option.{slice_get-get_or}
use Rattle.fc_position.specs.Board.{last_of}
use Rattle.fc_moves.specs.GameRules.{GameRules, Stands, Opens}
use Rattle.fc_moves.specs.Step.{MayLand}
use Rattle.fc_sequences.specs.Sequence.{last_cards, cards_before, IsSequence}
use Rattle.fc_sequences.specs.inner.Carry.{EndOpens, EndsInSequence}

-- how many cards there are before the last k, and among them
pub length-before : (k : ℕ) (cards : List ℕ) → length (cards_before k cards) ≡ length cards - k
length-before k cards = length-take-le (length cards - k) cards (omega arith)

pub length-last : (k : ℕ) (cards : List ℕ) → k ≤ length cards → length (last_cards k cards) ≡ k
length-last k cards there = length-drop (length cards - k) cards ∙ omega arith

-- the cards before the last k stand where they stood, and the last k after them
before-at : (k : ℕ) (cards : List ℕ) (a : ℕ) → a + k < length cards → slice_index (cards_before k cards) a ≡ slice_index cards a
before-at k cards a below = get_or-take (length cards - k) cards a 0 (omega arith)

pub last-at : (k : ℕ) (cards : List ℕ) (a b : ℕ) → b + k ≡ a + length cards → k ≤ length cards → slice_index (last_cards k cards) a ≡ slice_index cards b
last-at k cards a b e there =
    let at : length cards - k + a ≡ b = omega arith in
    get_or-drop (length cards - k) cards a 0 ∙ ap (slice_index cards) at

-- the cards before the last h and before r more of them are those before the last h + r
pub before-before : (h r : ℕ) (cards : List ℕ) → cards_before r (cards_before h cards) ≡ cards_before (h + r) cards
before-before h r cards =
    let long = length-before h cards in
    let n : length (cards_before h cards) - r ≡ length cards - (h + r) = omega arith in
    ap (λ m. take m (cards_before h cards)) n ∙ take-take (length cards - (h + r)) (length cards - h) cards (omega arith)

-- the last r of the cards before the last h, and these, are the last h + r
pub last-last : (h r : ℕ) (cards : List ℕ) → h + r ≤ length cards
    → last_cards r (cards_before h cards) ++ last_cards h cards ≡ last_cards (h + r) cards
last-last h r cards there =
    let n = length cards - (h + r) in
    let long = length-before h cards in
    let low : length (cards_before h cards) - r ≡ n = omega arith in
    let high : length cards - h ≡ n + r = omega arith in
    let one : last_cards r (cards_before h cards) ≡ take r (drop n cards) =
    ap (λ m. drop m (cards_before h cards)) low ∙ ap (λ m. drop n (take m cards)) high ∙ drop-take n r cards in
    let two : last_cards h cards ≡ drop r (drop n cards) = ap (λ m. drop m cards) high ∙ sym (drop-drop r n cards) in
    rw (one, two) (take-append-drop r (drop n cards))

stands_same : (g : GameRules) (u l v m : ℕ) → v ≡ u → m ≡ l → Stands g u l → Stands g v m
stands_same g u l v m e f s = let P : ℕ → ℕ → Type 0 = λ x y. Stands g x y in subst (λ x. P x m) (sym e) (subst (λ y. P u y) (sym f) s)

opens_same : (g : GameRules) (u v : ℕ) → v ≡ u → Opens g u → Opens g v
opens_same g u v e o = subst (λ x. Opens g x) (sym e) o

-- a sequence's last cards are one, and so are the cards before them
pub sequence_before : (g : GameRules) (h r : ℕ) (cards : List ℕ) → EndsInSequence g (h + r) cards → EndsInSequence g r (cards_before h cards)
sequence_before g h r cards seq a low within =
    let long = length-before h cards in
    stands_same g (slice_index cards (a + 1)) (slice_index cards a) (slice_index (cards_before h cards) (a + 1)) (slice_index (cards_before h cards) a)
    (before-at h cards (a + 1) (omega arith)) (before-at h cards a (omega arith)) (seq a (omega arith) (omega arith))

pub sequence_last : (g : GameRules) (h : ℕ) (cards : List ℕ) → h ≤ length cards → EndsInSequence g h cards → EndsInSequence g h (last_cards h cards)
sequence_last g h cards there seq a low within =
    let long = length-last h cards there in
    let b = length cards - h + a in
    stands_same g (slice_index cards (b + 1)) (slice_index cards b) (slice_index (last_cards h cards) (a + 1)) (slice_index (last_cards h cards) a)
    (last-at h cards (a + 1) (b + 1) (omega arith) there) (last-at h cards a b (omega arith) there) (seq b (omega arith) (omega arith))

-- and where the cards of a sequence may open columns, so may those of its parts
pub opens_before : (g : GameRules) (h r : ℕ) (cards : List ℕ) → EndOpens g (h + r) cards → EndOpens g r (cards_before h cards)
opens_before g h r cards opens a low within =
    let long = length-before h cards in
    opens_same g (slice_index cards a) (slice_index (cards_before h cards) a) (before-at h cards a (omega arith)) (opens a (omega arith) (omega arith))

pub opens_last : (g : GameRules) (h : ℕ) (cards : List ℕ) → h ≤ length cards → EndOpens g h cards → EndOpens g h (last_cards h cards)
opens_last g h cards there opens a low within =
    let long = length-last h cards there in
    let b = length cards - h + a in
    opens_same g (slice_index cards b) (slice_index (last_cards h cards) a) (last-at h cards a b (omega arith) there) (opens b (omega arith) (omega arith))

-- the first of the last r cards before the last h is the first of the last h + r, and the last h begin where they began
pub first_before : (h r : ℕ) (cards : List ℕ) → 1 ≤ r → h + r ≤ length cards
    → slice_index (cards_before h cards) (length (cards_before h cards) - r) ≡ slice_index cards (length cards - (h + r))
first_before h r cards some_cards there =
    let long = length-before h cards in
    let n : length (cards_before h cards) - r ≡ length cards - (h + r) = omega arith in
    ap (slice_index (cards_before h cards)) n ∙ before-at h cards (length cards - (h + r)) (omega arith)

pub first_last : (h : ℕ) (cards : List ℕ) → h ≤ length cards
    → slice_index (last_cards h cards) (length (last_cards h cards) - h) ≡ slice_index cards (length cards - h)
first_last h cards there =
    let long = length-last h cards there in
    last-at h cards (length (last_cards h cards) - h) (length cards - h) (omega arith) there

-- after the last r cards before the last h have been put on a column, these may land there
pub lands_after : (g : GameRules) (h r : ℕ) (cards base : List ℕ) → 1 ≤ h → 1 ≤ r → h + r ≤ length cards → EndsInSequence g (h + r) cards
    → MayLand g (base ++ last_cards r (cards_before h cards)) (slice_index cards (length cards - h))
lands_after g h r cards base some_cards more there seq =
    let top = last_cards r (cards_before h cards) in
    let long = length-before h cards in
    let size : length top ≡ r = length-last r (cards_before h cards) (omega arith) in
    let both : length (base ++ top) ≡ length base + length top = length-append base top in
    let last : length (base ++ top) - 1 ≡ length base + (r - 1) = omega arith in
    let b = length cards - (h + 1) in
    let here : slice_index (base ++ top) (length base + (r - 1)) ≡ slice_index cards b =
    get_or-append-add base top (r - 1) 0 ∙ last-at r (cards_before h cards) (r - 1) b (omega arith) (omega arith) ∙ before-at h cards b (omega arith) in
    let found : last_of (base ++ top) ≡ Some (slice_index cards b) =
    slice_get-get_or (base ++ top) (length (base ++ top) - 1) 0 (omega arith) ∙ ap (λ n. Some (slice_index (base ++ top) n)) last ∙ ap (λ (u : ℕ). Some u) here in
    let next : length cards - h ≡ b + 1 = omega arith in
    inr (slice_index cards b, found, stands_same g (slice_index cards (b + 1)) (slice_index cards b) (slice_index cards (length cards - h)) (slice_index cards b) (ap (slice_index cards) next) refl (seq b (omega arith) (omega arith)))

-- all the last cards are all of them, and none before
pub last_all : (h : ℕ) (cards : List ℕ) → length cards ≡ h → last_cards h cards ≡ cards
last_all h cards e = let n : length cards - h ≡ 0 = omega arith in ap (λ m. drop m cards) n

pub before_all : (h : ℕ) (cards : List ℕ) → length cards ≡ h → cards_before h cards ≡ []
before_all h cards e = let n : length cards - h ≡ 0 = omega arith in ap (λ m. take m cards) n

-- the last cards of a column are a sequence, by the column's indices
pub ends_in : (g : GameRules) (k : ℕ) (cards : List ℕ) → k ≤ length cards → IsSequence g (last_cards k cards) → EndsInSequence g k cards
ends_in g k cards there seq a low within =
    let long = length-last k cards there in
    let b = a - (length cards - k) in
    stands_same g (slice_index (last_cards k cards) (b + 1)) (slice_index (last_cards k cards) b) (slice_index cards (a + 1)) (slice_index cards a)
    (sym (last-at k cards (b + 1) (a + 1) (omega arith) there)) (sym (last-at k cards b a (omega arith) there)) (seq b (omega arith))

-- a longer front of cards is a sequence where the next card may stand on the one before it
pub sequence_more : (g : GameRules) (cards : List ℕ) (i u l : ℕ) → 1 ≤ i → i < length cards → u ≡ get_or cards i u
    → l ≡ get_or cards (i - 1) l → Stands g u l → ((a : ℕ) → a + 1 < i → Stands g (slice_index cards (a + 1)) (slice_index cards a))
    → (a : ℕ) → a + 1 < i + 1 → Stands g (slice_index cards (a + 1)) (slice_index cards a)
sequence_more g cards i u l low within upper lower stands before a below =
    ⊎_elim (λ lt. before a lt)
    (λ le. let one : a + 1 ≡ i = omega arith in
    let two : a ≡ i - 1 = omega arith in
    stands_same g u l (slice_index cards (a + 1)) (slice_index cards a)
    (ap (slice_index cards) one ∙ sym (get_or_read cards i u within upper 0))
    (ap (slice_index cards) two ∙ sym (get_or_read cards (i - 1) l (omega arith) lower 0)) stands)
    (cases_lt (a + 1) i)

-- in a sequence each card may stand on the one before it
pub sequence_at : (g : GameRules) (cards : List ℕ) (i u l : ℕ) → 1 ≤ i → i < length cards → u ≡ get_or cards i u
    → l ≡ get_or cards (i - 1) l → IsSequence g cards → Stands g u l
sequence_at g cards i u l low within upper lower seq =
    let next : i ≡ i - 1 + 1 = omega arith in
    stands_same g (slice_index cards (i - 1 + 1)) (slice_index cards (i - 1)) u l
    (get_or_read cards i u within upper 0 ∙ ap (slice_index cards) next)
    (get_or_read cards (i - 1) l (omega arith) lower 0) (seq (i - 1) (omega arith))
