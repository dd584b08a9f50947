-- Lemmas on queues of nodes at places, as pairs of f and node.
use Rattle.std.proofs.Common.{◌≡◌, ℕ, ◌/◌, ◌<◌, ◌≤◌, suc, List, [], ◌∷◌, ◌++◌, length, get_or, take, drop, refl, sym, ◌∙◌, ap, subst, arith}
use Rattle.std.specs.Prelude.{All, IfNone, IfSome, None, Option, Some, map, remove, slice_index_or}
use Rattle.std.specs.List.Sorted.{IsPermutation}
use Rattle.std.proofs.lemmas.List.{append-nil, drop-map, get_or-map, length-map, map-append, take-map}
use Rattle.std.proofs.lemmas.List.Elements.{All-get_or, All-head, All-map, All-tail, All-weaker}
use Rattle.std.proofs.lemmas.List.Sorted.{IsPermutation-map}
use Rattle.fc_frontier.specs.Place.{PopsFirst, pair_at, pairs_at, place_of}
use Rattle.fc_frontier.specs.Queue.{Adds, IsLeast, in_order, with_pair}
use Rattle.fc_frontier.specs.Tie.{Entry, pair_of, pairs_of}
use Rattle.fc_frontier.specs.inner.Queue.{IsPlaceOfLeast}
use Rattle.fc_frontier.specs.inner.Tie.{placed_of}
use Rattle.fc_frontier.proofs.QueueLemmas.{in_order-least, in_order-permuted, in_order-remove, inserted-adds_to}
use Rattle.fc_frontier.proofs.WalkLemmas.{both_walked}

-- where each f has one place, that is the f
pairs_at-one : (nodes : List (ℕ × ℕ)) → pairs_at 1 nodes ≡ nodes
pairs_at-one [] = refl
pairs_at-one (p ∷ ps) =
    let same : p.0 / 1 ≡ p.0 = omega arith in
    ap (λ f. (f, p.1) ∷ pairs_at 1 ps) same ∙ ap (λ rest. p ∷ rest) (pairs_at-one ps)

pub walked-one : (all near far : List (ℕ × ℕ)) → all ≡ pairs_at 1 near ++ far ++ [] → all ≡ near ++ far
walked-one all near far is =
    is ∙ ap (λ front. front ++ far ++ []) (pairs_at-one near) ∙ append-nil (near ++ far)

-- the two parts of a queue with ties, each in another order
pub walked-tied : (all walk tied near far queue : List (ℕ × ℕ)) → all ≡ pairs_at 256 walk ++ [] ++ tied → IsPermutation walk near
    → IsPermutation tied (pairs_at 256 far) → near ++ far ≡ queue → IsPermutation all (pairs_at 256 queue)
walked-tied all walk tied near far queue is first second same =
    both_walked all (pairs_at 256 walk) tied (pairs_at 256 near) (pairs_at 256 far) (pairs_at 256 queue)
    (is ∙ ap (λ front. front ++ tied) (append-nil (pairs_at 256 walk)))
    (IsPermutation-map (pair_at 256) walk near first) second
    (sym (map-append (pair_at 256) near far) ∙ ap (pairs_at 256) same)

-- the pair at the place of an f and a tie
pair_at-place : (f tie node : ℕ) → tie < 256 → pair_at 256 (place_of f tie, node) ≡ (f, node)
pair_at-place f tie node small =
    let same : place_of f tie / 256 ≡ f = omega arith in
    ap (λ n. (n, node)) same

-- a node that is put in is one pair more
pub put-adds : (f tie node : ℕ) (old new : List (ℕ × ℕ)) → tie < 256 → new ≡ with_pair (place_of f tie, node) old
    → Adds (pairs_at 256 old) (pairs_at 256 new) (f, node)
put-adds f tie node old new small is =
    subst (λ (p : ℕ × ℕ). Adds (pairs_at 256 old) (pairs_at 256 new) p) (pair_at-place f tie node small)
    (IsPermutation-map (pair_at 256) ((place_of f tie, node) ∷ old) new (inserted-adds_to (place_of f tie, node) old new is))

-- what holds of the nodes holds of those that are left
pub first-all : (P : ℕ × ℕ → Type 0) (r : Option (ℕ × ℕ)) (old new : List (ℕ × ℕ)) → IfSome r (λ pair. PopsFirst pair old new)
    → IfNone r (new ≡ old) → All P old → All P new
first-all P None old new takes same all = subst (All P) (sym same) all
first-all P (Some pair) old new takes same all = All-tail P takes.placed new (subst (All P) takes.order all)

-- a pair at the least place has the least f
pub least-pair : (node : ℕ × ℕ) (nodes : List (ℕ × ℕ)) → IsLeast node nodes → IsLeast (pair_at 256 node) (pairs_at 256 nodes)
least-pair node nodes least =
    All-map (λ other. node.0 / 256 ≤ other.0) (pair_at 256) nodes
    (All-weaker (λ other. node.0 ≤ other.0) (λ other. node.0 / 256 ≤ other.0 / 256) (λ other h. omega arith) nodes least)

-- the place of the entry that is next, among their places
pub next-placed : (entries : List Entry) (place : ℕ) → place < length entries
    → ((k : ℕ) (d : Entry) → k < length entries → (placed_of (slice_index_or entries place d)).0 ≤ (placed_of (slice_index_or entries k d)).0)
    → ((k : ℕ) (d : Entry) → place < k → k < length entries
    → (placed_of (slice_index_or entries place d)).0 < (placed_of (slice_index_or entries k d)).0)
    → IsPlaceOfLeast (map placed_of entries) place
next-placed entries place within least last = record {
  within = omega (arith, size);
  least = λ k d below. let inside : k < length entries = omega (arith, size) in
      rw (at place d within) (rw (at k d inside) (least k none inside));
  last = λ k d after below. let inside : k < length entries = omega (arith, size) in
      rw (at place d within) (rw (at k d inside) (last k none after inside));
}
  where
    none : Entry
    none = record { f = 0; tie = 0; stamp = 0; node = 0 }

    size : length (map placed_of entries) ≡ length entries
    size = length-map entries placed_of

    at : (k : ℕ) (d : ℕ × ℕ) → k < length entries → get_or (map placed_of entries) k d ≡ placed_of (get_or entries k none)
    at k d below = get_or-map placed_of entries k none d below

-- the entry at a place, and its place
at-placed : (entries : List Entry) (place : ℕ) (entry : Entry) → place < length entries → entry ≡ slice_index_or entries place entry
    → placed_of entry ≡ slice_index_or (map placed_of entries) place (placed_of entry)
at-placed entries place entry below is = ap placed_of is ∙ sym (get_or-map placed_of entries place entry (placed_of entry) below)

remove-placed : (entries : List Entry) (place : ℕ) → remove (map placed_of entries) place ≡ map placed_of (remove entries place)
remove-placed entries place =
    ap (λ front. front ++ drop (suc place) (map placed_of entries)) (take-map placed_of place entries)
    ∙ ap (λ back. map placed_of (take place entries) ++ back) (drop-map placed_of (suc place) entries)
    ∙ sym (map-append placed_of (take place entries) (drop (suc place) entries))

-- the pair of an entry is that at its place
pair_at-placed : (entry : Entry) → entry.tie < 256 → pair_at 256 (placed_of entry) ≡ pair_of entry
pair_at-placed entry small = pair_at-place entry.f entry.tie entry.node small

-- an entry that was taken was the first
within : (entries : List Entry) (place : ℕ) → IsPlaceOfLeast (map placed_of entries) place → place < length entries
within entries place next = omega (arith, next.within, length-map entries placed_of)

tie-small : (entries : List Entry) (place : ℕ) (entry : Entry) → All (λ entry. entry.tie < 256) entries
    → IsPlaceOfLeast (map placed_of entries) place → entry ≡ slice_index_or entries place entry → entry.tie < 256
tie-small entries place entry small next is = subst (λ (e : Entry). e.tie < 256) (sym is)
    (All-get_or (λ entry. entry.tie < 256) entries place entry (within entries place next) small)

pub next-taken : (entries left : List Entry) (place : ℕ) (entry : Entry) (pair : ℕ × ℕ) (queue : List (ℕ × ℕ))
    → All (λ entry. entry.tie < 256) entries → IsPlaceOfLeast (map placed_of entries) place
    → entry ≡ slice_index_or entries place entry → pair ≡ pair_of entry → left ≡ remove entries place
    → in_order (map placed_of entries) ≡ queue → PopsFirst pair queue (in_order (map placed_of left))
next-taken entries left place entry pair queue small next is of rest view = record {
  placed = placed_of entry;
  is = of ∙ sym (pair_at-placed entry (tie-small entries place entry small next is));
  order = sym view
      ∙ in_order-remove (map placed_of entries) place (placed_of entry) next (at-placed entries place entry (within entries place next) is)
      ∙ ap (λ others. placed_of entry ∷ in_order others) (remove-placed entries place ∙ ap (map placed_of) (sym rest));
}

pub next-least : (entries : List Entry) (place : ℕ) (entry : Entry) (pair : ℕ × ℕ) (queue : List (ℕ × ℕ))
    → All (λ entry. entry.tie < 256) entries → IsPlaceOfLeast (map placed_of entries) place
    → entry ≡ slice_index_or entries place entry → pair ≡ pair_of entry
    → in_order (map placed_of entries) ≡ queue → IsLeast pair (pairs_at 256 queue)
next-least entries place entry pair queue small next is of view =
    subst (λ (p : ℕ × ℕ). IsLeast p (pairs_at 256 queue))
    (pair_at-placed entry (tie-small entries place entry small next is) ∙ sym of)
    (least-pair (placed_of entry) queue (subst (IsLeast (placed_of entry)) view
    (in_order-least (map placed_of entries) place (placed_of entry) next (at-placed entries place entry (within entries place next) is))))

-- the pairs of entries are those of their places
pairs_at-placed : (entries : List Entry) → All (λ entry. entry.tie < 256) entries → pairs_at 256 (map placed_of entries) ≡ pairs_of entries
pairs_at-placed [] small = refl
pairs_at-placed (e ∷ es) small =
    ap (λ p. p ∷ pairs_at 256 (map placed_of es)) (pair_at-placed e (All-head (λ entry. entry.tie < 256) e es small))
    ∙ ap (λ rest. pair_of e ∷ rest) (pairs_at-placed es (All-tail (λ entry. entry.tie < 256) e es small))

pub entries-permuted : (entries read : List Entry) (queue : List (ℕ × ℕ)) → read ≡ entries → All (λ entry. entry.tie < 256) entries
    → in_order (map placed_of entries) ≡ queue → IsPermutation (pairs_of read) (pairs_at 256 queue)
entries-permuted entries read queue is small view =
    subst (λ es. IsPermutation (pairs_of es) (pairs_at 256 queue)) (sym is)
    (subst (λ ps. IsPermutation ps (pairs_at 256 queue)) (pairs_at-placed entries small)
    (subst (λ q. IsPermutation (pairs_at 256 (map placed_of entries)) (pairs_at 256 q)) view
    (IsPermutation-map (pair_at 256) (map placed_of entries) (in_order (map placed_of entries)) (in_order-permuted (map placed_of entries)))))
