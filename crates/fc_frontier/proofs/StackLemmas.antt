-- Lemmas on stacks of nodes, seen as a queue.
use Rattle.std.proofs.Common.{◌≡◌, ℕ, ◌+◌, ◌<◌, ◌≤◌, max, zero, suc, List, [], ◌∷◌, ◌++◌, length, get_or, set, take, refl, sym, ◌∙◌, ap, subst, ⊎_elim, arith}
use Rattle.std.specs.Prelude.{All, Err, Ok, OnErr, Result, map, reverse, sum_by, vec_len}
use Rattle.std.specs.Global.{Vec}
use Rattle.std.proofs.lemmas.List.{get_or-map, map_push, get_or-set_other, set-get_or, length-set, map-set, length-append, length-map, length-reverse, reverse-append}
use Rattle.std.proofs.lemmas.List.Sums.{sum_by-cons, sum_by_more}
use Rattle.std.proofs.lemmas.Bool.{cases_lt}
use Rattle.std.proofs.lemmas.List.Elements.{All-nil, All-append, All-map, All-weaker}
use Rattle.fc_frontier.specs.Queue.{IsLeast, with_pair}
use Rattle.fc_frontier.specs.Stack.{nodes_of}
use Rattle.fc_frontier.specs.inner.Stack.{AreStacks, HasGrown, queue_from, stack_pairs}
use Rattle.fc_frontier.proofs.QueueLemmas.{inserted-behind, inserted-least}

-- a node on top comes first
pub stack_pairs-push : (f node : ℕ) (nodes : List ℕ)
    → stack_pairs f (nodes ++ node ∷ []) ≡ (f, node) ∷ stack_pairs f nodes
stack_pairs-push f node nodes = ap (map (λ node. (f, node))) (reverse-append nodes (node ∷ []))

-- the pairs of a stack have its f
stack_pairs-at : (f : ℕ) (nodes : List ℕ) → All (λ p. p.0 ≡ f) (stack_pairs f nodes)
stack_pairs-at f nodes = All-map (λ p. p.0 ≡ f) (λ node. (f, node)) (reverse nodes) (λ k d below. refl)

-- the pairs of stacks from f on have no lesser f
pub stacked-from : (f : ℕ) (stacks : List (List ℕ)) → All (λ p. f ≤ p.0) (queue_from f stacks)
stacked-from f [] = All-nil (λ p. f ≤ p.0)
stacked-from f (nodes ∷ stacks) = All-append (λ p. f ≤ p.0) (stack_pairs f nodes) (queue_from (f + 1) stacks)
    (All-weaker (λ p. p.0 ≡ f) (λ p. f ≤ p.0) (λ p h. omega arith) (stack_pairs f nodes) (stack_pairs-at f nodes))
    (All-weaker (λ p. f + 1 ≤ p.0) (λ p. f ≤ p.0) (λ p h. omega arith) (queue_from (f + 1) stacks) (stacked-from (f + 1) stacks))

-- a node that is put on a stack goes before all of no lesser f
pub stacked-push : (f n node i : ℕ) (stacks : List (List ℕ)) → i < length stacks → n ≡ f + i
    → queue_from f (set stacks i (get_or stacks i [] ++ node ∷ [])) ≡ with_pair (n, node) (queue_from f stacks)
stacked-push f n node i [] below is = absurd (omega arith)
stacked-push f n node zero (nodes ∷ stacks) below is =
    let same : n ≡ f = omega arith in
    let least : IsLeast (n, node) (queue_from f (nodes ∷ stacks)) =
    All-weaker (λ p. f ≤ p.0) (λ p. n ≤ p.0) (λ p h. omega arith) (queue_from f (nodes ∷ stacks)) (stacked-from f (nodes ∷ stacks)) in
    ap (λ front. front ++ queue_from (f + 1) stacks) (stack_pairs-push f node nodes)
    ∙ ap (λ m. (m, node) ∷ queue_from f (nodes ∷ stacks)) (sym same)
    ∙ sym (inserted-least (n, node) (queue_from f (nodes ∷ stacks)) least)
stacked-push f n node (suc i) (nodes ∷ stacks) below is =
    ap (λ rest. stack_pairs f nodes ++ rest) (stacked-push (f + 1) n node i stacks (omega arith) (omega arith))
    ∙ sym (inserted-behind (n, node) (stack_pairs f nodes) (queue_from (f + 1) stacks)
    (All-weaker (λ p. p.0 ≡ f) (λ p. p.0 < n) (λ p h. omega arith) (stack_pairs f nodes) (stack_pairs-at f nodes)))

-- empty stacks have no pairs
pub stacked-empty : (f : ℕ) (stacks : List (List ℕ)) → ((k : ℕ) → k < length stacks → get_or stacks k [] ≡ [])
    → queue_from f stacks ≡ []
stacked-empty f [] empty = refl
stacked-empty f (nodes ∷ stacks) empty =
    ap (λ nodes. stack_pairs f nodes ++ queue_from (f + 1) stacks) (empty 0 (omega arith))
    ∙ stacked-empty (f + 1) stacks (λ k below. empty (suc k) (omega arith))

-- the top of the first stack that isn't empty comes first
pub stacked-pop : (f n node i : ℕ) (nodes : List ℕ) (stacks : List (List ℕ)) → i < length stacks → n ≡ f + i
    → ((k : ℕ) → k < i → get_or stacks k [] ≡ []) → get_or stacks i [] ≡ nodes ++ node ∷ []
    → queue_from f stacks ≡ (n, node) ∷ queue_from f (set stacks i nodes)
stacked-pop f n node i nodes [] below is empty top = absurd (omega arith)
stacked-pop f n node zero nodes (old ∷ stacks) below is empty top =
    let same : n ≡ f = omega arith in
    ap (λ old. stack_pairs f old ++ queue_from (f + 1) stacks) top
    ∙ ap (λ front. front ++ queue_from (f + 1) stacks) (stack_pairs-push f node nodes)
    ∙ ap (λ m. (m, node) ∷ (stack_pairs f nodes ++ queue_from (f + 1) stacks)) (sym same)
stacked-pop f n node (suc i) nodes (old ∷ stacks) below is empty top =
    let none : old ≡ [] = empty 0 (omega arith) in
    ap (λ old. stack_pairs f old ++ queue_from (f + 1) stacks) none
    ∙ stacked-pop (f + 1) n node i nodes stacks (omega arith) (omega arith) (λ k inside. empty (suc k) (omega arith)) top
    ∙ ap (λ old. (n, node) ∷ (stack_pairs f old ++ queue_from (f + 1) (set stacks i nodes))) (sym none)

-- no pair has a lesser f than the first stack that isn't empty
pub stacked-least : (f n i : ℕ) (stacks : List (List ℕ)) → n ≡ f + i → ((k : ℕ) → k < i → get_or stacks k [] ≡ [])
    → All (λ p. n ≤ p.0) (queue_from f stacks)
stacked-least f n i [] is empty = All-nil (λ p. n ≤ p.0)
stacked-least f n zero (nodes ∷ stacks) is empty =
    All-weaker (λ p. f ≤ p.0) (λ p. n ≤ p.0) (λ p h. omega arith) (queue_from f (nodes ∷ stacks)) (stacked-from f (nodes ∷ stacks))
stacked-least f n (suc i) (nodes ∷ stacks) is empty =
    subst (λ old. All (λ p. n ≤ p.0) (stack_pairs f old ++ queue_from (f + 1) stacks)) (sym (empty 0 (omega arith)))
    (stacked-least (f + 1) n i stacks (omega arith) (λ k inside. empty (suc k) (omega arith)))

-- the pairs are as many as the nodes of all stacks
pub length-stacked : (f : ℕ) (stacks : List (List ℕ)) → length (queue_from f stacks) ≡ sum_by length stacks
length-stacked f [] = refl
length-stacked f (nodes ∷ stacks) =
    length-append (stack_pairs f nodes) (queue_from (f + 1) stacks)
    ∙ ap (λ n. n + length (queue_from (f + 1) stacks)) (length-map (reverse nodes) (λ node. (f, node)) ∙ length-reverse nodes)
    ∙ ap (λ n. length nodes + n) (length-stacked (f + 1) stacks)
    ∙ sym (sum_by-cons length nodes stacks)

-- what a place of the stacks holds
nodes_at : (stacks : List (Vec ℕ)) (i : ℕ) (v : Vec ℕ) → i < length stacks → v ≡ get_or stacks i v
    → get_or (nodes_of stacks) i [] ≡ v.items
nodes_at stacks i v below is =
    get_or-map (λ stack. stack.items) stacks i v [] below ∙ ap (λ (stack : Vec ℕ). stack.items) (sym is)

pub nodes_at-empty : (stacks : List (Vec ℕ)) (i : ℕ) (v : Vec ℕ) → i < length stacks → v ≡ get_or stacks i v
    → vec_len v ≡ 0 → get_or (nodes_of stacks) i [] ≡ []
nodes_at-empty stacks i v below is none =
    nodes_at stacks i v below is ∙ no_items v.items (sym v.ok.0 ∙ none)
  where
    no_items : (nodes : List ℕ) → length nodes ≡ 0 → nodes ≡ []
    no_items [] e = refl
    no_items (x ∷ xs) e = absurd (omega arith)

pub length-nodes_of : (stacks : List (Vec ℕ)) → length (nodes_of stacks) ≡ length stacks
length-nodes_of stacks = length-map stacks (λ stack. stack.items)

nodes_of-set : (stacks : List (Vec ℕ)) (i : ℕ) (v : Vec ℕ) → nodes_of (set stacks i v) ≡ set (nodes_of stacks) i v.items
nodes_of-set stacks i v = map-set (λ stack. stack.items) stacks i v

-- the stacks after one of them changed, which is none of those that must be empty
pub changed : (stacks : List (Vec ℕ)) (place first : ℕ) (new : Vec ℕ)
    → length (nodes_of stacks) ≤ 524288 → ((k : ℕ) → k < first → get_or (nodes_of stacks) k [] ≡ []) → first ≤ place
    → AreStacks (nodes_of (set stacks place new)) first
changed stacks place first new few empty before = rw (nodes_of-set stacks place new) (record {
  few = omega (arith, length-set (nodes_of stacks) place new.items);
  empty = λ k below. get_or-set_other (nodes_of stacks) place k new.items [] (λ e. omega arith) ∙ empty k below;
})

-- the stacks after one of them was put back as it was
pub put_back : (stacks : List (Vec ℕ)) (place : ℕ) (old new : Vec ℕ) → place < length stacks → old ≡ get_or stacks place old
    → new.items ≡ old.items → nodes_of (set stacks place new) ≡ nodes_of stacks
put_back stacks place old new below is same =
    nodes_of-set stacks place new
    ∙ ap (set (nodes_of stacks) place) (same ∙ sym (nodes_at stacks place old below is))
    ∙ set-get_or (nodes_of stacks) place []

-- the queue after a node was put on a stack
pub pushed_on : (stacks : List (Vec ℕ)) (place node : ℕ) (old new : Vec ℕ) → place < length stacks → old ≡ get_or stacks place old
    → new.items ≡ old.items ++ node ∷ [] → queue_from 0 (nodes_of (set stacks place new)) ≡ with_pair (place, node) (queue_from 0 (nodes_of stacks))
pushed_on stacks place node old new below is after =
    ap (queue_from 0) (nodes_of-set stacks place new
    ∙ ap (set (nodes_of stacks) place) (after ∙ ap (λ nodes. nodes ++ node ∷ []) (sym (nodes_at stacks place old below is))))
    ∙ stacked-push 0 place node place (nodes_of stacks) (omega (arith, length-nodes_of stacks)) (omega arith)

-- all stacks before the one that was found are empty
pub empty_before : (stacks : List (List ℕ)) (first place : ℕ) → AreStacks stacks first
    → ((k : ℕ) → first ≤ k → k < place → get_or stacks k [] ≡ []) → (k : ℕ) → k < place → get_or stacks k [] ≡ []
empty_before stacks first place are passed k below = ⊎_elim (are.empty k) (λ from. passed k from below) (cases_lt k first)

-- the queue after the top of the first stack that isn't empty was taken
pub popped_from : (stacks : List (Vec ℕ)) (place node : ℕ) (old new : Vec ℕ) → place < length stacks → old ≡ get_or stacks place old
    → old.items ≡ new.items ++ node ∷ [] → ((k : ℕ) → k < place → get_or (nodes_of stacks) k [] ≡ [])
    → queue_from 0 (nodes_of stacks) ≡ (place, node) ∷ queue_from 0 (nodes_of (set stacks place new))
popped_from stacks place node old new below is before empty =
    stacked-pop 0 place node place new.items (nodes_of stacks) (omega (arith, length-nodes_of stacks)) (omega arith) empty
    (nodes_at stacks place old below is ∙ before)
    ∙ ap (λ left. (place, node) ∷ queue_from 0 left) (sym (nodes_of-set stacks place new))

-- no pairs where all stacks are empty
pub none_left : (stacks : List (Vec ℕ)) (place : ℕ) → length stacks ≤ place
    → ((k : ℕ) → k < place → get_or (nodes_of stacks) k [] ≡ []) → queue_from 0 (nodes_of stacks) ≡ []
none_left stacks place past empty =
    stacked-empty 0 (nodes_of stacks) (λ k below. empty k (omega (arith, length-nodes_of stacks)))

-- one stack more
pub length-more : (stacks : List (Vec ℕ)) (i : ℕ) (v : Vec ℕ) → i < length stacks → v ≡ get_or stacks i v
    → sum_by length (take (i + 1) (nodes_of stacks)) ≡ sum_by length (take i (nodes_of stacks)) + length v.items
length-more stacks i v below is =
    sum_by_more length (nodes_of stacks) i [] (omega (arith, length-nodes_of stacks))
    ∙ ap (λ nodes. sum_by length (take i (nodes_of stacks)) + length nodes) (nodes_at stacks i v below is)

-- an empty stack more, behind
stacked-more : (f : ℕ) (stacks : List (List ℕ)) → queue_from f (stacks ++ [] ∷ []) ≡ queue_from f stacks
stacked-more f [] = refl
stacked-more f (nodes ∷ stacks) = ap (λ rest. stack_pairs f nodes ++ rest) (stacked-more (f + 1) stacks)

nodes-more : (stacks : List (List ℕ)) (k : ℕ) → get_or (stacks ++ [] ∷ []) k [] ≡ get_or stacks k []
nodes-more [] zero = refl
nodes-more [] (suc k) = refl
nodes-more (nodes ∷ stacks) zero = refl
nodes-more (nodes ∷ stacks) (suc k) = nodes-more stacks k

pub grown-more : (old : List (List ℕ)) (stacks new : List (Vec ℕ)) (made : Vec ℕ) → HasGrown old (nodes_of stacks)
    → new ≡ stacks ++ made ∷ [] → made.items ≡ [] → HasGrown old (nodes_of new)
grown-more old stacks new made grown is empty =
    let more : nodes_of new ≡ nodes_of stacks ++ [] ∷ [] =
    ap nodes_of is ∙ map_push (λ stack. stack.items) stacks made ∙ ap (λ nodes. nodes_of stacks ++ nodes ∷ []) empty in
    subst (HasGrown old) (sym more) (record {
      same = stacked-more 0 (nodes_of stacks) ∙ grown.same;
      nodes = λ k. nodes-more (nodes_of stacks) k ∙ grown.nodes k;
    })

-- the stacks after there were made as many as a place wants
pub grown_are : (old new : Vec (Vec ℕ)) (first place : ℕ) → AreStacks (nodes_of old.items) first
    → HasGrown (nodes_of old.items) (nodes_of new.items) → vec_len new ≤ max (vec_len old) (place + 1) → place < 524288
    → AreStacks (nodes_of new.items) first
grown_are old new first place are grown most near = record {
  few = omega (arith, length-nodes_of old.items, length-nodes_of new.items, old.ok.0, new.ok.0, are.few);
  empty = λ k below. grown.nodes k ∙ are.empty k below;
}

-- what holds anyway holds at an error
pub on_err : {T E : Type 0} {P : Type 0} (r : Result T E) → P → OnErr r P
on_err (Ok x) p = tt
on_err (Err e) p = p
