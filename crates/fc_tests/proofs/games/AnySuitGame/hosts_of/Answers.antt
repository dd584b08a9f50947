use Rattle.std.proofs.Common.{◌≡◌, ℕ, ◌+◌, ◌-◌, ◌*◌, ◌<◌, ◌++◌, [], ◌∷◌, length, true, map, sym, ◌∙◌, ap, lit<, arith}
use Rattle.std.specs.List.{range_with_len}
use Rattle.std.proofs.lemmas.List.FromFn.{length-map-range_with_len, map-range_with_len_more}
use Rattle.fc_moves.proofs.GameLemmas.{no_hosts, hosts_of_rank}
use Rattle.fc_tests.proofs.games.AnySuitGame.hosts_of.Goals as goal
use Rattle.fc_tests.proofs.games.AnySuitGame.hosts_of.Goals.{in-Some, in_default}

pub returns-then-rank-eq0-clause-exact : goal.returns-then-rank-eq0-clause-exact
returns-then-rank-eq0-clause-exact c u =
    rw c.new-cards.ensures
    (no_hosts (λ _ _. true) c.args.card (omega (arith, c.rank-rank.ensures.within.least)) u)

pub push-requires : goal.push-requires
push-requires c =
    let size = ap length c.loop-suit.invariant
    ∙ length-map-range_with_len {X = ℕ} (λ k. (c.rank-rank.result - 1 - 1) * 4 + k) 0 c.loop-suit.suit in
    let small : length c.loop-suit.cards.items < 4 = omega (arith, size) in (lit< tt, small)

pub loop-suit-preserved : goal.loop-suit-preserved
loop-suit-preserved c =
    let first : ℕ = (c.rank-rank.result - 1 - 1) * 4 in
    elim c.match-from_index.branch [
      | in-Some w ↦
          ap (λ v. v.items) w.cards-is
          ∙ w.push.ensures.items
          ∙ ap (λ xs. xs ++ w.in-Some.lower ∷ []) c.loop-suit.invariant
          ∙ ap (λ x. map (λ k. first + k) (range_with_len 0 c.loop-suit.suit) ++ x ∷ []) w.in-Some.ensures.value
          ∙ sym (map-range_with_len_more (λ k. first + k) 0 c.loop-suit.suit c.loop-suit.suit (omega arith))
      | in_default w ↦
          absurd (cc (w.in_default.ensures.valid.1 (omega (arith, c.rank-rank.ensures.within.greatest))))
    ]

pub returns-clause-exact : goal.returns-clause-exact
returns-clause-exact c u =
    let last : c.loop-suit.suit ≡ 4 = omega arith in
    let first : ℕ = (c.rank-rank.result - 1 - 1) * 4 in
    hosts_of_rank c.loop-suit.cards.items c.args.card first (omega (arith, c.rank-rank.ensures.within.greatest)) (omega (arith, c.rank-rank.ensures.within.least)) (ap (λ r. (r - 1 - 1) * 4) c.rank-rank.ensures.value)
    (c.loop-suit.invariant ∙ ap (λ n. map (λ k. first + k) (range_with_len 0 n)) last) u
