use Rattle.std.proofs.Common.{◌≡◌, ℕ, ◌+◌, ◌<◌, Some, inr, ap, ◌∙◌, sym, subst, ⊎_elim, arith}
use Rattle.std.specs.Int.{bit_at}
use Rattle.std.proofs.lemmas.Bool.{cases_lt}
use Rattle.std.proofs.lemmas.Nat.Bits.{bit_at-zero, shr_and_one}
use Rattle.fc_position.specs.Board.{Board, column, last_of}
use Rattle.fc_moves.specs.GameRules.{GameRules, Stands}
use Rattle.fc_canonical.proofs.WantedLemmas.{host_bit}
use Rattle.fc_canonical.proofs.wanted.has_host.Goals as goal
use Rattle.fc_canonical.proofs.wanted.has_host.Goals.{else-source-j-ne0-via-then-source-j-ne0+else-goes_to, else-source-j-ne0-via-else-source-j-ne0}

-- where the card may be put on the last of none of the columns so far, and not on this one's, one more column is passed
none_more : (g : GameRules) (b : Board) (u j : ℕ)
    → ((k l : ℕ) → k < j → last_of (column b k) ≡ Some l → Stands g u l → ⊥)
    → ((l : ℕ) → last_of (column b j) ≡ Some l → Stands g u l → ⊥) → (k l : ℕ) → k < j + 1 → last_of (column b k) ≡ Some l
    → Stands g u l → ⊥
none_more g b u j none here k l below last stands =
    ⊎_elim (λ lt. none k l lt last stands)
    (λ le. let same : k ≡ j = omega arith in
    here l (subst (λ n. last_of (column b n) ≡ Some l) same last) stands)
    (cases_lt k j)

pub returns-then-source-eq0 : goal.returns-then-source-eq0
returns-then-source-eq0 g c = record {
  value = (
    λ holds. absurd (cc),
    λ (j, l, inside, last, stands).
        let bit = host_bit (g.G.Game.game c.args.game.now) c.args.position.now c.args.source.now.card c.args.source.now.hosts
        (g.met.G.Game.sound c.args.game.now) c.requires.hosts j l inside last stands in
        let none = ap (λ n. bit_at n j) c.if-source-eq0.true ∙ bit_at-zero j in
        absurd (omega (arith, sym bit ∙ none)),
  );
}

pub loop-j-preserved : goal.loop-j-preserved
loop-j-preserved g c =
    let game = g.G.Game.game c.args.game.now in
    let b = c.args.position.now in
    let card = c.args.source.now.card in
    let j = c.loop-j.j in
    elim c.else-source-j-ne0.branch [
      | else-source-j-ne0-via-then-source-j-ne0+else-goes_to w ↦
          none_more game b card j c.loop-j.invariant (λ l last stands.
          let there : last_of w.column.result.now ≡ Some l = ap last_of w.column.ensures.value ∙ last in
          let goes = w.goes_to.ensures.value.1 (inr (l, there, stands)) in
          absurd (cc (sym w.if-goes_to.false ∙ goes)))
      | else-source-j-ne0-via-else-source-j-ne0 w ↦
          none_more game b card j c.loop-j.invariant (λ l last stands.
          let bit = host_bit game b card c.args.source.now.hosts (g.met.G.Game.sound c.args.game.now) c.requires.hosts j l
          c.loop-j-test.true last stands in
          absurd (omega (arith, sym bit ∙ sym (shr_and_one c.args.source.now.hosts j) ∙ w.if-source-j-ne0.false)))
    ]
