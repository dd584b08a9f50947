use Rattle.std.proofs.Common.{◌∙◌, ℕ, get_or, refl, sym, subst, below_more, arith}
use Rattle.std.proofs.lemmas.List.{get_or_read}
use Rattle.std.proofs.lemmas.List.Elements.{All-from_get_or}
use Rattle.fc_moves.specs.GameRules.{Opens}
use Rattle.fc_sequences.proofs.carries.all_open.Goals as goal

pub returns-then-not-opens : goal.returns-then-not-opens
returns-then-not-opens g c =
    let game = g.G.Game.game c.args.game.now in record {
      value = (
        λ yes. absurd (cc yes),
        λ all. absurd (cc (sym c.if-not-opens.true ∙ c.opens.ensures.value.1 (subst (Opens game) (sym c.card-item.is) (all c.loop-card.card-index c.card-item.result (omega arith))))),
      );
    }

pub loop-card-preserved : goal.loop-card-preserved
loop-card-preserved g c =
    let game = g.G.Game.game c.args.game.now in
    let cards = c.args.cards.now in
    let read = get_or_read cards c.loop-card.card-index c.card-item.result (omega arith) c.card-item.is 0 in
    below_more (λ (k : ℕ). Opens game (get_or cards k 0)) c.loop-card.card-index c.loop-card.invariant
    (subst (Opens game) read (c.opens.ensures.value.0 c.if-not-opens.false))

pub returns : goal.returns
returns g c = record {
  value = (λ yes. All-from_get_or (Opens (g.G.Game.game c.args.game.now)) c.args.cards.now 0 (λ i within. c.loop-card.invariant i (omega arith)), λ all. refl);
}
