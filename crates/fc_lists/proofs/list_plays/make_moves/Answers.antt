use Rattle.std.proofs.Common.{rules, ◌≡◌, ◌+◌, ◌≤◌, length, List, ℕ, ◌∙◌, sym, ap, subst, length-append, arith, ◌∷◌, []}
use Rattle.std.specs.Prelude.{take}
use Rattle.std.proofs.lemmas.Bool.{false≢true}
use Rattle.fc_position.specs.Board.{Board}
use Rattle.fc_moves.specs.GameRules.{IsPositionOf}
use Rattle.fc_replay.specs.Played.{IsNotAllowed, StopsAt}
use Rattle.fc_replay.specs.Token.{move_tokens, IsNoMove}
use Rattle.fc_lists.specs.Plays.{IsListStop}
use Rattle.fc_lists.proofs.PlayedLemmas.{Made, made_all, made_done, made_few, made_next, made_none, made_stops, made_texts}
use Rattle.fc_lists.proofs.list_plays.make_moves.Goals as goal

pub loop-token-init : goal.loop-token-init
loop-token-init g c = (
  subst (λ l. Made (g.G.Game.game c.args.game.now) c.args.position.now c.args.text.now c.into_iter-token-iterator.result.rest.now l c.copy-board.result)
      (sym c.new-moves.ensures.items)
      (made_none _ _ _ _ _ (ap (λ i. i.rest.now) c.into_iter-token-iterator.ensures.into_iter_gives ∙ c.new-token-items.ensures.rest) c.copy-board.ensures.value
      (subst (IsPositionOf (g.G.Game.game c.args.game.now)) (sym c.copy-board.ensures.value) c.requires.fits)),
  subst (λ l. length l ≤ c.args.most) (sym c.new-moves.ensures.items) (omega arith),
)

pub returns-then-len-most-clause-made : goal.returns-then-len-most-clause-made
returns-then-len-most-clause-made g c =
    let size : c.len.result ≡ length c.loop-token.moves.items = search rules in
    made_done _ _ _ _ _ _ c.args.most c.loop-token.invariant.0 (omega (arith, size, c.if-len-most.true)) c.loop-token.invariant.1

pub returns-then-len-most-clause-texts : goal.returns-then-len-most-clause-texts
returns-then-len-most-clause-texts g c =
    let size : c.len.result ≡ length c.loop-token.moves.items = search rules in
    made_texts _ _ _ _ c.requires.fits
    (made_done _ _ _ _ _ _ c.args.most c.loop-token.invariant.0 (omega (arith, size, c.if-len-most.true)) c.loop-token.invariant.1)

pub returns-then-len-most-clause-few : goal.returns-then-len-most-clause-few
returns-then-len-most-clause-few g c = omega (arith, made_few _ _ _ _ _ _ c.loop-token.invariant.0, c.requires.short)

pub no_entry-requires : goal.no_entry-requires
no_entry-requires g c =
    let size : c.len-in_default.result ≡ length c.loop-token.moves.items = search rules in
    record { few = omega (arith, size, made_few _ _ _ _ _ _ c.loop-token.invariant.0, c.requires.short) }

pub returns-in_default-clause-fault : goal.returns-in_default-clause-fault
returns-in_default-clause-fault g c =
    let tokens : List (List ℕ) = take c.args.most (move_tokens c.args.text.now) in
    let first : c.len.result ≡ length c.loop-token.moves.items = search rules in
    let size : c.len-in_default.result ≡ length c.loop-token.moves.items = search rules in
    let less = c.if-len-most.false in
    let stops = made_stops _ _ _ _ _ _ c.args.most c.loop-token.invariant.0 (λ _ token. IsNoMove token) _ _ c.in-Some.ensures.steps c.in_default.ensures.refused (omega (arith, first, less)) in
    subst (IsListStop (g.G.Game.game c.args.game.now) c.args.position.now tokens) (sym c.no_entry.ensures.value)
    (subst (λ n. (boards : List Board) × StopsAt (λ _ token. IsNoMove token) (g.G.Game.game c.args.game.now) c.args.position.now tokens boards (n + 1)) (sym size) stops)

pub refused_move-requires : goal.refused_move-requires
refused_move-requires g c =
    let size : c.len-then-not-allows.result ≡ length c.loop-token.moves.items = search rules in
    record { few = omega (arith, size, made_few _ _ _ _ _ _ c.loop-token.invariant.0, c.requires.short) }

pub returns-then-not-allows-clause-fault : goal.returns-then-not-allows-clause-fault
returns-then-not-allows-clause-fault g c =
    let tokens : List (List ℕ) = take c.args.most (move_tokens c.args.text.now) in
    let first : c.len.result ≡ length c.loop-token.moves.items = search rules in
    let size : c.len-then-not-allows.result ≡ length c.loop-token.moves.items = search rules in
    let less = c.if-len-most.false in
    let stops = made_stops _ _ _ _ _ _ c.args.most c.loop-token.invariant.0 (IsNotAllowed (g.G.Game.game c.args.game.now)) _ _ c.in-Some.ensures.steps
    (c.in-Some-read_token.m, c.in-Some-read_token.ensures.read, λ a. false≢true (c.if-not-allows.ensures.value.1 a)) (omega (arith, first, less)) in
    subst (IsListStop (g.G.Game.game c.args.game.now) c.args.position.now tokens) (sym c.refused_move.ensures.value)
    (subst (λ n. (boards : List Board) × StopsAt (IsNotAllowed (g.G.Game.game c.args.game.now)) (g.G.Game.game c.args.game.now) c.args.position.now tokens boards (n + 1)) (sym size) stops)

pub loop-token-preserved : goal.loop-token-preserved
loop-token-preserved g c =
    let first : c.len.result ≡ length c.loop-token.moves.items = search rules in
    let less = c.if-len-most.false in
    let made = made_next _ _ _ _ _ _ _ _ _ _ c.loop-token.invariant.0 c.in-Some.ensures.steps c.in-Some-read_token.ensures.read c.apply.ensures.step in (
      subst (λ l. Made (g.G.Game.game c.args.game.now) c.args.position.now c.args.text.now c.next.new.self.rest.now l c.apply.new.position) (sym c.in-Ok.ensures.items) made,
      omega (arith, first, less, ap length c.in-Ok.ensures.items, length-append c.loop-token.moves.items (c.in-Some-read_token.m ∷ [])),
    )

pub returns-clause-made : goal.returns-clause-made
returns-clause-made g c = made_all _ _ _ _ _ _ c.args.most c.loop-token.invariant.0 c.in-None.ensures.steps.0 c.loop-token.invariant.1

pub returns-clause-texts : goal.returns-clause-texts
returns-clause-texts g c =
    made_texts _ _ _ _ c.requires.fits
    (made_all _ _ _ _ _ _ c.args.most c.loop-token.invariant.0 c.in-None.ensures.steps.0 c.loop-token.invariant.1)

pub returns-clause-few : goal.returns-clause-few
returns-clause-few g c = omega (arith, made_few _ _ _ _ _ _ c.loop-token.invariant.0, c.requires.short)
