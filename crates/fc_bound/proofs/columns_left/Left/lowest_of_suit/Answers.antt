use Rattle.std.proofs.Common.{◌^◌, ◌*◌, ◌%◌, ◌∙◌, ap, refl, subst}
use Rattle.fc_bound.specs.Rows.{AreBits, stands_among}
use Rattle.fc_bound.proofs.LowLemmas.{Lowest, left_below, lowest_low, lowest_each, lowest_none}
use Rattle.fc_bound.proofs.columns_left.Left.lowest_of_suit.Goals as goal

pub returns-then-suit-eq0-clause-each : goal.returns-then-suit-eq0-clause-each
returns-then-suit-eq0-clause-each c = λ d among same _.
    let all = c.self.inside.all in
    absurd (lowest_none c.args.self.now all c.suit_cards.result c.args.u d
    (subst (λ v. AreBits all (stands_among v)) c.self.view_is c.self.invariant.stand)
    (λ e there. left_below c.self.inside.position.now all e c.self.invariant.whole (ap (λ v. stands_among v e) c.self.view_is ∙ there))
    c.suit_cards.ensures.value c.if-suit-eq0.true among same)

pub returns-else-suit-eq0-clause-low : goal.returns-else-suit-eq0-clause-low
returns-else-suit-eq0-clause-low c =
    let all = c.self.inside.all in
    let m = c.least.result in
    let lowest : Lowest c.args.self.now all c.suit_cards.result c.args.u m = record {
      are = subst (λ v. AreBits all (stands_among v)) c.self.view_is c.self.invariant.stand;
      cards = λ e there. left_below c.self.inside.position.now all e c.self.invariant.whole (ap (λ v. stands_among v e) c.self.view_is ∙ there);
      suits = c.suit_cards.ensures.value;
      set = c.least.ensures.set;
      least = c.least.ensures.least;
    } in
    lowest_low c.args.self.now all c.suit_cards.result c.args.u m (1 * 2 ^ m % 2 ^ 64) lowest c.least.ensures.below refl

pub returns-else-suit-eq0-clause-each : goal.returns-else-suit-eq0-clause-each
returns-else-suit-eq0-clause-each c =
    let all = c.self.inside.all in
    let m = c.least.result in
    let lowest : Lowest c.args.self.now all c.suit_cards.result c.args.u m = record {
      are = subst (λ v. AreBits all (stands_among v)) c.self.view_is c.self.invariant.stand;
      cards = λ e there. left_below c.self.inside.position.now all e c.self.invariant.whole (ap (λ v. stands_among v e) c.self.view_is ∙ there);
      suits = c.suit_cards.ensures.value;
      set = c.least.ensures.set;
      least = c.least.ensures.least;
    } in
    lowest_each c.args.self.now all c.suit_cards.result c.args.u m (1 * 2 ^ m % 2 ^ 64) lowest c.least.ensures.below refl
