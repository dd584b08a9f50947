use Rattle.std.proofs.Common.{◌<◌, length, get_or, refl, sym, ◌∙◌, ap, subst, arith}
use Rattle.fc_position.specs.Position.{IsPosition}
use Rattle.fc_codes.specs.inner.Bits.{cards_of}
use Rattle.fc_codes.proofs.BitLemmas.{none_first}
use Rattle.fc_codes.proofs.BuiltLemmas.{few_deepest, next_card_is}
use Rattle.fc_codes.proofs.StackLemmas.{deepest_told, bits_left, column_done, none_left}
use Rattle.fc_codes.proofs.start_layouts.Layout.fill_first.Goals as goal

pub loop-card-init : goal.loop-card-init
loop-card-init c = record {
  count = c.requires.eight;
  most = omega arith;
  left = refl;
  bits = λ d set_. set_;
  done = λ m below. absurd (omega (arith, below));
}

pub loop-card-preserved : goal.loop-card-preserved
loop-card-preserved c =
    let s = c.args.self.now in
    let code = c.args.code.now in
    let cards = cards_of c.args.deepest in
    let inv = c.loop-card.invariant in
    let next = next_card_is cards c.loop-card.i c.loop-card.rest c.without_card-rest.result c.in-Some.card c.index.result inv.left
    c.index.ensures.value c.index.ensures.below c.in-Some.ensures.set c.in-Some.ensures.least c.without_card-rest.ensures.value in
    let told = deepest_told s code c.args.above.now c.args.deepest c.args.moved c.requires.stacks in
    let (b, p, k) = c.requires.code in
    let few = few_deepest s b code (subst IsPosition c.self.view_is c.self.invariant.whole) p k in
    let long = ap length told in
    let after = column_done s code c.loop-card.i c.in-Some.card c.begin-last.result c.loop-card.columns c.begin-last.new.columns c.grow.new.columns
    (omega (arith, inv.count, next.inside, few, long)) c.begin-last.ensures.value (subst (λ l. c.loop-card.i < length l) told next.inside)
    (next.at ∙ ap (λ l. get_or l c.loop-card.i c.in-Some.card) told) c.grow.ensures.value inv.done in
    record {
      count = after.0 ∙ inv.count;
      most = omega (arith, next.inside);
      left = next.left;
      bits = bits_left c.args.deepest c.loop-card.rest c.without_card-rest.result c.index.result inv.bits c.without_card-rest.ensures.value;
      done = after.1;
    }

pub loop-card-smaller : goal.loop-card-smaller
loop-card-smaller c =
    let cards = cards_of c.args.deepest in
    let inv = c.loop-card.invariant in
    let next = next_card_is cards c.loop-card.i c.loop-card.rest c.without_card-rest.result c.in-Some.card c.index.result inv.left
    c.index.ensures.value c.index.ensures.below c.in-Some.ensures.set c.in-Some.ensures.least c.without_card-rest.ensures.value in
    next.fewer

pub begin-last-requires-clause-there : goal.begin-last-requires-clause-there
begin-last-requires-clause-there c =
    let (b, p, k) = c.requires.code in
    let s = c.args.self.now in
    let code = c.args.code.now in
    let cards = cards_of c.args.deepest in
    let inv = c.loop-card.invariant in
    let next = next_card_is cards c.loop-card.i c.loop-card.rest c.without_card-rest.result c.in-Some.card c.index.result inv.left
    c.index.ensures.value c.index.ensures.below c.in-Some.ensures.set c.in-Some.ensures.least c.without_card-rest.ensures.value in
    let few = few_deepest s b code (subst IsPosition c.self.view_is c.self.invariant.whole) p k in
    let long = ap length (deepest_told s code c.args.above.now c.args.deepest c.args.moved c.requires.stacks) in
    omega (arith, next.inside, few, long)

pub grow-requires-clause-there : goal.grow-requires-clause-there
grow-requires-clause-there c =
    let (b, p, k) = c.requires.code in
    let s = c.args.self.now in
    let code = c.args.code.now in
    let cards = cards_of c.args.deepest in
    let inv = c.loop-card.invariant in
    let next = next_card_is cards c.loop-card.i c.loop-card.rest c.without_card-rest.result c.in-Some.card c.index.result inv.left
    c.index.ensures.value c.index.ensures.below c.in-Some.ensures.set c.in-Some.ensures.least c.without_card-rest.ensures.value in
    let few = few_deepest s b code (subst IsPosition c.self.view_is c.self.invariant.whole) p k in
    let long = ap length (deepest_told s code c.args.above.now c.args.deepest c.args.moved c.requires.stacks) in
    omega (arith, next.inside, few, long)

pub overflow_add-i : goal.overflow_add-i
overflow_add-i c =
    let (b, p, k) = c.requires.code in
    let s = c.args.self.now in
    let code = c.args.code.now in
    let cards = cards_of c.args.deepest in
    let inv = c.loop-card.invariant in
    let next = next_card_is cards c.loop-card.i c.loop-card.rest c.without_card-rest.result c.in-Some.card c.index.result inv.left
    c.index.ensures.value c.index.ensures.below c.in-Some.ensures.set c.in-Some.ensures.least c.without_card-rest.ensures.value in
    let few = few_deepest s b code (subst IsPosition c.self.view_is c.self.invariant.whole) p k in
    let long = ap length (deepest_told s code c.args.above.now c.args.deepest c.args.moved c.requires.stacks) in
    omega (arith, next.inside, few, long)

pub returns-clause-count : goal.returns-clause-count
returns-clause-count c =
    let cards = cards_of c.args.deepest in
    let inv = c.loop-card.invariant in
    let past = none_left cards c.loop-card.i (sym inv.left ∙ none_first c.loop-card.rest c.in_default.ensures.none) in
    let long = ap length (deepest_told c.args.self.now c.args.code.now c.args.above.now c.args.deepest c.args.moved c.requires.stacks) in
    omega (arith, inv.most, past, long)

pub returns-clause-most : goal.returns-clause-most
returns-clause-most c =
    let (b, p, k) = c.requires.code in
    let s = c.args.self.now in
    let code = c.args.code.now in
    let few = few_deepest s b code (subst IsPosition c.self.view_is c.self.invariant.whole) p k in
    let long = ap length (deepest_told s code c.args.above.now c.args.deepest c.args.moved c.requires.stacks) in
    omega (arith, c.loop-card.invariant.most, few, long)
