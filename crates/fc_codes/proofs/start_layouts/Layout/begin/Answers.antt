use Rattle.std.proofs.Common.{◌≡◌, ◌<◌, ◌+◌, get_or, length, set, take, sym, ◌∙◌, ap, subst, arith}
use Rattle.std.specs.Prelude.{slice_index}
use Rattle.std.proofs.lemmas.List.{get_or_default}
use Rattle.std.specs.Int.{bit_at}
use Rattle.fc_position.specs.Position.{IsPosition}
use Rattle.fc_codes.proofs.StackLemmas.{moved_some, begun_alone, column_begins, begun_front}
use Rattle.fc_codes.proofs.start_layouts.Layout.begin.Goals as goal

pub returns-then-has_card : goal.returns-then-has_card
returns-then-has_card c =
    let (b, p, k) = c.requires.code in
    let below = c.has_card.ensures.card in
    record {
      value = begun_alone c.args.self.now b c.args.code.now (subst IsPosition c.self.view_is c.self.invariant.whole) p k c.args.card c.args.i
          c.args.columns.now c.clear.new.self c.push.new.self (omega (arith, c.requires.there, c.requires.eight)) below
          (moved_some (slice_index c.args.code.now c.args.card) (bit_at c.args.moved c.args.card) (c.requires.moved c.args.card below)
          (c.has_card.ensures.value.0 c.if-has_card.true))
          c.clear.ensures.value c.push.ensures.value;
    }

pub last_unmoved-last-requires-clause-some : goal.last_unmoved-last-requires-clause-some
last_unmoved-last-requires-clause-some c =
    let (b, p, k) = c.requires.code in
    let begun = column_begins c.args.self.now b c.args.code.now (subst IsPosition c.self.view_is c.self.invariant.whole) p k c.self.inside.start
    c.self.inside.heads c.args.card c.index.result c.args.moved c.column-cards.result.now c.self.view_is c.self.invariant.over
    c.has_card.ensures.card c.requires.moved (λ e. let set_ = c.has_card.ensures.value.1 e in let none = c.if-has_card.false in cc)
    c.requires.deepest c.index.ensures.value c.column-cards.ensures.value in
    let long = ap length (begun.2 ∙ begun.1) in omega (arith, long)

pub last_unmoved-last-requires-clause-first : goal.last_unmoved-last-requires-clause-first
last_unmoved-last-requires-clause-first c = λ e.
    let (b, p, k) = c.requires.code in
    let begun = column_begins c.args.self.now b c.args.code.now (subst IsPosition c.self.view_is c.self.invariant.whole) p k c.self.inside.start
    c.self.inside.heads c.args.card c.index.result c.args.moved c.column-cards.result.now c.self.view_is c.self.invariant.over
    c.has_card.ensures.card c.requires.moved (λ e. let set_ = c.has_card.ensures.value.1 e in let none = c.if-has_card.false in cc)
    c.requires.deepest c.index.ensures.value c.column-cards.ensures.value in
    let first : bit_at c.args.moved c.args.card ≡ 1 = ap (λ l. bit_at c.args.moved (get_or l 0 0)) (sym (begun.2 ∙ begun.1)) ∙ e in
    let set_ = c.has_card.ensures.value.1 first in
    let none = c.if-has_card.false in cc

pub returns : goal.returns
returns c =
    let (b, p, k) = c.requires.code in
    let s = c.args.self.now in
    let j = get_or c.self.inside.heads c.args.card 0 in
    let n = c.last_unmoved-last.result in
    let x = c.index-cards-last.result in
    let begun = column_begins c.args.self.now b c.args.code.now (subst IsPosition c.self.view_is c.self.invariant.whole) p k c.self.inside.start
    c.self.inside.heads c.args.card c.index.result c.args.moved c.column-cards.result.now c.self.view_is c.self.invariant.over
    c.has_card.ensures.card c.requires.moved (λ e. let set_ = c.has_card.ensures.value.1 e in let none = c.if-has_card.false in cc)
    c.requires.deepest c.index.ensures.value c.column-cards.ensures.value in
    let found = begun.2 in
    record {
      value = begun_front s b c.args.code.now (subst IsPosition c.self.view_is c.self.invariant.whole) p k c.args.card j n x begun.0 begun.1
          (subst (λ l. n < length l) found c.last_unmoved-last.ensures.inside)
          (c.index-cards-last.is ∙ ap (λ l. get_or l n x) found) c.args.moved c.requires.moved
          (λ e. c.last_unmoved-last.ensures.unmoved
          (ap (bit_at c.args.moved) (get_or_default c.column-cards.result.now n 0 x c.last_unmoved-last.ensures.inside ∙ sym c.index-cards-last.is) ∙ e))
          (λ i past inside. ap (λ l. bit_at c.args.moved (get_or l i 0)) (sym found)
          ∙ c.last_unmoved-last.ensures.moved i past (subst (λ l. i < length l) (sym found) inside))
          c.args.i c.args.columns.now c.lay.new.self
          (c.lay.ensures.value
          ∙ ap (λ l. set c.args.columns.now c.args.i (take (n + 1) l)) (sym c.column-cards.ensures.value ∙ found));
    }
