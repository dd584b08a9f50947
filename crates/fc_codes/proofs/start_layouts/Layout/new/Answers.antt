use Rattle.std.proofs.Common.{refl, sym, subst, arith}
use Rattle.std.proofs.lemmas.List.{get_or-replicate}
use Rattle.fc_codes.specs.inner.Beneath.{IsTableOf}
use Rattle.fc_codes.proofs.ApartLemmas.{told_at_start, table_whole}
use Rattle.fc_codes.proofs.start_layouts.Layout.new.Goals as goal

pub loop-i-init : goal.loop-i-init
loop-i-init c = (refl, λ k below. get_or-replicate 52 k 53 0 below)

pub invariant_of-result : goal.invariant_of-result
invariant_of-result c =
    let s = c.args.start.now in
    let whole = c.copy.ensures.whole in
    let heads = c.heads_of.result in
    let bits = c.cards_on_table.result in
    let each = table_whole s c.loop-i.beneath c.loop-i.i whole (omega arith) c.loop-i.invariant.1 in
    subst (λ b. IsTableOf b c.loop-i.beneath heads bits) (sym c.copy.ensures.value)
    (told_at_start s c.loop-i.beneath heads bits whole c.loop-i.invariant.0 each
    (record { count = c.heads_of.ensures.count; there = c.heads_of.ensures.there; begun = c.heads_of.ensures.begun })
    c.cards_on_table.ensures.value)
