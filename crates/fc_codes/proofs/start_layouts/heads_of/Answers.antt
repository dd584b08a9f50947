use Rattle.std.proofs.Common.{◌+◌, set, refl, sym, ◌∙◌, ap, subst}
use Rattle.std.specs.Option.{option_copied}
use Rattle.fc_codes.proofs.StackLemmas.{TellsHeads, no_heads, head_is, no_head, head_some, head_none}
use Rattle.fc_codes.proofs.start_layouts.heads_of.Goals as goal
use Rattle.fc_codes.proofs.start_layouts.heads_of.Goals.{in-Some, in_default}

pub loop-i-init : goal.loop-i-init
loop-i-init c = no_heads c.args.start.now 52 refl

pub loop-i-preserved : goal.loop-i-preserved
loop-i-preserved c =
    let s = c.args.start.now in
    let i = c.loop-i.i in
    let cards = c.column.ensures.value in
    elim c.match-first.branch [
      | in-Some w ↦
          let card = w.in-Some.card.now in
          let first = head_is c.column.result.now card (sym c.first.ensures.value ∙ ap option_copied w.in-Some.is) in
          let told = head_some s i card first.0 c.loop-i.heads c.column.ensures.whole c.loop-i-test.true (sym cards ∙ first.1) c.loop-i.invariant in
          subst (TellsHeads s (i + 1)) (ap (λ k. set c.loop-i.heads k i) (sym w.index.ensures.value) ∙ sym w.heads-is) told
      | in_default w ↦
          let none = no_head c.column.result.now (sym c.first.ensures.value ∙ ap option_copied w.in_default.is) in
          subst (TellsHeads s (i + 1)) (sym w.heads-is) (head_none s i c.loop-i.heads (sym cards ∙ none) c.loop-i.invariant)
    ]
