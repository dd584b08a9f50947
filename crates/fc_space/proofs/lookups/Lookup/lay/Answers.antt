use Rattle.std.proofs.Common.{◌∙◌, sym, subst, true≢false}
use Rattle.fc_bound.proofs.OverTable.{table_but}
use Rattle.fc_space.specs.inner.Lookups.{IsLookupOf}
use Rattle.fc_space.specs.declared.lookups.Lookup.{Lookup}
use Rattle.fc_space.proofs.lookups.Lookup.lay.Goals as goal
use Rattle.fc_space.proofs.lookups.Lookup.lay.Goals.{then-is_asked, else-is_asked}

pub returns-clause-lookup : goal.returns-clause-lookup
returns-clause-lookup c s b old moved =
    let p = c.args.position.now in
    let at : Lookup → Lookup = λ l. record { start = l.start; table = l.table; moved = l.moved; is_laid = c.args.is_asked } in
    elim c.if-is_asked.branch [
      | then-is_asked w ↦ subst (λ l. IsLookupOf s p (at l)) (sym w.self-is) record {
        whole = old.whole;
        start = old.start;
        over = table_but s p w.lay_over.new.self c.args.moved old.whole w.lay_over.ensures.table moved;
        table = λ _. w.lay_over.ensures.table;
        moved = λ _. moved;
      }
      | else-is_asked w ↦ subst (λ l. IsLookupOf s p (at l)) (sym w.self-is) record {
        whole = old.whole;
        start = old.start;
        over = old.over;
        table = λ on. absurd (true≢false (sym on ∙ w.if-is_asked.false));
        moved = λ on. absurd (true≢false (sym on ∙ w.if-is_asked.false));
      }
    ]
