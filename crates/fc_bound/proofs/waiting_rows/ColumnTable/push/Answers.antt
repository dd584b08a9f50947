use Rattle.std.proofs.Common.{◌<◌, ◌∙◌, IfSome, sym, subst}
use Rattle.fc_bound.proofs.TableLemmas.{On, on_none, on_some, table_pushed}
use Rattle.fc_bound.proofs.waiting_rows.ColumnTable.push.Goals as goal
use Rattle.fc_bound.proofs.waiting_rows.ColumnTable.push.Goals.{in-Some, in-None}

pub returns : goal.returns
returns c = record {
  table = λ b i p last below table.
      let t = c.args.self.now in
      let on : On b t i c.match-below.waiting = elim c.match-below.branch [
        | in-Some w ↦ subst (On b t i) (sym w.waiting-is)
            (on_some b t i c.args.index w.in-Some.below w.remove.result p last table (below ∙ w.in-Some.is)
            (subst (λ o. IfSome o (λ n. n < 52)) w.in-Some.is c.requires.below) w.remove.ensures.value)
        | in-None w ↦ subst (On b t i) (sym w.waiting-is) (on_none b t i (below ∙ w.in-None.is))
      ] in
      table_pushed b t i c.args.index c.match-below.waiting.0 c.match-below.waiting.1 c.match-below.waiting.2 c.higher_cards.result (record {
        whole = p;
        card = c.requires.card;
        last = last;
        table = table;
        wait = on.wait;
        under = on.under;
        ends = on.ends;
        wait_more = c.higher_cards.ensures.value;
      });
}
