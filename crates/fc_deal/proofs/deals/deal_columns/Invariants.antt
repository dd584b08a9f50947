use Rattle.std.proofs.Common.{◌≡◌, length, map}
use Rattle.fc_deal.specs.Draw.{state}
use Rattle.fc_deal.specs.Deal.{deck_after, dealt_columns}
use Rattle.fc_deal.proofs.deals.deal_columns.Given as goal

-- so many cards are dealt
abbrev pub invariant-loop-i : goal.invariant-loop-i
invariant-loop-i l = record {
  drawn : l.draws ≡ state l.fn.n l.i;
  left : l.deck ≡ deck_after l.fn.n l.i;
  dealt : map (λ v. v.items) l.columns ≡ dealt_columns l.fn.n l.i;
  eight : length l.columns ≡ 8;
}
