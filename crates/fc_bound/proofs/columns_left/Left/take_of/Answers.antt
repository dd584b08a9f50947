use Rattle.std.proofs.Common.{◌≡◌, bit_or, sym, subst}
use Rattle.fc_bound.specs.Clearing.{without}
use Rattle.fc_bound.specs.inner.Rows.{AreLow}
use Rattle.fc_bound.proofs.LeftLemmas.{ends_at}
use Rattle.fc_bound.proofs.LowLemmas.{IsLowestOf, low_after}
use Rattle.fc_bound.proofs.columns_left.Left.take_of.Goals as goal

pub returns-clause-lows : goal.returns-clause-lows
returns-clause-lows c =
    let s = c.args.self.now in
    let e = ends_at s c.args.u c.requires.last in
    let after : c.take.new.self ≡ without s e.place = c.take.ensures.value e.place e.last in
    let lowest : IsLowestOf c.take.new.self c.args.u c.lowest_of_suit.result =
    record { low = c.lowest_of_suit.ensures.low; each = c.lowest_of_suit.ensures.each } in
    subst (AreLow (bit_or c.args.lows c.lowest_of_suit.result)) (sym after)
    (low_after s e.place c.args.u c.args.lows c.lowest_of_suit.result e.last c.requires.lows
    (subst (λ v. IsLowestOf v c.args.u c.lowest_of_suit.result) after lowest))
