use Rattle.std.proofs.Common.{◌≡◌, ap, sym}
use Rattle.fc_best_first.specs.Store.{IsNew}
use Rattle.fc_best_first.proofs.StoreLemmas.{none_passes, found_stands}
use Rattle.fc_best_first.proofs.books.Book.find.Goals as goal

pub returns-in_err-number : goal.returns-in_err-number
returns-in_err-number g c =
    let test = g.K.PartialEq.eq in
    let stored : c.self.inside.table.entries ≡ c.args.self.now.stored = ap (λ s. s.stored) c.self.view_is in
    let fresh : IsNew c.args.self.now c.args.key.now = λ i m at. none_passes (test c.args.key.now) c.self.inside.table.entries i
    c.args.key.now m (sym c.in_err-number.ensures.value) (rw stored at) (g.met.K.Eq.laws.refl c.args.key.now) in
    record { value = rw c.from_residual.ensures fresh }

pub returns : goal.returns
returns g c =
    let stored : c.self.inside.table.entries ≡ c.args.self.now.stored = ap (λ s. s.stored) c.self.view_is in
    record {
      value = found_stands g.K.PartialEq.eq g.met.K.ExactKey.exact c.self.inside.table.entries c.args.self.now stored c.args.key.now
          c.in_ok-number.field-0-1.now c.in_ok-number.mark.now c.in_ok-number.number c.in_ok-number.ensures.index
          c.in_ok-number.ensures.entry;
    }
