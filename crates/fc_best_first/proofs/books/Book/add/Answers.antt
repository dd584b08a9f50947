use Rattle.std.proofs.Common.{◌≡◌, ◌++◌, ◌∷◌, [], length, sym, ap, subst, ◌∙◌, arith}
use Rattle.indexmap.proofs.CallerLemmas.{insert_entry-new}
use Rattle.fc_frontier.specs.Queue.{Adds}
use Rattle.fc_best_first.specs.Store.{IsStored}
use Rattle.fc_best_first.proofs.StoreLemmas.{none_found, adds_along}
use Rattle.fc_best_first.proofs.books.Book.add.Goals as goal

pub returns : goal.returns
returns g c =
    let test = g.K.PartialEq.eq in
    let same = c.self-2.view_is ∙ c.make_room.ensures.same in
    let stored : c.self-2.inside.table.entries ≡ c.args.self.now.stored = ap (λ s. s.stored) same in
    let before : c.self.inside.table.entries ≡ c.args.self.now.stored = ap (λ s. s.stored) c.self.view_is in
    let fresh = none_found (test c.args.key) c.args.self.now.stored
    (λ i x v at q. c.requires.new i v (subst (λ y. IsStored c.args.self.now i y v) (sym (g.met.K.ExactKey.exact c.args.key x q)) at)) in
    let size : length c.self.inside.table.entries ≡ length c.args.self.now.stored = ap length before in
    let waiting : g.F.Frontier.pairs c.self-2.inside.queue ≡ c.args.self.now.waiting = ap (λ s. s.waiting) same in
    let openings : c.self-2.inside.openings.items ≡ c.args.self.now.openings = ap (λ s. s.openings) same in
    let number : c.len-number.result ≡ length c.args.self.now.stored = omega arith in
    record {
      stores = (
        omega arith,
        c.in_ok-insert.ensures.entries
            ∙ insert_entry-new test c.self-2.inside.table c.args.key c.args.mark (rw stored fresh)
            ∙ ap (λ es. es ++ (c.args.key, c.args.mark) ∷ []) stored,
        (subst (λ f. Adds c.args.self.now.waiting (g.F.Frontier.pairs c.push_tied.new.self) (f, length c.args.self.now.stored)) c.opens_at.ensures.value
            (adds_along (g.F.Frontier.pairs c.self-2.inside.queue) c.args.self.now.waiting _ c.opens_at.result _ _ waiting number c.in_ok-push_tied.ensures.added)),
        subst (λ o. c.push.new.self.items ≡ c.args.self.now.openings ++ o ∷ []) c.new.ensures.value
            (subst (λ os. c.push.new.self.items ≡ os ++ c.new.result ∷ []) openings c.in_ok-push.ensures.items),
      );
    }
