use Rattle.std.proofs.Common.{◌≡◌, ◌+◌, ◌*◌, ◌∙◌, ap, arith, refl, subst, sym}
use Rattle.fc_best_first.specs.declared.books.Mark.{Mark}
use Rattle.fc_best_first.specs.declared.books.Opening.{Opening}
use Rattle.fc_best_first.specs.declared.spaces.Noted.{Noted}
use Rattle.fc_best_first.specs.Graph.{Task}
use Rattle.fc_best_first.specs.Store.{Lowers, Offers}
use Rattle.fc_best_first.proofs.KeptLemmas.{stands_within}
use Rattle.fc_best_first.proofs.OfferLemmas.{noted_within}
use Rattle.fc_best_first.proofs.offers.offer.Goals as goal

pub opening-requires : goal.opening-requires
opening-requires g c = record {
  noted = noted_within (g.S.Space.graph c.args.space.now) c.args.book.now c.in-Some-find.number c.key-key.result c.in-Some-find.was c.requires.noted
      c.in-Some-find.ensures.value;
}

pub lower-requires-clause-within : goal.lower-requires-clause-within
lower-requires-clause-within g c = stands_within c.args.book.now c.in-Some-find.number c.key-key.result c.in-Some-find.was c.in-Some-find.ensures.value

pub lower-requires-clause-noted : goal.lower-requires-clause-noted
lower-requires-clause-noted g c = noted_within (g.S.Space.graph c.args.space.now) c.args.book.now
    c.in-Some-find.number c.key-key.result c.in-Some-find.was c.requires.noted c.in-Some-find.ensures.value

-- any opening will do where nothing is stored
abbrev no_opening : Opening
no_opening = record { over = 0; bound = 0; note = 0 }

pub returns-in-Some-clause-offers : goal.returns-in-Some-clause-offers
returns-in-Some-clause-offers g c =
    let task : Task g.row.K.Denot = record { graph = g.S.Space.graph c.args.space.now; strategy = c.args.strategy.now; limit = c.args.taken.now.limit } in
    let there = c.requires.there in (
      there.0,
      no_opening,
      there.1,
      subst (λ (m : Mark). Offers task c.args.taken.now.f c.args.book.now c.args.book.now (record { key = there.0; mark = m; opening = no_opening }) c.in-Some.offered)
          c.onward-mark.ensures.value (c.in-Some.ensures.offers there.0 no_opening c.args.book.now there.1),
    )

pub returns-clause-offers : goal.returns-clause-offers
returns-clause-offers g c =
    let opening = c.new-opening.result in
    let mark = c.onward-mark.ensures.value in
    let told = c.noted.ensures.value in (
      c.key-key.result,
      opening,
      c.key-key.ensures.at,
      (
        c.in-Some-find.number,
        c.in-Some-find.was,
        c.in-Some-find.ensures.value,
        (let level = ap (λ (m : Mark). m.cost) mark in let no = c.if-was-mark.false in omega (arith, level, no)),
        (
          c.opening.result,
          c.opening.ensures.value,
          (
            ap (λ (o : Opening). o.over) c.new-opening.ensures.value
                ∙ ap (λ (n : Noted). c.args.strategy.now.weight.times * n.bound) told,
            ap (λ (o : Opening). o.bound) c.new-opening.ensures.value ∙ ap (λ (n : Noted). n.bound) told,
            ap (λ (o : Opening). o.note) c.new-opening.ensures.value ∙ ap (λ (n : Noted). n.note) told,
          ),
        ),
        subst (λ (m : Mark). Lowers c.args.strategy.now c.args.book.now c.lower.new.self c.in-Some-find.number m opening) mark
            c.in_ok-lower.ensures.lowers,
      ),
    )
