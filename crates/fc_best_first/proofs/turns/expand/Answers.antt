use Rattle.std.proofs.Common.{ℕ, ◌≤◌, ◌+◌, ◌∙◌, Option, List, [], ◌∷◌, ap, refl, subst, sym, arith}
use Rattle.std.proofs.lemmas.List.Elements.{Contains-append_right}
use Rattle.fc_best_first.specs.Graph.{Task}
use Rattle.fc_best_first.specs.Store.{Offers, weighed_cost}
use Rattle.fc_best_first.specs.Turn.{Expands, candidate_of, put_off}
use Rattle.fc_best_first.specs.inner.Turn.{IsLaterNear, IsPutOffNear, put_off_first}
use Rattle.fc_best_first.specs.declared.books.Offered.{Offered}
use Rattle.fc_best_first.specs.declared.spaces.Child.{Child}
use Rattle.fc_best_first.specs.declared.turns.Placing.{Placing}
use Rattle.fc_best_first.specs.declared.turns.Placing.TheVariants.{NoRoom, Whole}
use Rattle.fc_best_first.proofs.KeptLemmas.{front_there}
use Rattle.fc_best_first.proofs.TurnLemmas.{expands_full, expands_off, expands_on, first_near, near_least, off_past, offers_noted, offers_room, put_off_least, put_off_room}
use Rattle.fc_best_first.proofs.turns.expand.Goals as goal

pub loop-cost-init : goal.loop-cost-init
loop-cost-init g c = record {
  owned = c.requires.owned;
  room = c.requires.room;
  noted = c.requires.noted;
  near = first_near g.row.K.Denot c.args.strategy.now.expansion c.args.taken.now.f (weighed_cost c.args.strategy.now c.args.taken.now.origin) c.args.others c.requires.near;
  reached = c.requires.reached;
  onward = λ new placing children rest expands. (children, placing, rest, expands, refl);
}

-- the child that was offered
abbrev child_of : {K : Type 0} → K → ℕ → Child K
child_of y cost = record { key = y; cost = cost }

pub offer-requires-clause-reached : goal.offer-requires-clause-reached
offer-requires-clause-reached g c = λ y at.
    let rest = c.in-Some.ensures.some in
    c.loop-cost.invariant.reached (child_of y c.in-Some.cost ∷ rest.0) (c.in-Some.ensures.next y rest.0 at rest.1) (child_of y c.in-Some.cost)
    (front_there (child_of y c.in-Some.cost) rest.0)

pub returns-in-Full-clause-expands : goal.returns-in-Full-clause-expands
returns-in-Full-clause-expands g c =
    let task : Task g.row.K.Denot = record { graph = g.S.Space.graph c.args.space.now; strategy = c.args.strategy.now; limit = c.args.taken.now.limit } in
    let rest = c.in-Some.ensures.some in
    let offered = c.in_ok-key.ensures.offers in
    let child = child_of offered.0 c.in-Some.cost in
    let on = c.loop-cost.invariant.onward c.offer.new.book (NoRoom c.in-Full.key) (child ∷ rest.0)
    (c.in-Some.ensures.next offered.0 rest.0 offered.2 rest.1)
    (expands_full task c.args.taken.now.f c.args.taken.now.origin child rest.0
    c.loop-cost.book c.offer.new.book c.in-Full.key offered.1 c.in_ok-key.field-0 c.in-Full.is offered.3) in
    (on.0, on.1, on.2, on.3, sym (put_off_room c.loop-cost.later c.in-Full.key) ∙ on.4)

pub loop-cost-preserved-in-PutOff : goal.loop-cost-preserved-in-PutOff
loop-cost-preserved-in-PutOff g c =
    let task : Task g.row.K.Denot = record { graph = g.S.Space.graph c.args.space.now; strategy = c.args.strategy.now; limit = c.args.taken.now.limit } in
    let offered = c.in_ok-key.ensures.offers in
    let child = child_of offered.0 c.in-Some.cost in
    let here = subst (Offers task c.args.taken.now.f c.loop-cost.book c.offer.new.book (candidate_of c.args.taken.now.origin child offered.1)) c.in-PutOff.is offered.3 in
    let past = off_past c.args.strategy.now.expansion c.args.taken.now.f _ c.in-PutOff.f here.0 in
    let near : c.in-PutOff.f ≤ weighed_cost c.args.strategy.now c.args.taken.now.origin + 28050 =
    subst (λ (o : Offered g.row.K.Denot). IsPutOffNear (weighed_cost c.args.strategy.now c.args.taken.now.origin) o) c.in-PutOff.is c.in_ok-key.ensures.near in
    record {
      owned = c.offer.ensures.owned;
      room = offers_room task c.args.taken.now.f c.loop-cost.book c.offer.new.book (candidate_of c.args.taken.now.origin child offered.1) c.in_ok-key.field-0
          c.loop-cost.invariant.room offered.3;
      noted = offers_noted task c.args.taken.now.f c.loop-cost.book c.offer.new.book (candidate_of c.args.taken.now.origin child offered.1) c.in_ok-key.field-0
          c.loop-cost.invariant.noted offered.3;
      near = near_least g.row.K.Denot c.args.strategy.now.expansion c.args.taken.now.f (weighed_cost c.args.strategy.now c.args.taken.now.origin) c.loop-cost.later c.in-PutOff.f c.least_of.result
          c.loop-cost.invariant.near past.2 past.0 (omega (arith, near)) c.least_of.ensures.value;
      reached = λ children rest other there.
          c.loop-cost.invariant.reached (child ∷ children) (c.in-Some.ensures.next offered.0 children offered.2 ((c.offer.ensures.rest children).0 rest)) other
          (Contains-append_right (child ∷ []) children other there);
      onward = λ new placing children rest expands.
          let on = c.loop-cost.invariant.onward new (put_off c.in-PutOff.f placing) (child ∷ children)
          (c.in-Some.ensures.next offered.0 children offered.2 ((c.offer.ensures.rest children).0 rest))
          (expands_off task c.args.taken.now.f c.args.taken.now.origin child children
          c.loop-cost.book c.offer.new.book new placing offered.1 c.in-PutOff.f c.in_ok-key.field-0 c.in-PutOff.is offered.3 expands) in
          (on.0, on.1, on.2, on.3, sym (put_off_least c.loop-cost.later c.in-PutOff.f c.least_of.result placing c.least_of.ensures.value) ∙ on.4);
    }

pub loop-cost-preserved : goal.loop-cost-preserved
loop-cost-preserved g c =
    let task : Task g.row.K.Denot = record { graph = g.S.Space.graph c.args.space.now; strategy = c.args.strategy.now; limit = c.args.taken.now.limit } in
    let offered = c.in_ok-key.ensures.offers in
    let child = child_of offered.0 c.in-Some.cost in
    record {
      owned = c.offer.ensures.owned;
      room = offers_room task c.args.taken.now.f c.loop-cost.book c.offer.new.book (candidate_of c.args.taken.now.origin child offered.1) c.in_ok-key.field-0
          c.loop-cost.invariant.room offered.3;
      noted = offers_noted task c.args.taken.now.f c.loop-cost.book c.offer.new.book (candidate_of c.args.taken.now.origin child offered.1) c.in_ok-key.field-0
          c.loop-cost.invariant.noted offered.3;
      near = c.loop-cost.invariant.near;
      reached = λ children rest other there.
          c.loop-cost.invariant.reached (child ∷ children) (c.in-Some.ensures.next offered.0 children offered.2 ((c.offer.ensures.rest children).0 rest)) other
          (Contains-append_right (child ∷ []) children other there);
      onward = λ new placing children rest expands.
          c.loop-cost.invariant.onward new placing (child ∷ children) (c.in-Some.ensures.next offered.0 children offered.2 ((c.offer.ensures.rest children).0 rest))
          (expands_on task c.args.taken.now.f c.args.taken.now.origin child children
          c.loop-cost.book c.offer.new.book new placing offered.1 c.in_ok-key.field-0 c.in_default-2.not-Full
          c.in_default-2.not-PutOff offered.3 expands);
    }

pub returns-in-Some-later-clause-expands : goal.returns-in-Some-later-clause-expands
returns-in-Some-later-clause-expands g c =
    let on = c.loop-cost.invariant.onward c.loop-cost.book Whole [] c.in_default.ensures.next (refl, refl) in
    (on.0, on.1, on.2, on.3, sym (ap (λ (l : Option ℕ). put_off_first {K = g.row.K.Denot} l Whole) c.in-Some-later.is) ∙ on.4)

pub returns-in-Some-later-clause-near : goal.returns-in-Some-later-clause-near
returns-in-Some-later-clause-near g c =
    subst (λ (l : Option ℕ). IsLaterNear {K = g.row.K.Denot} c.args.strategy.now.expansion c.args.taken.now.f (weighed_cost c.args.strategy.now c.args.taken.now.origin) (put_off_first l Whole))
    c.in-Some-later.is c.loop-cost.invariant.near

pub returns-in-None-clause-expands : goal.returns-in-None-clause-expands
returns-in-None-clause-expands g c =
    let on = c.loop-cost.invariant.onward c.loop-cost.book Whole [] c.in_default.ensures.next (refl, refl) in
    (on.0, on.1, on.2, on.3, sym (ap (λ (l : Option ℕ). put_off_first {K = g.row.K.Denot} l Whole) c.in-None.is) ∙ on.4)
