use Rattle.std.proofs.Common.{◌≡◌, false, [], Some, get_or, sym, ◌∙◌, ap, subst, ⊎_elim, true≢false, refl, arith}
use Rattle.std.specs.Prelude.{◌&&◌}
use Rattle.std.specs.Int.{bit_at}
use Rattle.std.specs.List.{list_any}
use Rattle.std.proofs.lemmas.Bool.{cases_eq, cases_lt, eqb-true}
use Rattle.fc_position.specs.Board.{last_of}
use Rattle.fc_bound.specs.Clearing.{without, cards_in, clearing_cost}
use Rattle.fc_bound.specs.inner.Rows.{ends_in}
use Rattle.fc_bound.specs.Knots.{has_last, is_loose, without_last_where}
use Rattle.fc_bound.proofs.ClearingLemmas.{last_there}
use Rattle.fc_bound.proofs.ClearingSearch.{loose_cost, loose_fewer, none_cost, knot_first, take_cost, take_fewer, take_cards}
use Rattle.fc_bound.proofs.BitLemmas.{no_bits}
use Rattle.fc_bound.proofs.KnotShed.{AreCards, shed-cards}
use Rattle.fc_bound.proofs.LeftLemmas.{ends_at, last_is}
use Rattle.fc_bound.proofs.ShedLemmas.{still, kept}
use Rattle.fc_bound.proofs.clearing.+costs_at_most.Goals as goal

pub returns-then-most-met : goal.returns-then-most-met
returns-then-most-met t c = record {
  value = (
    λ no. absurd (true≢false (sym no)),
    λ within. absurd (omega (arith, loose_cost c.args.left.now, c.in-Some.ensures.met, c.if-most-met.true, within)),
  );
}

pub costs_at_most-requires : goal.costs_at_most-requires
costs_at_most-requires t c =
    let s = c.args.left.now in
    let any = c.in-Some.ensures.some_loose in
    let after : c.take_loose.new.self ≡ without_last_where (is_loose s) s = c.in-Some.ensures.taken in
    let fewer = ap cards_in after in (
      omega (arith, loose_fewer s any, fewer),
      (omega (arith, loose_fewer s any, fewer, c.requires.few), subst AreCards (sym after) (shed-cards (is_loose s) s c.requires.cards)),
    )

pub returns-in-Some : goal.returns-in-Some
returns-in-Some t c =
    let s = c.args.left.now in
    let cost = ap clearing_cost c.in-Some.ensures.taken in
    record {
      value = (
        λ passes. let rest = c.costs_at_most.ensures.value.0 passes in
            omega (arith, loose_cost s, c.in-Some.ensures.met, cost, rest, c.if-most-met.false),
        λ within. c.costs_at_most.ensures.value.1 (omega (arith, loose_cost s, c.in-Some.ensures.met, cost, within, c.if-most-met.false)),
      );
    }

pub returns-then-not-has_cards : goal.returns-then-not-has_cards
returns-then-not-has_cards t c =
    let none = none_cost c.take_loose.new.self (sym c.has_cards.ensures.value ∙ c.if-not-has_cards.true) in
    let same = ap clearing_cost c.in_default.ensures.same in
    record { value = (λ _. omega (arith, none, same), λ _. refl) }

pub returns-then-most-eq0 : goal.returns-then-most-eq0
returns-then-most-eq0 t c =
    let r = c.take_loose.new.self in
    let same = c.in_default.ensures.same in
    let any : list_any (is_loose r) r ≡ false = ap (λ v. list_any (is_loose v) v) same ∙ c.in_default.ensures.none_loose in
    let first = knot_first r (subst AreCards (sym same) c.requires.cards) any (sym c.has_cards.ensures.value ∙ c.if-not-has_cards.false) in
    record {
      value = (
        λ no. absurd (true≢false (sym no)),
        λ within. absurd (omega (arith, first.best, ap clearing_cost same, within, c.if-most-eq0.true)),
      );
    }

pub returns-then-most-count_knots : goal.returns-then-most-count_knots
returns-then-most-count_knots t c =
    let same = ap clearing_cost c.in_default.ensures.same in
    record {
      value = (
        λ no. absurd (true≢false (sym no)),
        λ within. absurd (omega (arith, c.count_knots.ensures.least, same, c.if-most-count_knots.true, within)),
      );
    }

pub costs_at_most-requires-in-loop-rest : goal.costs_at_most-requires-in-loop-rest
costs_at_most-requires-in-loop-rest t c =
    let s = c.take_loose.new.self in
    let u = c.least-u.result in
    let same = c.in_default.ensures.same in
    let e = ends_at s u (c.knot-knot.ensures.value.lasts u (c.loop-rest.invariant.some u c.least-u.ensures.set)) in
    let copy = c.copy-others.ensures.value in
    let after : c.take.new.self ≡ without s e.place =
    c.take.ensures.value e.place (ap (λ v. last_of (get_or v e.place [])) copy ∙ e.last) ∙ ap (λ columns. without columns e.place) copy in
    let fewer = ap cards_in after in
    let has = ap has_last e.last in (
      omega (arith, take_fewer s e.place has, fewer, ap cards_in same),
      (omega (arith, take_fewer s e.place has, fewer, ap cards_in same, c.requires.few), subst AreCards (sym after) (take_cards s e.place e.inside (subst AreCards (sym same) c.requires.cards))),
    )

pub returns-then-costs_at_most : goal.returns-then-costs_at_most
returns-then-costs_at_most t c =
    let s = c.take_loose.new.self in
    let u = c.least-u.result in
    let same = c.in_default.ensures.same in
    let e = ends_at s u (c.knot-knot.ensures.value.lasts u (c.loop-rest.invariant.some u c.least-u.ensures.set)) in
    let copy = c.copy-others.ensures.value in
    let after : c.take.new.self ≡ without s e.place =
    c.take.ensures.value e.place (ap (λ v. last_of (get_or v e.place [])) copy ∙ e.last) ∙ ap (λ columns. without columns e.place) copy in
    let rest = c.costs_at_most-in-loop-rest.ensures.value.0 c.if-costs_at_most.true in
    record { value = (λ _. omega (arith, ap clearing_cost same, ap clearing_cost after, rest, take_cost s e.place, c.if-most-eq0.false), λ _. refl) }

pub loop-rest-preserved : goal.loop-rest-preserved
loop-rest-preserved t c = record {
  some = λ v set. c.loop-rest.invariant.some v (still c.loop-rest.rest c.remove-rest.result c.least-u.result v c.remove-rest.ensures.value set);
  more = λ k v last set unset.
      let s = c.take_loose.new.self in
      let u = c.least-u.result in
      let copy = c.copy-others.ensures.value in
      ⊎_elim
      (λ e.
      let after : c.take.new.self ≡ without s k =
      c.take.ensures.value k (ap (λ w. last_of (get_or w k [])) copy ∙ last ∙ ap Some e) ∙ ap (λ columns. without columns k) copy in
      let cost = ap clearing_cost after in
      ⊎_elim
      (λ more. absurd (true≢false (sym (c.costs_at_most-in-loop-rest.ensures.value.1 (omega (arith, cost, more, c.if-most-eq0.false))) ∙ c.if-costs_at_most.false)))
      (λ less. less)
      (cases_lt (clearing_cost (without s k)) c.args.most))
      (λ ne. c.loop-rest.invariant.more k v last set (λ there. unset (kept c.loop-rest.rest c.remove-rest.result u v c.remove-rest.ensures.value ne there)))
      (cases_eq v u);
}

pub returns : goal.returns
returns t c =
    let s = c.take_loose.new.self in
    let same = c.in_default.ensures.same in
    let any : list_any (is_loose s) s ≡ false = ap (λ v. list_any (is_loose v) v) same ∙ c.in_default.ensures.none_loose in
    let first = knot_first s (subst AreCards (sym same) c.requires.cards) any (sym c.has_cards.ensures.value ∙ c.if-not-has_cards.false) in
    let one = last_is (last_of (get_or s first.place [])) first.some_last in
    let marked = c.knot-knot.ensures.value.each first.place (last_there s first.place one.0 one.1)
    ∙ ap (λ t. t && has_last (last_of (get_or s first.place []))) first.in_knot ∙ first.some_last in
    let set = eqb-true (bit_at c.knot-knot.result one.0) 1 (ap (ends_in c.knot-knot.result) (sym one.1) ∙ marked) in
    let less = c.loop-rest.invariant.more first.place one.0 one.1 set (λ there. no_bits c.loop-rest.rest one.0 c.loop-rest-test.false there) in
    record {
      value = (
        λ no. absurd (true≢false (sym no)),
        λ within. absurd (omega (arith, first.best, ap clearing_cost same, within, less)),
      );
    }
