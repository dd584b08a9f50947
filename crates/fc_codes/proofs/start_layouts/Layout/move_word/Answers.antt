use Rattle.std.proofs.Common.{◌≡◌, ◌+◌, ◌-◌, ◌*◌, set, ◌/◌, ◌^◌, Some, bit_and, cond, eqb, get_or, length, refl, sym, ◌∙◌, ap, subst, arith}
use Rattle.fc_cards.specs.Card.{suit}
use Rattle.fc_position.specs.Position.{IsPosition}
use Rattle.fc_codes.specs.State.{IsStateOf}
use Rattle.fc_codes.specs.inner.Seats.{AreSeatsUntil}
use Rattle.fc_codes.proofs.ApartLemmas.{card_below}
use Rattle.fc_codes.proofs.BuiltLemmas.{few_in_cells}
use Rattle.fc_codes.proofs.DigitLemmas.{digit_past}
use Rattle.fc_codes.proofs.GatherLemmas.{room_cells, room_home}
use Rattle.fc_codes.proofs.PassedLemmas.{all_passed}
use Rattle.fc_codes.proofs.TurnLemmas.{one_moved}
use Rattle.fc_codes.proofs.WalkLemmas.{turn, next_inside, rest_after, states_after}
use Rattle.fc_codes.proofs.start_layouts.Layout.move_word.Goals as goal

pub leave-requires : goal.leave-requires
leave-requires c =
    let (b, p, k) = c.requires.code in
    let passed = c.unmoved_before-passed in
    let n = bit_and (c.loop-rest.rest / 2 ^ (3 * passed.result)) 7 in
    let t = turn c.args.code.now (21 * c.args.index + 21) c.loop-rest.next c.loop-rest.rest passed.result c.loop-rest.invariant.small
    c.loop-rest.invariant.states c.args.self.now (c.loop-rest.next + passed.result) n c.loop-rest.seats k.count c.loop-rest.invariant.most
    c.loop-rest.invariant.moved passed.ensures.unmoved passed.ensures.moved refl refl in
    record { card = t.below }

pub put-requires : goal.put-requires
put-requires c =
    let (b, p, k) = c.requires.code in
    let passed = c.unmoved_before-passed in
    let card = c.loop-rest.next + passed.result in
    let n = bit_and (c.loop-rest.rest / 2 ^ (3 * passed.result)) 7 in
    let t = turn c.args.code.now (21 * c.args.index + 21) c.loop-rest.next c.loop-rest.rest passed.result c.loop-rest.invariant.small
    c.loop-rest.invariant.states c.args.self.now card n c.loop-rest.seats k.count c.loop-rest.invariant.most
    c.loop-rest.invariant.moved passed.ensures.unmoved passed.ensures.moved refl refl in
    record {
      card = t.below;
      moved = t.moved;
      on_card = λ many. card_below c.args.self.now b card n p
          (subst (λ m. IsStateOf c.args.self.now b card m) (sym t.state) (k.states card t.below)) many;
      in_cell = λ two.
          let few = few_in_cells c.args.self.now b c.args.code.now (subst IsPosition c.self.view_is c.self.invariant.whole) p k in
          let room = room_cells c.args.code.now card t.below few (sym t.state ∙ two) in
          omega (arith, c.leave.ensures.held, t.so_far.held, room);
      above = ap length c.leave.ensures.above ∙ t.so_far.count;
      cells = ap length c.leave.ensures.cells ∙ t.so_far.four;
      homes = ap length c.leave.ensures.homes ∙ ap length t.so_far.homes;
      few = room_home c.args.code.now card (suit card) c.leave.new.self.homes t.below (omega arith)
          (c.leave.ensures.homes ∙ t.so_far.homes);
    }

pub loop-rest-preserved : goal.loop-rest-preserved
loop-rest-preserved c =
    let (b, p, k) = c.requires.code in
    let s = c.args.self.now in
    let code = c.args.code.now in
    let end = 21 * c.args.index + 21 in
    let next = c.loop-rest.next in
    let rest = c.loop-rest.rest in
    let passed = c.unmoved_before-passed in
    let inv = c.loop-rest.invariant in
    let card = next + passed.result in
    let n = bit_and (rest / 2 ^ (3 * passed.result)) 7 in
    let old = c.loop-rest.seats in
    let inside = next_inside code end next rest passed.result inv.small inv.states passed.ensures.moved in
    let more : next + passed.result + 1 ≡ next + (passed.result + 1) = omega arith in
    let ps = subst IsPosition c.self.view_is c.self.invariant.whole in
    let t = turn code end next rest passed.result inv.small inv.states s card n old k.count inv.most inv.moved
    passed.ensures.unmoved passed.ensures.moved refl refl in
    record {
      from = omega (arith, inv.from);
      most = omega (arith, inside);
      small = rest_after code end next rest passed.result inv.small inv.states passed.ensures.moved;
      states = states_after code end next rest passed.result inv.small inv.states;
      moved = subst (λ m. AreSeatsUntil s code m c.put.new.self) more
          (one_moved s b code ps p k card n old c.leave.new.self c.put.new.self t.so_far t.below t.state t.moved
          c.leave.ensures.above c.put.ensures.above c.leave.ensures.deepest c.put.ensures.deepest c.leave.ensures.moved c.put.ensures.moved
          (λ two. let few = few_in_cells s b code ps p k in let room = room_cells code card t.below few (sym t.state ∙ two) in
          omega (arith, t.so_far.held, room))
          (c.put.ensures.cells ∙ ap (λ v. cond (eqb n 2) (set v c.leave.new.self.held (Some card)) v) c.leave.ensures.cells
          ∙ ap (λ h. cond (eqb n 2) (set old.cells h (Some card)) old.cells) c.leave.ensures.held)
          (c.put.ensures.held ∙ ap (λ h. cond (eqb n 2) (h + 1) h) c.leave.ensures.held)
          (c.put.ensures.homes
          ∙ ap (λ l. cond (eqb n 1) (set l (suit card) (get_or l (suit card) 0 + 1)) l) c.leave.ensures.homes));
    }

pub returns : goal.returns
returns c =
    let inv = c.loop-rest.invariant in
    let next = c.loop-rest.next in
    let size : next + (21 * c.args.index + 21 - next) ≡ 21 * c.args.index + 21 = omega (arith, inv.most) in
    record {
      value = subst (λ m. AreSeatsUntil c.args.self.now c.args.code.now m c.loop-rest.seats) size
          (all_passed c.args.self.now c.args.code.now next (21 * c.args.index + 21 - next) c.loop-rest.seats
          (λ i below. sym (inv.states i (omega (arith, below))) ∙ digit_past c.loop-rest.rest 0 i (omega (arith, c.loop-rest-test.false)) (omega arith)) inv.moved);
    }
