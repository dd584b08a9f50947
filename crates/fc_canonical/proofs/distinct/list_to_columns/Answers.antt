use Rattle.std.proofs.Common.{◌≡◌, ◌+◌, ◌*◌, ◌-◌, ap, refl, subst, sym, ◌∙◌, w8, arith}
use Rattle.std.specs.Int.{bit_at, trailing_zeros}
use Rattle.std.proofs.lemmas.Nat.Bits.{bit_at-zero}
use Rattle.fc_moves.specs.Step.{place_number}
use Rattle.fc_moves.proofs.StepLemmas.{source_there}
use Rattle.fc_canonical.specs.inner.Distinct.{ListsDistinctBelow}
use Rattle.fc_canonical.proofs.AddedLemmas.{adds_both, adds_none}
use Rattle.fc_canonical.proofs.ListingLemmas.{columns_pass}
use Rattle.fc_canonical.proofs.TakerLemmas.{have_takers, next_taker}
use Rattle.fc_canonical.proofs.distinct.list_to_columns.Goals as goal

pub list_to_column-requires-clause-there : goal.list_to_column-requires-clause-there
list_to_column-requires-clause-there g c =
    let next = next_taker c.takers_of-rest.result c.loop-rest.j c.loop-rest.rest (trailing_zeros w8 c.loop-rest.rest) c.takers_of-rest.type_inv
    c.loop-rest.auto.rest-fits.fits (omega (arith, c.loop-rest-test.true)) refl c.loop-rest.invariant.left in
    next.inside

pub list_to_column-requires-clause-room : goal.list_to_column-requires-clause-room
list_to_column-requires-clause-room g c =
    let next = next_taker c.takers_of-rest.result c.loop-rest.j c.loop-rest.rest (trailing_zeros w8 c.loop-rest.rest) c.takers_of-rest.type_inv
    c.loop-rest.auto.rest-fits.fits (omega (arith, c.loop-rest-test.true)) refl c.loop-rest.invariant.left in
    omega (arith, next.inside, c.loop-rest.invariant.count, c.requires.room)

pub loop-rest-init : goal.loop-rest-init
loop-rest-init g c =
    let game = g.G.Game.game c.args.game.now in
    let b = c.args.position.now in
    let low = place_number c.args.source.now.from * 13 in
    let same : low ≡ low + 0 = omega arith in
    record {
      adds = adds_none game b c.args.source.now.from low (low + 0) c.args.list.now.items
          (λ before. subst (λ k. ListsDistinctBelow game b k before) same);
      count = omega arith;
      left = record {
        most = omega arith;
        bits = λ i. let e : i ≡ 0 + i = omega arith in ap (bit_at c.takers_of-rest.result) e;
      };
    }

pub loop-rest-preserved : goal.loop-rest-preserved
loop-rest-preserved g c =
    let game = g.G.Game.game c.args.game.now in
    let b = c.args.position.now in
    let source = c.args.source.now in
    let low = place_number source.from * 13 in
    let j = c.loop-rest.j in
    let p = trailing_zeros w8 c.loop-rest.rest in
    let have = have_takers game b source.from source.card source.hosts c.takers_of-rest.result c.args.opening
    (g.met.G.Game.sound c.args.game.now) c.requires.card c.requires.opening c.requires.hosts c.takers_of-rest.ensures.some
    c.takers_of-rest.ensures.none in
    let next = next_taker c.takers_of-rest.result j c.loop-rest.rest p c.takers_of-rest.type_inv
    c.loop-rest.auto.rest-fits.fits (omega (arith, c.loop-rest-test.true)) refl c.loop-rest.invariant.left in
    record {
      adds = adds_both game b source.from low (low + j) (low + (j + p + 1)) c.args.list.now.items c.loop-rest.list.items
          c.list_to_column.new.list.items c.loop-rest.invariant.adds
          (adds_both game b source.from (low + j) (low + (j + p)) (low + (j + p + 1)) c.loop-rest.list.items c.loop-rest.list.items
          c.list_to_column.new.list.items
          (adds_none game b source.from (low + j) (low + (j + p)) c.loop-rest.list.items
          (λ before. columns_pass game b source.from j p before c.requires.whole
          (source_there b source.from source.card c.requires.whole c.requires.card) (omega (arith, next.inside))
          (λ i from below ok. let has = have i (omega (arith, below, next.inside)) ok in
          let none = next.passed i from below in absurd (omega (arith, has, none)))))
          c.list_to_column.ensures.adds);
      count = omega (arith, c.list_to_column.ensures.count, c.loop-rest.invariant.count);
      left = next.after;
    }

pub returns-clause-adds : goal.returns-clause-adds
returns-clause-adds g c =
    let game = g.G.Game.game c.args.game.now in
    let b = c.args.position.now in
    let source = c.args.source.now in
    let low = place_number source.from * 13 in
    let have = have_takers game b source.from source.card source.hosts c.takers_of-rest.result c.args.opening
    (g.met.G.Game.sound c.args.game.now) c.requires.card c.requires.opening c.requires.hosts c.takers_of-rest.ensures.some
    c.takers_of-rest.ensures.none in
    let j = c.loop-rest.j in
    let left = c.loop-rest.invariant.left in
    let end : j + (8 - j) ≡ 8 = omega (arith, left.most) in
    let none : c.loop-rest.rest ≡ 0 = omega (arith, c.loop-rest-test.false) in
    adds_both game b source.from low (low + j) (low + 8) c.args.list.now.items c.loop-rest.list.items c.loop-rest.list.items
    c.loop-rest.invariant.adds
    (adds_none game b source.from (low + j) (low + 8) c.loop-rest.list.items
    (λ before lists. subst (λ n. ListsDistinctBelow game b (low + n) before) end
    (columns_pass game b source.from j (8 - j) before c.requires.whole
    (source_there b source.from source.card c.requires.whole c.requires.card) (omega (arith, left.most))
    (λ i from below ok. let has = have i (omega (arith, below, left.most)) ok in
    let e : j + (i - j) ≡ i = omega (arith, from) in
    let clear = ap (bit_at c.takers_of-rest.result) (sym e) ∙ sym (left.bits (i - j)) ∙ ap (λ n. bit_at n (i - j)) none ∙ bit_at-zero (i - j) in
    absurd (omega (arith, has, clear)))
    lists)))
