use Rattle.std.proofs.Common.{◌≡◌, ℕ, cond, [], get_or, Some, sym, ◌∙◌, ap, ⊎_elim, arith}
use Rattle.std.specs.Int.{bit_at}
use Rattle.std.proofs.lemmas.Bool.{cases_eq}
use Rattle.std.proofs.lemmas.Nat.Bits.{bit_at_or, bit_at-lt}
use Rattle.fc_position.specs.Board.{last_of}
use Rattle.fc_bound.specs.Knots.{ends_among, waits_in, waits_among}
use Rattle.fc_bound.specs.Rows.{no_row}
use Rattle.fc_bound.specs.inner.Rows.{is_set}
use Rattle.fc_bound.proofs.AboveLemmas.{not_true}
use Rattle.fc_bound.proofs.BitLemmas.{is_one, no_bits}
use Rattle.fc_bound.proofs.LeftLemmas.{ends_at}
use Rattle.fc_bound.proofs.RingCode.{row_tells, waits_some, waits_where}
use Rattle.fc_bound.proofs.ShedLemmas.{still, kept}
use Rattle.fc_bound.proofs.TakeLemmas.{left_card}
use Rattle.fc_bound.proofs.columns_left.Left.waiting_among.Goals as goal

pub bounds-self-inside-v : goal.bounds-self-inside-v
bounds-self-inside-v c =
    let v = c.least-v.result in
    let ends = c.requires.lasts v (c.loop-rest.invariant.some v c.least-v.ensures.set) in
    left_card c.self.inside.position.now c.self.inside.all v c.self.invariant.whole (ap (λ w. ends_among w v) c.self.view_is ∙ ends)

pub loop-rest-preserved : goal.loop-rest-preserved
loop-rest-preserved c =
    let s = c.args.self.now in
    let v = c.least-v.result in
    let was = c.loop-rest.invariant in
    let row = (get_or c.self.inside.rows.now v no_row).waiting in
    let set = was.some v c.least-v.ensures.set in
    let e = ends_at s v (c.requires.lasts v set) in
    let tells : (u i j : ℕ) → last_of (get_or s i []) ≡ Some u → last_of (get_or s j []) ≡ Some v
    → bit_at row u ≡ cond (waits_in (get_or s i []) (get_or s j [])) 1 0 = λ u i j one two.
    row_tells c.self.inside.position.now c.self.inside.rows.now c.self.inside.held c.self.inside.all c.self.inside.lasts s u v i j c.self.invariant
    c.self.view_is one two in
    record {
      some = λ w set. was.some w (still c.loop-rest.rest c.remove-rest.result v w c.remove-rest.ensures.value set);
      wait = λ u i last more.
          ⊎_elim
          (λ before. was.wait u i last before)
          (λ not_before.
          let or = bit_at_or c.loop-rest.waiting row u in
          let lt = bit_at-lt c.loop-rest.waiting u in
          let here : bit_at row u ≡ 1 = omega (arith, or, lt, more, not_before) in
          waits_some s c.args.set i e.place v e.last set
          (is_one (waits_in (get_or s i []) (get_or s e.place [])) (sym (tells u i e.place last e.last) ∙ here)))
          (cases_eq (bit_at c.loop-rest.waiting u) 1);
      each = λ u i w j one two set gone waits.
          let or = bit_at_or c.loop-rest.waiting row u in
          let small = bit_at-lt row u in
          let lt = bit_at-lt c.loop-rest.waiting u in
          ⊎_elim
          (λ same.
          let here = tells u i j one (two ∙ ap (λ (x : ℕ). Some x) same) ∙ ap (λ t. cond t 1 0) waits in
          omega (arith, or, here, lt))
          (λ ne.
          let before = was.each u i w j one two set (λ there. gone (kept c.loop-rest.rest c.remove-rest.result v w c.remove-rest.ensures.value ne there)) waits in
          omega (arith, or, before, small))
          (cases_eq w v);
    }

pub returns : goal.returns
returns c = record {
  value = λ u i last.
      let s = c.args.self.now in
      let kept = c.loop-rest.invariant in
      ⊎_elim
      (λ one. one ∙ sym (ap (λ t. cond t 1 0) (kept.wait u i last one)))
      (λ ne.
      let none : bit_at c.loop-rest.waiting u ≡ 0 = let lt = bit_at-lt c.loop-rest.waiting u in omega (arith, lt, ne) in
      none ∙ sym (ap (λ t. cond t 1 0) (not_true (waits_among s (is_set c.args.set) (get_or s i [])) (λ waits.
      let (j, v, there, set, waits_there) = waits_where s c.args.set i waits in
      ne (kept.each u i v j last there set (no_bits c.loop-rest.rest v c.loop-rest-test.false) waits_there)))))
      (cases_eq (bit_at c.loop-rest.waiting u) 1);
}
