use Rattle.std.proofs.Common.{◌≡◌, ℕ, ◌<◌, min, false, cond, List, [], get_or, ap, subst, sym, ◌∙◌, arith}
use Rattle.std.specs.Prelude.{◌&&◌}
use Rattle.std.specs.Int.{bit_at}
use Rattle.std.proofs.lemmas.Nat.Bits.{bit_at_and, bit_at-lt}
use Rattle.fc_position.specs.Board.{last_of}
use Rattle.fc_bound.specs.Knots.{ends_among, waits_in}
use Rattle.fc_bound.specs.Rows.{IsRow, no_row}
use Rattle.fc_bound.proofs.AboveLemmas.{and-false, not_true}
use Rattle.fc_bound.proofs.LooseLemmas.{waits_now}
use Rattle.fc_bound.proofs.TakeLemmas.{left_card, row_left}
use Rattle.fc_bound.proofs.columns_left.Left.partner.Goals as goal

pub bounds-self-inside-u : goal.bounds-self-inside-u
bounds-self-inside-u c =
    omega (arith, left_card c.self.inside.position.now c.self.inside.all c.args.u c.self.invariant.whole (ap (λ v. ends_among v c.args.u) c.self.view_is ∙ c.requires.one))

first_one : (m n : ℕ) → min m n ≡ 1 → m < 2 → m ≡ 1
first_one m n both small = omega arith

both_one : (m n : ℕ) → m ≡ 1 → n ≡ 1 → min m n ≡ 1
both_one m n one two = omega arith

pub loop-rest-init : goal.loop-rest-init
loop-rest-init c =
    let s : List (List ℕ) = c.args.self.now in
    let b = c.self.inside.position.now in
    let all = c.self.inside.all in
    let rows = c.self.inside.rows.now in
    let waiting : ℕ = (get_or rows c.args.u no_row).waiting in
    record {
      some = λ w set.
          first_one (bit_at c.args.others w) (bit_at waiting w) (sym (bit_at_and c.args.others waiting w) ∙ set) (bit_at-lt c.args.others w);
      none = λ w set unset i j one two.
          let x : List ℕ = get_or s i [] in
          let y : List ℕ = get_or s j [] in
          let row : IsRow (get_or rows c.args.u no_row) x =
          subst (λ v. IsRow (get_or rows c.args.u no_row) (get_or v i [])) c.self.view_is
          (row_left b rows c.self.inside.held all c.self.inside.lasts i c.args.u c.self.invariant (ap (λ v. last_of (get_or v i [])) c.self.view_is ∙ one)) in
          let below : w < 52 = left_card b all w c.self.invariant.whole (ap (λ v. ends_among v w) c.self.view_is ∙ c.requires.others w set) in
          let other : waits_in y x ≡ false = not_true (waits_in y x) (λ waits.
          unset (bit_at_and c.args.others waiting w ∙ both_one (bit_at c.args.others w) (bit_at waiting w) set
          (waits_now waiting w x y below row.waiting two ∙ ap (λ t. cond t 1 0) waits))) in
          ap (λ t. waits_in x y && t) other ∙ and-false (waits_in x y);
    }
