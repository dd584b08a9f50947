use Rattle.std.proofs.Common.{◌≡◌, ℕ, Some, None, max, bit_or, get_or, sym, ◌∙◌, ap, subst}
use Rattle.std.specs.Int.{bit_at}
use Rattle.std.proofs.lemmas.Nat.Bits.{bit_at_or}
use Rattle.fc_position.specs.Board.{column, last_of, board_without, playable}
use Rattle.fc_bound.specs.Rows.{IsTableOf, no_row}
use Rattle.fc_bound.proofs.TableLemmas.{none_lifted, table_lifted}
use Rattle.fc_bound.proofs.waiting_rows.ColumnTable.lift.Goals as goal

pub returns-in-Column-Some-clause-table : goal.returns-in-Column-Some-clause-table
returns-in-Column-Some-clause-table c =
    let b = c.args.position.now in
    let t = c.args.self.now in
    let i = c.in-Column-Some.field-0-0 in
    let u = c.index-index.result in
    let beneath = (get_or t.rows u no_row).beneath in
    let last : last_of (column b i) ≡ Some u =
    ap (playable b) (sym c.in-Column-Some.is-0) ∙ sym c.playable.ensures.value ∙ c.in-Column-Some.is-1 ∙ ap (λ (n : ℕ). Some n) (sym c.index-index.ensures.value) in
    subst (λ from. IsTableOf (board_without b from).columns (record {
      rows = t.rows;
      marks = record { all = c.remove-self.result; lasts = bit_or c.remove.result beneath; held = c.remove-self-in-Column-Some.result };
    })) (sym c.in-Column-Some.is-0)
    (table_lifted b t i u c.remove-self.result (bit_or c.remove.result beneath) c.remove-self-in-Column-Some.result c.playable.ensures.whole
    c.requires.table last c.remove-self.ensures.value
    (λ d. bit_at_or c.remove.result beneath d ∙ ap (λ n. max n (bit_at beneath d)) (c.remove.ensures.value d))
    c.remove-self-in-Column-Some.ensures.value)

pub returns-in-Column-None-clause-table : goal.returns-in-Column-None-clause-table
returns-in-Column-None-clause-table c =
    let b = c.args.position.now in
    let i = c.in-Column-None.field-0-0 in
    let none : last_of (column b i) ≡ None =
    ap (playable b) (sym c.in-Column-None.is-0) ∙ sym c.playable.ensures.value ∙ c.in-Column-None.is-1 in
    subst (λ from. IsTableOf (board_without b from).columns c.args.self.now) (sym c.in-Column-None.is-0)
    (subst (λ v. IsTableOf v c.args.self.now) (sym (none_lifted b.columns i none)) c.requires.table)
