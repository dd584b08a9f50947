use Rattle.std.proofs.Common.{refl, sym, ◌∙◌}
use Rattle.fc_row_text.specs.RowText.{cells_named}
use Rattle.fc_row_text.proofs.row_lines.cells_named.Goals as goal

pub returns-then-are_letters : goal.returns-then-are_letters
unfolding cells_named
returns-then-are_letters c = rw (sym c.are_letters.ensures ∙ c.if-are_letters.true) refl

pub returns-then-are_letters-2 : goal.returns-then-are_letters-2
unfolding cells_named
returns-then-are_letters-2 c =
    rw (sym c.are_letters.ensures ∙ c.if-are_letters.false) (rw (sym c.are_letters-2.ensures ∙ c.if-are_letters-2.true) refl)

pub returns-then-are_letters-3 : goal.returns-then-are_letters-3
unfolding cells_named
returns-then-are_letters-3 c =
    rw (sym c.are_letters.ensures ∙ c.if-are_letters.false)
    (rw (sym c.are_letters-2.ensures ∙ c.if-are_letters-2.false) (rw (sym c.are_letters-3.ensures ∙ c.if-are_letters-3.true) refl))

pub returns-then-are_letters-4 : goal.returns-then-are_letters-4
unfolding cells_named
returns-then-are_letters-4 c =
    rw (sym c.are_letters.ensures ∙ c.if-are_letters.false)
    (rw (sym c.are_letters-2.ensures ∙ c.if-are_letters-2.false)
    (rw (sym c.are_letters-3.ensures ∙ c.if-are_letters-3.false) (rw (sym c.are_letters-4.ensures ∙ c.if-are_letters-4.true) refl)))

pub returns-then-are_letters-5 : goal.returns-then-are_letters-5
unfolding cells_named
returns-then-are_letters-5 c =
    rw (sym c.are_letters.ensures ∙ c.if-are_letters.false)
    (rw (sym c.are_letters-2.ensures ∙ c.if-are_letters-2.false)
    (rw (sym c.are_letters-3.ensures ∙ c.if-are_letters-3.false)
    (rw (sym c.are_letters-4.ensures ∙ c.if-are_letters-4.false) (rw (sym c.are_letters-5.ensures ∙ c.if-are_letters-5.true) refl))))

pub returns : goal.returns
unfolding cells_named
returns c =
    rw (sym c.are_letters.ensures ∙ c.if-are_letters.false)
    (rw (sym c.are_letters-2.ensures ∙ c.if-are_letters-2.false)
    (rw (sym c.are_letters-3.ensures ∙ c.if-are_letters-3.false)
    (rw (sym c.are_letters-4.ensures ∙ c.if-are_letters-4.false) (rw (sym c.are_letters-5.ensures ∙ c.if-are_letters-5.false) refl))))
