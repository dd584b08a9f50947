-- What is said of a board, from the one board that the text spells when it is read the other way.
use Rattle.std.proofs.Common.{◌≡◌, ℕ, Bool, List, subst, sym, ◌∙◌}
use Rattle.std.specs.Prelude.{◌↔◌, IsTrue, Option, Some, None}
use Rattle.fc_position.specs.Board.{Board}
use Rattle.fc_row_text.specs.RowText.{text_in_columns}
use Rattle.fc_text.proofs.OnceLemmas.{spell_one}
use Rattle.fc_notes.specs.Length.{IsLikeNoDeal, SpellsInRows}
use Rattle.fc_notes.specs.LengthNote.{IsLengthNote, IsReadingNote}
use Rattle.fc_notes.specs.declared.length_notes.LengthNote.{LengthNote}
use Rattle.fc_notes.specs.declared.length_notes.LengthNote.TheVariants.{NotOfDeal, Other, Either}

-- no text spells two boards in rows
pub rows_spell_one : (n : ℕ) (text : List ℕ) (a b : Board) → SpellsInRows n text a → SpellsInRows n text b → a ≡ b
rows_spell_one n text a b one two = spell_one n (text_in_columns text) a b one.spelled two.spelled

-- a test of the one board that is spelled is a test whether any such board is
pub one_such : (Spelled Holds : Board → Type 0) (other : Board) (test : Bool)
    → ((a b : Board) → Spelled a → Spelled b → a ≡ b) → Spelled other → (IsTrue test ↔ Holds other)
    → IsTrue test ↔ ((b : Board) × Spelled b × Holds b)
one_such Spelled Holds other test once here tells =
    (λ yes. (other, here, tells.0 yes), λ some. tells.1 (subst Holds (once some.0 other some.1 here) some.2))

-- what is said beside the one board is said beside whatever is spelled
pub said_beside : (InRows : Type 0) (Spelled : Board → Type 0) (taken other : Board) (note : Option LengthNote)
    → ((a b : Board) → Spelled a → Spelled b → a ≡ b) → (IsLikeNoDeal taken → ⊥) → Spelled other
    → IsReadingNote taken other note → IsLengthNote InRows Spelled taken note
said_beside InRows Spelled taken other None once like here said =
    (like, λ found spelled. subst (λ b. IsReadingNote taken b None) (once other found here spelled) said)
said_beside InRows Spelled taken other (Some (NotOfDeal lengths in_rows)) once like here said = absurd said
said_beside InRows Spelled taken other (Some Other) once like here said = (like, (other, here, said))
said_beside InRows Spelled taken other (Some Either) once like here said = (like, (other, here, said))

-- two tests that answer alike
pub alike : (P Q : Type 0) (p q : Bool) → (IsTrue p ↔ P) → (IsTrue q ↔ Q) → p ≡ q → P ↔ Q
alike P Q p q one two same = (λ x. two.0 (sym same ∙ one.1 x), λ y. one.0 (same ∙ two.1 y))
