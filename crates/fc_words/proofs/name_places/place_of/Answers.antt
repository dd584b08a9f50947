use Rattle.std.proofs.Common.{rules, ℕ, Bor, List, []}
use Rattle.std.specs.Cmp.Lexicographic.{same_text, other_text}
use Rattle.fc_words.proofs.PlaceLemmas.{named_at, named_before, named_past}
use Rattle.fc_words.proofs.name_places.place_of.Goals as goal

-- what is read past the table
abbrev none : Bor (List ℕ)
none = record { ref_ptr = (0, 0); now = [] }

pub returns-then-eq-clause-place : goal.returns-then-eq-clause-place
returns-then-eq-clause-place c =
    named_at c.args.names.now c.loop-i.i c.args.name.now none (search rules) (same_text _ _ c.if-eq.ensures)

pub loop-i-preserved : goal.loop-i-preserved
loop-i-preserved c = named_before c.args.names.now c.loop-i.i c.args.name.now none (search rules) c.loop-i.invariant
    (other_text _ _ c.if-eq.ensures)

pub returns-clause-unknown : goal.returns-clause-unknown
returns-clause-unknown c = named_past c.args.names.now c.loop-i.i c.args.name.now (search rules) c.loop-i.invariant
