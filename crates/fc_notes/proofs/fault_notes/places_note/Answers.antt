use Rattle.std.proofs.Common.{refl, sym, ◌∙◌, subst}
use Rattle.std.specs.Prelude.{min}
use Rattle.fc_notes.specs.FileLine.{IsFileLine}
use Rattle.fc_notes.proofs.fault_notes.places_note.Goals as goal

pub returns-then-is_same_place : goal.returns-then-is_same_place
returns-then-is_same_place c =
    let text = c.args.text.now in
    let first = c.in_ok-first.first in
    let last = c.in_ok-last.last in
    let same = c.is_same_place.ensures.value.0 c.if-is_same_place.true in
    let there = c.place_of-to.ensures.value in
    record {
      note = (
        refl,
        (first.line, first.place, first.token.now, c.in_ok-first.ensures.spot, c.place_of-from.ensures.value),
        (
          last.line,
          last.place,
          last.token.now,
          c.in_ok-last.ensures.spot,
          (subst (λ k. IsFileLine text.typed.now text.above (min last.line 4294967295) k) (sym same.0) there.0, same.1 ∙ there.1),
        ),
      );
    }

pub returns : goal.returns
returns c =
    let first = c.in_ok-first.first in
    let last = c.in_ok-last.last in
    record {
      note = (
        refl,
        (first.line, first.place, first.token.now, c.in_ok-first.ensures.spot, c.place_of-from.ensures.value),
        (last.line, last.place, last.token.now, c.in_ok-last.ensures.spot, c.place_of-to.ensures.value),
        λ same. let yes = c.is_same_place.ensures.value.1 same in absurd (cc),
      );
    }
