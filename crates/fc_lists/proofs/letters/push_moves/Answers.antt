use Rattle.std.proofs.Common.{◌++◌, ◌∙◌, take, sym, ap, arith}
use Rattle.std.specs.List.{flat_map}
use Rattle.std.proofs.lemmas.List.{append-nil}
use Rattle.fc_cards.specs.declared.places.Place.TheVariants.{Column}
use Rattle.fc_moves.specs.declared.steps.Move.{Move}
use Rattle.fc_lists.proofs.ListTextLemmas.{next_text, all_written, rest_texts}
use Rattle.fc_lists.proofs.letters.push_moves.Goals as goal

pub loop-m-init : goal.loop-m-init
loop-m-init c = sym (append-nil c.extend_from_slice.new.self.items)

pub move_text-requires-in-loop-m : goal.move_text-requires-in-loop-m
move_text-requires-in-loop-m c =
    let first : Move = record { from = Column 0; to = Column 0 } in
    record {
      has_text = rest_texts c.args.moves.now c.in-Some.rest.now c.in-Some.first.now c.in-Some.ensures.cases.0 c.requires.texts c.loop-m.m-index first
          c.loop-m-test.true;
    }

pub returns : goal.returns
returns c = record {
  text = c.loop-m.invariant
      ∙ ap (λ b. b ++ flat_map next_text (take c.loop-m.m-index c.in-Some.rest.now)) (c.in_ok-extend_from_slice.ensures.items ∙ ap (λ t. c.args.text.now.items ++ t) c.move_text.ensures.value)
      ∙ all_written c.args.text.now.items c.args.moves.now c.in-Some.rest.now c.in-Some.first.now c.loop-m.m-index c.in-Some.ensures.cases.0
      (let e = c.loop-m-test.false in omega (arith, e));
}
