use Rattle.std.proofs.Common.{cond, eqb, refl, sym, ◌∙◌, ap, subst}
use Rattle.std.specs.Int.{bit_at}
use Rattle.fc_position.specs.Position.{IsPosition}
use Rattle.fc_codes.specs.Spelled.{beneath}
use Rattle.fc_codes.proofs.BuiltLemmas.{read_is}
use Rattle.fc_codes.proofs.LawLemmas.{is_spelled}
use Rattle.fc_codes.proofs.TurnLemmas.{none_moved}
use Rattle.fc_codes.proofs.start_layouts.Layout.read.Goals as goal

pub move_cards-requires-clause-before : goal.move_cards-requires-clause-before
move_cards-requires-clause-before c =
    let new = c.unmoved-seats in
    none_moved c.args.self.now c.args.code.now new.result new.ensures.above
    (λ d small. ap (λ n. bit_at n d) new.ensures.deepest ∙ c.self.invariant.deepest d small
    ∙ ap (λ s. cond (eqb (beneath s d) 52) 1 0) c.self.view_is)
    new.ensures.moved new.ensures.cells new.ensures.held new.ensures.homes

pub refill-requires-clause-whole : goal.refill-requires-clause-whole
refill-requires-clause-whole c =
    let (b, p, k) = c.requires.code in
    subst IsPosition (sym (read_is c.args.self.now c.args.code.now c.move_cards.new.seats c.move_cards.new.seats.cells c.move_cards.ensures.value
    refl))
    (is_spelled c.args.self.now b c.args.code.now (subst IsPosition c.self.view_is c.self.invariant.whole) p k).position

pub returns-clause-value : goal.returns-clause-value
returns-clause-value c =
    c.refill.ensures.value
    ∙ read_is c.args.self.now c.args.code.now c.move_cards.new.seats c.move_cards.new.seats.cells c.move_cards.ensures.value refl
