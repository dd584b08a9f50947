use Rattle.std.proofs.Common.{◌≡◌, ◌↔◌, ℕ, ◌+◌, ◌*◌, ◌<◌, Bool, Option, Some, List, [], ◌∷◌, ◌++◌, eqb, refl, sym, ◌∙◌, subst}
use Rattle.std.specs.Prelude.{IsTrue}
use Rattle.std.specs.Option.{option_eq}
use Rattle.fc_cards.specs.declared.places.Place.{Place}
use Rattle.fc_cards.specs.declared.places.Place.TheVariants.{Column}
use Rattle.fc_position.specs.Board.{Board, column, playable}
use Rattle.fc_position.specs.Position.{IsPosition}
use Rattle.fc_moves.specs.declared.steps.Move.{Move}
use Rattle.fc_moves.specs.GameRules.{GameRules, IsGame}
use Rattle.fc_moves.specs.Step.{place_number}
use Rattle.fc_moves.proofs.StepLemmas.{source_there}
use Rattle.fc_canonical.specs.inner.Distinct.{GoesTo, IsListed, IsOpening}
use Rattle.fc_canonical.proofs.AddedLemmas.{adds_move, adds_none}
use Rattle.fc_canonical.proofs.ListingLemmas.{equal_is, goes_listed, place_adds, place_passes}
use Rattle.fc_canonical.proofs.distinct.list_to_column.Goals as goal

-- the test of the cards that were read tells whether the card is listed to the column
read_listed : (g : GameRules) (b : Board) (from : Place) (u j : ℕ) (opening : Option ℕ) (cards : List ℕ) (t opens : Bool)
    → IsPosition b → IsGame g → playable b from ≡ Some u → j < 8 → IsOpening g b from opening
    → opens ≡ option_eq eqb opening (Some j) → cards ≡ column b j → (IsTrue t ↔ GoesTo g cards u (IsTrue opens))
    → IsTrue t ↔ IsListed g b (record { from = from; to = Column j })
read_listed g b from u j opening cards t opens p game there inside told opened read goes =
    goes_listed g b from u j opening t opens p game there inside told (equal_is opening j opens opened)
    (subst (λ l. IsTrue t ↔ GoesTo g l u (IsTrue opens)) read goes)

pub returns-then-goes_to-clause-adds : goal.returns-then-goes_to-clause-adds
returns-then-goes_to-clause-adds g c =
    let game = g.G.Game.game c.args.game.now in
    let b = c.args.position.now in
    let source = c.args.source.now in
    let j = c.args.j in
    let m : Move = record { from = source.from; to = Column j } in
    let listed = read_listed game b source.from source.card j c.args.opening c.column.result.now c.goes_to.result c.eq.result
    c.requires.whole (g.met.G.Game.sound c.args.game.now) c.requires.card c.requires.there c.requires.opening c.eq.ensures
    c.column.ensures.value c.goes_to.ensures.value in
    adds_move game b source.from (Column j) (place_number source.from * 13 + j) (place_number source.from * 13 + (j + 1))
    c.args.list.now.items c.push.new.self.items c.push.ensures.items
    (λ before lists. place_adds game b source.from (Column j) j before (before ++ m ∷ []) c.requires.whole
    (source_there b source.from source.card c.requires.whole c.requires.card) c.requires.there refl lists
    (listed.0 c.if-goes_to.true) refl)

pub returns-else-goes_to-clause-adds : goal.returns-else-goes_to-clause-adds
returns-else-goes_to-clause-adds g c =
    let game = g.G.Game.game c.args.game.now in
    let b = c.args.position.now in
    let source = c.args.source.now in
    let j = c.args.j in
    let listed = read_listed game b source.from source.card j c.args.opening c.column.result.now c.goes_to.result c.eq.result
    c.requires.whole (g.met.G.Game.sound c.args.game.now) c.requires.card c.requires.there c.requires.opening c.eq.ensures
    c.column.ensures.value c.goes_to.ensures.value in
    adds_none game b source.from (place_number source.from * 13 + j) (place_number source.from * 13 + (j + 1))
    c.args.list.now.items
    (λ before lists. place_passes game b source.from (Column j) j before c.requires.whole
    (source_there b source.from source.card c.requires.whole c.requires.card) c.requires.there refl lists
    (λ ok. let holds = listed.1 ok in absurd (cc (sym c.if-goes_to.false ∙ holds))))
