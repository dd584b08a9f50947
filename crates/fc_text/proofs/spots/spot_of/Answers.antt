use Rattle.std.proofs.Common.{sym, ◌∙◌, ap, subst}
use Rattle.fc_text.specs.Line.{board_lines, line_of, without_return}
use Rattle.fc_text.specs.Spot.{IsFirstBad, IsSpot, NoneIsBad}
use Rattle.fc_text.proofs.SpotLemmas.{spot_there, no_spot, none_there}
use Rattle.fc_text.proofs.spots.spot_of.Goals as goal

pub returns-clause-spot : goal.returns-clause-spot
returns-clause-spot c =
    let n = c.args.cells in
    let text = c.args.text.now in
    let number = c.in_ok-number.number in
    let fault = c.in_ok-number.fault in
    let place = c.in_ok-place.place in
    let token = c.in_ok-place.token.now in
    let told = line_of (without_return c.in_ok-line.line.now) in
    let same = ap line_of (sym c.without_return.ensures) ∙ c.sorted_line-kind.ensures in
    let first : IsFirstBad n fault told place token = subst (λ line. IsFirstBad n fault line place token) (sym same) c.in_ok-place.ensures.bad in
    subst (λ f. IsSpot n text f number place token) (sym c.in_ok-number.ensures.line)
    (spot_there n text number place token fault (told, c.in_ok-line.ensures.line, first))

pub returns-in_err-line-clause-none : goal.returns-in_err-line-clause-none
returns-in_err-line-clause-none c =
    rw c.from_residual-in_err-line.ensures
    (no_spot c.args.cells c.args.text.now c.in_ok-number.number c.in_ok-number.fault c.args.fault c.in_ok-number.ensures.line
    (λ line there. absurd (c.in_err-line.ensures.none line there)))

pub returns-in_err-place-clause-none : goal.returns-in_err-place-clause-none
returns-in_err-place-clause-none c =
    let n = c.args.cells in
    let fault = c.in_ok-number.fault in
    let told = line_of (without_return c.in_ok-line.line.now) in
    let same = ap line_of (sym c.without_return.ensures) ∙ c.sorted_line-kind.ensures in
    let none : NoneIsBad n fault told.kind told.tokens =
    subst (λ line. NoneIsBad n fault line.kind line.tokens) (sym same) c.in_err-place.ensures.none in
    rw c.from_residual-in_err-place.ensures
    (no_spot n c.args.text.now c.in_ok-number.number fault c.args.fault c.in_ok-number.ensures.line
    (λ line there. none_there n fault (board_lines c.args.text.now) c.in_ok-number.number told line c.in_ok-line.ensures.line none there))
