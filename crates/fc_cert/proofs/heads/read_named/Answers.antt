use Rattle.std.proofs.Common.{Ok, Err, refl}
use Rattle.fc_cert.specs.Reading.{ReadsNamed}
use Rattle.fc_cert.proofs.FieldLemmas.{passed_on, any_byte, no_byte}
use Rattle.fc_cert.proofs.heads.read_named.Goals as goal

pub returns-in_err-game-clause-fault : goal.returns-in_err-game-clause-fault
returns-in_err-game-clause-fault c =
    let f = c.in_err-game.field-0.0 in
    let none = c.in_err-game.ensures.fault in
    passed_on (λ f. ReadsNamed c.args.bytes.now (Err f)) c.from_residual.result f c.from_residual.ensures.1
    (Err f, no_byte c.args.bytes.now f none.0 none.1, refl)

pub returns-in_err-cells-clause-fault : goal.returns-in_err-cells-clause-fault
returns-in_err-cells-clause-fault c =
    let f = c.in_err-cells.field-0.0 in
    let game = c.in_ok-game in
    passed_on (λ f. ReadsNamed c.args.bytes.now (Err f)) c.from_residual-in_err-cells.result f c.from_residual-in_err-cells.ensures.1 (
      Ok (game.game, game.rest.now),
      any_byte c.args.bytes.now game.rest.now game.game game.ensures.read.0 game.ensures.read.1,
      (Err f, c.in_err-cells.ensures.fault, refl),
    )

pub returns-clause-read : goal.returns-clause-read
returns-clause-read c =
    let game = c.in_ok-game in
    let cells = c.in_ok-cells in (
      Ok (game.game, game.rest.now),
      any_byte c.args.bytes.now game.rest.now game.game game.ensures.read.0 game.ensures.read.1,
      (Ok (cells.cells, cells.rest.now), cells.ensures.read, refl),
    )
