use Rattle.std.proofs.Common.{ap, sym, ◌∙◌, subst}
use Rattle.fc_codes.specs.Spelled.{board_of_code}
use Rattle.fc_classes.specs.Namings.{IsCodeIn}
use Rattle.fc_search.proofs.RowLemmas.{coded_there, stored_name}
use Rattle.fc_search.proofs.position_searches.Search.position_at.Goals as goal

pub position-requires : goal.position-requires
position-requires g c =
    let now = c.args.self.now in
    let code = c.at.result.0.now in
    let is = stored_name now.problem now.store c.known.ensures.names c.known.ensures.fits c.requires.sound c.args.number code c.at.result.1 c.at.ensures.stands in
    let sp = c.space-space.result.now in
    let own : IsCodeIn now.problem.start now.problem.game code = record { position = is.position; coded = is.own } in
    record {
      code = subst (λ v. IsCodeIn v.start (g.G.Game.game v.rules.game) code) (sym c.space-space.ensures.value)
          (subst (λ s. IsCodeIn s.problem.start s.problem.game code) (sym c.self.view_is) own);
    }

pub returns-clause-spells : goal.returns-clause-spells
returns-clause-spells g c =
    let now = c.args.self.now in
    let code = c.at.result.0.now in
    let start = ap (λ s. s.start) c.space-space.ensures.value ∙ ap (λ s. s.problem.start) c.self.view_is in
    record {
      stands = c.at.ensures.stands;
      board = c.position.ensures.value ∙ ap (λ s. board_of_code s code) start;
      name = stored_name now.problem now.store c.known.ensures.names c.known.ensures.fits c.requires.sound c.args.number code c.at.result.1 c.at.ensures.stands;
    }

pub returns-clause-coded : goal.returns-clause-coded
returns-clause-coded g c =
    let now = c.args.self.now in
    let code = c.at.result.0.now in
    coded_there now.problem.start now.problem.game code c.known.ensures.fits.position
    (stored_name now.problem now.store c.known.ensures.names c.known.ensures.fits c.requires.sound c.args.number code c.at.result.1 c.at.ensures.stands)
