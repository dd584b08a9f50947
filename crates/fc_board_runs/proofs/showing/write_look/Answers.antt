use Rattle.std.proofs.Common.{◌≡◌, OnOk, sym, ap, subst, ◌∙◌}
use Rattle.fc_io.specs.Moves.{TakesBytes}
use Rattle.fc_board_runs.specs.Showing.{look_text}
use Rattle.fc_board_runs.proofs.showing.write_look.Goals as goal

pub returns-in-Text-clause-whole : goal.returns-in-Text-clause-whole
returns-in-Text-clause-whole g c =
    let bytes = c.as_bytes.ensures.value ∙ c.deref.ensures.0 ∙ c.print_board.ensures.text in
    let text : c.as_bytes.result.now ≡ look_text c.args.look c.args.cells c.args.position.now =
    bytes ∙ ap (λ look. look_text look c.args.cells c.args.position.now) (sym c.in-Text.is) in
    subst (λ t. OnOk c.write_all-in-Text.result (TakesBytes (g.K.Sink.held c.args.out.now) (g.K.Sink.held c.write_all-in-Text.new.sink) t)) text
    c.write_all-in-Text.ensures.whole
