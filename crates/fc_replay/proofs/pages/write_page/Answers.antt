use Rattle.std.proofs.Common.{◌≡◌, ◌++◌, OnOk, sym, ap, subst, ◌∙◌}
use Rattle.fc_io.specs.Moves.{TakesBytes}
use Rattle.fc_replay.specs.Page.{header, page_text}
use Rattle.fc_replay.proofs.pages.write_page.Goals as goal

pub returns-in-Board-clause-whole : goal.returns-in-Board-clause-whole
returns-in-Board-clause-whole g c =
    let bytes = c.as_bytes.ensures.value ∙ c.deref.ensures.0 ∙ c.print_board.ensures.text in
    let text : c.as_bytes.result.now ≡ page_text c.args.page c.args.cells c.args.told.now c.args.position.now =
    bytes ∙ ap (λ page. page_text page c.args.cells c.args.told.now c.args.position.now) (sym c.in-Board.is) in
    subst (λ t. OnOk c.write_all.result (TakesBytes (g.K.Sink.held c.args.sink.now) (g.K.Sink.held c.write_all.new.sink) t)) text
    c.write_all.ensures.whole

pub returns-in-Numbered-clause-whole : goal.returns-in-Numbered-clause-whole
returns-in-Numbered-clause-whole g c =
    let line = c.deref-in-Numbered.ensures.0 ∙ c.header-header.ensures.text in
    let bytes = c.as_bytes-in-Numbered.ensures.value ∙ c.deref-in-Numbered-2.ensures.0 ∙ c.print_board-in-Numbered.ensures.text in
    let text : c.deref-in-Numbered.result.now ++ c.as_bytes-in-Numbered.result.now ≡ page_text c.args.page c.args.cells c.args.told.now c.args.position.now =
    ap (λ l. l ++ c.as_bytes-in-Numbered.result.now) line
    ∙ ap (λ l. header c.args.told.now.number c.args.told.now.m ++ l) bytes
    ∙ ap (λ page. page_text page c.args.cells c.args.told.now c.args.position.now) (sym c.in-Numbered.is) in
    subst (λ t. OnOk c.write_both.result (TakesBytes (g.K.Sink.held c.args.sink.now) (g.K.Sink.held c.write_both.new.sink) t)) text
    c.write_both.ensures.whole
