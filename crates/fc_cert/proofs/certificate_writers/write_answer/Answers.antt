use Rattle.std.proofs.Common.{[], ◌++◌, refl}
use Rattle.fc_cert.specs.declared.contents.Kind.TheVariants as kind
use Rattle.fc_cert.specs.Content.{listed_bytes, rows_bytes}
use Rattle.fc_cert.proofs.WritingLemmas.{whole_both, cut_later, cut_before, content, shortest_written, won_written, cannot_win_written, answer_cut}
use Rattle.fc_cert.proofs.certificate_writers.write_answer.Goals as goal

pub returns-in_err-write_head-in-Shortest : goal.returns-in_err-write_head-in-Shortest
returns-in_err-write_head-in-Shortest g c =
    let rules = g.G.Game.game c.args.game.now in
    let moves = c.in-Shortest.moves in
    let table = c.in-Some.table in
    record {
      ends = answer_cut rules c.args.answer.now _ _ (content rules table kind.Shortest 0 moves) _ c.from_residual.ensures.1
          (shortest_written rules c.args.answer.now moves moves table c.in-Some.is c.in-Shortest.is refl)
          (cut_before (listed_bytes moves ++ rows_bytes table.rows) c.in_err-write_head-in-Shortest.ensures.ends);
    }

pub returns-in_err-write_moves-in-Shortest : goal.returns-in_err-write_moves-in-Shortest
returns-in_err-write_moves-in-Shortest g c =
    let rules = g.G.Game.game c.args.game.now in
    let moves = c.as_slice.result.now in
    let table = c.in-Some.table in
    record {
      ends = answer_cut rules c.args.answer.now _ _ (content rules table kind.Shortest 0 moves) _
          c.from_residual-in_err-write_moves-in-Shortest.ensures.1
          (shortest_written rules c.args.answer.now c.in-Shortest.moves moves table c.in-Some.is c.in-Shortest.is c.as_slice.ensures.value)
          (cut_later c.in_ok-write_head-in-Shortest.ensures.ends
          (cut_before (rows_bytes table.rows) c.in_err-write_moves-in-Shortest.ensures.ends));
    }

pub returns-in_err-write_rows-in-Shortest : goal.returns-in_err-write_rows-in-Shortest
returns-in_err-write_rows-in-Shortest g c =
    let rules = g.G.Game.game c.args.game.now in
    let moves = c.as_slice.result.now in
    let table = c.in-Some.table in
    record {
      ends = answer_cut rules c.args.answer.now _ _ (content rules table kind.Shortest 0 moves) _
          c.from_residual-in_err-write_rows-in-Shortest.ensures.1
          (shortest_written rules c.args.answer.now c.in-Shortest.moves moves table c.in-Some.is c.in-Shortest.is c.as_slice.ensures.value)
          (cut_later c.in_ok-write_head-in-Shortest.ensures.ends
          (cut_later c.in_ok-write_moves-in-Shortest.ensures.ends c.in_err-write_rows-in-Shortest.ensures.ends));
    }

pub returns-in_ok-write_rows-in-Shortest : goal.returns-in_ok-write_rows-in-Shortest
returns-in_ok-write_rows-in-Shortest g c =
    let rules = g.G.Game.game c.args.game.now in
    let moves = c.as_slice.result.now in
    let table = c.in-Some.table in
    record {
      ends = (
        content rules table kind.Shortest 0 moves,
        shortest_written rules c.args.answer.now c.in-Shortest.moves moves table c.in-Some.is c.in-Shortest.is c.as_slice.ensures.value,
        whole_both c.in_ok-write_head-in-Shortest.ensures.ends
            (whole_both c.in_ok-write_moves-in-Shortest.ensures.ends c.in_ok-write_rows-in-Shortest.ensures.ends),
      );
    }

pub returns-in_err-write_head-in-Won : goal.returns-in_err-write_head-in-Won
returns-in_err-write_head-in-Won g c =
    let rules = g.G.Game.game c.args.game.now in
    let moves = c.in-Won.moves in
    let table = c.in-Some.table in
    record {
      ends = answer_cut rules c.args.answer.now _ _ (content rules table kind.Between c.in-Won.floor moves) _ c.from_residual-in_err-write_head-in-Won.ensures.1
          (won_written rules c.args.answer.now moves moves c.in-Won.floor table c.in-Some.is c.in-Won.is refl)
          (cut_before (listed_bytes moves ++ rows_bytes table.rows) c.in_err-write_head-in-Won.ensures.ends);
    }

pub returns-in_err-write_moves-in-Won : goal.returns-in_err-write_moves-in-Won
returns-in_err-write_moves-in-Won g c =
    let rules = g.G.Game.game c.args.game.now in
    let moves = c.as_slice-in-Won.result.now in
    let table = c.in-Some.table in
    record {
      ends = answer_cut rules c.args.answer.now _ _ (content rules table kind.Between c.in-Won.floor moves) _
          c.from_residual-in_err-write_moves-in-Won.ensures.1
          (won_written rules c.args.answer.now c.in-Won.moves moves c.in-Won.floor table c.in-Some.is c.in-Won.is c.as_slice-in-Won.ensures.value)
          (cut_later c.in_ok-write_head-in-Won.ensures.ends
          (cut_before (rows_bytes table.rows) c.in_err-write_moves-in-Won.ensures.ends));
    }

pub returns-in_err-write_rows-in-Won : goal.returns-in_err-write_rows-in-Won
returns-in_err-write_rows-in-Won g c =
    let rules = g.G.Game.game c.args.game.now in
    let moves = c.as_slice-in-Won.result.now in
    let table = c.in-Some.table in
    record {
      ends = answer_cut rules c.args.answer.now _ _ (content rules table kind.Between c.in-Won.floor moves) _
          c.from_residual-in_err-write_rows-in-Won.ensures.1
          (won_written rules c.args.answer.now c.in-Won.moves moves c.in-Won.floor table c.in-Some.is c.in-Won.is c.as_slice-in-Won.ensures.value)
          (cut_later c.in_ok-write_head-in-Won.ensures.ends
          (cut_later c.in_ok-write_moves-in-Won.ensures.ends c.in_err-write_rows-in-Won.ensures.ends));
    }

pub returns-in_ok-write_rows-in-Won : goal.returns-in_ok-write_rows-in-Won
returns-in_ok-write_rows-in-Won g c =
    let rules = g.G.Game.game c.args.game.now in
    let moves = c.as_slice-in-Won.result.now in
    let table = c.in-Some.table in
    record {
      ends = (
        content rules table kind.Between c.in-Won.floor moves,
        won_written rules c.args.answer.now c.in-Won.moves moves c.in-Won.floor table c.in-Some.is c.in-Won.is c.as_slice-in-Won.ensures.value,
        whole_both c.in_ok-write_head-in-Won.ensures.ends
            (whole_both c.in_ok-write_moves-in-Won.ensures.ends c.in_ok-write_rows-in-Won.ensures.ends),
      );
    }

pub returns-in_err-write_head-in-CannotWin : goal.returns-in_err-write_head-in-CannotWin
returns-in_err-write_head-in-CannotWin g c =
    let rules = g.G.Game.game c.args.game.now in
    let table = c.in-Some.table in
    record {
      ends = answer_cut rules c.args.answer.now _ _ (content rules table kind.CannotWin 0 []) _
          c.from_residual-in_err-write_head-in-CannotWin.ensures.1
          (cannot_win_written rules c.args.answer.now table c.in-Some.is c.in-CannotWin.is)
          (cut_before (rows_bytes table.rows) c.in_err-write_head-in-CannotWin.ensures.ends);
    }

pub returns-in_err-write_rows-in-CannotWin : goal.returns-in_err-write_rows-in-CannotWin
returns-in_err-write_rows-in-CannotWin g c =
    let rules = g.G.Game.game c.args.game.now in
    let table = c.in-Some.table in
    record {
      ends = answer_cut rules c.args.answer.now _ _ (content rules table kind.CannotWin 0 []) _
          c.from_residual-in_err-write_rows-in-CannotWin.ensures.1
          (cannot_win_written rules c.args.answer.now table c.in-Some.is c.in-CannotWin.is)
          (cut_later c.in_ok-write_head-in-CannotWin.ensures.ends c.in_err-write_rows-in-CannotWin.ensures.ends);
    }

pub returns-in_ok-write_rows-in-CannotWin : goal.returns-in_ok-write_rows-in-CannotWin
returns-in_ok-write_rows-in-CannotWin g c =
    let rules = g.G.Game.game c.args.game.now in
    let table = c.in-Some.table in
    record {
      ends = (
        content rules table kind.CannotWin 0 [],
        cannot_win_written rules c.args.answer.now table c.in-Some.is c.in-CannotWin.is,
        whole_both c.in_ok-write_head-in-CannotWin.ensures.ends c.in_ok-write_rows-in-CannotWin.ensures.ends,
      );
    }
