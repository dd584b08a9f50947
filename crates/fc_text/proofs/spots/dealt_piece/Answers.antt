use Rattle.std.proofs.Common.{sym, ◌∙◌, ap, ⊎_elim}
use Rattle.fc_text.specs.Line.{line_of}
use Rattle.fc_text.proofs.spots.dealt_piece.Goals as goal

pub returns-in-Freecells-clause-outside : goal.returns-in-Freecells-clause-outside
returns-in-Freecells-clause-outside c other =
    let same = ap line_of (sym c.without_return.ensures) ∙ c.sorted_line-kind.ensures in
    let kind = sym (ap (λ line. line.kind) same) ∙ other in
    ⊎_elim (λ e. cc (e, kind)) (λ e. cc (e, kind)) c.in-Freecells.is
