use Rattle.std.proofs.Common.{sym, subst}
use Rattle.std.proofs.lemmas.Option.{IfSome_then}
use Rattle.fc_text.specs.Spot.{HasSpelled, IsFirstSpelled}
use Rattle.fc_text.proofs.TokenLemmas.{none_then}
use Rattle.fc_text.proofs.spots.first_in_line.Goals as goal

pub returns-in_err-piece-clause-none : goal.returns-in_err-piece-clause-none
returns-in_err-piece-clause-none c = rw c.from_residual.ensures (λ has. has.0 c.in_err-piece.ensures.none)

pub returns-clause-first : goal.returns-clause-first
returns-clause-first c =
    IfSome_then c.first_spelled.result c.first_spelled.ensures.first
    (λ found first. (
      c.in_ok-piece.ensures.outside,
      subst (λ tokens. IsFirstSpelled c.args.card tokens found.0 found.1.now) (sym c.in_ok-piece.ensures.piece) first,
    ))

pub returns-clause-none : goal.returns-clause-none
returns-clause-none c =
    none_then c.first_spelled.result c.first_spelled.ensures.none
    (λ none has. none (subst (HasSpelled c.args.card) c.in_ok-piece.ensures.piece has.1))
