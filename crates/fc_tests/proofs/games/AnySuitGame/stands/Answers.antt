use Rattle.std.proofs.Common.{true, refl, arith}
use Rattle.std.proofs.lemmas.Bool.Decides.{nat_tests}
use Rattle.fc_moves.proofs.GameLemmas.{stands-where}
use Rattle.fc_tests.proofs.games.AnySuitGame.stands.Goals as goal

pub returns : goal.returns
returns c =
    let both = stands-where (λ _ _. true) c.args.upper c.args.lower in
    record {
      value = (
        λ yes. both.1 (omega (arith, c.rank.ensures.within.greatest), omega (arith, c.rank-2.ensures.within.greatest), grind (arith, nat_tests), refl),
        λ found. let p = both.0 found in grind (arith, nat_tests),
      );
    }
