use Rattle.std.proofs.Common.{◌≡◌, ℕ, ◌<◌, List, [], ◌∷◌, get_or, length, eqb, true, arith, ap, ◌∙◌, refl}
use Rattle.std.proofs.lemmas.Bool.{agree_below, agree_below_at}
use Rattle.std.proofs.lemmas.Bool.Decides.{nat_tests}
use Rattle.fc_codes.specs.Words.{numbers_of, read_state}
use Rattle.fc_codes.specs.inner.Packing.{unpacked-at, length-unpacked}
use Rattle.fc_codes.proofs.codes.Code.all_home.Goals as goal

abbrev ones : List ℕ
ones = 1317624576693539401 ∷ 1317624576693539401 ∷ 153391689 ∷ []

each_is : agree_below (λ c. eqb (read_state ones c) 1) (λ c. true) 52 ≡ true → (c : ℕ) → c < 52 → read_state ones c ≡ 1
each_is all c below =
    let same = agree_below_at (λ c. eqb (read_state ones c) 1) (λ c. true) 52 c all below in grind (arith, nat_tests)

ones_state : (c : ℕ) → c < 52 → get_or (numbers_of ones) c 0 ≡ 1
ones_state c below = unpacked-at ones c below ∙ each_is refl c below

pub returns : goal.returns
returns c = record {
  value = λ k below. ap (λ l. get_or l k 0) c.of.ensures.value ∙ ones_state k below;
  count = ap length c.of.ensures.value ∙ length-unpacked _;
}
