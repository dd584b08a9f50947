use Rattle.std.proofs.Common.{ℕ, [], ◌∷◌, sym, ap, arith}
use Rattle.fc_cards.specs.declared.places.Place.TheVariants.{Column}
use Rattle.fc_lists.proofs.words.place_of.Goals as goal

pub returns-in-None-clause-refused : goal.returns-in-None-clause-refused
returns-in-None-clause-refused c = λ place there same.
    c.in-None.ensures.refused record { from = Column 0; to = place } record { from = omega arith; to = there } (ap (λ (x : ℕ). 49 ∷ x ∷ []) (sym same))
