-- After a move to a column or a cell from a settled position, only the card that lay below the one that moved can go home.
use Rattle.std.proofs.Common.{◌≡◌, ◌≢◌, ℕ, zero, suc, Bool, true, false, ◌⊎◌, Some, None, List, [], ◌∷◌, ◌++◌, refl, sym, ◌∙◌, ap, subst, inl, inr, ⊎_elim, arith}
use Rattle.std.specs.Prelude.{not, IsTrue}
use Rattle.std.proofs.lemmas.Bool.{cases_eq}
use Rattle.std.proofs.lemmas.List.{get_or-set_other}
use Rattle.fc_cards.specs.declared.places.Place.{Place}
use Rattle.fc_cards.specs.declared.places.Place.TheVariants.{Column, Cell, Home}
use Rattle.fc_position.specs.Board.{Board, column, playable, board_without, board_with, last_of, front_of, IsNext}
use Rattle.fc_position.proofs.BoardLemmas.{homes-lifted}
use Rattle.fc_moves.specs.declared.steps.Move.{Move}
use Rattle.fc_moves.specs.GameRules.{GameRules}
use Rattle.fc_moves.specs.Step.{Step, Joins}
use Rattle.fc_home.specs.HomeRule.{GoesHome}
use Rattle.fc_home.proofs.RuleLemmas.{free_next}
use Rattle.fc_home.specs.Settles.{NoneGoesHome, Settles}
use Rattle.fc_space.specs.inner.Children.{OthersStay}
use Rattle.fc_moves.proofs.BackLemmas.{taken_back}

-- what is not so is so no more
pub flips : (t : Bool) → not t ≡ true → t ≡ false
flips true told = absurd (cc told)
flips false told = refl

-- two places are one or two
places : (p q : Place) → (p ≡ q) ⊎ (p ≢ q)
places (Column i) (Column j) = ⊎_elim (λ e. inl (ap (λ (n : ℕ). Column n) e)) (λ ne. inr (λ e. ne (cc e))) (cases_eq i j)
places (Column i) (Cell j) = inr (λ e. cc e)
places (Column i) Home = inr (λ e. cc e)
places (Cell i) (Column j) = inr (λ e. cc e)
places (Cell i) (Cell j) = ⊎_elim (λ e. inl (ap (λ (n : ℕ). Cell n) e)) (λ ne. inr (λ e. ne (cc e))) (cases_eq i j)
places (Cell i) Home = inr (λ e. cc e)
places Home (Column j) = inr (λ e. cc e)
places Home (Cell j) = inr (λ e. cc e)
places Home Home = inl refl

-- a lift and a put leave the playable cards of the other places
playable-lifted : (b : Board) (from p : Place) → p ≢ from → playable (board_without b from) p ≡ playable b p
playable-lifted b (Column i) (Column j) ne = ap last_of (get_or-set_other b.columns i j (front_of (column b i)) [] (λ e. ne (ap (λ (n : ℕ). Column n) e)))
playable-lifted b (Column i) (Cell j) ne = refl
playable-lifted b (Column i) Home ne = refl
playable-lifted b (Cell i) (Column j) ne = refl
playable-lifted b (Cell i) (Cell j) ne = get_or-set_other b.cells i j None None (λ e. ne (ap (λ (n : ℕ). Cell n) e))
playable-lifted b (Cell i) Home ne = refl
playable-lifted b Home p ne = refl

playable-placed : (b : Board) (u : ℕ) (to p : Place) → p ≢ to → playable (board_with b u to) p ≡ playable b p
playable-placed b u (Column i) (Column j) ne = ap last_of (get_or-set_other b.columns i j (column b i ++ u ∷ []) [] (λ e. ne (ap (λ (n : ℕ). Column n) e)))
playable-placed b u (Column i) (Cell j) ne = refl
playable-placed b u (Column i) Home ne = refl
playable-placed b u (Cell i) (Column j) ne = refl
playable-placed b u (Cell i) (Cell j) ne = get_or-set_other b.cells i j (Some u) None (λ e. ne (ap (λ (n : ℕ). Cell n) e))
playable-placed b u (Cell i) Home ne = refl
playable-placed b u Home (Column j) ne = refl
playable-placed b u Home (Cell j) ne = refl
playable-placed b u Home Home ne = refl

-- a move to a column or a cell leaves the counts
homes_kept : (b : Board) (from : Place) (u : ℕ) (to : Place) → to ≢ Home → (board_with (board_without b from) u to).homes ≡ b.homes
homes_kept b from u (Column j) ne = homes-lifted b from
homes_kept b from u (Cell j) ne = homes-lifted b from
homes_kept b from u Home ne = absurd (ne refl)

pub others_stay : (rule : ℕ) (g : GameRules) (b c : Board) (m : Move) (step : Step g b m c) → m.to ≢ Home → NoneGoesHome rule g b
    → OthersStay rule g c m.from
others_stay rule g b c m step not_home none other d apart there goes =
    let u = step.card in
    let counts : c.homes ≡ b.homes = ap (λ (x : Board). x.homes) step.after ∙ homes_kept b m.from u m.to not_home in
    let before : GoesHome rule g b.homes d = subst (λ h. GoesHome rule g h d) counts goes in
    ⊎_elim
    (λ e. let same : d ≡ u = let x = sym there ∙ ap (playable c) e ∙ (taken_back g b c m step not_home).there in cc in
    none m.from u step.playable (subst (GoesHome rule g b.homes) same before))
    (λ ne. none other d
    (sym (playable-lifted b m.from other apart) ∙ sym (playable-placed (board_without b m.from) u m.to other ne)
    ∙ sym (ap (λ x. playable x other) step.after) ∙ there) before)
    (places other m.to)

-- a move leads to another place
apart : (from to : Place) → Joins from to → from ≢ to
apart (Column i) (Column j) joins = λ e. joins (sym (cc e))
apart (Column i) (Cell j) joins = λ e. cc e
apart (Column i) Home joins = λ e. cc e
apart (Cell i) (Column j) joins = λ e. cc e
apart (Cell i) (Cell j) joins = absurd joins
apart (Cell i) Home joins = λ e. cc e
apart Home to joins = absurd joins

-- a card that goes home by a rule is next
goes_next : (rule : ℕ) (g : GameRules) (homes : List ℕ) (c : ℕ) → GoesHome rule g homes c → IsNext homes c
goes_next zero g homes c goes = absurd goes
goes_next (suc zero) g homes c goes = goes.0
goes_next (suc (suc more)) g homes c goes = free_next g homes c goes

-- where the card beneath the one that moves isn't next, it doesn't go home after the move
pub beneath_stays : (rule : ℕ) (g : GameRules) (b c : Board) (m : Move) (t : Bool) (step : Step g b m c) → m.to ≢ Home
    → ((d : ℕ) → playable (board_without b m.from) m.from ≡ Some d → IsNext b.homes d → IsTrue t) → t ≡ false
    → (d : ℕ) × (playable c m.from ≡ Some d) × GoesHome rule g c.homes d → ⊥
beneath_stays rule g b c m t step not_home next fails (d, there, goes) =
    let u = step.card in
    let counts : c.homes ≡ b.homes = ap (λ (x : Board). x.homes) step.after ∙ homes_kept b m.from u m.to not_home in
    let before : GoesHome rule g b.homes d = subst (λ h. GoesHome rule g h d) counts goes in
    let beneath : playable (board_without b m.from) m.from ≡ Some d =
    sym (playable-placed (board_without b m.from) u m.to m.from (apart m.from m.to step.joins))
    ∙ sym (ap (λ x. playable x m.from) step.after) ∙ there in
    cc (sym fails ∙ next d beneath (goes_next rule g b.homes d before))

-- where the card of that place stays too, the position is settled
pub settled_here : (rule : ℕ) (g : GameRules) (b : Board) (from : Place) → OthersStay rule g b from
    → ((c : ℕ) × (playable b from ≡ Some c) × GoesHome rule g b.homes c → ⊥) → Settles g rule b 0 b
settled_here rule g b from others here = (
  [],
  refl,
  (
    refl,
    λ other c there goes.
        ⊎_elim (λ e. here (c, sym (ap (playable b) e) ∙ there, goes)) (λ ne. others other c ne there goes) (places other from),
  ),
)

-- in a position that settles by no move no card goes home
pub none_goes : (rule : ℕ) (g : GameRules) (b : Board) → Settles g rule b 0 b → NoneGoesHome rule g b
none_goes rule g b ([], e, settles) = settles.1
none_goes rule g b (m ∷ ms, e, settles) = absurd (omega (arith, e))
