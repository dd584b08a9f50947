-- What settling does: each turn sends one next card home.
use Rattle.std.proofs.Common.{◌≡◌, ℕ, zero, suc, ◌+◌, ◌<◌, ◌≤◌, Some, List, [], ◌∷◌, ◌++◌, length, refl, sym, ◌∙◌, ap, subst, arith}
use Rattle.std.specs.Prelude.{sum_by, slice_set, All}
use Rattle.std.proofs.lemmas.List.{append_assoc, append-nil, get_or_default}
use Rattle.std.proofs.lemmas.List.Sums.{sum_by-set, sum_by-le}
use Rattle.fc_cards.specs.Card.{rank, suit}
use Rattle.fc_cards.specs.declared.places.Place.{Place}
use Rattle.fc_cards.specs.declared.places.Place.TheVariants.{Column, Cell, Home}
use Rattle.fc_position.specs.Board.{Board, IsNext, playable}
use Rattle.fc_position.specs.Position.{IsPosition, Fits}
use Rattle.fc_position.proofs.BoardLemmas.{position-moved, home_most, homes-lifted}
use Rattle.fc_moves.specs.declared.steps.Move.{Move}
use Rattle.fc_moves.specs.GameRules.{GameRules}
use Rattle.fc_moves.specs.Step.{Step, Joins}
use Rattle.fc_moves.proofs.StepLemmas.{step_keeps, run_keeps}
use Rattle.fc_home.specs.HomeRule.{GoesHome}
use Rattle.fc_home.specs.Laws.{SettlingIsARun, SettlingKeepsPositions, SettledBoardsStay}
use Rattle.fc_home.specs.Settles.{IsFirstHome, NoneGoesHome, SettlesBy, sent_home}
use Rattle.fc_home.proofs.RuleLemmas.{free_next}

-- a card that goes home is next
pub goes_next : (rule : ℕ) (g : GameRules) (homes : List ℕ) (c : ℕ) → GoesHome rule g homes c → IsNext homes c
goes_next zero g homes c goes = absurd goes
goes_next (suc zero) g homes c goes = goes.0
goes_next (suc (suc more)) g homes c goes = free_next g homes c goes

-- how many cards are home
abbrev pub total : List ℕ → ℕ
total homes = sum_by (λ n. n) homes

-- a next card that goes home is one more
pub total-next : (homes : List ℕ) (c : ℕ) → length homes ≡ 4 → IsNext homes c → total (slice_set homes (suit c) (rank c)) ≡ total homes + 1
total-next homes c four next =
    let changed = sum_by-set (λ n. n) homes (suit c) (rank c) 0 (omega arith) in omega (arith, changed, next)

-- no more than 52 cards are home
pub total-most : (b : Board) → IsPosition b → total b.homes ≤ 52
total-most b p =
    let few : All (λ n. n ≤ 13) b.homes = λ k d below. omega (arith, home_most b p k, get_or_default b.homes k d 0 below) in
    omega (arith, sum_by-le (λ n. n) 13 b.homes few, p.homes)

-- sending a next card home is a step, and keeps positions
joins_home : (b : Board) (from : Place) (c : ℕ) → playable b from ≡ Some c → Joins from Home
joins_home b (Column i) c there = tt
joins_home b (Cell i) c there = tt
joins_home b Home c there = absurd (cc there)

pub home_step : (g : GameRules) (b : Board) (m : Move) (c : ℕ) → playable b m.from ≡ Some c → IsNext b.homes c → m.to ≡ Home
    → Step g b m (sent_home b m.from c)
home_step g b m c there next home =
    let move : Move = record { from = m.from; to = Home } in
    let step : Step g b move (sent_home b m.from c) =
    record { card = c; playable = there; joins = joins_home b m.from c there; takes = next; after = refl } in
    subst (λ to. let n : Move = record { from = m.from; to = to } in Step g b n (sent_home b m.from c)) (sym home) step

pub sent_position : (rule : ℕ) (g : GameRules) (b : Board) (from : Place) (c : ℕ) → IsPosition b → IsFirstHome rule g b from c
    → IsPosition (sent_home b from c)
sent_position rule g b from c p first = position-moved b from c Home p first.there (goes_next rule g b.homes c first.goes)

pub first_step : (rule : ℕ) (g : GameRules) (b : Board) (m : Move) (c : ℕ) → IsFirstHome rule g b m.from c → m.to ≡ Home
    → Step g b m (sent_home b m.from c)
first_step rule g b m c first home = home_step g b m c first.there (goes_next rule g b.homes c first.goes) home

pub sent_fits : (rule : ℕ) (g : GameRules) (b : Board) (m : Move) (c : ℕ) → IsPosition b → IsFirstHome rule g b m.from c
    → m.to ≡ Home → Fits g.cells b → Fits g.cells (sent_home b m.from c)
sent_fits rule g b m c p first home fits =
    (step_keeps g b (sent_home b m.from c) m (record { position = p; fits = fits }) (first_step rule g b m c first home)).fits

-- settling is a run
pub settles_run : SettlingIsARun
settles_run g rule b q [] (same, none) = same
settles_run g rule b q (m ∷ ms) (c, first, home, rest) =
    (sent_home b m.from c, first_step rule g b m c first home, settles_run g rule (sent_home b m.from c) q ms rest)

-- it keeps positions of the game, and leaves nothing to settle
pub settles_keep : SettlingKeepsPositions
settles_keep g rule b q count p (ms, long, settles) = run_keeps g b q ms p (settles_run g rule b q ms settles)

stays_settled : (g : GameRules) (rule : ℕ) (b q : Board) (ms : List Move) → SettlesBy g rule b ms q → SettlesBy g rule q [] q
stays_settled g rule b q [] (same, none) = (refl, subst (NoneGoesHome rule g) (sym same) none)
stays_settled g rule b q (m ∷ ms) (c, first, home, rest) = stays_settled g rule (sent_home b m.from c) q ms rest

pub settled_stays : SettledBoardsStay
settled_stays g rule b q count (ms, long, settles) = ([], refl, stays_settled g rule b q ms settles)

-- so far these moves were made, and whatever settles the board that they led to settles the first one after them
abbrev pub SettlesAfter : GameRules → ℕ → Board → List Move → Board → Type 0
SettlesAfter g rule b made now = (ms : List Move) (q : Board) → SettlesBy g rule now ms q → SettlesBy g rule b (made ++ ms) q

pub after_turn : (g : GameRules) (rule : ℕ) (b now next : Board) (made : List Move) (m : Move) (c : ℕ) → SettlesAfter g rule b made now
    → IsFirstHome rule g now m.from c → m.to ≡ Home → next ≡ sent_home now m.from c → SettlesAfter g rule b (made ++ m ∷ []) next
after_turn g rule b now next made m c before first home e ms q rest =
    subst (λ l. SettlesBy g rule b l q) (sym (append_assoc made (m ∷ []) ms))
    (before (m ∷ ms) q (c, first, home, subst (λ x. SettlesBy g rule x ms q) e rest))

pub after_all : (g : GameRules) (rule : ℕ) (b now : Board) (made : List Move) → SettlesAfter g rule b made now → NoneGoesHome rule g now
    → SettlesBy g rule b made now
after_all g rule b now made before none =
    subst (λ l. SettlesBy g rule b l now) (append-nil made) (before [] now (refl, none))

-- one turn: a card more is home, and the position still fits the game
pub turn_total : (rule : ℕ) (g : GameRules) (b next : Board) (from : Place) (c : ℕ) → IsPosition b → IsFirstHome rule g b from c
    → next ≡ sent_home b from c → (total next.homes ≡ total b.homes + 1) × (total b.homes < 52)
turn_total rule g b next from c p first e =
    let card = goes_next rule g b.homes c first.goes in
    let homes : next.homes ≡ slice_set b.homes (suit c) (rank c) =
    ap (λ x. x.homes) e ∙ ap (λ h. slice_set h (suit c) (rank c)) (homes-lifted b from) in
    let more : total next.homes ≡ total b.homes + 1 = ap total homes ∙ total-next b.homes c p.homes card in
    let position : IsPosition next = subst IsPosition (sym e) (sent_position rule g b from c p first) in
    let most : total next.homes ≤ 52 = total-most next position in
    (more, omega (arith, more, most))

pub turn_fits : (rule : ℕ) (g : GameRules) (b next : Board) (m : Move) (c : ℕ) → IsPosition b → IsFirstHome rule g b m.from c
    → m.to ≡ Home → next ≡ sent_home b m.from c → Fits g.cells b → Fits g.cells next
turn_fits rule g b next m c p first home e fits = subst (Fits g.cells) (sym e) (sent_fits rule g b m c p first home fits)
