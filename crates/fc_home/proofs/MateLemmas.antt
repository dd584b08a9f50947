-- Boards of one class settle alike.
use Rattle.std.proofs.Common.{◌≡◌, ℕ, Some, None, List, [], ◌∷◌, length, refl, sym, ◌∙◌, ap, subst, arith}
use Rattle.fc_cards.specs.declared.places.Place.{Place}
use Rattle.fc_cards.specs.declared.places.Place.TheVariants.{Column, Cell, Home}
use Rattle.fc_position.specs.Board.{Board, playable, last_of, board_without}
use Rattle.fc_position.proofs.BoardLemmas.{column_there, cell_there}
use Rattle.fc_moves.specs.declared.steps.Move.{Move}
use Rattle.fc_moves.specs.GameRules.{GameRules}
use Rattle.fc_moves.specs.Class.{SameClass}
use Rattle.fc_moves.proofs.ClassLemmas.{Alike, class-sym, class-lifted, class-placed}
use Rattle.fc_moves.proofs.Rearrange.{renaming}
use Rattle.fc_home.specs.HomeRule.{GoesHome}
use Rattle.fc_home.specs.Laws.{ClassMatesSettleAlike}
use Rattle.fc_home.specs.Settles.{IsFirstHome, NoneGoesHome, SettlesBy, sent_home}

-- a card that is playable in a board is playable in its class-mate, at a place that holds the same
playable_mate : (b c : Board) (from : Place) (u : ℕ) → SameClass b c → playable b from ≡ Some u
    → (to : Place) × (playable c to ≡ Some u) × Alike b c from to
playable_mate b c (Column i) u s there =
    let r = renaming b.columns c.columns s.columns in
    let inside = column_there b i u there in
    (Column (r.to i), ap last_of (r.reads i []) ∙ there, (inside, omega (arith, r.long, r.below i inside), sym (r.reads i [])))
playable_mate b c (Cell i) u s there =
    let r = renaming b.cells c.cells s.cells in
    let inside = cell_there b i u there in
    (Cell (r.to i), r.reads i None ∙ there, (inside, omega (arith, r.long, r.below i inside), sym (r.reads i None)))
playable_mate b c Home u s there = absurd (cc there)

-- the first card that goes home is the same
first_mate : (rule : ℕ) (g : GameRules) (b c : Board) (from : Place) (u : ℕ) → SameClass b c → IsFirstHome rule g b from u
    → (to : Place) × IsFirstHome rule g c to u × Alike b c from to
first_mate rule g b c from u s first =
    let mate = playable_mate b c from u s first.there in (
      mate.0,
      record {
        there = mate.1;
        goes = subst (λ h. GoesHome rule g h u) s.homes first.goes;
        least = λ other d there goes.
            let back = playable_mate c b other d (class-sym b c s) there in
            first.least back.0 d back.1 (subst (λ h. GoesHome rule g h d) (sym s.homes) goes);
      },
      mate.2,
    )

none_mate : (rule : ℕ) (g : GameRules) (b c : Board) → SameClass b c → NoneGoesHome rule g b → NoneGoesHome rule g c
none_mate rule g b c s none from d there goes =
    let back = playable_mate c b from d (class-sym b c s) there in
    none back.0 d back.1 (subst (λ h. GoesHome rule g h d) (sym s.homes) goes)

-- sending it home keeps the class
class-sent : (b c : Board) (from to : Place) (u : ℕ) → SameClass b c → Alike b c from to → SameClass (sent_home b from u) (sent_home c to u)
class-sent b c from to u s a = class-placed (board_without b from) (board_without c to) u Home Home (class-lifted b c from to s a) tt

-- so they settle by as many moves, to boards of one class
settles_mate : (g : GameRules) (rule : ℕ) (b c q : Board) (ms : List Move) → SameClass b c → SettlesBy g rule b ms q
    → (ns : List Move) × (y : Board) × (length ns ≡ length ms) × SettlesBy g rule c ns y × SameClass q y
settles_mate g rule b c q [] s (same, none) =
    ([], c, refl, (refl, none_mate rule g b c s none), subst (λ x. SameClass x c) (sym same) s)
settles_mate g rule b c q (m ∷ ms) s (u, first, home, rest) =
    let mate = first_mate rule g b c m.from u s first in
    let n : Move = record { from = mate.0; to = Home } in
    let later = settles_mate g rule (sent_home b m.from u) (sent_home c mate.0 u) q ms (class-sent b c m.from mate.0 u s mate.2) rest in
    let long : length (n ∷ later.0) ≡ length (m ∷ ms) = omega (arith, later.2) in
    (n ∷ later.0, later.1, long, (u, mate.1, refl, later.3), later.4)

pub class_settle : ClassMatesSettleAlike
class_settle g rule b c x count s (ms, long, settles) =
    let mate = settles_mate g rule b c x ms s settles in (mate.1, (mate.0, mate.2 ∙ long, mate.3), mate.4)
