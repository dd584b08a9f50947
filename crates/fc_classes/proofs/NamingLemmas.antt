-- Keys and codes name classes, and what settles keeps a name.
use Rattle.std.proofs.Common.{◌≡◌, ℕ, List, [], ◌∷◌, sym, subst}
use Rattle.fc_position.specs.Board.{Board}
use Rattle.fc_position.specs.Position.{IsPosition}
use Rattle.fc_moves.specs.declared.steps.Move.{Move}
use Rattle.fc_moves.specs.GameRules.{GameRules, IsGame, IsPositionOf}
use Rattle.fc_moves.specs.Step.{Step}
use Rattle.fc_moves.specs.Run.{Run}
use Rattle.fc_moves.proofs.StepLemmas.{step_keeps}
use Rattle.fc_moves.specs.Class.{SameClass}
use Rattle.fc_moves.proofs.ClassLemmas.{class-refl, class-sym, class-trans}
use Rattle.fc_canonical.specs.Key.{IsKeyOf}
use Rattle.fc_canonical.specs.Spelled.{board_of_bytes}
use Rattle.fc_canonical.proofs.KeyLemmas.{keys_tell, canonical_once}
use Rattle.fc_canonical.proofs.SortLemmas.{has_key}
use Rattle.fc_canonical.proofs.SpelledLemmas.{key_spells}
use Rattle.fc_home.specs.Settles.{Settles}
use Rattle.fc_home.proofs.SettleLemmas.{settles_run}
use Rattle.fc_codes.specs.Moved.{Moves}
use Rattle.fc_codes.specs.Spelled.{board_of_code}
use Rattle.fc_codes.specs.State.{IsCodeOf}
use Rattle.fc_codes.proofs.ClassLemmas.{class_code}
use Rattle.fc_codes.proofs.LandedLemmas.{moves_change}
use Rattle.fc_codes.proofs.LawLemmas.{is_spelled, codes_spell_game, codes_tell, starts}
use Rattle.fc_classes.specs.Namings.{Naming, IsNaming, IsCodeIn}
use Rattle.fc_classes.specs.Laws.{KeysAreNames, CodesAreNames, KeysSpellWhatCodesDo}

key_alike : (b c : Board) (x : List ℕ) → IsPosition b → SameClass b c → IsKeyOf b x → IsKeyOf c x
key_alike b c x p same k = record {
  canonical = k.canonical;
  class = class-trans c b k.canonical (class-sym b c same) k.class;
  ordered = k.ordered;
  bytes = k.bytes;
}

pub keys_name : KeysAreNames
keys_name g p pp = record {
  spells = λ b x pb k. key_spells g b x pb k;
  valid = λ x k. record {
    position = k.position;
    ordered = k.ordered;
    own = record { canonical = board_of_bytes x; class = class-refl (board_of_bytes x); ordered = k.ordered; bytes = k.bytes };
  };
  alike = key_alike;
  tells = keys_tell;
  start = has_key p;
  steps = λ b c m x pb k step. has_key c;
}

-- the code of a position of the game spells one, and is its code
code_spells : (s : Board) (g : GameRules) (b : Board) (x : List ℕ) → IsPosition s → IsPositionOf g b → IsCodeOf s b x
    → IsCodeIn s g x × SameClass b (board_of_code s x)
code_spells s g b x ps pb k =
    let is = is_spelled s b x ps pb.position k in
    (record { position = codes_spell_game g s b x ps pb k; coded = is.coded }, is.class)

-- what a step leads to has a code
code_step : (s : Board) (g : GameRules) (b c : Board) (m : Move) (x : List ℕ) → IsGame g → IsPosition s → IsPositionOf g b
    → IsCodeOf s b x → Step g b m c → (y : List ℕ) × IsCodeOf s c y
code_step s g b c m x game ps pb k step =
    let moves : Moves s x step.card b m c = record {
      position = pb.position;
      coded = k;
      playable = step.playable;
      game = g;
      sound = game;
      step = step;
    } in
    let one = moves_change s b c m x step.card ps moves in
    (_, one.2)

pub codes_name : CodesAreNames
codes_name g p game pp = record {
  spells = λ b x pb k. code_spells p g b x pp.position pb k;
  valid = λ x k. record {
    position = k.position;
    ordered = (is_spelled p (board_of_code p x) x pp.position k.position.position k.coded).ordered;
    own = k.coded;
  };
  alike = λ b c x pb same k. class_code p b c x same k;
  tells = λ b c x y pb pc k l. codes_tell p b c x y pp.position pb pc k l;
  start = starts p pp.position;
  steps = λ b c m x pb k step. code_step p g b c m x game pp.position pb k step;
}

-- the key of what a code spells spells it too
pub keys_spell : KeysSpellWhatCodesDo
keys_spell g s code key ps valid k =
    let b = board_of_code s code in
    let is = key_spells g b key valid.position k in
    let ordered = (is_spelled s b code ps valid.position.position valid.coded).ordered in
    (is.0, sym (canonical_once b (board_of_bytes key) valid.position.position is.1 ordered is.0.ordered))

-- what a list of moves leads to has a name
named_run : (naming : Naming) (g : GameRules) (p b c : Board) (ms : List Move) → IsNaming naming g p → IsPositionOf g b
    → (x : List ℕ) × naming.names b x → Run g b ms c → (y : List ℕ) × naming.names c y
named_run naming g p b c [] good pb (x, k) same = (x, subst (λ d. naming.names d x) (sym same) k)
named_run naming g p b c (m ∷ ms) good pb (x, k) (mid, step, rest) =
    named_run naming g p mid c ms good (step_keeps g b mid m pb step) (good.steps b mid m x pb k step) rest

-- and so has what a position with a name settles to
pub named_settled : (naming : Naming) (g : GameRules) (rule : ℕ) (p b q : Board) (count : ℕ) → IsNaming naming g p
    → IsPositionOf g b → (x : List ℕ) × naming.names b x → Settles g rule b count q → (y : List ℕ) × naming.names q y
named_settled naming g rule p b q count good pb has (ms, long, by) =
    named_run naming g p b q ms good pb has (settles_run g rule b q ms by)

-- a position of a class has the name that spells the class
pub spelled_name : (naming : Naming) (g : GameRules) (p b : Board) (x : List ℕ) → IsNaming naming g p → naming.valid g x
    → SameClass (naming.spelled x) b → naming.names b x
spelled_name naming g p b x good valid same =
    let is = good.valid x valid in good.alike (naming.spelled x) b x is.position.position same is.own

-- two names of a position are the same
pub name_once : (naming : Naming) (g : GameRules) (p b : Board) (x y : List ℕ) → IsNaming naming g p → IsPosition b
    → naming.names b x → naming.names b y → x ≡ y
name_once naming g p b x y good pb k l = (good.tells b b x y pb pb k l).1 (class-refl b)
