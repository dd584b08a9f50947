-- The fields before the moves are read exactly where they stand.
use Rattle.std.proofs.Common.{◌≡◌, ℕ, ◌<◌, ◌≤◌, ◌^◌, List, [], ◌∷◌, ◌++◌, length, Ok, Err, refl, sym, ◌∙◌, ap, subst, append_assoc, arith}
use Rattle.fc_bound.specs.declared.kinds.BoundKind.{BoundKind}
use Rattle.fc_bound.specs.declared.kinds.BoundKind.TheVariants.{Plain}
use Rattle.fc_moves.specs.declared.steps.Move.{Move}
use Rattle.fc_cert.specs.declared.contents.Form.{Form}
use Rattle.fc_cert.specs.declared.contents.Form.TheVariants.{First, Second, Third}
use Rattle.fc_cert.specs.declared.contents.Head.{Head}
use Rattle.fc_cert.specs.declared.contents.Kind.{Kind}
use Rattle.fc_cert.specs.declared.contents.Kind.TheVariants.{Shortest, CannotWin, Between}
use Rattle.fc_cert.specs.Content.{magic, game_bytes, bound_bytes, kind_byte, floor_bytes, four_bytes, head_bytes, MayName, MayBind, MayClaim, MayFloor, MayList}
use Rattle.fc_cert.specs.Reading.{MayRule, ReadsNamed, ReadsGame, ReadsBound, ReadsFloor, ReadsClaim, ReadsHead}
use Rattle.fc_cert.proofs.SpelledLemmas.{pair_is}

-- what a form names beside the home rule
abbrev NamesGame : Form → ℕ × ℕ → Type 0
NamesGame First named = (named.0 ≡ 0) × (named.1 ≡ 4)
NamesGame Second named = (named.0 < 256) × (named.1 ≤ 4)
NamesGame Third named = (named.0 < 256) × (named.1 ≤ 4)

names_all : (form : Form) (named : ℕ × ℕ) (rule : ℕ) → NamesGame form named → MayRule form rule
    → MayName form named.0 named.1 rule
names_all First named rule game may = (game.0, game.1, may)
names_all Second named rule game may = (game.0, game.1, may)
names_all Third named rule game may = (game.0, game.1, may)

names_game : (form : Form) (game cells rule : ℕ) → MayName form game cells rule → NamesGame form (game, cells)
names_game First game cells rule may = (may.0, may.1)
names_game Second game cells rule may = (may.0, may.1)
names_game Third game cells rule may = (may.0, may.1)

names_rule : (form : Form) (game cells rule : ℕ) → MayName form game cells rule → MayRule form rule
names_rule First game cells rule may = may.2
names_rule Second game cells rule may = may.2
names_rule Third game cells rule may = may.2

-- a floor that is read: 0 where the kind has none, else a number of four bytes
abbrev pub IsFloor : Kind → ℕ → Type 0
IsFloor Shortest floor = floor ≡ 0
IsFloor CannotWin floor = floor ≡ 0
IsFloor Between floor = floor < 2 ^ 32

pub floor_small : (kind : Kind) (floor : ℕ) (moves : List Move) → MayList kind moves → MayFloor kind floor moves → IsFloor kind floor
floor_small Shortest floor moves list may = may
floor_small CannotWin floor moves list may = may
floor_small Between floor moves list may = omega (arith, list.0, may)

-- the fields of a head that is read
pub record IsHead (h : Head) : Type 0 where
  pub names : MayName h.form h.game h.cells h.rule
  pub bound : MayBind h.form h.bound
  pub kind : MayClaim h.form h.kind
  pub floor : IsFloor h.kind h.floor

-- the fields one after the other, and what follows them
head_parts : (h : Head) (rest : List ℕ) → head_bytes h ++ rest
    ≡ magic h.form ++ (game_bytes h.form h.game h.cells
    ++ h.rule ∷ (bound_bytes h.form h.bound ++ kind_byte h.kind ∷ (floor_bytes h.kind h.floor ++ rest)))
head_parts h rest =
    let code : List ℕ = game_bytes h.form h.game h.cells in
    let low : List ℕ = bound_bytes h.form h.bound in
    let last : List ℕ = kind_byte h.kind ∷ floor_bytes h.kind h.floor in
    append_assoc (magic h.form ++ code) (h.rule ∷ (low ++ last)) rest
    ∙ append_assoc (magic h.form) code (h.rule ∷ ((low ++ last) ++ rest))
    ∙ ap (λ l. magic h.form ++ (code ++ h.rule ∷ l)) (append_assoc low last rest)

-- ---- what is read is spelled so

named_spelled : (bytes rest : List ℕ) (named : ℕ × ℕ) → ReadsNamed bytes (Ok (named, rest))
    → (bytes ≡ named.0 ∷ named.1 ∷ rest) × (named.0 < 256) × (named.1 ≤ 4)
named_spelled bytes rest named (Ok (code, r), (here, l, e, says), (Ok (n, s), (there, k, f, tells), same)) =
    subst (λ (p : (ℕ × ℕ) × List ℕ). (bytes ≡ p.0.0 ∷ p.0.1 ∷ p.1) × (p.0.0 < 256) × (p.0.1 ≤ 4))
    (sym (pair_is (named, rest) ((code, n), s) same)) (
      e ∙ ap (λ h. h ++ r) says.0 ∙ ap (λ h. code ∷ h) (f ∙ ap (λ h. h ++ s) tells.0),
      says.1,
      tells.1,
    )
named_spelled bytes rest named (Ok (code, r), first, (Err f, second, same)) = absurd cc
named_spelled bytes rest named (Err f, first, same) = absurd cc

game_spelled : (form : Form) (bytes rest : List ℕ) (named : ℕ × ℕ) → ReadsGame form bytes (Ok (named, rest))
    → (bytes ≡ game_bytes form named.0 named.1 ++ rest) × NamesGame form named
game_spelled First bytes rest named same =
    subst (λ (p : (ℕ × ℕ) × List ℕ). (bytes ≡ p.1) × NamesGame First p.0) (sym (pair_is (named, rest) ((0, 4), bytes) same))
    (refl, (refl, refl))
game_spelled Second bytes rest named read = let s = named_spelled bytes rest named read in (s.0, (s.1, s.2))
game_spelled Third bytes rest named read = let s = named_spelled bytes rest named read in (s.0, (s.1, s.2))

bound_spelled : (form : Form) (bytes rest : List ℕ) (bound : BoundKind) → ReadsBound form bytes (Ok (bound, rest))
    → (bytes ≡ bound_bytes form bound ++ rest) × MayBind form bound
bound_spelled First bytes rest bound same =
    subst (λ (p : BoundKind × List ℕ). (bytes ≡ p.1) × MayBind First p.0) (sym (pair_is (bound, rest) (Plain, bytes) same)) (refl, refl)
bound_spelled Second bytes rest bound same =
    subst (λ (p : BoundKind × List ℕ). (bytes ≡ p.1) × MayBind Second p.0) (sym (pair_is (bound, rest) (Plain, bytes) same)) (refl, refl)
bound_spelled Third bytes rest bound (here, l, e, says) = (e ∙ ap (λ h. h ++ rest) says, tt)

floor_spelled : (kind : Kind) (bytes rest : List ℕ) (floor : ℕ) → ReadsFloor kind bytes (Ok (floor, rest))
    → (bytes ≡ floor_bytes kind floor ++ rest) × IsFloor kind floor
floor_spelled Shortest bytes rest floor same =
    subst (λ (p : ℕ × List ℕ). (bytes ≡ p.1) × IsFloor Shortest p.0) (sym (pair_is (floor, rest) (0, bytes) same)) (refl, refl)
floor_spelled CannotWin bytes rest floor same =
    subst (λ (p : ℕ × List ℕ). (bytes ≡ p.1) × IsFloor CannotWin p.0) (sym (pair_is (floor, rest) (0, bytes) same)) (refl, refl)
floor_spelled Between bytes rest floor (here, l, e, says) = (e ∙ ap (λ h. h ++ rest) says.0, says.1)

claim_spelled : (form : Form) (bytes rest : List ℕ) (claimed : Kind × ℕ) → ReadsClaim form bytes (Ok (claimed, rest))
    → (bytes ≡ kind_byte claimed.0 ∷ (floor_bytes claimed.0 claimed.1 ++ rest)) × MayClaim form claimed.0 × IsFloor claimed.0 claimed.1
claim_spelled form bytes rest claimed (Ok (kind, r), (here, l, e, says), (Ok (floor, s), read, same)) =
    let f = floor_spelled kind r s floor read in
    subst (λ (p : (Kind × ℕ) × List ℕ). (bytes ≡ kind_byte p.0.0 ∷ (floor_bytes p.0.0 p.0.1 ++ p.1))
    × MayClaim form p.0.0 × IsFloor p.0.0 p.0.1)
    (sym (pair_is (claimed, rest) ((kind, floor), s) same))
    (e ∙ ap (λ h. h ++ r) says.0 ∙ ap (λ h. kind_byte kind ∷ h) f.0, says.1, f.1)
claim_spelled form bytes rest claimed (Ok (kind, r), first, (Err f, second, same)) = absurd cc
claim_spelled form bytes rest claimed (Err f, first, same) = absurd cc

pub head_spelled : (bytes rest : List ℕ) (h : Head) → ReadsHead bytes (Ok (h, rest)) → (bytes ≡ head_bytes h ++ rest) × IsHead h
head_spelled bytes rest h (
  Ok (form, r1),
  (h1, l1, e1, says),
  (
    Ok (named, r2),
    game,
    (Ok (rule, r3), (h3, l3, e3, rules), (Ok (bound, r4), low, (Ok (claimed, r5), last, same))),
  ),
) =
    let g = game_spelled form r1 r2 named game in
    let b = bound_spelled form r3 r4 bound low in
    let k = claim_spelled form r4 r5 claimed last in
    let told : Head = record {
      form = form;
      game = named.0;
      cells = named.1;
      rule = rule;
      bound = bound;
      kind = claimed.0;
      floor = claimed.1;
    } in
    let code : List ℕ = game_bytes form named.0 named.1 in
    let ruled : r2 ≡ rule ∷ r3 = e3 ∙ ap (λ l. l ++ r3) rules.0 in
    let behind : r3 ≡ bound_bytes form bound ++ kind_byte claimed.0 ∷ (floor_bytes claimed.0 claimed.1 ++ r5) =
    b.0 ∙ ap (λ l. bound_bytes form bound ++ l) k.0 in
    subst (λ (p : Head × List ℕ). (bytes ≡ head_bytes p.0 ++ p.1) × IsHead p.0) (sym (pair_is (h, rest) (told, r5) same)) (
      e1 ∙ ap (λ l. l ++ r1) says ∙ ap (λ l. magic form ++ l) (g.0 ∙ ap (λ l. code ++ l) (ruled ∙ ap (λ l. rule ∷ l) behind))
          ∙ sym (head_parts told r5),
      record { names = names_all form named rule g.1 rules.1; bound = b.1; kind = k.1; floor = k.2 },
    )
head_spelled bytes rest h (Ok (form, r1), f1, (Ok (named, r2), f2, (Ok (rule, r3), f3, (Ok (bound, r4), f4, (Err f, f5, same))))) =
    absurd cc
head_spelled bytes rest h (Ok (form, r1), f1, (Ok (named, r2), f2, (Ok (rule, r3), f3, (Err f, f4, same)))) = absurd cc
head_spelled bytes rest h (Ok (form, r1), f1, (Ok (named, r2), f2, (Err f, f3, same))) = absurd cc
head_spelled bytes rest h (Ok (form, r1), f1, (Err f, f2, same)) = absurd cc
head_spelled bytes rest h (Err f, f1, same) = absurd cc

-- ---- what is spelled so is read

named_read : (game cells : ℕ) (rest : List ℕ) → game < 256 → cells ≤ 4
    → ReadsNamed (game ∷ cells ∷ rest) (Ok ((game, cells), rest))
named_read game cells rest small few = (
  Ok (game, cells ∷ rest),
  (game ∷ [], refl, refl, (refl, small)),
  (Ok (cells, rest), (cells ∷ [], refl, refl, (refl, few)), refl),
)

game_read : (form : Form) (named : ℕ × ℕ) (rest : List ℕ) → NamesGame form named
    → ReadsGame form (game_bytes form named.0 named.1 ++ rest) (Ok (named, rest))
game_read First named rest names =
    ap (λ n. Ok ((n, named.1), rest)) names.0 ∙ ap (λ n. Ok ((0, n), rest)) names.1
game_read Second named rest names = named_read named.0 named.1 rest names.0 names.1
game_read Third named rest names = named_read named.0 named.1 rest names.0 names.1

bound_read : (form : Form) (bound : BoundKind) (rest : List ℕ) → MayBind form bound
    → ReadsBound form (bound_bytes form bound ++ rest) (Ok (bound, rest))
bound_read First bound rest plain = ap (λ b. Ok (b, rest)) plain
bound_read Second bound rest plain = ap (λ b. Ok (b, rest)) plain
bound_read Third bound rest may = (bound_bytes Third bound, refl, refl, refl)

floor_read : (kind : Kind) (floor : ℕ) (rest : List ℕ) → IsFloor kind floor
    → ReadsFloor kind (floor_bytes kind floor ++ rest) (Ok (floor, rest))
floor_read Shortest floor rest none = ap (λ n. Ok (n, rest)) none
floor_read CannotWin floor rest none = ap (λ n. Ok (n, rest)) none
floor_read Between floor rest small = (four_bytes floor, refl, refl, (refl, small))

pub head_read : (h : Head) (rest : List ℕ) → IsHead h → ReadsHead (head_bytes h ++ rest) (Ok (h, rest))
head_read h rest is =
    let last : List ℕ = floor_bytes h.kind h.floor ++ rest in
    let claimed : List ℕ = kind_byte h.kind ∷ last in
    let low : List ℕ = bound_bytes h.form h.bound ++ claimed in
    let code : List ℕ = game_bytes h.form h.game h.cells ++ h.rule ∷ low in (
      Ok (h.form, code),
      (magic h.form, four h.form, head_parts h rest, refl),
      (
        Ok ((h.game, h.cells), h.rule ∷ low),
        game_read h.form (h.game, h.cells) (h.rule ∷ low) (names_game h.form h.game h.cells h.rule is.names),
        (
          Ok (h.rule, low),
          (h.rule ∷ [], refl, refl, (refl, names_rule h.form h.game h.cells h.rule is.names)),
          (
            Ok (h.bound, claimed),
            bound_read h.form h.bound claimed is.bound,
            (
              Ok ((h.kind, h.floor), rest),
              (
                Ok (h.kind, last),
                (kind_byte h.kind ∷ [], refl, refl, (refl, is.kind)),
                (Ok (h.floor, rest), floor_read h.kind h.floor rest is.floor, refl),
              ),
              refl,
            ),
          ),
        ),
      ),
    )
  where
    four : (form : Form) → length (magic form) ≡ 4
    four First = refl
    four Second = refl
    four Third = refl
