-- How long what is written is.
use Rattle.std.proofs.Common.{◌≡◌, ℕ, suc, ◌+◌, ◌*◌, ◌≤◌, List, [], ◌∷◌, ◌++◌, length, refl, sym, ap, subst, arith, length-append}
use Rattle.std.specs.Prelude.{All, Option, Some, None, IfSome, MatchOption}
use Rattle.std.specs.List.{flat_map}
use Rattle.std.proofs.lemmas.List.Elements.{All-head, All-tail}
use Rattle.fc_position.specs.Board.{Board}
use Rattle.fc_moves.specs.declared.steps.Move.{Move}
use Rattle.fc_moves.specs.inner.GameLaws.{All-from_members}
use Rattle.fc_moves.specs.GameRules.{GameRules}
use Rattle.fc_moves.specs.MoveText.{move_text}
use Rattle.fc_moves.proofs.ClassLemmas.{class-refl}
use Rattle.fc_canonical.specs.Spelled.{board_of_bytes, IsKeyIn}
use Rattle.fc_canonical.proofs.KeyLemmas.{key_most}
use Rattle.fc_bound.specs.declared.kinds.BoundKind.{BoundKind}
use Rattle.fc_answers.specs.declared.answers.TheConstants.{MOST_MOVES}
use Rattle.fc_answers.specs.declared.answers.Verdict.{Verdict}
use Rattle.fc_answers.specs.declared.answers.Verdict.TheVariants as verdict
use Rattle.fc_answers.specs.Answer.{HasGivenUp, IsBackedBy}
use Rattle.fc_answers.specs.Table.{Listing, IsTable}
use Rattle.fc_answers.specs.Verdict.{HasFewMoves}
use Rattle.fc_cert.specs.declared.certificates.TheConstants.{LONGEST_CERTIFICATE}
use Rattle.fc_cert.specs.declared.contents.Form.{Form}
use Rattle.fc_cert.specs.declared.contents.Form.TheVariants.{First, Second, Third}
use Rattle.fc_cert.specs.declared.contents.Head.{Head}
use Rattle.fc_cert.specs.declared.contents.Kind.{Kind}
use Rattle.fc_cert.specs.declared.contents.Kind.TheVariants as kind
use Rattle.fc_answers.specs.declared.answers.Answer.{Answer}
use Rattle.fc_cert.specs.Claim.{IsWrittenAs, IsWrittenWith, written_head}
use Rattle.fc_cert.specs.Content.{Content, magic, game_bytes, bound_bytes, kind_byte, floor_bytes, four_bytes, head_bytes, listed_bytes, moves_bytes, record_bytes, rows_bytes, bytes_of}
use Rattle.fc_cert.specs.Laws.{WrittenCertificatesAreShort}
use Rattle.fc_cert.proofs.LayoutLemmas.{texts_long}

-- the fields before the moves
magic_long : (form : Form) → length (magic form) ≡ 4
magic_long First = refl
magic_long Second = refl
magic_long Third = refl

game_short : (form : Form) (game cells : ℕ) → length (game_bytes form game cells) ≤ 2
game_short First game cells = let none : length (game_bytes First game cells) ≡ 0 = refl in omega (arith, none)
game_short Second game cells = let two : length (game_bytes Second game cells) ≡ 2 = refl in omega (arith, two)
game_short Third game cells = let two : length (game_bytes Third game cells) ≡ 2 = refl in omega (arith, two)

bound_short : (form : Form) (bound : BoundKind) → length (bound_bytes form bound) ≤ 1
bound_short First bound = let none : length (bound_bytes First bound) ≡ 0 = refl in omega (arith, none)
bound_short Second bound = let none : length (bound_bytes Second bound) ≡ 0 = refl in omega (arith, none)
bound_short Third bound = let one : length (bound_bytes Third bound) ≡ 1 = refl in omega (arith, one)

floor_short : (claimed : Kind) (floor : ℕ) → length (floor_bytes claimed floor) ≤ 4
floor_short kind.Shortest floor = let none : length (floor_bytes kind.Shortest floor) ≡ 0 = refl in omega (arith, none)
floor_short kind.CannotWin floor = let none : length (floor_bytes kind.CannotWin floor) ≡ 0 = refl in omega (arith, none)
floor_short kind.Between floor = let four : length (floor_bytes kind.Between floor) ≡ 4 = refl in omega (arith, four)

head_short : (h : Head) → length (head_bytes h) ≤ 13
head_short h =
    let first = magic h.form ++ game_bytes h.form h.game h.cells in
    let last = kind_byte h.kind ∷ floor_bytes h.kind h.floor in
    let after = bound_bytes h.form h.bound ++ last in
    let whole : length (head_bytes h) ≡ length (first ++ h.rule ∷ after) = refl in
    let one : length last ≡ suc (length (floor_bytes h.kind h.floor)) = refl in
    let two : length (h.rule ∷ after) ≡ suc (length after) = refl in
    omega (
      arith,
      magic_long h.form,
      game_short h.form h.game h.cells,
      bound_short h.form h.bound,
      floor_short h.kind h.floor,
      one,
      two,
      whole,
      length-append (bound_bytes h.form h.bound) last,
      length-append first (h.rule ∷ after),
      length-append (magic h.form) (game_bytes h.form h.game h.cells),
    )

-- the moves
pub listed_long : (moves : List Move) → length (listed_bytes moves) ≡ 4 + length moves * 2
listed_long moves =
    let four : length (four_bytes (length moves)) ≡ 4 = refl in
    let whole : length (listed_bytes moves) ≡ length (four_bytes (length moves) ++ flat_map move_text moves) = refl in
    omega (arith, four, whole, texts_long moves, length-append (four_bytes (length moves)) (flat_map move_text moves))

-- the records
abbrev IsShortRow : List ℕ × ℕ → Type 0
IsShortRow row = length row.0 ≤ 68

records_short : (rows : List (List ℕ × ℕ)) → All IsShortRow rows → length (flat_map record_bytes rows) ≤ length rows * 72
records_short [] all = let none : length (flat_map record_bytes []) ≡ 0 = refl in omega (arith, none)
records_short (row ∷ rows) all =
    let four : length (four_bytes row.1) ≡ 4 = refl in
    let key : length row.0 ≤ 68 = All-head IsShortRow row rows all in
    let one : length (row ∷ rows) ≡ suc (length rows) = refl in
    let all_of : length (flat_map record_bytes (row ∷ rows)) ≡ length (record_bytes row ++ flat_map record_bytes rows) = refl in
    let piece : length (record_bytes row) ≡ length (four_bytes row.1 ++ row.0) = refl in
    omega (
      arith,
      four,
      key,
      one,
      all_of,
      piece,
      records_short rows (All-tail IsShortRow row rows all),
      length-append (four_bytes row.1) row.0,
      length-append (record_bytes row) (flat_map record_bytes rows),
    )

key_short : (g : GameRules) (key : List ℕ) → IsKeyIn g key → length key ≤ 68
key_short g key is =
    key_most (board_of_bytes key) key is.position.position
    (record { canonical = board_of_bytes key; class = class-refl (board_of_bytes key); ordered = is.ordered; bytes = is.bytes })

rows_short : (g : GameRules) (table : Listing) → IsTable g table → length (rows_bytes table.rows) ≤ 4 + length table.rows * 72
rows_short g table listed =
    let rows = table.rows in
    let four : length (four_bytes (length rows)) ≡ 4 = refl in
    let each = All-from_members IsShortRow rows (λ e there. key_short g e.0 (listed.classes e there)) in
    let whole : length (rows_bytes rows) ≡ length (four_bytes (length rows) ++ flat_map record_bytes rows) = refl in
    omega (arith, four, whole, records_short rows each, length-append (four_bytes (length rows)) (flat_map record_bytes rows))

-- all of them, of a table of the game and few moves
all_short : (g : GameRules) (table : Listing) (c : Content) → IsTable g table → length table.rows ≤ 14000000 → c.rows ≡ table.rows
    → length (moves_bytes c.head.kind c.moves) ≤ 4 + MOST_MOVES * 2 → length (bytes_of c) ≤ LONGEST_CERTIFICATE
all_short g table c listed small same few =
    let records = rows_bytes c.rows in
    let most = rows_short g table listed in
    let whole : length (bytes_of c) ≡ length (head_bytes c.head ++ (moves_bytes c.head.kind c.moves ++ records)) = refl in
    omega (
      arith,
      head_short c.head,
      few,
      most,
      whole,
      small,
      ap (λ l. length (rows_bytes l)) same,
      length-append (moves_bytes c.head.kind c.moves) records,
      length-append (head_bytes c.head) (moves_bytes c.head.kind c.moves ++ records),
    )

-- what a verdict is written as, by a table that backs it
short_with : (g : GameRules) (b : Board) (told : Verdict) (table : Listing) (c : Content) → IsBackedBy g b told table
    → length table.rows ≤ 14000000 → HasFewMoves told → IsWrittenWith g table told c → length (bytes_of c) ≤ LONGEST_CERTIFICATE
short_with g b (verdict.Shortest moves) table c backed small few same =
    all_short g table c backed.listed small (ap (λ x. x.rows) same)
    (subst (λ x. length (moves_bytes x.head.kind x.moves) ≤ 4 + MOST_MOVES * 2) (sym same) (omega (arith, listed_long moves, few)))
short_with g b (verdict.Won moves floor) table c backed small few same =
    all_short g table c backed.listed small (ap (λ x. x.rows) same)
    (subst (λ x. length (moves_bytes x.head.kind x.moves) ≤ 4 + MOST_MOVES * 2) (sym same) (omega (arith, listed_long moves, few)))
short_with g b verdict.CannotWin table c backed small few same =
    all_short g table c backed.listed small (ap (λ x. x.rows) same)
    (subst (λ x. length (moves_bytes x.head.kind x.moves) ≤ 4 + MOST_MOVES * 2) (sym same) (omega arith))
short_with g b (verdict.GaveUp told) table c backed small few same = absurd same

short_by : (g : GameRules) (b : Board) (told : Verdict) (backing : Option Listing) (c : Content)
    → MatchOption backing (HasGivenUp told) (IsBackedBy g b told) → IfSome backing (λ table. length table.rows ≤ 14000000) → HasFewMoves told
    → MatchOption backing ⊥ (λ table. IsWrittenWith g table told c) → length (bytes_of c) ≤ LONGEST_CERTIFICATE
short_by g b told (Some table) c backed small few same = short_with g b told table c backed small few same
short_by g b told None c backed small few same = absurd same

pub written_short : WrittenCertificatesAreShort
written_short g b answered c backed small few same = short_by g b answered.verdict answered.table c backed small few same

-- all of a content
content_long : (head : Head) (moves : List Move) (rows : List (List ℕ × ℕ))
    → length (bytes_of (record { head = head; moves = moves; rows = rows }))
    ≡ length (head_bytes head) + (length (moves_bytes head.kind moves) + (4 + length (flat_map record_bytes rows)))
content_long head moves rows =
    let four : length (four_bytes (length rows)) ≡ 4 = refl in
    omega (
      arith,
      four,
      length-append (four_bytes (length rows)) (flat_map record_bytes rows),
      length-append (moves_bytes head.kind moves) (rows_bytes rows),
      length-append (head_bytes head) (moves_bytes head.kind moves ++ rows_bytes rows),
    )

-- what is written of an answer with such a table and such a verdict
pub written_with : (g : GameRules) (answered : Answer) (told : Verdict) (table : Listing) (c : Content) → answered.table ≡ Some table
    → answered.verdict ≡ told → IsWrittenAs g answered c → IsWrittenWith g table told c
written_with g answered told table c tabled same is =
    subst (λ v. IsWrittenWith g table v c) same
    (subst (λ t. MatchOption t ⊥ (λ x. IsWrittenWith g x answered.verdict c)) tabled is)

pub written_long : (g : GameRules) (table : Listing) (c : Content) (claimed : Kind) (floor before : ℕ) (moves : List Move)
    → c ≡ record { head = written_head g table claimed floor; moves = moves; rows = table.rows }
    → length (head_bytes (written_head g table claimed floor)) + length (moves_bytes claimed moves) ≡ before
    → length (bytes_of c) ≡ before + (4 + length (flat_map record_bytes table.rows))
written_long g table c claimed floor before moves same long =
    let all = content_long (written_head g table claimed floor) moves table.rows in
    omega (arith, ap (λ x. length (bytes_of x)) same, all, long)
