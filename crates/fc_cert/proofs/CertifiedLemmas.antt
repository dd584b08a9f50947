-- What certificates claim is true, and backed answers have certificates.
use Rattle.std.proofs.Common.{◌≡◌, ℕ, ◌^◌, ◌<◌, ◌≤◌, List, [], length, refl, sym, subst, arith}
use Rattle.std.specs.Prelude.{All, Contains, Option, Some, None, MatchOption}
use Rattle.fc_position.specs.Board.{Board}
use Rattle.fc_moves.specs.declared.steps.Move.{Move}
use Rattle.fc_moves.specs.inner.GameLaws.{All-from_members}
use Rattle.fc_moves.specs.GameRules.{GameRules, IsGame, IsPositionOf}
use Rattle.fc_moves.specs.Run.{Wins}
use Rattle.fc_home.specs.declared.settling.TheConstants.{GREATEST_RULE}
use Rattle.fc_canonical.specs.Spelled.{board_of_bytes, IsKeyIn, IsKeyFor}
use Rattle.fc_canonical.proofs.FitLemmas.{fits_by_count}
use Rattle.fc_bound.specs.declared.kinds.BoundKind.{BoundKind}
use Rattle.fc_bound.specs.declared.kinds.BoundKind.TheVariants.{Plain, Clearing}
use Rattle.fc_bound.specs.Kinds.{low_of}
use Rattle.fc_bound.proofs.KindLemmas.{bounds_lower}
use Rattle.fc_tables.proofs.TableLemmas.{below_long, closed_never}
use Rattle.fc_tables.specs.Table.{IsClosedBelow, as_boards}
use Rattle.fc_answers.specs.declared.answers.Answer.{Answer}
use Rattle.fc_answers.specs.declared.answers.Verdict.{Verdict}
use Rattle.fc_answers.specs.declared.answers.Verdict.TheVariants as verdict
use Rattle.fc_answers.specs.Answer.{IsBacked, IsBackedBy, HasGivenUp}
use Rattle.fc_answers.specs.Table.{Listing, IsTable}
use Rattle.fc_answers.specs.Verdict.{CanBeWritten}
use Rattle.fc_cert.specs.declared.claims.Claim.{Claim}
use Rattle.fc_cert.specs.declared.claims.Claim.TheVariants as claim
use Rattle.fc_cert.specs.declared.contents.Kind.{Kind}
use Rattle.fc_cert.specs.declared.contents.Kind.TheVariants as kind
use Rattle.fc_cert.specs.Claim.{Shows, IsTrueOf, IsWrittenAs, IsWrittenWith, Claims, HasWinningMoves, written_form}
use Rattle.fc_cert.specs.Content.{Content, IsContent, IsRecord, IsSpelled, MayName, MayBind, MayClaim, MayFloor, MayCost, MayList, bytes_of}
use Rattle.fc_cert.specs.Laws.{CertificatesAreTrue, BackedAnswersAreCertified}
use Rattle.fc_cert.proofs.WritingLemmas.{content}

-- a table that is closed below a number leaves no shorter list that wins
none_shorter : (g : GameRules) (b : Board) (c : Content) (n : ℕ) (moves : List Move) → IsPositionOf g b
    → IsClosedBelow (low_of c.head.bound) g c.head.rule b n (as_boards c.rows) → Wins g b moves → n ≤ length moves
none_shorter g b c n moves position closed won =
    below_long (low_of c.head.bound) g c.head.rule b n (as_boards c.rows) moves (bounds_lower c.head.bound).1 position closed won

-- a content shows only what is true
shown_true : (g : GameRules) (b : Board) (c : Content) (claimed : Claim) → IsPositionOf g b → Shows g b c claimed → IsTrueOf g b claimed
shown_true g b c (claim.Shortest n) position (kind, count, wins, closed) = (
  c.moves,
  count,
  record {
    wins = wins;
    least = λ others won. subst (λ k. k ≤ length others) (sym count) (none_shorter g b c n others position closed won);
  },
)
shown_true g b c claim.CannotWin position (kind, closed) = closed_never g c.head.rule b (as_boards c.rows) position closed
shown_true g b c (claim.Between floor n) position (kind, same, count, wins, closed) =
    ((c.moves, count, wins), λ others won. none_shorter g b c floor others position closed won)

pub certificates_true : CertificatesAreTrue
certificates_true g b bytes claimed position certificate = shown_true g b certificate.content claimed position certificate.shows

-- a key of a game is one of its number of cells
key_for : (g : GameRules) (key : List ℕ) → IsKeyIn g key → IsKeyFor g.cells key
key_for g key here = record {
  position = here.position.position;
  few = (fits_by_count g.cells (board_of_bytes key) here.position.position here.ordered).0 here.position.fits;
  ordered = here.ordered;
  bytes = here.bytes;
}

-- the rows of a table of the game are records, where each cost may stand
are_records : (g : GameRules) (kind : Kind) (table : Listing) → IsTable g table
    → ((e : List ℕ × ℕ) → Contains table.rows e → MayCost kind e.1) → All (IsRecord g.cells kind) table.rows
are_records g kind table listed may =
    All-from_members (IsRecord g.cells kind) table.rows
    (λ e there. record { key = key_for g e.0 (listed.classes e there); cost = may e there })

-- the form that is written may name each game, rule, bound and kind
written_name : (bound : BoundKind) (claimed : Kind) (game cells rule : ℕ) → game < 256 → cells ≤ 4 → rule ≤ GREATEST_RULE
    → MayName (written_form bound claimed) game cells rule
written_name Plain kind.Shortest game cells rule small few known = (small, few, known)
written_name Plain kind.CannotWin game cells rule small few known = (small, few, known)
written_name Plain kind.Between game cells rule small few known = (small, few, known)
written_name Clearing claimed game cells rule small few known = (small, few, known)

written_bound : (bound : BoundKind) (claimed : Kind) → MayBind (written_form bound claimed) bound
written_bound Plain kind.Shortest = refl
written_bound Plain kind.CannotWin = refl
written_bound Plain kind.Between = tt
written_bound Clearing claimed = tt

written_kind : (bound : BoundKind) (claimed : Kind) → MayClaim (written_form bound claimed) claimed
written_kind Plain kind.Shortest = λ e. absurd cc
written_kind Plain kind.CannotWin = λ e. absurd cc
written_kind Plain kind.Between = tt
written_kind Clearing claimed = tt

-- the content with these moves and the rows of a table of the game has bytes
has_bytes : (g : GameRules) (claimed : Kind) (floor : ℕ) (moves : List Move) (table : Listing) → IsGame g → IsTable g table
    → MayFloor claimed floor moves → MayList claimed moves
    → ((e : List ℕ × ℕ) → Contains table.rows e → MayCost claimed e.1) → IsContent (content g table claimed floor moves)
has_bytes g claimed floor moves table game listed may_floor may_list may_cost = record {
  head = written_name table.bound claimed g.code g.cells table.rule game.code game.cells listed.known;
  bound = written_bound table.bound claimed;
  kind = written_kind table.bound claimed;
  floor = may_floor;
  moves = may_list;
  count = omega (arith, listed.few);
  rows = are_records g claimed table listed may_cost;
  rising = listed.rising;
}

-- the content has bytes, is of the game, and shows the claim of the board
abbrev IsShowing : GameRules → Board → Claim → Content → Type 0
IsShowing g b claimed c = IsContent c × (c.head.game ≡ g.code) × (c.head.cells ≡ g.cells) × Shows g b c claimed

-- so is the content that a verdict is written as, by a table that backs it
shows_by : (g : GameRules) (b : Board) (told : Verdict) (table : Listing) (c : Content) (claimed : Claim) → IsGame g → IsPositionOf g b
    → IsBackedBy g b told table → HasWinningMoves g b told → CanBeWritten told → IsWrittenWith g table told c
    → Claims told claimed → IsShowing g b claimed c
shows_by g b (verdict.Shortest moves) table c claimed game position backed wins can same claims =
    let told : Content = content g table kind.Shortest 0 moves in
    let few : length moves < 2 ^ 32 = can.1 in
    let has : IsContent told = has_bytes g kind.Shortest 0 moves table game backed.listed refl (few, can.0)
    (λ e there. omega (arith, backed.below e there, few)) in
    subst (IsShowing g b claimed) (sym same)
    (subst (λ said. IsShowing g b said told) (sym claims) (has, refl, refl, (refl, refl, wins, backed.closed)))
shows_by g b (verdict.Won moves floor) table c claimed game position backed wins can same claims =
    let told : Content = content g table kind.Between floor moves in
    let few : length moves < 2 ^ 32 = can.1 in
    let least : floor ≤ length moves = none_shorter g b told floor moves position backed.closed wins in
    let has : IsContent told = has_bytes g kind.Between floor moves table game backed.listed least (few, can.0)
    (λ e there. omega (arith, backed.below e there, few, least)) in
    subst (IsShowing g b claimed) (sym same)
    (subst (λ said. IsShowing g b said told) (sym claims) (has, refl, refl, (refl, refl, refl, wins, backed.closed)))
shows_by g b verdict.CannotWin table c claimed game position backed wins can same claims =
    let told : Content = content g table kind.CannotWin 0 [] in
    let has : IsContent told = has_bytes g kind.CannotWin 0 [] table game backed.listed refl refl backed.free in
    subst (IsShowing g b claimed) (sym same)
    (subst (λ said. IsShowing g b said told) (sym claims) (has, refl, refl, (refl, backed.closed)))
shows_by g b (verdict.GaveUp told) table c claimed game position backed wins can same claims = absurd same

-- and the one that a backed answer is written as
shows_with : (g : GameRules) (b : Board) (told : Verdict) (backing : Option Listing) (c : Content) (claimed : Claim) → IsGame g
    → IsPositionOf g b → MatchOption backing (HasGivenUp told) (IsBackedBy g b told) → HasWinningMoves g b told → CanBeWritten told
    → MatchOption backing ⊥ (λ table. IsWrittenWith g table told c) → Claims told claimed → IsShowing g b claimed c
shows_with g b told (Some table) c claimed game position backed wins can same claims =
    shows_by g b told table c claimed game position backed wins can same claims
shows_with g b told None c claimed game position backed wins can same claims = absurd same

written_shows : (g : GameRules) (b : Board) (answered : Answer) (c : Content) (claimed : Claim) → IsGame g → IsPositionOf g b
    → IsBacked g b answered → HasWinningMoves g b answered.verdict → CanBeWritten answered.verdict → IsWrittenAs g answered c
    → Claims answered.verdict claimed → IsShowing g b claimed c
written_shows g b answered c claimed game position backed wins can same claims =
    shows_with g b answered.verdict answered.table c claimed game position backed wins can same claims

-- its bytes are a certificate with it
pub backed_spelled : (g : GameRules) (b : Board) (answered : Answer) (c : Content) (claimed : Claim) → IsGame g → IsPositionOf g b
    → IsBacked g b answered → HasWinningMoves g b answered.verdict → CanBeWritten answered.verdict → IsWrittenAs g answered c
    → Claims answered.verdict claimed → IsSpelled (bytes_of c) c
backed_spelled g b answered c claimed game position backed wins can same claims =
    record { content = (written_shows g b answered c claimed game position backed wins can same claims).0; written = refl }

pub backed_certified : BackedAnswersAreCertified
backed_certified g b answered c claimed game position backed wins can same claims =
    let good = written_shows g b answered c claimed game position backed wins can same claims in
    record {
      content = c;
      spelled = record { content = good.0; written = refl };
      game = good.1;
      cells = good.2;
      shows = good.3;
    }
