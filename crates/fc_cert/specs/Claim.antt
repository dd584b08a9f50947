-- What certificates claim, and which of them prove it.
use Rattle.std.specs.Prelude.{◌≡◌, ℕ, ◌≤◌, List, [], length, MatchOption}
use Rattle.fc_position.specs.Board.{Board}
use Rattle.fc_moves.specs.declared.steps.Move.{Move}
use Rattle.fc_moves.specs.GameRules.{GameRules}
use Rattle.fc_moves.specs.Run.{Wins, IsShortest, CannotWin as NoneWins}
use Rattle.fc_bound.specs.declared.kinds.BoundKind.{BoundKind}
use Rattle.fc_bound.specs.declared.kinds.BoundKind.TheVariants.{Plain, Clearing}
use Rattle.fc_bound.specs.Kinds.{low_of}
use Rattle.fc_tables.specs.Table.{IsClosed, IsClosedBelow, as_boards}
use Rattle.fc_answers.specs.declared.answers.Answer.{Answer}
use Rattle.fc_answers.specs.declared.answers.Verdict.{Verdict}
use Rattle.fc_answers.specs.declared.answers.Verdict.TheVariants as verdict
use Rattle.fc_answers.specs.Table.{Listing}
use Rattle.fc_cert.specs.declared.claims.Claim.{Claim}
use Rattle.fc_cert.specs.declared.claims.Claim.TheVariants as claim
use Rattle.fc_cert.specs.declared.contents.Form.{Form}
use Rattle.fc_cert.specs.declared.contents.Form.TheVariants.{Second, Third}
use Rattle.fc_cert.specs.declared.contents.Head.{Head}
use Rattle.fc_cert.specs.declared.contents.Kind.{Kind}
use Rattle.fc_cert.specs.declared.contents.Kind.TheVariants as kind
use Rattle.fc_cert.specs.Content.{Content, IsSpelled}

-- the content shows the claim of a board: of n moves, it lists n that win, and a table closed below n by its home rule and its
-- bound; of none, a closed table; of a floor and n moves, n that win, and a table closed below the floor
abbrev pub Shows : GameRules → Board → Content → Claim → Type 0
Shows g b c (claim.Shortest n) = (c.head.kind ≡ kind.Shortest) × (length c.moves ≡ n) × Wins g b c.moves
    × IsClosedBelow (low_of c.head.bound) g c.head.rule b n (as_boards c.rows)
Shows g b c claim.CannotWin = (c.head.kind ≡ kind.CannotWin) × IsClosed g c.head.rule b (as_boards c.rows)
Shows g b c (claim.Between floor n) = (c.head.kind ≡ kind.Between) × (c.head.floor ≡ floor) × (length c.moves ≡ n)
    × Wins g b c.moves × IsClosedBelow (low_of c.head.bound) g c.head.rule b floor (as_boards c.rows)

-- the bytes are a certificate of the board and the claim: they have a content of this game, which shows it
pub record IsCertificate (g : GameRules) (b : Board) (bytes : List ℕ) (claimed : Claim) : Type 0 where
  pub content : Content
  pub spelled : IsSpelled bytes content
  pub game : content.head.game ≡ g.code
  pub cells : content.head.cells ≡ g.cells
  pub shows : Shows g b content claimed

-- the claim is true, in plain lists of moves: some list of n moves wins and none is shorter, or no list wins, or some list of
-- n moves wins and none of fewer moves than the floor does
abbrev pub IsTrueOf : GameRules → Board → Claim → Type 0
IsTrueOf g b (claim.Shortest n) = (moves : List Move) × (length moves ≡ n) × IsShortest g b moves
IsTrueOf g b claim.CannotWin = NoneWins g b
IsTrueOf g b (claim.Between floor n) = ((moves : List Move) × (length moves ≡ n) × Wins g b moves)
    × ((moves : List Move) → Wins g b moves → floor ≤ length moves)

-- the form in which a certificate is written: the second where it says all, the third otherwise
abbrev pub written_form : BoundKind → Kind → Form
written_form Plain kind.Shortest = Second
written_form Plain kind.CannotWin = Second
written_form Plain kind.Between = Third
written_form Clearing claimed = Third

-- the fields before the moves, as they are written of a table
abbrev pub written_head : GameRules → Listing → Kind → ℕ → Head
written_head g table claimed floor = record {
  form = written_form table.bound claimed;
  game = g.code;
  cells = g.cells;
  rule = table.rule;
  bound = table.bound;
  kind = claimed;
  floor = floor;
}

-- the content that a verdict is written as, by the table that backs it; giving up isn't
abbrev pub IsWrittenWith : GameRules → Listing → Verdict → Content → Type 0
IsWrittenWith g table (verdict.Shortest moves) c =
    c ≡ record { head = written_head g table kind.Shortest 0; moves = moves; rows = table.rows }
IsWrittenWith g table (verdict.Won moves floor) c =
    c ≡ record { head = written_head g table kind.Between floor; moves = moves; rows = table.rows }
IsWrittenWith g table verdict.CannotWin c =
    c ≡ record { head = written_head g table kind.CannotWin 0; moves = []; rows = table.rows }
IsWrittenWith g table (verdict.GaveUp told) c = ⊥

-- the content that an answer is written as; one that gave up, or has no table, isn't
abbrev pub IsWrittenAs : GameRules → Answer → Content → Type 0
IsWrittenAs g answered c = MatchOption answered.table ⊥ (λ table. IsWrittenWith g table answered.verdict c)

-- what a verdict claims
abbrev pub Claims : Verdict → Claim → Type 0
Claims (verdict.Shortest moves) claimed = claimed ≡ claim.Shortest (length moves)
Claims (verdict.Won moves floor) claimed = claimed ≡ claim.Between floor (length moves)
Claims verdict.CannotWin claimed = claimed ≡ claim.CannotWin
Claims (verdict.GaveUp told) claimed = ⊥

-- the moves of a verdict win from the board
abbrev pub HasWinningMoves : GameRules → Board → Verdict → Type 0
HasWinningMoves g b (verdict.Shortest moves) = Wins g b moves
HasWinningMoves g b (verdict.Won moves floor) = Wins g b moves
HasWinningMoves g b verdict.CannotWin = Unit {0}
HasWinningMoves g b (verdict.GaveUp told) = Unit {0}
