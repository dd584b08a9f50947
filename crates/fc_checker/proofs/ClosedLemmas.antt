-- A content of which all that is asked holds shows its claim.
use Rattle.std.proofs.Common.{◌≡◌, ℕ, ◌+◌, ◌<◌, Option, Some, None, List, [], length, refl, sym, ◌∙◌, ap, subst, ⊎_elim, arith}
use Rattle.std.specs.Prelude.{Contains, slice_get}
use Rattle.std.proofs.lemmas.Bool.{cases_lt}
use Rattle.std.proofs.lemmas.List.{append-nil}
use Rattle.std.proofs.lemmas.Option.{get_or_from_slice_get, same_Some, slice_get-get_or, slice_get_within}
use Rattle.fc_position.specs.Board.{Board}
use Rattle.fc_position.specs.Position.{IsPosition, IsWon}
use Rattle.fc_moves.specs.GameRules.{GameRules, IsPositionOf}
use Rattle.fc_canonical.specs.Key.{BeginsWithBoard, board_bytes}
use Rattle.fc_canonical.specs.Order.{IsCanonical}
use Rattle.fc_canonical.specs.Spelled.{IsKeyIn, IsKeyFor, board_of_bytes}
use Rattle.fc_canonical.proofs.FitLemmas.{canonical_fits, keys_by_cells}
use Rattle.fc_bound.specs.Kinds.{low_of}
use Rattle.fc_tables.specs.Table.{IsClosed, IsClosedBelow, ListsFitting, IsCoveredBelow, StepsCovered, StepsListed, as_boards}
use Rattle.fc_bound.proofs.KindLemmas.{bounds_lower}
use Rattle.fc_home.proofs.EveryLemmas.{every_settles}
use Rattle.fc_tables.proofs.LookLemmas.{one_enough, one_enough_listed, seen_below, seen_closed}
use Rattle.fc_moves.proofs.ClassLemmas.{class-refl}
use Rattle.fc_cert.specs.declared.contents.Kind.{Kind}
use Rattle.fc_cert.specs.declared.contents.Kind.TheVariants.{Shortest, CannotWin, Between}
use Rattle.fc_cert.specs.Claim.{Shows, IsCertificate}
use Rattle.fc_cert.specs.Content.{Content, IsContent, IsSpelled}
use Rattle.fc_checker.specs.Check.{Holds, IsOfGame, MovesHold, RecordHolds, RecordsHold, StepsHold, level, level_of}
use Rattle.fc_checker.specs.inner.Steps.{IsProof, claim_of}
use Rattle.fc_checker.proofs.ListedLemmas.{row_key, row_listed}

-- what stands at a place is a row
pub row_there : (rows : List (List ℕ × ℕ)) (i : ℕ) (row : List ℕ × ℕ) → slice_get rows i ≡ Some row → Contains rows row
row_there rows i row there = (i, slice_get_within rows i row there, get_or_from_slice_get rows i row row there)

-- the key of a row is one of the game
pub row_in : (g : GameRules) (c : Content) (row : List ℕ × ℕ) → IsContent c → IsOfGame g c → Contains c.rows row → IsKeyIn g row.0
row_in g c row is of there =
    (keys_by_cells g row.0).1 (subst (λ n. IsKeyFor n row.0) of.cells (row_key c row is there))

-- where all records hold, that of each row does
row_holds : (g : GameRules) (c : Content) (row : List ℕ × ℕ) → RecordsHold g c (length c.rows) → Contains c.rows row → RecordHolds g c row
row_holds g c row records (k, lt, e) = records k row lt (slice_get-get_or c.rows k row lt ∙ ap Some e)

-- the position at the front of a row's key is the one that the key spells
pub row_position : (c : Content) (i : ℕ) (row : List ℕ × ℕ) (x : Board) → IsContent c → slice_get c.rows i ≡ Some row
    → ((b : Board) → IsPosition b → BeginsWithBoard row.0 b → x ≡ b) → x ≡ board_of_bytes row.0
row_position c i row x is there read =
    let valid = row_key c row is (row_there c.rows i row there) in
    read (board_of_bytes row.0) valid.position ([], valid.bytes ∙ sym (append-nil (board_bytes (board_of_bytes row.0))))

-- and its bytes stand at the front of the key
pub row_begins : (c : Content) (i : ℕ) (row : List ℕ × ℕ) (x : Board) → IsContent c → slice_get c.rows i ≡ Some row → x ≡ board_of_bytes row.0
    → BeginsWithBoard row.0 x
row_begins c i row x is there same =
    let valid = row_key c row is (row_there c.rows i row there) in
    subst (BeginsWithBoard row.0) (sym same) ([], valid.bytes ∙ sym (append-nil (board_bytes (board_of_bytes row.0))))

-- where the first records and the next hold, one more does
pub records_more : (g : GameRules) (c : Content) (i : ℕ) (row : List ℕ × ℕ) → RecordsHold g c i → slice_get c.rows i ≡ Some row
    → RecordHolds g c row → RecordsHold g c (i + 1)
records_more g c i row before there holds k other lt at =
    ⊎_elim (λ below. before k other below at)
    (λ le.
    let same : k ≡ i = omega (arith, le, lt) in
    let also : slice_get c.rows i ≡ Some other = subst (λ n. slice_get c.rows n ≡ Some other) same at in
    let one : row ≡ other = same_Some row other (sym there ∙ also) in
    subst (RecordHolds g c) one holds) (cases_lt k i)

-- the level in each kind
pub level_in : (c : Content) (kind : Kind) → c.head.kind ≡ kind → level c ≡ level_of kind c.head.floor c.moves
level_in c kind k = ap (λ t. level_of t c.head.floor c.moves) k

module _ (g : GameRules) (c : Content) (is : IsContent c) (of : IsOfGame g c) where
  -- a listed board fits the game wherever one of its class does
  fitting : ListsFitting g (as_boards c.rows)
  fitting e x there px same =
      let r = row_listed c.rows e there in
      let ordered = subst IsCanonical (sym (ap (λ p. p.0) r.2)) (row_key c r.0 is r.1).ordered in
      canonical_fits g x e.0 px same ordered

  -- no listed board is won
  none_won : RecordsHold g c (length c.rows) → (e : Board × ℕ) → Contains (as_boards c.rows) e → IsWon e.0 → ⊥
  none_won records e there won =
      let r = row_listed c.rows e there in
      (row_holds g c r.0 records r.1).not_won (subst IsWon (ap (λ p. p.0) r.2) won)

  -- the steps of a record, by the level
  steps_of : (by : Option ℕ) (e : Board × ℕ) → level c ≡ by → RecordsHold g c (length c.rows) → Contains (as_boards c.rows) e
      → (row : List ℕ × ℕ) × (e ≡ (board_of_bytes row.0, row.1)) × StepsHold g c by row
  steps_of by e k records there =
      let r = row_listed c.rows e there in
      (r.0, r.2, subst (λ t. StepsHold g c t r.0) k (row_holds g c r.0 records r.1).steps)

  -- where all holds by a level, the table is closed below it
  closed_below : (b : Board) (n : ℕ) → level c ≡ Some n → IsPositionOf g b → IsProof g b c
      → IsClosedBelow (low_of c.head.bound) g c.head.rule b n (as_boards c.rows)
  closed_below b n k pb proof =
      (seen_below (low_of c.head.bound) g c.head.rule b n (as_boards c.rows) (bounds_lower c.head.bound).1 pb fitting).0
      (record {
        not_won = none_won proof.records;
        start =
            let way = every_settles g c.head.rule b in
            (way.1, way.0, way.2, subst (λ t. Holds c t way.1 way.0) k (proof.start way.1 way.0 way.2));
        steps = λ e there pe near.
            let s = steps_of (Some n) e k proof.records there in
            (one_enough (low_of c.head.bound) g c.head.rule n (as_boards c.rows) e.0 e.0 e.1 (bounds_lower c.head.bound).1 pe pe (class-refl e.0)).1
            (subst (λ (p : Board × ℕ). p.1 + low_of c.head.bound p.0 < n
            → StepsCovered (IsCoveredBelow (low_of c.head.bound) n (as_boards c.rows)) g c.head.rule p.0 p.1) (sym s.1) s.2 near);
      })

  -- and without one, closed
  closed : (b : Board) → level c ≡ None → IsPositionOf g b → IsProof g b c → IsClosed g c.head.rule b (as_boards c.rows)
  closed b k pb proof =
      (seen_closed g c.head.rule b (as_boards c.rows) pb fitting).0
      (record {
        not_won = none_won proof.records;
        start =
            let way = every_settles g c.head.rule b in
            (way.1, way.0, way.2, subst (λ t. Holds c t way.1 way.0) k (proof.start way.1 way.0 way.2));
        steps = λ e there pe.
            let s = steps_of None e k proof.records there in
            (one_enough_listed g c.head.rule (as_boards c.rows) e.0 e.0 pe pe (class-refl e.0)).1
            (subst (λ (p : Board × ℕ). StepsListed g c.head.rule (as_boards c.rows) p.0) (sym s.1) s.2);
      })

  shows_by : (b : Board) (kind : Kind) → c.head.kind ≡ kind → IsPositionOf g b → IsProof g b c → Shows g b c (claim_of c kind)
  shows_by b Shortest k pb proof = (
    k,
    refl,
    subst (λ t. MovesHold g b t c.moves) k proof.moves,
    closed_below b (length c.moves) (level_in c Shortest k) pb proof,
  )
  shows_by b CannotWin k pb proof = (k, closed b (level_in c CannotWin k) pb proof)
  shows_by b Between k pb proof = (
    k,
    refl,
    refl,
    subst (λ t. MovesHold g b t c.moves) k proof.moves,
    closed_below b c.head.floor (level_in c Between k) pb proof,
  )

-- so bytes with this content are a certificate of the claim
pub proof_certifies : (g : GameRules) (b : Board) (bytes : List ℕ) (c : Content) → IsPositionOf g b → IsSpelled bytes c → IsProof g b c
    → IsCertificate g b bytes (claim_of c c.head.kind)
proof_certifies g b bytes c pb spells proof = record {
  content = c;
  spelled = spells;
  game = proof.game.code;
  cells = proof.game.cells;
  shows = shows_by g c spells.content proof.game b c.head.kind refl pb proof;
}
