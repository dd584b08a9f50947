-- Certificates have no fault, and bytes have one fault and prove one claim.
use Rattle.std.proofs.Common.{◌≡◌, ◌≢◌, ◌⊎◌, ℕ, ◌<◌, ◌≤◌, Some, List, Result, Ok, Err, refl, sym, ◌∙◌, ap, subst, inl, inr, ⊎_elim, arith}
use Rattle.std.specs.Prelude.{slice_get, IfOk, IfErr, IsErrAnd}
use Rattle.std.proofs.lemmas.Bool.{cases_lt}
use Rattle.std.proofs.lemmas.Option.{same_Some, slice_get_within}
use Rattle.fc_position.specs.Board.{Board}
use Rattle.fc_position.specs.Position.{IsWon}
use Rattle.fc_moves.specs.GameRules.{GameRules}
use Rattle.fc_moves.specs.Run.{Run}
use Rattle.fc_moves.proofs.StepLemmas.{run_once}
use Rattle.fc_canonical.specs.Spelled.{board_of_bytes}
use Rattle.fc_moves.proofs.ClassLemmas.{class-refl}
use Rattle.fc_cert.specs.declared.claims.Claim.{Claim}
use Rattle.fc_cert.specs.declared.claims.Claim.TheVariants as claim
use Rattle.fc_cert.specs.declared.contents.Kind.TheVariants as kind
use Rattle.fc_cert.specs.Claim.{Shows, IsCertificate}
use Rattle.fc_bound.specs.Kinds.{low_of}
use Rattle.fc_tables.specs.Table.{IsClosedBelow, as_boards}
use Rattle.fc_cert.specs.Content.{Content, IsContent, IsSpelled}
use Rattle.fc_checker.specs.declared.faults.CheckFault.{CheckFault}
use Rattle.fc_checker.specs.declared.faults.CheckFault.TheVariants.{Form, OtherGame, NotAllowed, NotHome, StartOpen, WonListed, Open, Memory}
use Rattle.fc_checker.specs.Check.{HasContent, HasStart, Holds, IsCheckFault, IsOfGame, IsStopped, MovesHold, StartHolds, StepsHold, level}
use Rattle.fc_checker.specs.Laws.{CertificatesHaveNoFault, ClaimsAreOne, FaultsAreOne}
use Rattle.fc_checker.specs.inner.Steps.{IsProof}
use Rattle.fc_checker.proofs.ClosedLemmas.{level_in, row_in, row_there}
use Rattle.fc_checker.proofs.FaultLemmas.{IsBadRecord, bad_record_once, content_once, form_fault_once, moves_win, no_form_fault, stopped_nowhere, stopped_once}
use Rattle.fc_checker.proofs.ListedLemmas.{board_listed}

-- ---- one claim

shows_once : (g : GameRules) (b : Board) (c : Content) (one other : Claim) → Shows g b c one → Shows g b c other → one ≡ other
shows_once g b c (claim.Shortest n) (claim.Shortest m) s t = ap claim.Shortest (sym s.1 ∙ t.1)
shows_once g b c (claim.Shortest n) claim.CannotWin s t = let a = s.0 in let z = t.0 in absurd (cc (a, z))
shows_once g b c claim.CannotWin (claim.Shortest m) s t = let a = s.0 in let z = t.0 in absurd (cc (a, z))
shows_once g b c (claim.Shortest n) (claim.Between l m) s t = let a = s.0 in let z = t.0 in absurd (cc (a, z))
shows_once g b c claim.CannotWin claim.CannotWin s t = refl
shows_once g b c claim.CannotWin (claim.Between l m) s t = let a = s.0 in let z = t.0 in absurd (cc (a, z))
shows_once g b c (claim.Between l m) (claim.Shortest n) s t = let a = s.0 in let z = t.0 in absurd (cc (a, z))
shows_once g b c (claim.Between l m) claim.CannotWin s t = let a = s.0 in let z = t.0 in absurd (cc (a, z))
shows_once g b c (claim.Between l m) (claim.Between k n) (a, p, q, wins, closed) (z, r, s, also, others) =
    ap (λ floor. claim.Between floor m) (sym p ∙ r) ∙ ap (claim.Between k) (sym q ∙ s)

pub claims_once : ClaimsAreOne
claims_once g b bytes one other p q =
    shows_once g b p.content one other p.shows
    (subst (λ c. Shows g b c other) (content_once bytes q.content p.content q.spelled p.spelled) q.shows)

-- ---- certificates have no fault

-- a content whose moves hold, and whose table is closed below its level, proves its claim
below_proof : (g : GameRules) (b : Board) (c : Content) (n : ℕ) → IsContent c → IsOfGame g c → level c ≡ Some n
    → MovesHold g b c.head.kind c.moves → IsClosedBelow (low_of c.head.bound) g c.head.rule b n (as_boards c.rows) → IsProof g b c
below_proof g b c n is of k moves closed = record {
  game = of;
  moves = moves;
  start = λ q j settles. subst (λ t. Holds c t q j) (sym k) (closed.start q j settles);
  records = λ i row lt there.
      let at = row_there c.rows i row there in
      let listed = board_listed c.rows row at in
      let here : Board × ℕ = (board_of_bytes row.0, row.1) in
      record {
        not_won = closed.not_won here listed;
        steps = subst (λ t. StepsHold g c t row) (sym k)
            (closed.steps here (board_of_bytes row.0) listed (row_in g c row is of at).position (class-refl (board_of_bytes row.0)));
      };
}

-- what a content shows, it proves
shows_proof : (g : GameRules) (b : Board) (c : Content) (claimed : Claim) → IsContent c → IsOfGame g c → Shows g b c claimed → IsProof g b c
shows_proof g b c (claim.Shortest n) is of (k, count, wins, closed) =
    below_proof g b c n is of (level_in c kind.Shortest k ∙ ap Some count) (subst (λ t. MovesHold g b t c.moves) (sym k) wins) closed
shows_proof g b c (claim.Between floor n) is of (k, low, count, wins, closed) =
    below_proof g b c floor is of (level_in c kind.Between k ∙ ap Some low) (subst (λ t. MovesHold g b t c.moves) (sym k) wins) closed
shows_proof g b c claim.CannotWin is of (k, closed) = record {
  game = of;
  moves = subst (λ t. MovesHold g b t c.moves) (sym k) tt;
  start = λ q j settles. subst (λ t. Holds c t q j) (sym (level_in c kind.CannotWin k)) (closed.start q j settles);
  records = λ i row lt there.
      let at = row_there c.rows i row there in
      let listed = board_listed c.rows row at in
      let here : Board × ℕ = (board_of_bytes row.0, row.1) in
      record {
        not_won = closed.not_won here listed;
        steps = subst (λ t. StepsHold g c t row) (sym (level_in c kind.CannotWin k))
            (closed.steps here (board_of_bytes row.0) listed (row_in g c row is of at).position (class-refl (board_of_bytes row.0)));
      };
}

module _ (g : GameRules) (b : Board) (bytes : List ℕ) where
  -- a content that proves its claim leaves no fault but want of memory
  none_left : (c : Content) (fault : CheckFault) → IsSpelled bytes c → IsProof g b c → IsCheckFault g b bytes fault → fault ≡ Memory
  none_left c (Form f) s proof p = absurd (no_form_fault bytes c f s p)
  none_left c OtherGame s proof (d, t, wrong) = absurd (wrong (subst (IsProof g b) (content_once bytes c d s t) proof).game)
  none_left c (NotAllowed step) s proof (d, has, k, stop) =
      let whole = subst (IsProof g b) (content_once bytes c d s has.spelled) proof in
      let wins = moves_win g b d.head.kind d.moves k whole.moves in
      absurd (stopped_nowhere g b wins.0 d.moves step stop wins.1)
  none_left c NotHome s proof (d, has, k, (x, run, lost)) =
      let whole = subst (IsProof g b) (content_once bytes c d s has.spelled) proof in
      let wins = moves_win g b d.head.kind d.moves k whole.moves in
      absurd (lost (subst IsWon (run_once g b wins.0 x d.moves wins.1 run) wins.2))
  none_left c StartOpen s proof (d, has, moves, wrong) =
      absurd (wrong (subst (IsProof g b) (content_once bytes c d s has.spelled) proof).start)
  none_left c (WonListed i) s proof (d, has, before, (row, there, won)) =
      let whole = subst (IsProof g b) (content_once bytes c d s has.content.spelled) proof in
      absurd ((whole.records i row (slice_get_within d.rows i row there) there).not_won won)
  none_left c (Open i) s proof (d, has, before, (row, there, lost, wrong)) =
      let whole = subst (IsProof g b) (content_once bytes c d s has.content.spelled) proof in
      absurd (wrong (whole.records i row (slice_get_within d.rows i row there) there).steps)
  none_left c Memory s proof p = refl

  pub certificate_clean : (claimed : Claim) (fault : CheckFault) → IsCertificate g b bytes claimed → IsCheckFault g b bytes fault → fault ≡ Memory
  certificate_clean claimed fault is p =
      let of : IsOfGame g is.content = record { code = is.game; cells = is.cells } in
      none_left is.content fault is.spelled (shows_proof g b is.content claimed is.spelled.content of is.shows) p

pub certificates_clean : CertificatesHaveNoFault
certificates_clean g b bytes claimed fault pb is p = certificate_clean g b bytes claimed fault is p

-- ---- one fault

-- how many questions are answered well before a fault comes
abbrev stage : CheckFault → ℕ
stage (Form f) = 0
stage OtherGame = 1
stage (NotAllowed step) = 2
stage NotHome = 3
stage StartOpen = 4
stage (WonListed i) = 5
stage (Open i) = 5
stage Memory = 0

most : (x : CheckFault) → stage x ≤ 5
most (Form f) = omega arith
most OtherGame = omega arith
most (NotAllowed step) = omega arith
most NotHome = omega arith
most StartOpen = omega arith
most (WonListed i) = omega arith
most (Open i) = omega arith
most Memory = omega arith

-- where the moves of a content that lists some lead
abbrev Leads : GameRules → Board → Content → Type 0
Leads g b c = c.head.kind ≢ kind.CannotWin → (x : Board) × Run g b c.moves x

module _ (g : GameRules) (b : Board) (bytes : List ℕ) where
  -- so a later fault leaves a content, one of the game, whose moves are allowed, and win, and whose start holds
  gives_content : (y : CheckFault) → 0 < stage y → IsCheckFault g b bytes y → (c : Content) × IsSpelled bytes c
  gives_content (Form f) lt q = absurd (omega (arith, lt))
  gives_content OtherGame lt (c, s, wrong) = (c, s)
  gives_content (NotAllowed step) lt (c, has, k, rest) = (c, has.spelled)
  gives_content NotHome lt (c, has, k, rest) = (c, has.spelled)
  gives_content StartOpen lt (c, has, k, rest) = (c, has.spelled)
  gives_content (WonListed i) lt (c, has, before, rest) = (c, has.content.spelled)
  gives_content (Open i) lt (c, has, before, rest) = (c, has.content.spelled)
  gives_content Memory lt q = absurd (omega (arith, lt))

  gives_game : (y : CheckFault) → 1 < stage y → IsCheckFault g b bytes y → (c : Content) × HasContent g bytes c
  gives_game (NotAllowed step) lt (c, has, k, stop) = (c, has)
  gives_game NotHome lt (c, has, k, lost) = (c, has)
  gives_game StartOpen lt (c, has, moves, wrong) = (c, has)
  gives_game (WonListed i) lt (c, has, before, rest) = (c, has.content)
  gives_game (Open i) lt (c, has, before, rest) = (c, has.content)
  gives_game y lt q = absurd (omega (arith, lt))

  leads : (c : Content) → MovesHold g b c.head.kind c.moves → Leads g b c
  leads c moves k = let wins = moves_win g b c.head.kind c.moves k moves in (wins.0, wins.1)

  gives_run : (y : CheckFault) → 2 < stage y → IsCheckFault g b bytes y → (c : Content) × HasContent g bytes c × Leads g b c
  gives_run NotHome lt (c, has, k, (x, run, lost)) = (c, has, λ same. (x, run))
  gives_run StartOpen lt (c, has, moves, wrong) = (c, has, leads c moves)
  gives_run (WonListed i) lt (c, has, before, rest) = (c, has.content, leads c has.moves)
  gives_run (Open i) lt (c, has, before, rest) = (c, has.content, leads c has.moves)
  gives_run y lt q = absurd (omega (arith, lt))

  gives_moves : (y : CheckFault) → 3 < stage y → IsCheckFault g b bytes y
      → (c : Content) × HasContent g bytes c × MovesHold g b c.head.kind c.moves
  gives_moves StartOpen lt (c, has, moves, wrong) = (c, has, moves)
  gives_moves (WonListed i) lt (c, has, before, rest) = (c, has.content, has.moves)
  gives_moves (Open i) lt (c, has, before, rest) = (c, has.content, has.moves)
  gives_moves y lt q = absurd (omega (arith, lt))

  gives_start : (y : CheckFault) → 4 < stage y → IsCheckFault g b bytes y → (c : Content) × HasStart g b bytes c
  gives_start (WonListed i) lt (c, has, before, rest) = (c, has)
  gives_start (Open i) lt (c, has, before, rest) = (c, has)
  gives_start y lt q = absurd (omega (arith, lt))

  -- and no earlier one
  no_earlier : (x y : CheckFault) → stage x < stage y → IsCheckFault g b bytes x → IsCheckFault g b bytes y → x ≢ Memory → ⊥
  no_earlier (Form f) y lt p q other = let c = gives_content y lt q in no_form_fault bytes c.0 f c.1 p
  no_earlier OtherGame y lt (d, s, wrong) q other =
      let c = gives_game y lt q in wrong (subst (IsOfGame g) (content_once bytes c.0 d c.1.spelled s) c.1.game)
  no_earlier (NotAllowed step) y lt (d, has, k, stop) q other =
      let c = gives_run y lt q in
      let run = subst (Leads g b) (content_once bytes c.0 d c.1.spelled has.spelled) c.2 k in
      stopped_nowhere g b run.0 d.moves step stop run.1
  no_earlier NotHome y lt (d, has, k, (x, run, lost)) q other =
      let c = gives_moves y lt q in
      let moves = subst (λ e. MovesHold g b e.head.kind e.moves) (content_once bytes c.0 d c.1.spelled has.spelled) c.2 in
      let wins = moves_win g b d.head.kind d.moves k moves in
      lost (subst IsWon (run_once g b wins.0 x d.moves wins.1 run) wins.2)
  no_earlier StartOpen y lt (d, has, moves, wrong) q other =
      let c = gives_start y lt q in
      wrong (subst (StartHolds g b) (content_once bytes c.0 d c.1.content.spelled has.spelled) c.1.start)
  no_earlier (WonListed i) y lt p q other = absurd (omega (arith, lt, most y))
  no_earlier (Open i) y lt p q other = absurd (omega (arith, lt, most y))
  no_earlier Memory y lt p q other = other refl

  -- two faults of records are of one record
  one_record : (c d : Content) (i j : ℕ) → HasStart g b bytes c → HasStart g b bytes d → IsBadRecord g c i → IsBadRecord g d j
      → (i ≡ j) × (d ≡ c)
  one_record c d i j s t p q =
      let same = content_once bytes d c t.content.spelled s.content.spelled in
      (bad_record_once g c i j p (subst (λ e. IsBadRecord g e j) same q), same)

  won_and_open : (i j : ℕ) → IsCheckFault g b bytes (WonListed i) → IsCheckFault g b bytes (Open j) → ⊥
  won_and_open i j (c, s, before, (row, there, won)) (d, t, after, (other, at, lost, wrong)) =
      let one = one_record c d i j s t (record { before = before; row = row; there = there; bad = λ r. r.not_won won })
      (record { before = after; row = other; there = at; bad = λ r. wrong r.steps }) in
      let also : slice_get c.rows i ≡ Some other =
      subst (λ n. slice_get c.rows n ≡ Some other) (sym one.0) (subst (λ e. slice_get e.rows j ≡ Some other) one.1 at) in
      lost (subst (λ r. IsWon (board_of_bytes r.0)) (same_Some row other (sym there ∙ also)) won)

  same_stage : (x y : CheckFault) → stage x ≡ stage y → IsCheckFault g b bytes x → IsCheckFault g b bytes y → x ≢ Memory → y ≢ Memory → x ≡ y
  same_stage (Form f) (Form h) e p q one two = ap Form (form_fault_once bytes f h p q)
  same_stage OtherGame OtherGame e p q one two = refl
  same_stage (NotAllowed n) (NotAllowed m) e (c, has, k, stop) (d, had, l, also) one two =
      let same = content_once bytes d c had.spelled has.spelled in
      ap NotAllowed (stopped_once g b c.moves n m stop (subst (λ e. IsStopped g b e.moves m) same also))
  same_stage NotHome NotHome e p q one two = refl
  same_stage StartOpen StartOpen e p q one two = refl
  same_stage (WonListed i) (WonListed j) e (c, s, before, (row, there, won)) (d, t, after, (other, at, also)) one two =
      ap WonListed (one_record c d i j s t (record { before = before; row = row; there = there; bad = λ r. r.not_won won })
      (record { before = after; row = other; there = at; bad = λ r. r.not_won also })).0
  same_stage (Open i) (Open j) e (c, s, before, (row, there, lost, wrong)) (d, t, after, (other, at, off, also)) one two =
      ap Open (one_record c d i j s t (record { before = before; row = row; there = there; bad = λ r. wrong r.steps })
      (record { before = after; row = other; there = at; bad = λ r. also r.steps })).0
  same_stage (WonListed i) (Open j) e p q one two = absurd (won_and_open i j p q)
  same_stage (Open i) (WonListed j) e p q one two = absurd (won_and_open j i q p)
  same_stage Memory y e p q one two = absurd (one refl)
  same_stage x Memory e p q one two = absurd (two refl)
  same_stage x y e p q one two = absurd (omega (arith, e))

pub faults_once : FaultsAreOne
faults_once g b bytes x y pb p q one two =
    ⊎_elim (λ lt. absurd (no_earlier g b bytes x y lt p q one))
    (λ le. ⊎_elim (λ gt. absurd (no_earlier g b bytes y x gt q p two))
    (λ ge. same_stage g b bytes x y (omega (arith, le, ge)) p q one two) (cases_lt (stage y) (stage x)))
    (cases_lt (stage x) (stage y))

-- ---- accepted exactly where the bytes are a certificate

module _ (g : GameRules) (b : Board) (bytes : List ℕ) (claimed : Claim) where
  -- a right answer is the claim of which the bytes are a certificate, or want of memory
  pub exactly : (r : Result Claim CheckFault) → IfOk r (IsCertificate g b bytes) → IfErr r (IsCheckFault g b bytes)
      → IsCertificate g b bytes claimed → (r ≡ Ok claimed) ⊎ (r ≡ Err Memory)
  exactly (Ok other) accepted fault is = inl (ap Ok (claims_once g b bytes other claimed accepted is))
  exactly (Err f) accepted fault is = inr (ap Err (certificate_clean g b bytes claimed f is fault))

  pub exactly_passed : (r : Result Claim CheckFault) (f : CheckFault) → IsErrAnd r (λ e. e ≡ f) → IsCheckFault g b bytes f
      → IsCertificate g b bytes claimed → (r ≡ Ok claimed) ⊎ (r ≡ Err Memory)
  exactly_passed (Ok other) f passed fault is = absurd passed
  exactly_passed (Err h) f passed fault is = inr (ap Err (passed ∙ certificate_clean g b bytes claimed f is fault))
