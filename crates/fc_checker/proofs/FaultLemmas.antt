-- Each fault has a cause, which nothing that stands after it leaves.
use Rattle.std.proofs.Common.{◌≡◌, ◌≢◌, ℕ, zero, suc, ◌+◌, ◌<◌, Some, Result, Ok, Err, List, [], ◌∷◌, length, take, refl, sym, subst, ⊎_elim, arith}
use Rattle.std.specs.Prelude.{slice_get, IfErr, IsErrAnd}
use Rattle.std.proofs.lemmas.Bool.{cases_lt}
use Rattle.std.proofs.lemmas.List.{take_all}
use Rattle.std.proofs.lemmas.Option.{slice_get_within}
use Rattle.fc_position.specs.Board.{Board}
use Rattle.fc_moves.specs.declared.steps.Move.{Move}
use Rattle.fc_moves.specs.GameRules.{GameRules}
use Rattle.fc_moves.specs.Run.{Run, Wins}
use Rattle.fc_moves.specs.Step.{Allows, Step}
use Rattle.fc_moves.proofs.StepLemmas.{step_once}
use Rattle.fc_cert.specs.declared.faults.CertFault.{CertFault}
use Rattle.fc_cert.specs.declared.faults.CertFault.TheVariants as form
use Rattle.fc_cert.specs.declared.contents.Kind.{Kind}
use Rattle.fc_cert.specs.declared.contents.Kind.TheVariants.{Shortest, CannotWin, Between}
use Rattle.fc_cert.specs.Content.{Content, IsSpelled}
use Rattle.fc_cert.specs.Reading.{IsFormFault, IsReadFault}
use Rattle.fc_cert.proofs.LawLemmas.{spelled_read}
use Rattle.fc_cert.proofs.OnceLemmas.{reading_once}
use Rattle.fc_checker.specs.Check.{IsStopped, MovesHold, RecordHolds, RecordsHold}

-- reading gave a content, or a fault
abbrev as_ok : Content → Result Content CertFault
as_ok c = Ok c

abbrev as_fault : CertFault → Result Content CertFault
as_fault f = Err f

-- bytes have one content, or one fault of their form, and not both
pub content_once : (bytes : List ℕ) (c d : Content) → IsSpelled bytes c → IsSpelled bytes d → c ≡ d
content_once bytes c d s t =
    let same = reading_once bytes (as_ok c) (as_ok d) (spelled_read bytes c s) (spelled_read bytes d t) in cc

pub form_fault_once : (bytes : List ℕ) (f h : CertFault) → IsFormFault bytes f → IsFormFault bytes h → f ≡ h
form_fault_once bytes f h p q = let same = reading_once bytes (as_fault f) (as_fault h) p q in cc

pub no_form_fault : (bytes : List ℕ) (c : Content) (f : CertFault) → IsSpelled bytes c → IsFormFault bytes f → ⊥
no_form_fault bytes c f s p = let same = reading_once bytes (as_ok c) (as_fault f) (spelled_read bytes c s) p in absurd cc

-- why nothing was read, but for want of memory, is the fault of the form
pub form_fault : (bytes : List ℕ) (f : CertFault) → (f ≡ form.Memory → ⊥) → IsReadFault bytes f → IsFormFault bytes f
form_fault bytes form.Memory other fault = absurd (other refl)
form_fault bytes f other fault = fault

-- in each kind that lists moves, they win exactly where what is asked of them holds
pub moves_win : (g : GameRules) (b : Board) (kind : Kind) (moves : List Move) → kind ≢ CannotWin → MovesHold g b kind moves → Wins g b moves
moves_win g b Shortest moves other holds = holds
moves_win g b CannotWin moves other holds = absurd (other refl)
moves_win g b Between moves other holds = holds

-- of a run, each move is allowed where those before it lead
run_allows : (g : GameRules) (b x y : Board) (moves : List Move) (n k : ℕ) (m : Move) → n < k → Run g b (take k moves) x
    → Run g b (take n moves) y → slice_get moves n ≡ Some m → Allows g y m
run_allows g b x y [] n k m lt run led there = absurd (cc (there))
run_allows g b x y (h ∷ moves) n zero m lt run led there = absurd (omega (arith, lt))
run_allows g b x y (h ∷ moves) zero (suc k) m lt (mid, step, rest) led there =
    let same : h ≡ m = cc in
    subst (λ z. Allows g z m) (sym led) (subst (Allows g b) same (mid, step))
run_allows g b x y (h ∷ moves) (suc n) (suc k) m lt (mid, step, rest) (other, also, end) there =
    run_allows g mid x y moves n k m (omega (arith, lt)) rest
    (subst (λ z. Run g z (take n moves) y) (step_once g b h other mid also step) end) there

-- so a list that is stopped leads nowhere, and is stopped at one step
pub stopped_nowhere : (g : GameRules) (b x : Board) (moves : List Move) (step : ℕ) → IsStopped g b moves step → Run g b moves x → ⊥
stopped_nowhere g b x moves step s run =
    s.refused (run_allows g b x s.board moves s.before (length moves) s.next (slice_get_within moves s.before s.next s.there)
    (subst (λ l. Run g b l x) (sym (take_all (length moves) moves (omega arith))) run) s.led s.there)

stopped_before : (g : GameRules) (b : Board) (moves : List Move) (step other : ℕ) (s : IsStopped g b moves step)
    (t : IsStopped g b moves other) → s.before < t.before → ⊥
stopped_before g b moves step other s t lt =
    s.refused (run_allows g b t.board s.board moves s.before t.before s.next lt t.led s.led s.there)

pub stopped_once : (g : GameRules) (b : Board) (moves : List Move) (step other : ℕ) → IsStopped g b moves step
    → IsStopped g b moves other → step ≡ other
stopped_once g b moves step other s t =
    ⊎_elim (λ lt. absurd (stopped_before g b moves step other s t lt))
    (λ le. ⊎_elim (λ gt. absurd (stopped_before g b moves other step t s gt))
    (λ ge. let one = s.number in let two = t.number in omega (arith, le, ge, one, two))
    (cases_lt t.before s.before)) (cases_lt s.before t.before)

-- a record of the content doesn't hold, those before it holding
pub record IsBadRecord (g : GameRules) (c : Content) (i : ℕ) : Type 0 where
  pub before : RecordsHold g c i
  pub row : List ℕ × ℕ
  pub there : slice_get c.rows i ≡ Some row
  pub bad : RecordHolds g c row → ⊥

pub bad_record_once : (g : GameRules) (c : Content) (i j : ℕ) → IsBadRecord g c i → IsBadRecord g c j → i ≡ j
bad_record_once g c i j p q =
    ⊎_elim (λ lt. absurd (p.bad (q.before i p.row lt p.there)))
    (λ le. ⊎_elim (λ gt. absurd (q.bad (p.before j q.row gt q.there))) (λ ge. omega (arith, le, ge)) (cases_lt j i))
    (cases_lt i j)

-- a run goes on with the next move
pub run_more : (g : GameRules) (b x y : Board) (moves : List Move) (i : ℕ) (m : Move) → Run g b (take i moves) x
    → slice_get moves i ≡ Some m → Step g x m y → Run g b (take (i + 1) moves) y
run_more g b x y [] i m run there step = absurd (cc (there))
run_more g b x y (h ∷ moves) zero m run there step =
    let same : m ≡ h = cc in
    (y, subst (λ n. Step g b n y) same (subst (λ z. Step g z m y) run step), refl)
run_more g b x y (h ∷ moves) (suc i) m (mid, first, rest) there step =
    let one : suc (i + 1) ≡ suc i + 1 = omega arith in
    subst (λ n. Run g b (take n (h ∷ moves)) y) one (mid, first, run_more g mid x y moves i m rest there step)

-- the exit of a `?` returns the fault that it met
pub passed_on : {T E : Type 0} (P : E → Type 0) (r : Result T E) (f : E) → IsErrAnd r (λ e. e ≡ f) → P f → IfErr r P
passed_on P (Ok x) f is p = tt
passed_on P (Err e) f is p = subst P (sym is) p
