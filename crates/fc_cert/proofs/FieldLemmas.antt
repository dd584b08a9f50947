-- Fields: what n bytes say, and how reading goes on behind them.
use Rattle.std.proofs.Common.{◌≡◌, ℕ, ◌<◌, ◌≤◌, ◌^◌, List, [], ◌∷◌, ◌++◌, length, take, drop, get_or, Result, Ok, Err, refl, sym, ◌∙◌, ap, subst, arith}
use Rattle.std.specs.Prelude.{IfErr}
use Rattle.std.specs.Result.{IsErrAnd}
use Rattle.std.specs.Int.{w32, from_be_bytes}
use Rattle.std.proofs.lemmas.List.{take-append-drop, length-take-le, get_or-take, get_or_past}
use Rattle.std.proofs.lemmas.Nat.{be_bytes_4}
use Rattle.std.proofs.lemmas.Bool.{cases_lt}
use Rattle.std.proofs.Common.{inl, ⊎_elim}
use Rattle.fc_cert.specs.declared.faults.CertFault.{CertFault}
use Rattle.fc_cert.specs.declared.faults.CertFault.TheVariants.{Short}
use Rattle.fc_cert.specs.Content.{four_bytes}
use Rattle.fc_cert.specs.Reading.{Field, Then, SaysByte, IsAny}

module _ {A B : Type 0} where
  -- a step that came to a value came to one of its field, and went on behind it
  pub step_ok : (P : Result (A × List ℕ) CertFault → Type 0) (Next : A → List ℕ → Result B CertFault → Type 0) (y : B)
      → (first : Result (A × List ℕ) CertFault) × P first × Then first Next (Ok y)
      → (v : A) × (rest : List ℕ) × P (Ok (v, rest)) × Next v rest (Ok y)
  step_ok P Next y (Ok (v, rest), p, n) = (v, rest, p, n)
  step_ok P Next y (Err f, p, n) = absurd cc

  -- steps whose fields come to one end, and that go on to one end, come to one
  pub step_once : (P : Result (A × List ℕ) CertFault → Type 0) (Next : A → List ℕ → Result B CertFault → Type 0)
      (a b : Result B CertFault) → ((x y : Result (A × List ℕ) CertFault) → P x → P y → x ≡ y)
      → ((v : A) (rest : List ℕ) → Next v rest a → Next v rest b → a ≡ b)
      → (first : Result (A × List ℕ) CertFault) × P first × Then first Next a
      → (first : Result (A × List ℕ) CertFault) × P first × Then first Next b → a ≡ b
  step_once P Next a b once on (x, p, m) (y, q, n) =
      by x m (subst (λ z. Then z Next b) (sym (once x y p q)) n)
    where
      by : (x : Result (A × List ℕ) CertFault) → Then x Next a → Then x Next b → a ≡ b
      by (Ok (v, rest)) m n = on v rest m n
      by (Err f) m n = m ∙ sym n

module _ {A : Type 0} where
  -- each end of the one reading is an end of the other
  pub record LeadsTo (From To : Result (A × List ℕ) CertFault → Type 0) : Type 0 where
    pub read : (x : A) (rest : List ℕ) → From (Ok (x, rest)) → (y : A) × To (Ok (y, rest))
    pub fault : (f : CertFault) → From (Err f) → To (Err f)

  pub leads_on : (P Q R : Result (A × List ℕ) CertFault → Type 0) → LeadsTo P Q → LeadsTo Q R → LeadsTo P R
  leads_on P Q R p q = record {
    read = λ x rest r. let y = p.read x rest r in q.read y.0 rest y.1;
    fault = λ f r. q.fault f (p.fault f r);
  }

  pub leads_same : (P : Result (A × List ℕ) CertFault → Type 0) → LeadsTo P P
  leads_same P = record { read = λ x rest r. (x, r); fault = λ f r. r }

-- four bytes say the number that they spell
pub number_said : (bytes here rest : List ℕ) (n : ℕ) → here ≡ take 4 bytes → rest ≡ drop 4 bytes → 4 ≤ length bytes
    → ((i : ℕ) → get_or bytes i 0 < 256) → n ≡ from_be_bytes w32 here → (bytes ≡ four_bytes n ++ rest) × (n < 2 ^ 32)
number_said bytes here rest n front back long small e =
    let four : length here ≡ 4 = ap length front ∙ length-take-le 4 bytes long in
    let bytes_small : (i : ℕ) → get_or here i 0 < 256 = λ i. subst (λ l. get_or l i 0 < 256) (sym front)
    (⊎_elim (λ lt. subst (λ x. x < 256) (sym (get_or-take 4 bytes i 0 lt)) (small i))
    (λ le. subst (λ x. x < 256) (sym (get_or_past (take 4 bytes) i 0 (omega (arith, le, length-take-le 4 bytes long)))) (omega arith))
    (cases_lt i 4)) in (
      sym (take-append-drop 4 bytes) ∙ ap (λ l. l ++ drop 4 bytes) (sym front)
          ∙ ap (λ l. here ++ l) (sym back) ∙ ap (λ l. l ++ rest) (sym (be_bytes_4 here n four bytes_small e)),
      omega (arith, e, bytes_small 0, bytes_small 1, bytes_small 2, bytes_small 3),
    )

-- the exit of a `?` returns the fault that it met
pub passed_on : {T : Type 0} (P : CertFault → Type 0) (r : Result T CertFault) (f : CertFault)
    → IsErrAnd r (λ e. e ≡ f) → P f → IfErr r P
passed_on P (Ok x) f is p = tt
passed_on P (Err e) f is p = subst P (sym is) p

-- a byte that is there says itself
pub any_byte : (bytes rest : List ℕ) (n : ℕ) → bytes ≡ n ∷ rest → n < 256 → Field 1 (SaysByte IsAny) Short bytes (Ok (n, rest))
any_byte bytes rest n e small = (n ∷ [], refl, e, (refl, small))

pub no_byte : (bytes : List ℕ) (f : CertFault) → bytes ≡ [] → f ≡ Short → Field 1 (SaysByte IsAny) Short bytes (Err f)
no_byte bytes f e short = inl (omega (arith, ap length e), short)
