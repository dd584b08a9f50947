-- The entries of a text, line by line.
use Rattle.std.proofs.Common.{◌≡◌, ◌∙◌, ◌↔◌, inl, inr, ℕ, ◌+◌, ◌<◌, Bool, true, false, cond, Option, Some, None, Result, Ok, Err, IsTrue, List, [], ◌∷◌, ◌++◌, length, take, drop, map, refl, sym, subst, ap, arith, ⊎_elim, append_assoc}
use Rattle.std.specs.Prelude.{IfNone, IfOk, IfSome, MatchBool, OnOk, is_ok, is_some, position}
use Rattle.std.specs.List.{AllZip, enumerate_from, join_with_byte}
use Rattle.std.proofs.lemmas.List.Splits.{length-slice_split}
use Rattle.fc_text.specs.Line.{is_line_end}
use Rattle.fc_replay.specs.Token.{move_tokens}
use Rattle.fc_lists.specs.Alone.{AreOnLines, AreSaid, AreWorded, IsSaid, IsWorded, begins_saying, letters_alone, letters_at, text_lines}
use Rattle.fc_lists.specs.Told.{TellsEntry}
use Rattle.fc_lists.specs.declared.letter_lines.LetterLines.{LetterLines}
use Rattle.fc_lists.specs.declared.told_entries.ToldEntry.{ToldEntry}
use Rattle.fc_lists.proofs.LineLemmas.{first_line, join-cons, one_line}

-- what follows from what a call answers
pub ok_on : {T E : Type 0} (r : Result T E) (P Q : T → Type 0) → ((x : T) → P x → Q x) → IfOk r P → IfOk r Q
ok_on (Ok x) P Q on p = on x p
ok_on (Err e) P Q on p = tt

-- what was appended, where it was
pub pushed_by : {T E : Type 0} (P : List ℕ → Type 0) (r : Result T E) (old new out : List ℕ) → P out → new ≡ cond (is_ok r) (old ++ out) old
    → OnOk r ((x : List ℕ) × P x × (new ≡ old ++ x))
pushed_by P (Ok done) old new out p is = (out, p, is)
pushed_by P (Err e) old new out p is = tt

pub pushed_as : {T E : Type 0} (P : List ℕ → Type 0) (r : Result T E) (old new out : List ℕ) → P out → OnOk r (new ≡ old ++ out)
    → OnOk r ((x : List ℕ) × P x × (new ≡ old ++ x))
pushed_as P (Ok done) old new out p is = (out, p, is)
pushed_as P (Err e) old new out p is = tt

-- a line that begins as a saying decides
module _ (line : List ℕ) (lines : List (List ℕ)) where
  said_first : begins_saying line ≡ true → IsSaid line ↔ AreSaid (line ∷ lines)
  said_first is = subst (λ b. IsSaid line ↔ MatchBool b (IsSaid line) (AreSaid lines)) (sym is) (λ s. s, λ s. s)

  -- and another doesn't
  said_other : begins_saying line ≡ false → AreSaid lines ↔ AreSaid (line ∷ lines)
  said_other is = subst (λ b. AreSaid lines ↔ MatchBool b (IsSaid line) (AreSaid lines)) (sym is) (λ s. s, λ s. s)

module _ (text rest : List ℕ) (so : AreSaid (text_lines rest) ↔ AreSaid (text_lines text)) where
  said_cut : (ls : List (List ℕ)) → text_lines rest ≡ ls → AreSaid ls ↔ AreSaid (text_lines text)
  said_cut ls cut = subst (λ l. AreSaid l ↔ AreSaid (text_lines text)) cut so

  pub said_here : (r : Bool) (len : ℕ) → position is_line_end rest ≡ Some len → begins_saying (take len rest) ≡ true → (IsTrue r ↔ IsSaid (take len rest))
      → IsTrue r ↔ AreSaid (text_lines text)
  said_here r len found is says =
      let others = text_lines (drop (len + 1) rest) in
      let on = said_cut (take len rest ∷ others) (first_line rest (drop (len + 1) rest) len found refl) in
      let here = said_first (take len rest) others is in
      (λ t. on.0 (here.0 (says.0 t)), λ a. says.1 (here.1 (on.1 a)))

  pub said_next : (after : List ℕ) (len : ℕ) → position is_line_end rest ≡ Some len → after ≡ drop (len + 1) rest → begins_saying (take len rest) ≡ false
      → AreSaid (text_lines after) ↔ AreSaid (text_lines text)
  said_next after len found cut is =
      let on = said_cut (take len rest ∷ text_lines after) (first_line rest after len found cut) in
      let past = said_other (take len rest) (text_lines after) is in
      (λ a. on.0 (past.0 a), λ a. past.1 (on.1 a))

  pub said_last : (r : Bool) → position is_line_end rest ≡ None → begins_saying rest ≡ true → (IsTrue r ↔ IsSaid rest) → IsTrue r ↔ AreSaid (text_lines text)
  said_last r none is says =
      let on = said_cut (rest ∷ []) (one_line rest none) in
      let here = said_first rest [] is in
      (λ t. on.0 (here.0 (says.0 t)), λ a. says.1 (here.1 (on.1 a)))

  pub said_none : (r : Bool) → position is_line_end rest ≡ None → begins_saying rest ≡ false → r ≡ false → IsTrue r ↔ AreSaid (text_lines text)
  said_none r none is other =
      let on = said_cut (rest ∷ []) (one_line rest none) in
      let past = said_other rest [] is in
      (λ t. absurd (cc (t, other)), λ a. absurd (past.1 (on.1 a)))

-- whether a line tells an entry in words
pub some_worded : (line : List ℕ) (told : Option ToldEntry) (r : Bool) → r ≡ is_some told → IfSome told (TellsEntry (move_tokens line))
    → IfNone told ((t : ToldEntry) → TellsEntry (move_tokens line) t → ⊥) → IsTrue r ↔ IsWorded line
some_worded line None r is tells none = (λ t. absurd (cc (t, is)), λ w. absurd (none w.0 w.1))
some_worded line (Some told) r is tells none = (λ t. (told, tells), λ w. is)

module _ (text rest : List ℕ) (so : AreWorded (text_lines rest) ↔ AreWorded (text_lines text)) where
  worded_cut : (ls : List (List ℕ)) → text_lines rest ≡ ls → AreWorded ls ↔ AreWorded (text_lines text)
  worded_cut ls cut = subst (λ l. AreWorded l ↔ AreWorded (text_lines text)) cut so

  pub worded_here : (len : ℕ) → position is_line_end rest ≡ Some len → IsWorded (take len rest) → AreWorded (text_lines text)
  worded_here len found tells =
      let others = text_lines (drop (len + 1) rest) in
      (worded_cut (take len rest ∷ others) (first_line rest (drop (len + 1) rest) len found refl)).0 (inl tells)

  pub worded_next : (after : List ℕ) (len : ℕ) → position is_line_end rest ≡ Some len → after ≡ drop (len + 1) rest → (IsWorded (take len rest) → ⊥)
      → AreWorded (text_lines after) ↔ AreWorded (text_lines text)
  worded_next after len found cut none =
      let on = worded_cut (take len rest ∷ text_lines after) (first_line rest after len found cut) in
      (λ a. on.0 (inr a), λ a. ⊎_elim (λ here. absurd (none here)) (λ there. there) (on.1 a))

  pub worded_last : (r : Bool) → position is_line_end rest ≡ None → (IsTrue r ↔ IsWorded rest) → IsTrue r ↔ AreWorded (text_lines text)
  worded_last r none is =
      let on = worded_cut (rest ∷ []) (one_line rest none) in
      (λ t. on.0 (inl (is.0 t)), λ a. ⊎_elim (λ here. is.1 here) (λ there. absurd there) (on.1 a))

-- lists that are zipped are as long
zip_some : (R : List ℕ → List ℕ → Type 0) (lines own : List (List ℕ)) → 0 < length lines → AllZip R lines own → 0 < length own
zip_some R [] own some zip = absurd (omega (arith, some))
zip_some R (l ∷ ls) [] some zip = absurd zip
zip_some R (l ∷ ls) (o ∷ os) some zip = omega arith

-- a piece, an end of line, and more
glue_line : (done out mid new more : List ℕ) → mid ≡ done ++ out → new ≡ mid ++ 10 ∷ [] → done ++ (out ++ 10 ∷ more) ≡ new ++ more
glue_line done out mid new more pushed ended =
    sym (append_assoc done out (10 ∷ more)) ∙ ap (λ t. t ++ 10 ∷ more) (sym pushed) ∙ sym (append_assoc mid (10 ∷ []) more) ∙ ap (λ t. t ++ more) (sym ended)

module _ (R : List ℕ → List ℕ → Type 0) (text rest done : List ℕ) (so : (more : List ℕ) → AreOnLines R rest more → AreOnLines R text (done ++ more)) where
  -- the lines so far, once one more was made
  pub made_next : (after mid new : List ℕ) (len : ℕ) → position is_line_end rest ≡ Some len → after ≡ drop (len + 1) rest
      → (x : List ℕ) × R (take len rest) x × (mid ≡ done ++ x) → new ≡ mid ++ 10 ∷ []
      → (more : List ℕ) → AreOnLines R after more → AreOnLines R text (new ++ more)
  made_next after mid new len found cut (out, is, pushed) ended more (own, zip, same) =
      let some : 0 < length own = zip_some R (text_lines after) own (omega (arith, length-slice_split is_line_end after)) zip in
      let all : AreOnLines R rest (out ++ 10 ∷ more) = (
        out ∷ own,
        subst (λ ls. AllZip R ls (out ∷ own)) (sym (first_line rest after len found cut)) (is, zip),
        ap (λ t. out ++ 10 ∷ t) same ∙ sym (join-cons out own some),
      ) in
      subst (AreOnLines R text) (glue_line done out mid new more pushed ended) (so (out ++ 10 ∷ more) all)

  -- and once the last was made
  pub made_last : (new : List ℕ) → position is_line_end rest ≡ None → (x : List ℕ) × R rest x × (new ≡ done ++ x) → AreOnLines R text new
  made_last new none (out, is, pushed) =
      subst (AreOnLines R text) (sym pushed) (so out (out ∷ [], subst (λ ls. AllZip R ls (out ∷ [])) (sym (one_line rest none)) (is, tt), refl))

-- numbered lines are as many
numbered_some : (f : ℕ × List ℕ → List ℕ) (lines : List (List ℕ)) (n : ℕ) → 0 < length lines → 0 < length (map f (enumerate_from n lines))
numbered_some f [] n some = absurd (omega (arith, some))
numbered_some f (l ∷ ls) n some = omega arith

module _ (lines : LetterLines) (text rest done : List ℕ) (number : ℕ)
    (so : done ++ join_with_byte 10 (map (letters_at lines) (enumerate_from number (text_lines rest))) ≡ letters_alone lines text) where
  pub letters_next : (after mid new : List ℕ) (len : ℕ) → position is_line_end rest ≡ Some len → after ≡ drop (len + 1) rest
      → mid ≡ done ++ letters_at lines (number, take len rest) → new ≡ mid ++ 10 ∷ []
      → new ++ join_with_byte 10 (map (letters_at lines) (enumerate_from (number + 1) (text_lines after))) ≡ letters_alone lines text
  letters_next after mid new len found cut pushed ended =
      let out = letters_at lines (number, take len rest) in
      let others = map (letters_at lines) (enumerate_from (number + 1) (text_lines after)) in
      let some : 0 < length others = numbered_some (letters_at lines) (text_lines after) (number + 1) (omega (arith, length-slice_split is_line_end after)) in
      sym (glue_line done out mid new (join_with_byte 10 others) pushed ended)
      ∙ ap (λ t. done ++ t)
      (sym (ap (λ ls. join_with_byte 10 (map (letters_at lines) (enumerate_from number ls))) (first_line rest after len found cut) ∙ join-cons out others some))
      ∙ so

  pub letters_last : (new : List ℕ) → position is_line_end rest ≡ None → new ≡ done ++ letters_at lines (number, rest) → new ≡ letters_alone lines text
  letters_last new none pushed =
      pushed ∙ ap (λ t. done ++ t) (sym (ap (λ ls. join_with_byte 10 (map (letters_at lines) (enumerate_from number ls))) (one_line rest none))) ∙ so
