-- From a draft of all lines to a position.
use Rattle.std.proofs.Common.{◌≡◌, ℕ, zero, suc, ◌+◌, ◌≤◌, ◌<◌, Option, Some, None, Result, Ok, Err, List, [], ◌∷◌, length, map, get_or, sym, ◌∙◌, ap, subst, arith}
use Rattle.std.specs.Prelude.{All, IfOk, IfErr, IfSome, slice_get, slice_index, replicate}
use Rattle.std.specs.List.{AllZip}
use Rattle.std.proofs.lemmas.List.{ext_get_or, length-map, take_all}
use Rattle.std.proofs.lemmas.Option.{slice_get-get_or}
use Rattle.fc_position.specs.Board.{Board, board_of, column, cell, places, count_at_home}
use Rattle.fc_position.specs.Position.{IsPosition}
use Rattle.fc_position.specs.Tally.{Adds, AllCards, IsFaultOf, EachOnce}
use Rattle.fc_position.specs.inner.Tally.{IsOfCards}
use Rattle.fc_position.specs.declared.faults.PartsFault.{PartsFault}
use Rattle.fc_position.proofs.TallyLemmas.{adds_more, adds_same, fault-tally, position-tally}
use Rattle.fc_position.proofs.BoardLemmas.{column_most}
use Rattle.fc_text.specs.declared.drafts.Draft.{Draft}
use Rattle.fc_text.specs.declared.lines.LineKind.TheVariants.{Freecells, Column}
use Rattle.fc_text.specs.Line.{Line}
use Rattle.fc_text.specs.Spelling.{SpellsBoard, SpellsCard, SpellsCellAt, tokens_at}
use Rattle.fc_text.specs.inner.Draft.{IsDraftOf, dealt_places}

-- inside a list the default doesn't matter
get_or-any : {A : Type 0} (xs : List A) (i : ℕ) (d e : A) → i < length xs → get_or xs i d ≡ get_or xs i e
get_or-any xs i d e below = cc (slice_get-get_or xs i d below, slice_get-get_or xs i e below)

-- what is spelled are cards
all_cards : (tokens : List (List ℕ)) (cards : List ℕ) → AllZip SpellsCard tokens cards → AllCards cards
all_cards [] [] zip k d below = absurd (omega (arith, below))
all_cards [] (c ∷ cs) zip k d below = absurd zip
all_cards (t ∷ ts) [] zip k d below = absurd zip
all_cards (t ∷ ts) (c ∷ cs) zip zero d below = zip.0.below
all_cards (t ∷ ts) (c ∷ cs) zip (suc k) d below = all_cards ts cs zip.1 k d (omega (arith, below))

cell_card : (r : Option (List ℕ)) (held : Option ℕ) → SpellsCellAt r held → IfSome held (λ c. c < 52)
cell_card None held none = subst (λ h. IfSome h (λ c. c < 52)) (sym none) tt
cell_card (Some token) None spelled = tt
cell_card (Some token) (Some c) spelled = spelled.below

of_cards : (lines : List Line) (b : Board) → SpellsBoard lines b → IsOfCards b
of_cards lines b old = record {
  columns = λ i d below. let inside : i < 8 = omega (arith, below, old.shape.columns) in
      subst AllCards (get_or-any b.columns i [] d below) (all_cards (tokens_at lines Column i) (column b i) (old.columns i inside));
  cells = λ i d below. let inside : i < 4 = omega (arith, below, old.shape.cells) in
      subst (λ h. IfSome h (λ c. c < 52)) (get_or-any b.cells i None d below)
      (cell_card (slice_get (tokens_at lines Freecells 0) i) (cell b i) (old.cells i inside));
}

-- the tally of a draft and of what is home
all_counted : (lines : List Line) (d : Draft) (new : List ℕ) (old : IsDraftOf lines d) → Adds (λ c. count_at_home c d.homes) d.tally new
    → Adds (places old.board) (replicate 52 0) new
all_counted lines d new old counted =
    adds_same (λ c. dealt_places old.board c + count_at_home c d.homes) (places old.board) (replicate 52 0) new
    (λ c _. ap (λ homes. dealt_places old.board c + count_at_home c homes) (sym old.homes))
    (adds_more (dealt_places old.board) (λ c. count_at_home c d.homes) (replicate 52 0) d.tally new old.tally counted)

-- a fault of that tally is one of the board
pub spelled_fault : (lines : List Line) (d : Draft) (new : List ℕ) (fault : PartsFault) → IsDraftOf lines d
    → Adds (λ c. count_at_home c d.homes) d.tally new → IsFaultOf (slice_index new) fault
    → (b : Board) × SpellsBoard lines b × IsFaultOf (places b) fault
spelled_fault lines d new fault old counted here =
    (old.board, old.spelled, fault-tally (places old.board) new (all_counted lines d new old counted) fault here)

abbrev pub parted : List (List ℕ) → List (Option ℕ) → List ℕ → Board
parted columns cells homes = record { columns = columns; cells = cells; homes = homes }

-- a draft without a fault keeps all cards
pub whole_board : (lines : List Line) (d : Draft) (new : List ℕ) (old : IsDraftOf lines d)
    → Adds (λ c. count_at_home c d.homes) d.tally new → EachOnce (slice_index new)
    → IsPosition old.board × (board_of d.columns d.cells d.homes ≡ old.board)
whole_board lines d new old counted once =
    let b = old.board in
    let p : IsPosition b = position-tally b new old.spelled.shape (subst (All (λ n. n ≤ 13)) (sym old.homes) old.most)
    (of_cards lines b old.spelled) (all_counted lines d new old counted) once in
    let same : map (λ v. v.items) d.columns ≡ b.columns =
    ext_get_or [] (map (λ v. v.items) d.columns) b.columns
    (length-map d.columns (λ v. v.items) ∙ old.eight ∙ sym old.spelled.shape.columns)
    (λ i below. let inside : i < 8 = omega (arith, below, length-map d.columns (λ v. v.items), old.eight) in
    old.kept i inside ∙ take_all 52 (column b i) (column_most b i [] p (omega (arith, inside, p.columns)))) in (
      p,
      ap (λ columns. parted columns d.cells d.homes) same ∙ ap (λ cells. parted b.columns cells d.homes) (sym old.cells)
          ∙ ap (λ homes. parted b.columns b.cells homes) (sym old.homes),
    )

pub spelled_position : (lines : List Line) (d : Draft) (new : List ℕ) (p : Board) → IsDraftOf lines d
    → Adds (λ c. count_at_home c d.homes) d.tally new → EachOnce (slice_index new)
    → p ≡ board_of d.columns d.cells d.homes → SpellsBoard lines p
spelled_position lines d new p old counted once same =
    subst (SpellsBoard lines) (sym (same ∙ (whole_board lines d new old counted once).1)) old.spelled

pub parts_fault : (lines : List Line) (d : Draft) (new : List ℕ) (fault : PartsFault) → IsDraftOf lines d
    → Adds (λ c. count_at_home c d.homes) d.tally new → EachOnce (slice_index new)
    → IsFaultOf (places (board_of d.columns d.cells d.homes)) fault → (b : Board) × SpellsBoard lines b × IsFaultOf (places b) fault
parts_fault lines d new fault old counted once here =
    (old.board, old.spelled, subst (λ b. IsFaultOf (places b) fault) (whole_board lines d new old counted once).1 here)

-- what an `Ok` or an `Err` holds, said in another way
pub map_ok : {A E : Type 0} (P Q : A → Type 0) (r : Result A E) → IfOk r P → ((x : A) → P x → Q x) → IfOk r Q
map_ok P Q (Ok x) p f = f x p
map_ok P Q (Err e) p f = p

pub map_err : {A E : Type 0} (P Q : E → Type 0) (r : Result A E) → IfErr r P → ((e : E) → P e → Q e) → IfErr r Q
map_err P Q (Ok x) p f = p
map_err P Q (Err e) p f = f e p
