-- A draft before any line.
use Rattle.std.proofs.Common.{◌≡◌, ℕ, ◌+◌, ◌≤◌, ◌<◌, None, Bool, false, List, [], ◌∷◌, length, take, min, inr, refl, sym, ◌∙◌, ap, subst, arith}
use Rattle.std.specs.Prelude.{◌↔◌, IsTrue, All, slice_index, replicate}
use Rattle.std.specs.List.{AllZip}
use Rattle.std.proofs.lemmas.List.{length-map, get_or-replicate}
use Rattle.std.proofs.lemmas.List.Elements.{All-map}
use Rattle.fc_position.specs.Board.{Board, column}
use Rattle.fc_text.specs.declared.drafts.Draft.{Draft}
use Rattle.fc_text.specs.Spelling.{SpellsBoard, SpellsCard}
use Rattle.fc_text.specs.inner.Draft.{IsDraftOf, dealt_places}

abbrev pub empty_board : Board
empty_board = record {
  columns = [] ∷ [] ∷ [] ∷ [] ∷ [] ∷ [] ∷ [] ∷ [] ∷ [];
  cells = None ∷ None ∷ None ∷ None ∷ [];
  homes = 0 ∷ 0 ∷ 0 ∷ 0 ∷ [];
}

no_cards : (i : ℕ) → i < 8 → column empty_board i ≡ []
no_cards i below = get_or-replicate 8 i [] [] below

empty_spelled : SpellsBoard [] empty_board
empty_spelled = record {
  shape = record { columns = refl; cells = refl; homes = refl };
  columns = λ i below. subst (λ cards. AllZip SpellsCard [] cards) (sym (no_cards i below)) tt;
  cells = λ i below. get_or-replicate 4 i None None below;
  homes = λ s below. inr ((λ token m member _. omega (arith, member.1)), get_or-replicate 4 s 0 0 below);
}

told : (b : Bool) → b ≡ false → IsTrue b ↔ (0 < 0)
told b no' = ((λ yes'. absurd (cc (no', yes'))), (λ lt. absurd (omega (arith, lt))))

none_home : (homes : List ℕ) → homes ≡ 0 ∷ 0 ∷ 0 ∷ 0 ∷ [] → All (λ n. n ≤ 13) homes
none_home homes same = subst (All (λ n. n ≤ 13)) (sym same) (λ i d below. rw (get_or-replicate 4 i 0 d below) (omega arith))

pub empty_draft : (d : Draft) → length d.columns ≡ 8 → All (λ v. v.items ≡ []) d.columns → d.column_count ≡ 0
    → d.cells ≡ None ∷ None ∷ None ∷ None ∷ [] → d.has_cells ≡ false → d.homes ≡ 0 ∷ 0 ∷ 0 ∷ 0 ∷ [] → d.has_homes ≡ false
    → d.tally ≡ replicate 52 0 → IsDraftOf [] d
empty_draft d eight empty none cells no_cells' homes no_homes tally = record {
  board = empty_board;
  spelled = empty_spelled;
  kept = λ i below. All-map (λ cards. cards ≡ []) (λ v. v.items) d.columns empty i [] (rw (length-map d.columns (λ v. v.items)) (omega (arith, eight, below)))
      ∙ sym (ap (take 52) (no_cards i below));
  eight = eight;
  column_count = none;
  cells = sym cells;
  has_cells = told d.has_cells no_cells';
  homes = sym homes;
  most = none_home d.homes homes;
  has_homes = told d.has_homes no_homes;
  tally = λ c below. ap (λ t. slice_index t c) tally ∙ get_or-replicate 52 c 0 0 below
      ∙ sym (ap (λ n. min (n + dealt_places empty_board c) 2) (get_or-replicate 52 c 0 0 below));
}
