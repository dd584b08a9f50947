-- A move of one card to a column or a cell, made on all boards of a layer.
use Rattle.std.proofs.Common.{arith, ◌≡◌, ◌≢◌, ℕ, ◌+◌, ◌<◌, ◌≤◌, List, length, Some, refl, sym, ◌∙◌, ap, subst, ⊎_elim}
use Rattle.std.specs.Prelude.{slice_get, slice_set, get_or, All}
use Rattle.std.proofs.lemmas.Bool.{cases_lt}
use Rattle.std.proofs.lemmas.List.{length-set}
use Rattle.std.proofs.lemmas.List.Elements.{All-get_or}
use Rattle.std.proofs.lemmas.Option.{slice_get_within, slice_get_read, slice_get-get_or, get_or_from_slice_get}
use Rattle.fc_cards.specs.declared.places.Place.TheVariants.{Home}
use Rattle.fc_position.specs.Board.{Board, board_without, board_with}
use Rattle.fc_moves.specs.declared.steps.Move.{Move}
use Rattle.fc_moves.specs.GameRules.{GameRules, IsPositionOf}
use Rattle.fc_moves.specs.Step.{Allows, Step}
use Rattle.fc_moves.proofs.BackLemmas.{taken_back}
use Rattle.fc_moves.proofs.StepLemmas.{step_keeps, step_once}
use Rattle.fc_sequences.specs.declared.layers.Layer.TheVariants.{Stepped}
use Rattle.fc_sequences.specs.declared.pairs.Pair.{Pair}
use Rattle.fc_sequences.specs.inner.Layers.{AreStepped, IsLayer, IsNext, IsSingle}
use Rattle.fc_sequences.proofs.GetLemmas.{get_set_same, get_set_other}
use Rattle.fc_sequences.proofs.GrowLemmas.{contains_at}

-- the board of a place is as it was
still_there : (g : GameRules) (m : Move) (before boards : List Board) (place : ℕ) (b : Board) → AreStepped g m before boards place → place < length boards
    → b ≡ get_or boards place b → slice_get before place ≡ Some b
still_there g m before boards place b stepped within is =
    sym (stepped.kept place (omega arith)) ∙ slice_get_read boards (length boards) place b refl within is

-- the move is allowed on the next board
pub allowed_there : (g : GameRules) (m : Move) (before boards : List Board) (place : ℕ) (b : Board) → AreStepped g m before boards place → place < length boards
    → b ≡ get_or boards place b → All (λ x. Allows g x m) before → Allows g b m
allowed_there g m before boards place b stepped within is allowed =
    let from = still_there g m before boards place b stepped within is in
    subst (λ x. Allows g x m) (get_or_from_slice_get before place b b from)
    (All-get_or (λ x. Allows g x m) before place b (slice_get_within before place b from) allowed)

-- and is made on it
pub stepped_more : (g : GameRules) (m : Move) (before boards : List Board) (place : ℕ) (b c : Board) → AreStepped g m before boards place → place < length boards
    → b ≡ get_or boards place b → Step g b m c → AreStepped g m before (slice_set boards place c) (place + 1)
stepped_more g m before boards place b c stepped within is step =
    let from = still_there g m before boards place b stepped within is in
    record {
      long = length-set boards place c ∙ stepped.long;
      made = λ i x y below first last. ⊎_elim
          (λ less. stepped.made i x y less first (sym (get_set_other boards place i c (λ same. omega (arith, same, less))) ∙ last))
          (λ most.
          let at : i ≡ place = omega arith in
          let old : b ≡ x = cc (sym from ∙ ap (slice_get before) (sym at) ∙ first) in
          let new : c ≡ y = cc (sym (get_set_same boards place c within) ∙ ap (slice_get (slice_set boards place c)) (sym at) ∙ last) in
          subst (λ z. Step g z m y) old (subst (Step g b m) new step))
          (cases_lt i place);
      kept = λ i past. get_set_other boards place i c (λ same. omega (arith, same)) ∙ stepped.kept i (omega arith);
    }

-- the board from which a step that takes no card home leads to another is known from that
step_back : (g : GameRules) (a b c : Board) (m : Move) → m.to ≢ Home → Step g a m c → Step g b m c → a ≡ b
step_back g a b c m other one two =
    let first = taken_back g a c m one other in
    let second = taken_back g b c m two other in
    let same : one.card ≡ two.card = cc (sym first.there ∙ second.there) in
    sym first.back ∙ ap (λ u. board_with (board_without c m.to) u m.from) same ∙ second.back

-- a place of a list of as many elements
pub place_in : {X Y : Type 0} (xs : List X) (ys : List Y) (i : ℕ) (x : X) (d : Y) → length ys ≡ length xs → slice_get xs i ≡ Some x
    → slice_get ys i ≡ Some (get_or ys i d)
place_in xs ys i x d long found = slice_get-get_or ys i d (omega (arith, long, slice_get_within xs i x found))

-- the boards of all places are positions
whole_places : (g : GameRules) (xs : List Board) → ((i : ℕ) (c : Board) → slice_get xs i ≡ Some c → IsPositionOf g c) → All (IsPositionOf g) xs
whole_places g xs each k d below = each k (get_or xs k d) (slice_get-get_or xs k d below)

-- a move of one card to a column or a cell was made on all boards
pub stepped_next : (g : GameRules) (before boards : List Board) (pair : Pair) (m : Move) (end : ℕ) → IsLayer g before → IsSingle pair m
    → length before ≤ end → AreStepped g m before boards end → IsNext g before pair Stepped boards
stepped_next g before boards pair m end layer single all stepped =
    let made : (i : ℕ) (b c : Board) → slice_get before i ≡ Some b → slice_get boards i ≡ Some c → Step g b m c = λ i b c from to.
    stepped.made i b c (omega (arith, all, slice_get_within before i b from)) from to in
    record {
      is_layer = record {
        whole = whole_places g boards (λ i c to.
            let from : slice_get before i ≡ Some (get_or before i c) = place_in boards before i c c (sym stepped.long) to in
            step_keeps g (get_or before i c) c m (All-get_or (IsPositionOf g) before i c (slice_get_within before i (get_or before i c) from) layer.whole)
            (made i (get_or before i c) c from to));
        once = λ i j d less below e.
            let to_i : slice_get boards i ≡ Some (get_or boards i d) = slice_get-get_or boards i d (omega arith) in
            let to_j : slice_get boards j ≡ Some (get_or boards j d) = slice_get-get_or boards j d below in
            let from_i : slice_get before i ≡ Some (get_or before i d) = slice_get-get_or before i d (omega (arith, stepped.long)) in
            let from_j : slice_get before j ≡ Some (get_or before j d) = slice_get-get_or before j d (omega (arith, stepped.long)) in
            layer.once i j d less (omega (arith, stepped.long))
            (step_back g (get_or before i d) (get_or before j d) (get_or boards j d) m single.0
            (subst (Step g (get_or before i d) m) e (made i (get_or before i d) (get_or boards i d) from_i to_i))
            (made j (get_or before j d) (get_or boards j d) from_j to_j));
      };
      linked = λ place c to.
          let from : slice_get before place ≡ Some (get_or before place c) = place_in boards before place c c (sym stepped.long) to in
          (place, 1, get_or before place c, refl, from, (single.1 g (get_or before place c) c 1).1 (refl, made place (get_or before place c) c from to));
      complete = λ i b c from plays.
          let to : slice_get boards i ≡ Some (get_or boards i c) = place_in before boards i b c stepped.long from in
          let step = ((single.1 g b c plays.0).0 plays.1).1 in
          contains_at boards i c (to ∙ ap Some (step_once g b m (get_or boards i c) c (made i b (get_or boards i c) from to) step));
    }
