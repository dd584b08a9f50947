-- Adding the moves of one place to a list.
use Rattle.std.proofs.Common.{◌≡◌, ℕ, List, [], ◌∷◌, ◌++◌, refl, sym, ◌∙◌, ap, subst, append_assoc}
use Rattle.std.proofs.lemmas.List.{append-nil}
use Rattle.std.proofs.lemmas.List.Elements.{All-nil, All-append, All-push}
use Rattle.fc_cards.specs.declared.places.Place.{Place}
use Rattle.fc_position.specs.Board.{Board}
use Rattle.fc_moves.specs.declared.steps.Move.{Move}
use Rattle.fc_moves.specs.GameRules.{GameRules}
use Rattle.fc_canonical.specs.inner.Distinct.{AddsDistinct, ListsDistinctBelow}

-- nothing is added where nothing is to be listed
pub adds_none : (g : GameRules) (b : Board) (from : Place) (low high : ℕ) (ms : List Move)
    → ((before : List Move) → ListsDistinctBelow g b low before → ListsDistinctBelow g b high before)
    → AddsDistinct g b from low high ms ms
adds_none g b from low high ms passes = record {
  added = [];
  items = sym (append-nil ms);
  source = All-nil (λ (m : Move). m.from ≡ from);
  lists = λ before lists. subst (ListsDistinctBelow g b high) (sym (append-nil before)) (passes before lists);
}

-- the one move to be listed is added
pub adds_move : (g : GameRules) (b : Board) (from to : Place) (low high : ℕ) (old new : List Move)
    → new ≡ old ++ (record { from = from; to = to }) ∷ []
    → ((before : List Move) → ListsDistinctBelow g b low before
    → ListsDistinctBelow g b high (before ++ (record { from = from; to = to }) ∷ [])) → AddsDistinct g b from low high old new
adds_move g b from to low high old new items lists =
    let m : Move = record { from = from; to = to } in
    record {
      added = m ∷ [];
      items = items;
      source = All-push (λ (n : Move). n.from ≡ from) [] m (All-nil (λ (n : Move). n.from ≡ from)) refl;
      lists = lists;
    }

-- what is added in two steps
pub adds_both : (g : GameRules) (b : Board) (from : Place) (low mid high : ℕ) (old between new : List Move)
    → AddsDistinct g b from low mid old between → AddsDistinct g b from mid high between new
    → AddsDistinct g b from low high old new
adds_both g b from low mid high old between new one two = record {
  added = one.added ++ two.added;
  items = two.items ∙ ap (λ l. l ++ two.added) one.items ∙ append_assoc old one.added two.added;
  source = All-append (λ (m : Move). m.from ≡ from) one.added two.added one.source two.source;
  lists = λ before lists.
      subst (ListsDistinctBelow g b high) (append_assoc before one.added two.added)
      (two.lists (before ++ one.added) (one.lists before lists));
}

-- behind a list of the moves below, the new list has them all
pub adds_lists : (g : GameRules) (b : Board) (from : Place) (low high : ℕ) (old new : List Move)
    → AddsDistinct g b from low high old new → ListsDistinctBelow g b low old → ListsDistinctBelow g b high new
adds_lists g b from low high old new adds lists = subst (ListsDistinctBelow g b high) (sym adds.items) (adds.lists old lists)
