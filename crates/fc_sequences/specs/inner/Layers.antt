-- The boards to which entries of a list lead, layer by layer, and how those of a layer came from those of the one before.
use Rattle.std.specs.Prelude.{◌≡◌, ◌≢◌, ◌↔◌, ℕ, ◌+◌, ◌<◌, ◌≤◌, List, [], ◌∷◌, length, Option, Some, None, option_map, slice_get, All, AllPairs, Contains}
use Rattle.fc_cards.specs.declared.places.Place.TheVariants.{Home}
use Rattle.fc_position.specs.Board.{Board}
use Rattle.fc_moves.specs.declared.steps.Move.{Move}
use Rattle.fc_moves.specs.GameRules.{GameRules, IsPositionOf}
use Rattle.fc_moves.specs.Step.{Step}
use Rattle.fc_sequences.specs.declared.layers.Growth.{Growth}
use Rattle.fc_sequences.specs.declared.layers.Layer.{Layer}
use Rattle.fc_sequences.specs.declared.layers.Layer.TheVariants.{Stepped, Linked}
use Rattle.fc_sequences.specs.declared.layers.Link.{Link}
use Rattle.fc_sequences.specs.declared.pairs.Pair.{Pair}
use Rattle.fc_sequences.specs.Pair.{PlaysBy, PlaysPair}
use Rattle.fc_sequences.specs.Following.{Follows}

-- the place and the number of cards of a link
abbrev pub link_parts : Link → ℕ × ℕ
link_parts link = (link.parent, link.count)

-- the place in the layer before from which the board of this place came, and by how many cards
abbrev pub link_at : Layer → ℕ → Option (ℕ × ℕ)
link_at Stepped place = Some (place, 1)
link_at (Linked links) place = option_map link_parts (slice_get links.items place)

-- the board of each place came by the entry from the one of the layer before that the layer tells
abbrev pub IsLinked : GameRules → List Board → Pair → (ℕ → Option (ℕ × ℕ)) → List Board → Type 0
IsLinked g before pair link boards = (place : ℕ) (c : Board) → slice_get boards place ≡ Some c
    → (parent : ℕ) × (count : ℕ) × (b : Board) × (link place ≡ Some (parent, count)) × (slice_get before parent ≡ Some b) × PlaysBy g b pair count c

-- positions of the game, each once
pub record IsLayer (g : GameRules) (boards : List Board) : Type 0 where
  pub whole : All (IsPositionOf g) boards
  pub once : AllPairs (λ x y. x ≢ y) boards

-- the layer that follows another by an entry: just the boards to which the entry leads from those, each once
pub record IsNext (g : GameRules) (before : List Board) (pair : Pair) (layer : Layer) (boards : List Board) : Type 0 where
  pub is_layer : IsLayer g boards
  pub linked : IsLinked g before pair (link_at layer) boards
  pub complete : (i : ℕ) (b c : Board) → slice_get before i ≡ Some b → PlaysPair g b pair c → Contains boards c

-- the entry moves one card, to a column or a cell, by this move
abbrev pub IsSingle : Pair → Move → Type 0
IsSingle pair m = (m.to ≢ Home) × ((g : GameRules) (b c : Board) (k : ℕ) → PlaysBy g b pair k c ↔ ((k ≡ 1) × Step g b m c))

-- on the boards of the places below this one the move was made, and the others are as they were
pub record AreStepped (g : GameRules) (m : Move) (before boards : List Board) (end : ℕ) : Type 0 where
  pub long : length boards ≡ length before
  pub made : (i : ℕ) (b c : Board) → i < end → slice_get before i ≡ Some b → slice_get boards i ≡ Some c → Step g b m c
  pub kept : (i : ℕ) → end ≤ i → slice_get boards i ≡ slice_get before i

-- while the boards of a layer are added: from the boards of the places below the first number all are there to which the entry leads,
-- and from the one of that place those by fewer cards than the second
pub record IsGrowing (g : GameRules) (before : List Board) (pair : Pair) (growth : Growth) (so_far : ℕ × ℕ) : Type 0 where
  pub is_layer : IsLayer g growth.boards.items
  pub long : length growth.links.items ≡ length growth.boards.items
  pub linked : IsLinked g before pair (λ place. option_map link_parts (slice_get growth.links.items place)) growth.boards.items
  pub met : (i : ℕ) (b c : Board) → i < so_far.0 → slice_get before i ≡ Some b → PlaysPair g b pair c → Contains growth.boards.items c
  pub here : (b c : Board) (k : ℕ) → slice_get before so_far.0 ≡ Some b → k < so_far.1 → PlaysBy g b pair k c → Contains growth.boards.items c

-- of each layer in which the board has the old place: what grew from it by the entry up to the old numbers has grown up to the new ones
abbrev pub GrowsOn : GameRules → Pair → Board → Growth × (ℕ × ℕ) → Growth × (ℕ × ℕ) → Type 0
GrowsOn g pair b old new = (before : List Board) → slice_get before old.1.0 ≡ Some b → IsGrowing g before pair old.0 old.1
    → IsGrowing g before pair new.0 new.1

-- layers that follow each other by the entries, from the first boards to the last
abbrev pub AreLinked : GameRules → List Board → List Pair → List Layer → List Board → Type 0
AreLinked g first [] [] last = last ≡ first
AreLinked g first (p ∷ ps) (layer ∷ layers) last = (mid : List Board) × IsLinked g first p (link_at layer) mid × AreLinked g mid ps layers last
AreLinked g first [] (layer ∷ layers) last = ⊥
AreLinked g first (p ∷ ps) [] last = ⊥

-- the boards are just those to which the entries lead, each once, and the layers tell how they came
pub record IsGrown (g : GameRules) (b : Board) (ps : List Pair) (layers : List Layer) (boards : List Board) : Type 0 where
  pub is_layer : IsLayer g boards
  pub linked : AreLinked g (b ∷ []) ps layers boards
  pub reached : All (Follows g b ps) boards
  pub complete : (c : Board) → Follows g b ps c → Contains boards c

-- the entries are played one by one with these numbers of cards, from the one board to the other
abbrev pub PlaysAll : GameRules → Board → List Pair → List ℕ → Board → Type 0
PlaysAll g b [] [] c = c ≡ b
PlaysAll g b (p ∷ ps) (k ∷ ks) c = (mid : Board) × PlaysBy g b p k mid × PlaysAll g mid ps ks c
PlaysAll g b [] (k ∷ ks) c = ⊥
PlaysAll g b (p ∷ ps) [] c = ⊥
