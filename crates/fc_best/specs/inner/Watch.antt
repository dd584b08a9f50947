-- How far several searches are, as one of them goes on.
use Rattle.std.specs.Prelude.{◌≡◌, ◌⊎◌, ℕ, ◌+◌, max, min, List, [], ◌∷◌, All, Option, None, Some}
use Rattle.fc_position.specs.Board.{Board}
use Rattle.fc_moves.specs.declared.steps.Move.{Move}
use Rattle.fc_best.specs.Watch.{IsNoWorse, IsSo, last_list}
use Rattle.fc_search.specs.Watch.{Better, Far, Report, HearsAll}
use Rattle.fc_search.specs.declared.listeners.Progress.{Progress}
use Rattle.fc_best.specs.declared.relays.Relay.{Relay}
use Rattle.fc_best.specs.declared.standings.Standing.{Standing}
use Rattle.fc_methods.specs.Method.{QuestionData}

-- before the first search nothing is told but the budget
pub record IsFirst (most : ℕ) (far : Progress) : Type 0 where
  pub classes : far.classes ≡ 0
  pub budget : far.budget ≡ most
  pub turns : far.turns ≡ 0
  pub opened : far.open ≡ 0
  pub most_open : far.most_open ≡ 0
  pub shortest : far.shortest ≡ None
  pub at_least : far.at_least ≡ 0

-- what was told before a search, together with how far that is; what it shows is told when it has ended
pub record IsJoined (before : Progress) (one : Progress) (far : Progress) : Type 0 where
  pub classes : far.classes ≡ min (before.classes + one.classes) 18446744073709551615
  pub budget : far.budget ≡ before.budget
  pub turns : far.turns ≡ min (before.turns + one.turns) 18446744073709551615
  pub opened : far.open ≡ one.open
  pub most_open : far.most_open ≡ max before.most_open one.most_open
  pub shortest : far.shortest ≡ before.shortest
  pub at_least : far.at_least ≡ before.at_least

-- the floor that is shown, or 0 where none is
abbrev pub floor_shown : Option ℕ → ℕ
floor_shown (Some floor) = floor
floor_shown None = 0

-- what was told last of a search, once it has shown this, and the best list has so many moves
pub record IsAfter (last : Progress) (shown moves : Option ℕ) (far : Progress) : Type 0 where
  pub classes : far.classes ≡ last.classes
  pub budget : far.budget ≡ last.budget
  pub turns : far.turns ≡ last.turns
  pub opened : far.open ≡ last.open
  pub most_open : far.most_open ≡ last.most_open
  pub shortest : far.shortest ≡ moves
  pub at_least : far.at_least ≡ max last.at_least (floor_shown shown)

-- it is told after the other while one search goes on: of the same budget, the same list and the same floor
pub record IsFurther (before far : Progress) : Type 0 where
  pub budget : far.budget ≡ before.budget
  pub shortest : far.shortest ≡ before.shortest
  pub at_least : far.at_least ≡ before.at_least

-- the same of what is heard: no list is
abbrev pub IsFurtherTold : Progress → Report → Type 0
IsFurtherTold before (Far far) = IsFurther before far
IsFurtherTold before (Better moves floor) = ⊥

-- what is heard from the one on up to the other gets no worse
abbrev pub Rises : Report → List Report → Report → Type 0
Rises first [] last = IsNoWorse first last
Rises first (next ∷ later) last = IsNoWorse first next × Rises next later last

-- a list with a floor, if there is a list
abbrev pub with_floor : Option (List Move) → ℕ → Option (List Move × ℕ)
with_floor None floor = None
with_floor (Some moves) floor = Some (moves, floor)

-- the best list so far with the floor that is told
abbrev pub list_in : Standing → Option (List Move × ℕ)
list_in s = with_floor s.list s.far.at_least

-- there is no list, or it and the floor are told as before
abbrev pub HasNoBetter : Progress → Standing → Type 0
HasNoBetter before s = (s.list ≡ None) ⊎ ((s.far.shortest ≡ before.shortest) × (s.far.at_least ≡ before.at_least))

-- what is heard from the one on up to the other is so of searches of the question from the board, and gets no worse
abbrev pub IsSoUp : QuestionData → Board → Report → List Report → Report → Type 0
IsSoUp q b first heard last = All (IsSo q b) heard × Rises first heard last

module _ {L : Type 0} (hears : L → Report → L → Type 0) where
  -- who hears one search after others tells a listener how far all of them are; a list it tells as it is
  abbrev pub Relays : Relay L → Report → Relay L → Type 0
  Relays old (Far far) new = (new.listener.ghost_name ≡ old.listener.ghost_name) × (new.before ≡ old.before)
      × IsJoined old.before far new.last × hears old.listener.now (Far new.last) new.listener.now
  Relays old (Better moves floor) new = (new.listener.ghost_name ≡ old.listener.ghost_name) × (new.before ≡ old.before)
      × (new.last ≡ old.last) × hears old.listener.now (Better moves floor) new.listener.now

  -- a listener hears how one search after what was told goes on
  abbrev pub HearsFurther : Progress → L → L → Type 0
  HearsFurther before old new = (heard : List Report) × HearsAll hears old heard new × All (IsFurtherTold before) heard

  -- a listener hears the list with its floor, unless it has no better one than what was told before
  abbrev pub HearsList : Progress → Standing → L → L → Type 0
  HearsList before s old new = (HasNoBetter before s × (new ≡ old))
      ⊎ ((moves : List Move) × (s.list ≡ Some moves) × hears old (Better moves s.far.at_least) new)

  -- a listener hears what is so from where the searches stood so up to where they do, and the list last where it is another
  abbrev pub HearsOn : QuestionData → Board → Standing → Standing → L → L → Type 0
  HearsOn q b first last old new = (heard : List Report) × HearsAll hears old heard new × IsSoUp q b (Far first.far) heard (Far last.far)
      × (last_list (list_in first) heard ≡ list_in last)

  -- the same up to where memory ended the searches
  abbrev pub HearsSome : QuestionData → Board → Standing → L → L → Type 0
  HearsSome q b first old new = (heard : List Report) × (last : Report) × HearsAll hears old heard new × IsSoUp q b (Far first.far) heard last
