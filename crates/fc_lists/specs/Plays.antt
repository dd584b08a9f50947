-- What playing a list comes to: which one-card moves its entries are, and why they are none.
use Rattle.std.specs.Prelude.{◌≡◌, ℕ, ◌+◌, ◌<◌, ◌≤◌, Bool, true, false, List, [], ◌∷◌, ◌++◌, length, take}
use Rattle.fc_position.specs.Board.{Board}
use Rattle.fc_position.specs.Position.{IsWon}
use Rattle.fc_moves.specs.declared.steps.Move.{Move}
use Rattle.fc_moves.specs.GameRules.{GameRules}
use Rattle.fc_moves.specs.Run.{Run}
use Rattle.fc_sequences.specs.declared.list_expansions.ListFault.{ListFault}
use Rattle.fc_sequences.specs.declared.list_expansions.ListFault.TheVariants.{Refused, TooMany}
use Rattle.fc_sequences.specs.declared.pairs.Pair.{Pair}
use Rattle.fc_sequences.specs.Following.{Expands, Follows, IsListFault, LeadsToMany}
use Rattle.fc_sequences.specs.Pair.{SpellsPair, IsNoPair}
use Rattle.fc_replay.specs.Played.{SpellMoves, StopsAt, IsNotAllowed}
use Rattle.fc_replay.specs.Token.{IsNoMove}
use Rattle.fc_lists.specs.declared.faults.PlayFault.{PlayFault}
use Rattle.fc_lists.specs.declared.faults.PlayFault.TheVariants.{NoEntry, NotAllowed, TooManyWays, ListEnds, TooLong, Memory}
use Rattle.fc_lists.specs.declared.list_plays.ListWants.{ListWants}
use Rattle.fc_lists.specs.declared.list_plays.ListWants.TheVariants.{Line, BoardAfter}
use Rattle.fc_lists.specs.declared.list_plays.ListQuestion.{ListQuestion}

-- the tokens spell these entries, one each
abbrev pub SpellPairs : List (List ℕ) → List Pair → Type 0
SpellPairs [] pairs = pairs ≡ []
SpellPairs (token ∷ tokens) [] = ⊥
SpellPairs (token ∷ tokens) (pair ∷ pairs) = SpellsPair token pair × SpellPairs tokens pairs

-- the token of a step, which counts from 1, is the first that spells no entry
pub record IsFirstNoPair (tokens : List (List ℕ)) (step : ℕ) : Type 0 where
  pub front : List (List ℕ)
  pub token : List ℕ
  pub rest : List (List ℕ)
  pub parts : tokens ≡ front ++ token ∷ rest
  pub place : step ≡ length front + 1
  pub pairs : List Pair
  pub spelled : SpellPairs front pairs
  pub none : IsNoPair token

-- why a text wasn't read as entries: a token is none, or memory was wanted
abbrev pub IsUnread : List (List ℕ) → PlayFault → Type 0
IsUnread tokens (NoEntry step) = IsFirstNoPair tokens step
IsUnread tokens Memory = Unit {0}
IsUnread tokens other = ⊥

-- the tokens spell entries, and these one-card moves, which the rules allow, play them one by one: to a won board, where with
-- some numbers of cards they lead to one; and up to no step they lead to too many boards
pub record IsExpanded (g : GameRules) (b : Board) (tokens : List (List ℕ)) (moves : List Move) : Type 0 where
  pub pairs : List Pair
  pub spelled : SpellPairs tokens pairs
  pub last : Board
  pub expanded : Expands g b pairs moves last
  pub won : (c : Board) → Follows g b pairs c → IsWon c → IsWon last
  pub few : (step : ℕ) → step ≤ length pairs → LeadsToMany g b (take step pairs) → ⊥

-- the tokens spell entries, and for this they aren't expanded
pub record HasListFault (g : GameRules) (b : Board) (tokens : List (List ℕ)) (fault : ListFault) : Type 0 where
  pub pairs : List Pair
  pub spelled : SpellPairs tokens pairs
  pub here : IsListFault g b pairs fault

-- why the tokens aren't played: one spells no entry; or the entries up to a step can't be played, with whatever numbers of
-- cards, or lead to too many boards; or they are expanded to more moves than are counted; or memory was wanted
abbrev pub IsUnplayed : GameRules → Board → List (List ℕ) → PlayFault → Type 0
IsUnplayed g b tokens (NotAllowed step) = HasListFault g b tokens (Refused step)
IsUnplayed g b tokens (TooManyWays step) = HasListFault g b tokens (TooMany step)
IsUnplayed g b tokens TooLong = (moves : List Move) × IsExpanded g b tokens moves × (4294967295 < length moves)
IsUnplayed g b tokens fault = IsUnread tokens fault

-- the tokens spell these moves, one each, and the rules allow them one by one
pub record AreMoves (g : GameRules) (b : Board) (tokens : List (List ℕ)) (moves : List Move) : Type 0 where
  pub spelled : SpellMoves tokens moves
  pub last : Board
  pub run : Run g b moves last

-- the one-card moves to which tokens come: those that expand them, where they may move sequences, else one for each
abbrev pub ComeTo : Bool → GameRules → Board → List (List ℕ) → List Move → Type 0
ComeTo true g b tokens moves = IsExpanded g b tokens moves
ComeTo false g b tokens moves = AreMoves g b tokens moves

-- why tokens aren't such moves: that of a step is none, or isn't allowed, where those before it are; or memory was wanted
abbrev pub IsListStop : GameRules → Board → List (List ℕ) → PlayFault → Type 0
IsListStop g b tokens (NoEntry step) = (boards : List Board) × StopsAt (λ _ token. IsNoMove token) g b tokens boards step
IsListStop g b tokens (NotAllowed step) = (boards : List Board) × StopsAt (IsNotAllowed g) g b tokens boards step
IsListStop g b tokens Memory = Unit {0}
IsListStop g b tokens other = ⊥

-- why tokens come to no moves
abbrev pub ComeToNone : Bool → GameRules → Board → List (List ℕ) → PlayFault → Type 0
ComeToNone true g b tokens fault = IsUnplayed g b tokens fault
ComeToNone false g b tokens fault = IsListStop g b tokens fault

-- the tokens that are asked of: all, or so many of the first
abbrev pub wanted_tokens : ListWants → List (List ℕ) → List (List ℕ)
wanted_tokens Line tokens = tokens
wanted_tokens (BoardAfter n) tokens = take n tokens

-- there are as many tokens as are asked of
abbrev pub HasEntries : ListWants → List (List ℕ) → Type 0
HasEntries Line tokens = Unit {0}
HasEntries (BoardAfter n) tokens = n ≤ length tokens

-- why there is no answer: the list ends before the entries that are asked of do, or these come to no moves
abbrev pub IsListUnanswered : ListQuestion → GameRules → Board → List (List ℕ) → PlayFault → Type 0
IsListUnanswered q g b tokens (ListEnds count) = (count ≡ length tokens) × ((n : ℕ) × (q.wants ≡ BoardAfter n) × (length tokens < n))
IsListUnanswered q g b tokens fault = HasEntries q.wants tokens × ComeToNone q.has_sequences g b (wanted_tokens q.wants tokens) fault

-- the entries that are asked of come to one-card moves, which lead to this board
pub record IsListBoard (q : ListQuestion) (g : GameRules) (start : Board) (tokens : List (List ℕ)) (last : Board) : Type 0 where
  pub there : HasEntries q.wants tokens
  pub steps : List Move
  pub come : ComeTo q.has_sequences g start (wanted_tokens q.wants tokens) steps
  pub run : Run g start steps last
