-- What the laws of this crate state.
use Rattle.std.specs.Prelude.{◌≡◌, ◌<◌, ◌^◌, ℕ, List, All, IfSome}
use Rattle.serde_json.specs.Data.{object}
use Rattle.serde_json.specs.Written.{compact_text}
use Rattle.fc_json.specs.Objects.{board_members, list_members}
use Rattle.fc_json.specs.declared.objects.ToldBoard.{ToldBoard}
use Rattle.fc_json.specs.declared.reviews.ToldList.{ToldList}

-- the text is one line: no byte of it ends one
abbrev pub IsOneLine : List ℕ → Type 0
IsOneLine text = All (λ b. b ≡ 10 → ⊥) text

-- a number of eight bytes
abbrev pub IsNumber : ℕ → Type 0
IsNumber n = n < 2 ^ 64

-- what is told of a board in numbers are numbers of eight bytes
pub record HasNumbers (told : ToldBoard) : Type 0 where
  pub deal : IfSome told.deal IsNumber
  pub moves : IfSome told.moves IsNumber
  pub floor : IfSome told.floor IsNumber
  pub by_hand : IfSome told.by_hand IsNumber
  pub budget : IfSome told.budget IsNumber
  pub stored : IfSome told.stored IsNumber
  pub turns : IfSome told.turns IsNumber
  pub most_open : IfSome told.most_open IsNumber

-- and so of a list of moves
pub record HasListNumbers (told : ToldList) : Type 0 where
  pub deal : IfSome told.deal IsNumber
  pub moves : IfSome told.moves IsNumber
  pub inserted : IfSome told.inserted IsNumber
  pub by_hand : IfSome told.by_hand IsNumber
  pub after : IfSome told.after IsNumber
  pub best : IfSome told.best IsNumber
  pub floor : IfSome told.floor IsNumber
  pub lost_after : IfSome told.lost_after IsNumber

-- an object is one line, of whatever it tells
abbrev pub ObjectsAreLines : Type 0
ObjectsAreLines = ((told : ToldBoard) → HasNumbers told → IsOneLine (compact_text (object (board_members told))))
    × ((told : ToldList) → HasListNumbers told → IsOneLine (compact_text (object (list_members told))))
