-- What an object tells of a board, or of a list of moves.
use Rattle.std.specs.Prelude.{ℕ, List, Option, Some, None, codes}
use Rattle.std.specs.Borrow.{Bor}
use Rattle.serde_json.specs.Data.{Members, no_members, number, put, string, unsigned}
use Rattle.fc_json.specs.declared.objects.ToldBoard.{ToldBoard}
use Rattle.fc_json.specs.declared.reviews.ToldList.{ToldList}

-- a number under its name, if there is one
abbrev pub with_number : List ℕ → Option ℕ → Members → Members
with_number name (Some n) members = put name (number (unsigned n)) members
with_number name None members = members

-- a text under its name, if there is one
abbrev pub with_text : List ℕ → Option (Bor (List ℕ)) → Members → Members
with_text name (Some text) members = put name (string text.now) members
with_text name None members = members

-- all that is told of a board, each under its name
abbrev pub board_members : ToldBoard → Members
board_members told = with_text (codes "answer") (Some told.answer) (with_text (codes "board") told.board (with_number (codes "budget") told.budget
    (with_number (codes "by_hand") told.by_hand (with_number (codes "deal") told.deal (with_text (codes "fault") told.fault
    (with_number (codes "floor") told.floor (with_text (codes "hint") told.hint (with_text (codes "list") told.list
    (with_number (codes "moves") told.moves (with_number (codes "open") told.most_open (with_number (codes "stored") told.stored
    (with_number (codes "turns") told.turns no_members))))))))))))

-- all that is told of a list of moves, each under its name
abbrev pub list_members : ToldList → Members
list_members told = with_number (codes "after") told.after (with_number (codes "best") told.best (with_text (codes "board") told.board
    (with_number (codes "by_hand") told.by_hand (with_number (codes "deal") told.deal (with_number (codes "floor") told.floor
    (with_number (codes "inserted") told.inserted (with_text (codes "list") told.list (with_text (codes "losing") told.losing
    (with_number (codes "lost_after") told.lost_after (with_number (codes "moves") told.moves
    (with_text (codes "review") (Some told.review) no_members)))))))))))
