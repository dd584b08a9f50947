-- What is told of a list of moves, on a line.
use Rattle.std.specs.Prelude.{ℕ, ◌+◌, cond, nat_eq, nat_lt, List, length, ◌++◌, Option, Some, None, codes, decimal}
use Rattle.fc_answers.specs.declared.answers.Verdict.{Verdict}
use Rattle.fc_answers.specs.declared.answers.Verdict.TheVariants.{Shortest, Won, CannotWin, GaveUp}
use Rattle.fc_review.specs.declared.known_boards.KnownBoard.{KnownBoard}
use Rattle.fc_review.specs.declared.ratings.Rating.{Rating}
use Rattle.fc_review.specs.declared.reviews.Review.{Review}

-- so many moves
abbrev pub moves_phrase : ℕ → List ℕ
moves_phrase count = decimal count ++ cond (nat_eq count 1) (codes " move") (codes " moves")

-- so many moves win
abbrev pub wins_phrase : ℕ → List ℕ
wins_phrase count = decimal count ++ cond (nat_eq count 1) (codes " move wins") (codes " moves win")

-- how many moves the list has that a verdict tells
abbrev pub count_phrase : Verdict → List ℕ
count_phrase (Shortest moves) = wins_phrase (length moves)
count_phrase (Won moves floor) = wins_phrase (length moves)
count_phrase CannotWin = codes "no list is told"
count_phrase (GaveUp told) = codes "no list is told"

-- and how many each list has at least that wins
abbrev pub list_phrase : Verdict → List ℕ
list_phrase (Shortest moves) = wins_phrase (length moves) ++ codes ", and none fewer"
list_phrase (Won moves floor) = wins_phrase (length moves) ++ codes ", at least " ++ decimal floor
list_phrase CannotWin = codes "no list is told"
list_phrase (GaveUp told) = codes "no list is told"

-- the move behind this board loses, in these words
abbrev pub loses_text : List ℕ → KnownBoard → List ℕ
loses_text move won = codes "move " ++ decimal (won.after + 1) ++ codes ", " ++ move ++ codes ", loses: " ++ count_phrase won.verdict
    ++ codes " before it, none after\n"

-- one of the moves from this board to one from which none wins does
abbrev pub between_text : KnownBoard → ℕ → List ℕ
between_text won lost = codes "one of the moves " ++ decimal (won.after + 1) ++ codes " to " ++ decimal lost ++ codes " loses: before move "
    ++ decimal (won.after + 1) ++ codes " " ++ list_phrase won.verdict ++ codes ", after move " ++ decimal lost
    ++ codes " none; in between the searches gave up\n"

-- what is known from the last board, behind this
abbrev pub from_here_text : List ℕ → KnownBoard → List ℕ
from_here_text told won = told ++ codes ": from here " ++ list_phrase won.verdict ++ codes "\n"

-- none of the moves loses up to this board, and behind it the searches gave up
abbrev pub up_to_text : KnownBoard → List ℕ
up_to_text won = codes "no move loses up to move " ++ decimal won.after ++ codes ": from there " ++ list_phrase won.verdict
    ++ codes "; behind it the searches gave up\n"

-- none of the moves loses up to this board, of a list with so many moves
abbrev pub open_text : ℕ → KnownBoard → List ℕ
open_text count won = cond (nat_eq count 0) (from_here_text (codes "there are no moves") won)
    (cond (nat_lt won.after count) (up_to_text won) (from_here_text (codes "none of these moves loses") won))

-- no list wins after so many moves, and before that no list is told
abbrev pub lost_behind_text : ℕ → List ℕ
lost_behind_text lost = codes "no list wins after move " ++ decimal lost ++ codes "; before it the searches gave up\n"

-- no list wins after so many moves, which may be none
abbrev pub lost_text : ℕ → List ℕ
lost_text lost = cond (nat_eq lost 0) (codes "can't be won, before any of these moves\n") (lost_behind_text lost)

-- how many moves stand before the one that loses, if it is known which
abbrev pub losing_of : Option KnownBoard → Option ℕ → Option ℕ
losing_of (Some won) (Some lost) = cond (nat_eq lost (won.after + 1)) (Some won.after) None
losing_of won lost = None

-- what is told of a list of so many moves that doesn't win; the move that loses, where there is one, in these words
abbrev pub trace_text : List ℕ → ℕ → Option KnownBoard → Option ℕ → List ℕ
trace_text move count (Some won) (Some lost) = cond (nat_eq lost (won.after + 1)) (loses_text move won) (between_text won lost)
trace_text move count (Some won) None = open_text count won
trace_text move count None (Some lost) = lost_text lost
trace_text move count None None = codes "gave up: no list was found on the way\n"

-- what is told of a list of so many moves that doesn't win
abbrev pub review_text : List ℕ → ℕ → Review → List ℕ
review_text move count review = trace_text move count review.won review.lost

-- the exit status that goes with it: 0 where all is told, 1 where the board can't be won, 2 where something gave up
abbrev pub trace_status : ℕ → Option KnownBoard → Option ℕ → ℕ
trace_status count (Some won) (Some lost) = cond (nat_eq lost (won.after + 1)) 0 2
trace_status count (Some won) None = cond (nat_lt won.after count) 2 0
trace_status count None (Some lost) = cond (nat_eq lost 0) 1 2
trace_status count None None = 2

-- the status of a list of so many moves that doesn't win
abbrev pub review_status : ℕ → Review → ℕ
review_status count review = trace_status count review.won review.lost

-- a list of so many moves was found
abbrev pub found_phrase : ℕ → List ℕ
found_phrase found = codes "; the best one found has " ++ decimal found

-- the fewest moves that are known to win, beside a list of so many moves that wins
abbrev pub best_phrase : ℕ → ℕ → List ℕ
best_phrase count found = cond (nat_lt found count) (found_phrase found) (codes "; none shorter was found")

-- what is known beside a list of so many moves that wins
abbrev pub beside_phrase : ℕ → Verdict → List ℕ
beside_phrase count (Shortest moves) = best_phrase count (length moves)
beside_phrase count (Won moves floor) = best_phrase count (length moves)
beside_phrase count CannotWin = codes "; none shorter was found"
beside_phrase count (GaveUp told) = codes "; none shorter was found"

-- a floor, and what is known beside a list of so many moves
abbrev pub floor_phrase : ℕ → ℕ → Verdict → List ℕ
floor_phrase count floor best = codes "no list wins in fewer than " ++ decimal floor ++ beside_phrase count best

-- what the floor says of the list
abbrev pub own_phrase : ℕ → Option Verdict → Verdict → List ℕ
own_phrase count (Some (Won moves floor)) best = floor_phrase count floor best
own_phrase count (Some (Shortest moves)) best = codes "no list wins in fewer"
own_phrase count (Some CannotWin) best = codes "no list wins in fewer"
own_phrase count (Some (GaveUp told)) best = codes "no list wins in fewer"
own_phrase count None best = codes "the searches for a shorter list gave up"

-- what is told of a list of so many moves that wins, of which so many entries are by hand
abbrev pub rating_text : ℕ → ℕ → Rating → List ℕ
rating_text count by_hand rating = codes "won in " ++ moves_phrase count ++ codes ", " ++ decimal by_hand ++ codes " by hand; "
    ++ own_phrase count rating.own rating.best ++ codes "\n"

-- the exit status that goes with what the floor says: 0, or 2 where the searches gave up
abbrev pub own_status : Option Verdict → ℕ
own_status (Some own) = 0
own_status None = 2

-- the status of a list that wins
abbrev pub rating_status : Rating → ℕ
rating_status rating = own_status rating.own
