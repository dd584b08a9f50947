-- How deep an object of numbers and texts is, and that it has no floats.
use Rattle.std.proofs.Common.{rules, ◌≡◌, ◌≤◌, ◌||◌, ℕ, Bool, true, false, List, Option, Some, None, Ordering, Less, Equal, Greater, codes, arith, refl, subst, sym}
use Rattle.std.specs.Borrow.{Bor}
use Rattle.std.specs.Ordering.{match_ordering}
use Rattle.serde_json.specs.Data.{Data, Members, no_members, member, members_depth, depth, number, put, string, unsigned}
use Rattle.serde_json.specs.Written.{has_float, members_have_float}
use Rattle.fc_json.specs.declared.objects.ToldBoard.{ToldBoard}
use Rattle.fc_json.specs.declared.reviews.ToldList.{ToldList}
use Rattle.fc_json.specs.Objects.{board_members, list_members, with_number, with_text}

flat_by : (o : Ordering) (a b c : Members) → members_depth a ≤ 0 → members_depth b ≤ 0 → members_depth c ≤ 0
    → members_depth (match_ordering o a b c) ≤ 0
flat_by Less a b c p q r = p
flat_by Equal a b c p q r = q
flat_by Greater a b c p q r = r

put_flat : (name : List ℕ) (d : Data) (members : Members) → depth d ≤ 0 → members_depth members ≤ 0 → members_depth (put name d members) ≤ 0
put_flat name d no_members flat all = omega arith
put_flat name d (member l e ms) flat all =
    flat_by _ (member name d (member l e ms)) (member l d ms) (member l e (put name d ms))
    (omega arith) (omega arith) (omega (arith, put_flat name d ms flat (omega arith)))

-- no number of an object is a float
abbrev pub AreWhole : Members → Type 0
AreWhole ms = members_have_float ms ≡ false

or_left : (a b : Bool) → (a || b) ≡ false → a ≡ false
or_left false b none = refl
or_left true b none = none

or_right : (a b : Bool) → (a || b) ≡ false → b ≡ false
or_right false b none = none
or_right true b none = absurd (search rules)

neither : (a b : Bool) → a ≡ false → b ≡ false → (a || b) ≡ false
neither a b left right = subst (λ x. (x || b) ≡ false) (sym left) right

whole_by : (o : Ordering) (a b c : Members) → AreWhole a → AreWhole b → AreWhole c → AreWhole (match_ordering o a b c)
whole_by Less a b c p q r = p
whole_by Equal a b c p q r = q
whole_by Greater a b c p q r = r

put_whole : (name : List ℕ) (d : Data) (members : Members) → has_float d ≡ false → AreWhole members → AreWhole (put name d members)
put_whole name d no_members whole all = neither (has_float d) false whole refl
put_whole name d (member l e ms) whole all =
    let rest = or_right (has_float e) (members_have_float ms) all in
    whole_by _ (member name d (member l e ms)) (member l d ms) (member l e (put name d ms))
    (neither (has_float d) (members_have_float (member l e ms)) whole all)
    (neither (has_float d) (members_have_float ms) whole rest)
    (neither (has_float e) (members_have_float (put name d ms)) (or_left (has_float e) (members_have_float ms) all) (put_whole name d ms whole rest))

-- an object of numbers that are no floats and of texts, in which no object lies
abbrev pub IsFlat : Members → Type 0
IsFlat ms = (members_depth ms ≤ 0) × AreWhole ms

number_flat : (name : List ℕ) (n : Option ℕ) (members : Members) → IsFlat members → IsFlat (with_number name n members)
number_flat name (Some n) ms all = (put_flat name (number (unsigned n)) ms (omega arith) all.0, put_whole name (number (unsigned n)) ms refl all.1)
number_flat name None ms all = all

text_flat : (name : List ℕ) (text : Option (Bor (List ℕ))) (members : Members) → IsFlat members → IsFlat (with_text name text members)
text_flat name (Some text) ms all = (put_flat name (string text.now) ms (omega arith) all.0, put_whole name (string text.now) ms refl all.1)
text_flat name None ms all = all

-- an object of what is told has nothing but numbers and texts
pub told_flat : (told : ToldBoard) → IsFlat (board_members told)
told_flat told =
    let turns = with_number (codes "turns") told.turns no_members in
    let flat_turns = number_flat (codes "turns") told.turns no_members (omega arith, refl) in
    let stored = with_number (codes "stored") told.stored turns in
    let flat_stored = number_flat (codes "stored") told.stored turns flat_turns in
    let open_entries = with_number (codes "open") told.most_open stored in
    let flat_open = number_flat (codes "open") told.most_open stored flat_stored in
    let moves = with_number (codes "moves") told.moves open_entries in
    let flat_moves = number_flat (codes "moves") told.moves open_entries flat_open in
    let list = with_text (codes "list") told.list moves in
    let flat_list = text_flat (codes "list") told.list moves flat_moves in
    let hint = with_text (codes "hint") told.hint list in
    let flat_hint = text_flat (codes "hint") told.hint list flat_list in
    let floor = with_number (codes "floor") told.floor hint in
    let flat_floor = number_flat (codes "floor") told.floor hint flat_hint in
    let fault = with_text (codes "fault") told.fault floor in
    let flat_fault = text_flat (codes "fault") told.fault floor flat_floor in
    let deal = with_number (codes "deal") told.deal fault in
    let flat_deal = number_flat (codes "deal") told.deal fault flat_fault in
    let by_hand = with_number (codes "by_hand") told.by_hand deal in
    let flat_by_hand = number_flat (codes "by_hand") told.by_hand deal flat_deal in
    let budget = with_number (codes "budget") told.budget by_hand in
    let flat_budget = number_flat (codes "budget") told.budget by_hand flat_by_hand in
    let board = with_text (codes "board") told.board budget in
    let flat_board = text_flat (codes "board") told.board budget flat_budget in
    text_flat (codes "answer") (Some told.answer) board flat_board

pub review_flat : (told : ToldList) → IsFlat (list_members told)
review_flat told =
    let review = with_text (codes "review") (Some told.review) no_members in
    let flat_review = text_flat (codes "review") (Some told.review) no_members (omega arith, refl) in
    let moves = with_number (codes "moves") told.moves review in
    let flat_moves = number_flat (codes "moves") told.moves review flat_review in
    let lost_after = with_number (codes "lost_after") told.lost_after moves in
    let flat_lost_after = number_flat (codes "lost_after") told.lost_after moves flat_moves in
    let losing = with_text (codes "losing") told.losing lost_after in
    let flat_losing = text_flat (codes "losing") told.losing lost_after flat_lost_after in
    let list = with_text (codes "list") told.list losing in
    let flat_list = text_flat (codes "list") told.list losing flat_losing in
    let inserted = with_number (codes "inserted") told.inserted list in
    let flat_inserted = number_flat (codes "inserted") told.inserted list flat_list in
    let floor = with_number (codes "floor") told.floor inserted in
    let flat_floor = number_flat (codes "floor") told.floor inserted flat_inserted in
    let deal = with_number (codes "deal") told.deal floor in
    let flat_deal = number_flat (codes "deal") told.deal floor flat_floor in
    let by_hand = with_number (codes "by_hand") told.by_hand deal in
    let flat_by_hand = number_flat (codes "by_hand") told.by_hand deal flat_deal in
    let board = with_text (codes "board") told.board by_hand in
    let flat_board = text_flat (codes "board") told.board by_hand flat_by_hand in
    let best = with_number (codes "best") told.best board in
    let flat_best = number_flat (codes "best") told.best board flat_board in
    number_flat (codes "after") told.after best flat_best
