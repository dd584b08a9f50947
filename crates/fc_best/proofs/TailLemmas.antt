-- A list that wins, with a shorter tail.
use Rattle.std.proofs.Common.{◌≡◌, ◌∙◌, inr, Bool, ℕ, ◌+◌, ◌<◌, ◌≤◌, Option, Some, None, List, [], ◌∷◌, ◌++◌, ◌-◌, length, take, drop, refl, sym, subst, ap, arith, append_assoc, get_or, add-one, drop-cons}
use Rattle.std.specs.Prelude.{IfSome, All}
use Rattle.std.proofs.lemmas.List.{length-append, length-take-le, take-append-drop}
use Rattle.std.proofs.lemmas.List.Elements.{All-append, All-cons, All-nil, All-take}
use Rattle.std.proofs.lemmas.List.Sums.{sum_by-cons}
use Rattle.fc_position.specs.Board.{Board}
use Rattle.fc_moves.specs.declared.steps.Move.{Move}
use Rattle.fc_moves.specs.GameRules.{GameRules}
use Rattle.fc_moves.specs.MoveText.{HasText}
use Rattle.fc_moves.specs.Run.{Run, Wins}
use Rattle.fc_moves.specs.Step.{Step, Allows}
use Rattle.fc_moves.proofs.StepLemmas.{step_once}
use Rattle.fc_classes.proofs.PathLemmas.{run_on}
use Rattle.fc_methods.specs.Method.{QuestionData}
use Rattle.fc_search.specs.Search.{State}
use Rattle.fc_best.specs.declared.attempts.Attempt.{Attempt}
use Rattle.fc_best.specs.declared.tails.Tail.{Tail}
use Rattle.fc_best.specs.declared.standings.Standing.{Standing}
use Rattle.fc_search.specs.declared.listeners.Progress.{Progress}
use Rattle.fc_best.specs.Best.{IsListOf, of_search, of_tail, IsOfQuestion, IsOnTheWay}
use Rattle.fc_best.specs.Watch.{IsNoWorse}
use Rattle.fc_search.specs.Watch.{Far}
use Rattle.fc_best.specs.inner.Attempt.{IsAttempt, IsFoundIn, IsGoodList}
use Rattle.fc_best.specs.inner.Standing.{IsLeastOf, IsShorter, Stands, limit_of}
use Rattle.fc_best.specs.inner.Watch.{IsAfter, IsFirst}
use Rattle.fc_best.specs.inner.Tail.{HasTailOf, IsTail, IsTailFor, IsWithEnd}
use Rattle.fc_best.proofs.StandingLemmas.{after_rises, first_of, if_some, rest_of, shorter_both}

-- a front of a list that runs does so
front_runs : (g : GameRules) (b d : Board) (ms ns : List Move) → Run g b (ms ++ ns) d → (c : Board) × Run g b ms c
front_runs g b d [] ns run = (b, refl)
front_runs g b d (m ∷ ms) ns (mid, step, rest) = let on = front_runs g mid d ms ns rest in (on.0, (mid, step, on.1))

front_of_win : (g : GameRules) (b : Board) (n : ℕ) (all front : List Move) → Wins g b all → front ≡ take n all
    → (c : Board) × Run g b front c
front_of_win g b n all front (d, run, won) same =
    let whole = subst (λ l. Run g b l d) (sym (take-append-drop n all)) run in
    subst (λ l. (c : Board) × Run g b l c) (sym same) (front_runs g b d (take n all) (drop n all) whole)

-- the same, of what is told of the game and the list
pub front_told : (h g : GameRules) (b : Board) (n : ℕ) (told all front : List Move) → h ≡ g → told ≡ all → Wins g b all → front ≡ take n told
    → (c : Board) × Run h b front c
front_told h g b n told all front game list wins same =
    subst (λ x. (c : Board) × Run x b front c) (sym game) (front_of_win g b n all front wins (same ∙ ap (λ l. take n l) list))

-- the moves from a place on
pub moves_from : (i : ℕ) (ms : List Move) (d : Move) → i < length ms → drop i ms ≡ get_or ms i d ∷ drop (i + 1) ms
moves_from i ms d within = rw (add-one, drop-cons ms i d)

-- the moves that were made run there, and those that are left run on
pub record OnTheWay (g : GameRules) (start : Board) (all left : List Move) (here : Board) : Type 0 where
  pub made : List Move
  pub there : Run g start made here
  pub parts : made ++ left ≡ all
  pub end : Board
  pub rest : Run g here left end

pub way_allowed : (g : GameRules) (start : Board) (all left more : List Move) (here : Board) (m : Move) → OnTheWay g start all left here
    → left ≡ m ∷ more → Allows g here m
way_allowed g start all left more here m way first =
    let on : Run g here (m ∷ more) way.end = subst (λ l. Run g here l way.end) first way.rest in
    (on.0, on.1)

-- one move more
made_next : (made left more all : List Move) (m : Move) → made ++ left ≡ all → left ≡ m ∷ more → (made ++ m ∷ []) ++ more ≡ all
made_next made left more all m parts first = append_assoc made (m ∷ []) more ∙ ap (λ l. made ++ l) (sym first) ∙ parts

pub way_next : (g : GameRules) (start : Board) (all left more : List Move) (here next : Board) (m : Move) → OnTheWay g start all left here
    → left ≡ m ∷ more → Step g here m next → OnTheWay g start all more next
way_next g start all left more here next m way first step =
    let on : Run g here (m ∷ more) way.end = subst (λ l. Run g here l way.end) first way.rest in
    record {
      made = way.made ++ m ∷ [];
      there = run_on g start here next way.made (m ∷ []) way.there (next, step, refl);
      parts = made_next way.made left more all m way.parts first;
      end = way.end;
      rest = subst (λ b. Run g b more way.end) (step_once g here m on.0 next on.1 step) on.2;
    }

-- a front of a good list with a good and shorter end is a good list
joined_good : (g : GameRules) (b c : Board) (n limit : ℕ) (all front end made : List Move) → IsGoodList g b all → front ≡ take n all
    → n + limit ≡ length all → Run g b front c → IsGoodList g c end → made ≡ front ++ end → length end < limit → IsGoodList g b made
joined_good g b c n limit all front end made good same long run tail joined short = subst (IsGoodList g b) (sym joined) (record {
  wins = (tail.wins.0, run_on g b c tail.wins.0 front end run tail.wins.1, tail.wins.2);
  written = All-append HasText front end (subst (All HasText) (sym same) (All-take HasText n all good.written)) tail.written;
  few =
      let size = length-append front end in
      let part : length front ≡ n = ap (λ l. length l) same ∙ length-take-le n all (omega (arith, long)) in
      let most = good.few in
      omega (arith, size, part, most, long, short);
})

-- what a search for a shorter tail made of it is good, and has a tail that the search found
tail_made : (g : GameRules) (b : Board) (n limit : ℕ) (ended : State) (all front : List Move) (end made : Option (List Move)) → IsGoodList g b all
    → front ≡ take n all → n + limit ≡ length all → Run g b front ended.problem.start → IfSome end (IsFoundIn g ended.problem.start ended)
    → IsWithEnd front end limit made → IfSome made (λ ms. IsGoodList g b ms × HasTailOf g b all ended ms)
tail_made g b n limit ended all front end None good same long run tail is = tt
tail_made g b n limit ended all front end (Some moves) good same long run tail (e, found, joined, short) =
    let new : IsFoundIn g ended.problem.start ended e = subst (λ o. IfSome o (IsFoundIn g ended.problem.start ended)) found tail in (
      joined_good g b ended.problem.start n limit all front e moves good same long run new.0 joined short,
      record {
        front = front;
        old = drop n all;
        tail = e;
        before = sym (take-append-drop n all) ∙ ap (λ l. l ++ drop n all) (sym same);
        after = joined;
        shorter =
            let whole = length-append (take n all) (drop n all) in
            let parts : length (take n all ++ drop n all) ≡ length all = ap (λ l. length l) (take-append-drop n all) in
            let part : length (take n all) ≡ n = length-take-le n all (omega (arith, long)) in
            omega (arith, whole, parts, part, long, short);
        there = run;
        found = new.1;
      },
    )

pub is_tail : (q : QuestionData) (b c : Board) (n limit : ℕ) (all front : List Move) (attempt : Attempt) (made : Option (List Move))
    → IsGoodList q.game b all → front ≡ take n all → n + limit ≡ length all → Run q.game b front c
    → IsAttempt q q.method.bound c (Some limit) attempt → IsWithEnd front attempt.list limit made
    → (gave : Bool) (far : Progress) → IsTail q b all (record { list = made; stored = attempt.stored; has_given_up = gave; far = far })
is_tail q b c n limit all front attempt made good same long run is joined gave far =
    let there : Run q.game b front is.ended.problem.start = subst (λ x. Run q.game b front x) (sym is.asked.start) run in
    record {
      ended = is.ended;
      asked = record {
        game = is.asked.game;
        start = (front, there);
        rule = is.asked.rule;
        bound = is.by_kind;
        weight = is.asked.weight;
        budget = is.asked.budget;
        over = is.asked.over;
      };
      list = tail_made q.game b n limit is.ended all front attempt.list made good same long there
          (subst (λ x. IfSome attempt.list (IsFoundIn q.game x is.ended)) (sym is.asked.start) is.list) joined;
      stored = is.stored;
      room = is.room;
    }

-- a list that rests on searches rests on them and one more for a tail
list_on : (g : GameRules) (b : Board) (ended : State) (searches tails : List State) (moves : List Move) → IsListOf g b searches tails moves
    → IsListOf g b searches (ended ∷ tails) moves
list_on g b ended searches tails moves (of_search ms found) = of_search ms found
list_on g b ended searches tails moves (of_tail ms front old tail one parts of shorter of_these there found) =
    of_tail ms front old tail one parts (list_on g b ended searches tails _ of) shorter (rest_of ended one tails of_these) there found

-- and so does one with a tail that it found
list_with : (g : GameRules) (b : Board) (ended : State) (searches tails : List State) (all moves : List Move) → IsListOf g b searches tails all
    → HasTailOf g b all ended moves → IsListOf g b searches (ended ∷ tails) moves
list_with g b ended searches tails all moves of is =
    of_tail moves is.front is.old is.tail ended is.after
    (list_on g b ended searches tails (is.front ++ is.old) (subst (IsListOf g b searches tails) is.before of))
    is.shorter (first_of ended tails) is.there is.found

-- of a list that is there, it isn't missing
there : {X : Type 0} (o : Option X) (x : X) → o ≡ Some x → o ≡ None → ⊥
there o x is none = absurd (cc)

pub tail_rises : (q : QuestionData) (b : Board) (old : Standing) (tail : Tail) (list : Option (List Move)) (far : Progress) → Stands q b old
    → IsTailFor q b old tail → IsShorter tail.list old.list list → IsAfter tail.far None (limit_of list) far → IsNoWorse (Far old.far) (Far far)
tail_rises q b old tail list far stands is short after = after_rises q b old tail.list list tail.far far None stands is.far short after

pub tail_stands : (q : QuestionData) (b : Board) (old : Standing) (tail : Tail) (list : Option (List Move)) (new : Progress) → Stands q b old
    → IsTailFor q b old tail → tail.stored + 1 ≤ old.left → IsShorter tail.list old.list list → IsAfter tail.far None (limit_of list) new
    → Stands q b (record {
      list = list;
      shown = old.shown;
      left = old.left - tail.stored;
      given_up = old.given_up;
      has_table = old.has_table;
      open_share = old.open_share;
      far = new;
    })
tail_stands q b old tail list new (searches, tails, was) found room short after =
    let is = found.is in
    let ended = is.ended in
    let best : IsGoodList q.game b found.all × IsListOf q.game b searches tails found.all =
    subst (λ o. IfSome o (λ moves. IsGoodList q.game b moves × IsListOf q.game b searches tails moves)) found.best was.list in (
      searches,
      ended ∷ tails,
      record {
        asked = was.asked;
        middle = All-cons (IsOnTheWay q b) ended tails
            (record { game = is.asked.game; start = is.asked.start; rule = is.asked.rule; bound = is.asked.bound; weight = is.asked.weight; budget = is.asked.budget; over = is.asked.over }) was.middle;
        spent = let sum = sum_by-cons (λ (e : State). length e.store.stored) ended tails in let size = is.stored in let all = was.spent in omega (arith, sum, size, all, room);
        list = shorter_both (λ moves. IsGoodList q.game b moves × IsListOf q.game b searches (ended ∷ tails) moves) tail.list old.list list short
            (if_some (λ moves. IsGoodList q.game b moves × HasTailOf q.game b found.all ended moves)
            (λ moves. IsGoodList q.game b moves × IsListOf q.game b searches (ended ∷ tails) moves) tail.list
            (λ moves made. (made.0, list_with q.game b ended searches tails found.all moves best.1 made.1)) is.list)
            (if_some (λ moves. IsGoodList q.game b moves × IsListOf q.game b searches tails moves)
            (λ moves. IsGoodList q.game b moves × IsListOf q.game b searches (ended ∷ tails) moves) old.list
            (λ moves good. (good.0, list_on q.game b ended searches tails moves good.1)) was.list);
        shown = was.shown;
        none = λ nothing. absurd (there old.list found.all found.best (short.none nothing).1);
        tabled = was.tabled;
        bare = was.bare;
        told = record {
          budget = after.budget ∙ found.far.budget ∙ was.told.budget;
          least = subst (IsLeastOf old.shown) (let same = found.far.at_least in let most = after.at_least in let equal : old.far.at_least ≡ new.at_least = omega (arith, same, most) in equal) was.told.least;
          shortest = after.shortest;
        };
      },
    )

-- before the first search nothing is stored
pub nothing_stands : (q : QuestionData) (b : Board) (left : ℕ) (has_table : Bool) (far : Progress) → left ≡ q.method.strategy.budget
    → IsFirst left far → Stands q b (record { list = None; shown = None; left = left; given_up = None; has_table = has_table; open_share = 0; far = far })
nothing_stands q b left has_table far whole first = (
  [],
  [],
  record {
    asked = All-nil (IsOfQuestion q b);
    middle = All-nil (IsOnTheWay q b);
    spent = omega (arith, whole);
    list = tt;
    shown = tt;
    none = λ nothing. inr (refl, refl);
    tabled = λ wanted. tt;
    bare = λ unwanted. tt;
    told = record {
      budget = first.budget ∙ whole;
      least = first.at_least;
      shortest = first.shortest;
    };
  },
)

-- after a search for a tail something is left
pub tail_left : (q : QuestionData) (b : Board) (old : Standing) (rest : ℕ) (tail : Tail) → IsTailFor q b old tail → rest + tail.stored ≡ old.left → 1 ≤ rest
tail_left q b old rest tail is sum = let room = is.is.room in let most = is.most in omega (arith, most, room, sum)

-- a search for a tail that was made is one
pub found_tail : (q : QuestionData) (b : Board) (standing : Standing) (told : Option Tail) (tail : Tail) → told ≡ Some tail
    → IfSome told (IsTailFor q b standing) → IsTailFor q b standing tail
found_tail q b standing told tail same is = subst (λ o. IfSome o (IsTailFor q b standing)) same is
