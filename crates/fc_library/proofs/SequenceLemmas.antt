-- Lists whose entries may move several cards: why one isn't played, and what is told of one that is.
use Rattle.std.proofs.Common.{◌≡◌, inr, ℕ, true, cond, List, [], take, Option, None, Some, Ok, sym, subst}
use Rattle.fc_position.specs.Board.{Board}
use Rattle.fc_moves.specs.declared.steps.Move.{Move}
use Rattle.fc_moves.specs.GameRules.{GameRules}
use Rattle.fc_moves.specs.Run.{Run}
use Rattle.fc_replay.specs.Played.{PlaysAs, sink_change}
use Rattle.fc_replay.specs.Token.{move_tokens}
use Rattle.fc_replay.specs.declared.pages.Page.TheVariants as page
use Rattle.fc_replay.specs.declared.replays.Ended.{Ended}
use Rattle.fc_lists.specs.Plays.{IsExpanded, IsUnplayed}
use Rattle.fc_lists.specs.declared.faults.PlayFault.{PlayFault}
use Rattle.fc_lists.specs.declared.faults.PlayFault.TheVariants.{NoEntry, NotAllowed, TooManyWays, ListEnds, TooLong, Memory}
use Rattle.fc_lists.proofs.ExpandedLemmas.{whole_front}
use Rattle.fc_lists.proofs.PlayedLemmas.{come_run}
use Rattle.fc_library.specs.Games.{game_named}
use Rattle.fc_library.specs.Replays.{CanBeReplayed}
use Rattle.fc_library.specs.Sequences.{IsSequencesRefused, IsSequencesTold}
use Rattle.fc_library.specs.declared.game_names.GameName.{GameName}
use Rattle.fc_library.specs.declared.told_answers.Told.{Told}
use Rattle.fc_library.specs.inner.Fault.{refusal_of}

-- moves that expand tokens run
pub expanded_runs : (g : GameRules) (b : Board) (tokens : List (List ℕ)) (moves own : List Move) → IsExpanded g b tokens moves → own ≡ moves
    → (c : Board) × Run g b own c
expanded_runs g b tokens moves own it same = let run = come_run true g b tokens moves it in (run.0, subst (λ l. Run g b l run.0) (sym same) run.1)

-- a list that can be played on a board, and a game that has this name
module _ (name : GameName) (text list : List ℕ) (start : Board) (given : CanBeReplayed name text list start) (g : GameRules) (same : g ≡ game_named name) where
  refused_whole : (fault : PlayFault) → IsUnplayed (game_named name) start (move_tokens list) fault → IsSequencesRefused name text list (refusal_of fault)
  refused_whole (NoEntry step) why = (start, given, why)
  refused_whole (NotAllowed step) why = (start, given, why)
  refused_whole (TooManyWays step) why = (start, given, why)
  refused_whole (ListEnds count) why = absurd why
  refused_whole TooLong why = inr (start, given, why)
  refused_whole Memory why = (start, given)

  -- why its entries aren't played is why it is refused
  pub refused_for : (fault : PlayFault) → IsUnplayed g start (take 1048576 (move_tokens list)) fault → IsSequencesRefused name text list (refusal_of fault)
  refused_for fault why =
      refused_whole fault
      (subst (λ h. IsUnplayed h start (move_tokens list) fault) same
      (subst (λ l. IsUnplayed g start l fault) (whole_front list 1048576 given.short) why))

  -- the boards after its moves are what is told
  pub told_for : (moves own : List Move) → IsExpanded g start (take 1048576 (move_tokens list)) moves → own ≡ moves → (ended : Ended) (old new : Option (List ℕ))
      → PlaysAs page.Board g start own (sink_change old new) (Ok ended) → old ≡ Some [] → (told : Told) → new ≡ Some told.text.items → told.outcome ≡ None
      → told.status ≡ cond ended.is_won 0 3 → told.place ≡ 0 → IsSequencesTold name text list told
  told_for moves own it is ended old new played empty told bytes numbers status place = record {
    start = start;
    given = given;
    steps = moves;
    expanded = subst (λ h. IsExpanded h start (move_tokens list) moves) same (subst (λ l. IsExpanded g start l moves) (whole_front list 1048576 given.short) it);
    ended = ended;
    played = subst (λ h. PlaysAs page.Board h start moves (sink_change (Some []) (Some told.text.items)) (Ok ended)) same
        (subst (λ l. PlaysAs page.Board g start l (sink_change (Some []) (Some told.text.items)) (Ok ended)) is
        (subst (λ n. PlaysAs page.Board g start own (sink_change (Some []) n) (Ok ended)) bytes
        (subst (λ o. PlaysAs page.Board g start own (sink_change o new) (Ok ended)) empty played)));
    numbers = numbers;
    status = status;
    place = place;
  }
