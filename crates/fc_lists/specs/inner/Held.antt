-- A card that is held, until it is known whether a place follows it.
use Rattle.std.specs.Prelude.{◌≡◌, ℕ, ◌+◌, min, List, ◌∷◌, Option, Some, None, length}
use Rattle.fc_moves.specs.declared.steps.Move.{Move}
use Rattle.fc_text.specs.Spelling.{SpellsCard}
use Rattle.fc_lists.specs.Word.{IsMoveWord, IsNoMoveWord, after_links}
use Rattle.fc_lists.specs.Written.{ReadsEntries}
use Rattle.fc_lists.specs.declared.people.EntriesFault.{EntriesFault}
use Rattle.fc_lists.specs.declared.people.EntriesFault.TheVariants.{NoMove, Memory}
use Rattle.fc_lists.specs.declared.people.Held.{Held}
use Rattle.fc_lists.specs.declared.written_entries.Entry.{Entry}

-- the word is the move, or none
abbrev pub IsMoveIfAny : List ℕ → Option Move → Type 0
IsMoveIfAny word (Some m) = IsMoveWord word m
IsMoveIfAny word None = IsNoMoveWord word

-- a card's name is read behind these entries, and links behind it, and these words are left
pub record IsHeld (words : List (List ℕ)) (held : Held) (entries : List Entry) (rest : List (List ℕ)) : Type 0 where
  pub word : List ℕ
  pub behind : List (List ℕ)
  pub read : ReadsEntries words entries (word ∷ behind)
  pub card : SpellsCard word held.card
  pub as_move : IsMoveIfAny word held.m
  pub links : after_links behind ≡ after_links rest

-- these entries are read, and perhaps a card's name behind them, and these words are left
abbrev pub IsPending : List (List ℕ) → Option Held → List Entry → List (List ℕ) → Type 0
IsPending words None entries rest = ReadsEntries words entries rest
IsPending words (Some held) entries rest = IsHeld words held entries rest

-- why no entry is added behind these: there is none; or a growth was refused
abbrev pub IsPushFault : Option Move → List Entry → EntriesFault → Type 0
IsPushFault m entries (NoMove step) = (m ≡ None) × (step ≡ min (length entries + 1) 4294967295)
IsPushFault m entries Memory = Unit {0}
