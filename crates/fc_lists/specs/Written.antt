-- Lists that people write: which words spell which entries.
use Rattle.std.specs.Prelude.{◌≡◌, ℕ, ◌+◌, min, List, [], ◌∷◌, ◌++◌, length}
use Rattle.fc_cards.specs.declared.places.Place.{Place}
use Rattle.fc_moves.specs.declared.steps.Move.{Move}
use Rattle.fc_text.specs.Fault.{IsNoCard}
use Rattle.fc_text.specs.Spelling.{SpellsCard}
use Rattle.fc_lists.specs.Word.{IsMoveWord, IsNoMoveWord, NamesNoPlace, NamesPlace, after_links}
use Rattle.fc_lists.specs.declared.people.EntriesFault.{EntriesFault}
use Rattle.fc_lists.specs.declared.people.EntriesFault.TheVariants.{NoMove, Memory}
use Rattle.fc_lists.specs.declared.written_entries.Entry.{Entry}
use Rattle.fc_lists.specs.declared.written_entries.Entry.TheVariants.{Move as of_move, Card as of_card}

-- no place is named by the first of the words
abbrev pub BeginsNoPlace : List (List ℕ) → Type 0
BeginsNoPlace [] = Unit {0}
BeginsNoPlace (word ∷ words) = NamesNoPlace word

-- the words from the front spell entries, and others are left: a card and its place, perhaps with `to`, a dash or an arrow between; a
-- move; and a card's name that is a move as well is that move where no place follows it
pub data ReadsEntries (words : List (List ℕ)) : List Entry → List (List ℕ) → Type 0 where
  begins : ReadsEntries words [] words
  goes_to : (entries : List Entry) (word place : List ℕ) (behind rest : List (List ℕ)) (c : ℕ) (to : Place) → ReadsEntries words entries (word ∷ behind)
      → SpellsCard word c → after_links behind ≡ place ∷ rest → NamesPlace place to → ReadsEntries words (entries ++ of_card c to ∷ []) rest
  goes_on : (entries : List Entry) (word : List ℕ) (behind : List (List ℕ)) (c : ℕ) (m : Move) → ReadsEntries words entries (word ∷ behind)
      → SpellsCard word c → BeginsNoPlace (after_links behind) → IsMoveWord word m → ReadsEntries words (entries ++ of_move m ∷ []) (after_links behind)
  moves : (entries : List Entry) (word : List ℕ) (rest : List (List ℕ)) (m : Move) → ReadsEntries words entries (word ∷ rest)
      → IsNoCard word → IsMoveWord word m → ReadsEntries words (entries ++ of_move m ∷ []) rest

-- the words spell the entries, and nothing else
abbrev pub AreEntries : List (List ℕ) → List Entry → Type 0
AreEntries words entries = ReadsEntries words entries []

-- the first word is no entry: it is no move, and no card that a place follows
abbrev pub BeginsNoEntry : List (List ℕ) → Type 0
BeginsNoEntry [] = ⊥
BeginsNoEntry (word ∷ words) = IsNoMoveWord word × ((c : ℕ) → SpellsCard word c → BeginsNoPlace (after_links words))

-- the words from the front spell entries, and the next is none: its step counts from 1, up to the greatest number that is told
pub record IsFirstNoEntry (words : List (List ℕ)) (step : ℕ) : Type 0 where
  pub entries : List Entry
  pub rest : List (List ℕ)
  pub read : ReadsEntries words entries rest
  pub none : BeginsNoEntry rest
  pub place : step ≡ min (length entries + 1) 4294967295

-- why words aren't read as entries: some is none; or a growth was refused
abbrev pub IsEntriesFault : List (List ℕ) → EntriesFault → Type 0
IsEntriesFault words (NoMove step) = IsFirstNoEntry words step
IsEntriesFault words Memory = Unit {0}
