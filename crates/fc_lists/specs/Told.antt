-- Entries that a line tells in words: as the program prints them, and as Freecell Solver does.
use Rattle.std.specs.Prelude.{◌≡◌, ◌⊎◌, ℕ, ◌==◌, ◌-◌, ◌≤◌, ◌<◌, Bool, true, List, [], ◌∷◌, ◌++◌, codes, length, slice_index}
use Rattle.fc_sequences.specs.declared.pairs.Pair.{Pair}
use Rattle.fc_sequences.specs.Pair.{SpellsPair}
use Rattle.fc_sequences.specs.Saying.{SaysPair, digits}
use Rattle.fc_lists.specs.declared.told_entries.ToldEntry.{ToldEntry}

-- the last byte of the word is a point
abbrev pub ends_with_point : List ℕ → Bool
ends_with_point word = slice_index word (length word - 1) == 46

-- the word is how many cards are carried, from 2 to 13
abbrev pub IsCardCount : List ℕ → ℕ → Type 0
IsCardCount word count = (word ≡ digits count) × (2 ≤ count) × (count < 14)

-- the words tell so many cards: one, in a word; or their number, `cards,`, and the deepest and the last of them in three words
abbrev pub TellsCards : List (List ℕ) → ℕ → Type 0
TellsCards words count = ((card : List ℕ) × (words ≡ card ∷ []) × (count ≡ 1))
    ⊎ ((number deepest to last : List ℕ) × (words ≡ number ∷ codes "cards," ∷ deepest ∷ to ∷ last ∷ []) × IsCardCount number count)

-- the words tell so many cards, and `from`, and others are left
abbrev pub HasCards : List (List ℕ) → ℕ → List (List ℕ) → Type 0
HasCards words count rest = (cards : List (List ℕ)) × TellsCards cards count × (words ≡ cards ++ codes "from" ∷ rest)

-- a place is named by its letter, or home by that word
abbrev pub IsLetterOf : List ℕ → ℕ → Type 0
IsLetterOf name letter = (name ≡ letter ∷ []) ⊎ ((name ≡ codes "home") × (letter ≡ 104))

-- the words tell a way: the kind of a place and its name, and last the name of the place where it leads
abbrev pub TellsWay : List (List ℕ) → ℕ → ℕ → Type 0
TellsWay words from to = (kind name last : List ℕ) × (between : List (List ℕ)) × (words ≡ kind ∷ name ∷ between ++ last ∷ [])
    × IsLetterOf name from × IsLetterOf last to

-- the words tell the entry as the program prints it: a number with a point, the cards, `from`, and the way
pub record TellsEntry (words : List (List ℕ)) (told : ToldEntry) : Type 0 where
  pub number : List ℕ
  pub behind : List (List ℕ)
  pub way : List (List ℕ)
  pub first : words ≡ number ∷ behind
  pub point : ends_with_point number ≡ true
  pub cards : HasCards behind told.count way
  pub places : TellsWay way told.from told.to

-- the words tell the entry as Freecell Solver prints it: in words; or in letters behind `Move:`
abbrev pub SaysEntry : List (List ℕ) → Pair → Type 0
SaysEntry words p = SaysPair words p ⊎ ((entry : List ℕ) × (words ≡ codes "Move:" ∷ entry ∷ []) × SpellsPair entry p)
