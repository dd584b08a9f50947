-- Words of the lists that people write: moves, cards and places, and what stands before them and between.
use Rattle.std.specs.Prelude.{◌≡◌, ◌⊎◌, ℕ, ◌==◌, ◌||◌, nat_lt, Bool, not, cond, List, [], ◌∷◌, ◌++◌, drop, filter, map, codes}
use Rattle.std.specs.Char.{is_ascii_digit}
use Rattle.std.specs.List.{position_or_len}
use Rattle.std.specs.Str.{bytes_eq}
use Rattle.fc_cards.specs.declared.places.Place.{Place}
use Rattle.fc_cards.specs.declared.places.Place.TheVariants.{Home}
use Rattle.fc_moves.specs.declared.steps.Move.{Move}
use Rattle.fc_moves.specs.MoveText.{IsThere, place_letter}
use Rattle.fc_text.specs.Line.{is_token}
use Rattle.fc_replay.specs.Token.{SpellsMove, move_tokens}

-- the number of an entry ends with a point, a bracket or a colon
abbrev pub ends_number : ℕ → Bool
ends_number b = (b == 46) || (b == 41) || (b == 58)

-- how many digits a text begins with
abbrev pub digit_count : List ℕ → ℕ
digit_count text = position_or_len (λ b. not (is_ascii_digit b)) text

-- what stands behind the end of a number, or else the whole word
abbrev pub behind_end : List ℕ → List ℕ → List ℕ
behind_end word [] = word
behind_end word (b ∷ bytes) = cond (ends_number b) bytes word

-- a word without the number that it begins with
abbrev pub after_number : List ℕ → List ℕ
after_number word = cond (nat_lt 0 (digit_count word)) (behind_end word (drop (digit_count word) word)) word

-- the words of a list: its tokens without numbers; a number alone is none
abbrev pub words_of : List ℕ → List (List ℕ)
words_of list = filter is_token (map after_number (move_tokens list))

-- what may stand between the letters of a move: nothing, a dash, or an arrow
abbrev pub IsArrow : List ℕ → Type 0
IsArrow arrow = (arrow ≡ []) ⊎ ((arrow ≡ codes "-") ⊎ (arrow ≡ codes "->"))

-- the word is the move: its two letters in either case, perhaps with a dash or an arrow between
abbrev pub IsMoveWord : List ℕ → Move → Type 0
IsMoveWord word m = (from : ℕ) × (to : ℕ) × (arrow : List ℕ) × IsArrow arrow × SpellsMove (from ∷ to ∷ []) m × (word ≡ from ∷ arrow ++ to ∷ [])

-- the word is no move
abbrev pub IsNoMoveWord : List ℕ → Type 0
IsNoMoveWord word = (m : Move) → IsMoveWord word m → ⊥

-- the word names the place: by its letter, or home by that word
abbrev pub NamesPlace : List ℕ → Place → Type 0
NamesPlace word to = IsThere to × ((word ≡ place_letter to ∷ []) ⊎ ((word ≡ codes "home") × (to ≡ Home)))

-- the word names no place
abbrev pub NamesNoPlace : List ℕ → Type 0
NamesNoPlace word = (to : Place) → NamesPlace word to → ⊥

-- what may stand between a card and its place
abbrev pub is_link : List ℕ → Bool
is_link word = bytes_eq word (codes "to") || bytes_eq word (codes "->") || bytes_eq word (codes "-")

-- words without those of this kind that come first
abbrev pub after_links : List (List ℕ) → List (List ℕ)
after_links [] = []
after_links (word ∷ words) = cond (is_link word) (after_links words) (word ∷ words)
