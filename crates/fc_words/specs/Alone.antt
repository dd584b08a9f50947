-- What a board alone on the command line means.
use Rattle.std.specs.Prelude.{◌≡◌, ℕ, ◌≤◌, ◌&&◌, ◌||◌, Bool, cond, nat_eq, List, [], ◌∷◌, ◌++◌, take, drop, codes, All}
use Rattle.std.specs.List.{list_any, starts_with}

-- a word is the option of this name, whatever is told of it
abbrev pub is_option : List ℕ → List ℕ → Bool
is_option name word = starts_with nat_eq word (codes "--") && starts_with nat_eq (drop 2 word) name

-- an option of this name stands among the words
abbrev pub has_option : List ℕ → List (List ℕ) → Bool
has_option name words = list_any (is_option name) words

-- a word put before the others, behind the program's name
abbrev pub with_word : List ℕ → List (List ℕ) → List (List ℕ)
with_word word words = take 1 words ++ word ∷ drop 1 words

-- where the words don't have the option, it is put there with a value
abbrev pub with_option : List ℕ → List ℕ → List (List ℕ) → List (List ℕ)
with_option name value words = cond (has_option name words) words (with_word (codes "--" ++ name ++ codes "=" ++ value) words)

-- an option that only `solve` has stands among the words
abbrev pub asks_to_solve : List (List ℕ) → Bool
asks_to_solve words = has_option (codes "within") words || (has_option (codes "bound") words || has_option (codes "expand") words)

-- the words that solve a board: where they don't tell these, within twice the fewest moves, by the clearing bound
abbrev pub solve_words : List (List ℕ) → List (List ℕ)
solve_words words = with_word (codes "solve") (with_option (codes "bound") (codes "clearing") (with_option (codes "within") (codes "2") words))

-- the words that stand for those of a board alone: it is solved where they have such an option, and else its best answer is asked for
abbrev pub meant_words : List (List ℕ) → List (List ℕ)
meant_words words = cond (asks_to_solve words) (solve_words words) (with_word (codes "best") words)

-- digits alone, at least one
abbrev pub IsNumber : List ℕ → Type 0
IsNumber word = (word ≡ [] → ⊥) × All (λ b. (48 ≤ b) × (b ≤ 57)) word
