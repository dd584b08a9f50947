-- The words that are put before a board alone.
use Rattle.std.proofs.Common.{◌≡◌, ℕ, false, true, List, ◌++◌, codes, sym}
use Rattle.fc_words.specs.Alone.{has_option, meant_words, with_word, solve_words, asks_to_solve, with_option}

pub option_put : (name value word : List ℕ) (old new : List (List ℕ)) → false ≡ has_option name old
    → word ≡ codes "--" ++ name ++ codes "=" ++ value → new ≡ with_word word old → new ≡ with_option name value old
option_put name value word old new none spelled e = rw (sym none) (rw (← spelled) e)

pub all_meant : (word : List ℕ) (old first second new : List (List ℕ)) → first ≡ with_option (codes "within") (codes "2") old
    → second ≡ with_option (codes "bound") (codes "clearing") first → word ≡ codes "solve" → new ≡ with_word word second → new ≡ solve_words old
all_meant word old first second new e f spelled g = rw (← e) (rw (← f) (rw (← spelled) g))

pub best_meant : (word : List ℕ) (old new : List (List ℕ)) → false ≡ asks_to_solve old → word ≡ codes "best" → new ≡ with_word word old
    → new ≡ meant_words old
best_meant word old new none spelled e = rw (sym none) (rw (← spelled) e)

pub solving_meant : (old new : List (List ℕ)) → true ≡ asks_to_solve old → new ≡ solve_words old → new ≡ meant_words old
solving_meant old new told e = rw (sym told) e
