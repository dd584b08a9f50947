-- Columns by themselves, apart from cells and what is home.
use Rattle.std.specs.Prelude.{ℕ, List, [], slice_index_or}

-- the cards of one of these columns, none past the last
abbrev pub cards_at : List (List ℕ) → ℕ → List ℕ
cards_at columns i = slice_index_or columns i []
