use Rattle.std.proofs.Common.{◌≡◌, ℕ, ◌<◌, Some, option_map, slice_get}
use Rattle.fc_words.proofs.name_places.place_of.Given as goal

-- none of the names so far is the name
abbrev pub invariant-loop-i : goal.invariant-loop-i
invariant-loop-i l = (k : ℕ) → k < l.i → option_map (λ s. s.now) (slice_get l.names k) ≡ Some l.name → ⊥
