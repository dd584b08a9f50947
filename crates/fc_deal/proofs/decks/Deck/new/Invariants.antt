use Rattle.std.proofs.Common.{◌≡◌, ℕ, ◌<◌, length, slice_index}
use Rattle.fc_deal.proofs.decks.Deck.new.Given as goal

-- the cards so far stand by number
abbrev pub invariant-loop-index : goal.invariant-loop-index
invariant-loop-index l = record {
  whole : length l.cards ≡ 52;
  by_number : (k : ℕ) → k < l.index → slice_index l.cards k ≡ k;
}
