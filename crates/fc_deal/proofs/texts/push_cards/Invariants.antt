use Rattle.std.proofs.Common.{◌≡◌, ◌++◌, take}
use Rattle.std.specs.List.{flat_map}
use Rattle.fc_deal.proofs.TextLemmas.{next_text}
use Rattle.fc_deal.proofs.texts.push_cards.Given as goal

-- the cards so far are written
abbrev pub invariant-loop-card : goal.invariant-loop-card
invariant-loop-card l = l.text.bytes ≡ l.initial.text.bytes ++ flat_map next_text (take l.card-index l.rest)
