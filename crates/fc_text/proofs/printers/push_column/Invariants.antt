use Rattle.std.proofs.Common.{◌≡◌, ◌++◌, map, take}
use Rattle.std.specs.Prelude.{codes}
use Rattle.fc_cards.specs.Texts.{card_text}
use Rattle.fc_text.specs.Printed.{entries_text}
use Rattle.fc_text.proofs.printers.push_column.Given as goal

-- the cards so far are written
abbrev pub invariant-loop-card : goal.invariant-loop-card
invariant-loop-card l = l.text.bytes ≡ l.fn.text.bytes ++ (codes ":" ++ entries_text (map card_text (take l.card-index l.cards)))
