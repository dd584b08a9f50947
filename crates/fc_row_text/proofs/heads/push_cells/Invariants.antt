use Rattle.std.proofs.Common.{◌≡◌, ◌-◌, ◌∷◌, ◌++◌}
use Rattle.std.specs.List.{flat_map, range_with_len}
use Rattle.fc_row_text.specs.RowText.{cells_head, word_at}
use Rattle.fc_row_text.proofs.heads.push_cells.Given as goal

-- those from this one on are left
abbrev pub invariant-loop-i : goal.invariant-loop-i
invariant-loop-i l =
    l.bytes.items ++ flat_map (λ i. 32 ∷ word_at i l.line) (range_with_len l.i (l.cells - l.i))
    ≡ l.fn.bytes.items ++ cells_head l.cells l.line
