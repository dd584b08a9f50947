-- Which lines have a fault.
use Rattle.std.proofs.Common.{◌≡◌, ℕ, zero, suc, ◌≤◌, ◌<◌, List, [], ◌∷◌, length, get_or, ap, subst, arith}
use Rattle.std.specs.Prelude.{Contains}
use Rattle.std.specs.List.{AllZip}
use Rattle.fc_text.specs.declared.faults.LineFault.TheVariants.{BadCard, BadFoundation, TooManyCells, TooManyColumns, RepeatedLine}
use Rattle.fc_text.specs.declared.lines.LineKind.TheVariants.{Column}
use Rattle.fc_text.specs.Line.{tokens_of}
use Rattle.fc_text.specs.Spelling.{SpellsCard}
use Rattle.fc_text.specs.Fault.{HasBadCard, HasTooManyColumns, IsSound}
use Rattle.fc_text.specs.inner.Draft.{column_line}

spelled_at : (tokens : List (List ℕ)) (cards : List ℕ) → AllZip SpellsCard tokens cards → (k : ℕ) (d : List ℕ) → k < length tokens
    → (c : ℕ) × SpellsCard (get_or tokens k d) c
spelled_at [] cards zip k d below = absurd (omega (arith, below))
spelled_at (t ∷ ts) [] zip k d below = absurd zip
spelled_at (t ∷ ts) (c ∷ cs) zip zero d below = (c, zip.0)
spelled_at (t ∷ ts) (c ∷ cs) zip (suc k) d below = spelled_at ts cs zip.1 k d (omega (arith, below))

-- where all tokens spell cards, none is bad
pub no_bad_card : (tokens : List (List ℕ)) (cards : List ℕ) → AllZip SpellsCard tokens cards → HasBadCard Column tokens → ⊥
no_bad_card tokens cards zip bad =
    let found : Contains tokens bad.0 = bad.1 in
    let card = spelled_at tokens cards zip found.0 bad.0 found.1 in
    bad.2 card.0 (subst (λ token. SpellsCard token card.0) found.2 card.1)

few_columns : (before : ℕ) (tokens : List (List ℕ)) → (8 ≤ before → tokens ≡ []) → HasTooManyColumns before Column tokens → ⊥
few_columns before tokens none bad = let size = ap length (none bad.0) in omega (arith, size, bad.1)

-- a column line of cards is sound where it has a place, or no card
pub column_sound : (n before : ℕ) (piece cards : List ℕ) → AllZip SpellsCard (tokens_of piece) cards
    → (8 ≤ before → tokens_of piece ≡ []) → IsSound n before (column_line piece)
column_sound n before piece cards zip none BadCard bad = no_bad_card (tokens_of piece) cards zip bad
column_sound n before piece cards zip none BadFoundation bad = bad
column_sound n before piece cards zip none TooManyCells bad = bad.1
column_sound n before piece cards zip none TooManyColumns bad = few_columns before (tokens_of piece) none bad.1
column_sound n before piece cards zip none RepeatedLine bad = bad.3
