-- What stands below the first line of a text.
use Rattle.std.proofs.Common.{◌≡◌, ℕ, ◌+◌, ◌-◌, None, Some, List, [], length, take, drop, sym, ◌∙◌, ap, arith}
use Rattle.std.specs.Prelude.{position}
use Rattle.std.specs.List.{position_or_len}
use Rattle.std.proofs.lemmas.List.{drop_all, length-drop, take_all}
use Rattle.fc_text.specs.Line.{is_line_end}
use Rattle.fc_typed.proofs.TidyLemmas.{first_at, none_at}
use Rattle.fc_library.specs.Lists.{below_first_line}

-- behind the first LF
pub below_an_end : (text : List ℕ) (len : ℕ) → position is_line_end text ≡ Some len
    → take (length text - (len + 1)) (drop (len + 1) text) ≡ below_first_line text
below_an_end text len found =
    let at : position_or_len is_line_end text ≡ len = (first_at is_line_end text len found).1 in
    let same : 1 + position_or_len is_line_end text ≡ len + 1 = omega (arith, at) in
    take_all (length text - (len + 1)) (drop (len + 1) text) (omega (arith, length-drop (len + 1) text)) ∙ sym (ap (λ n. drop n text) same)

-- nothing, where there is none
pub below_no_end : (text : List ℕ) → position is_line_end text ≡ None → [] ≡ below_first_line text
below_no_end text none = sym (drop_all (1 + position_or_len is_line_end text) text (omega (arith, none_at is_line_end text none)))
