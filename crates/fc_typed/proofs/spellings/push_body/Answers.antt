use Rattle.std.proofs.Common.{◌≡◌, ◌++◌, None, drop, sym, ◌∙◌, ap}
use Rattle.std.specs.Option.{option_copied}
use Rattle.std.proofs.lemmas.List.{take_rest}
use Rattle.fc_text.specs.Line.{after_blanks, after_name, cell_names, foundation_names}
use Rattle.fc_typed.specs.Respelled.{after_label, before_piece, respelled_column}
use Rattle.fc_typed.proofs.SpellingLemmas.{spelling_cells, spelling_column}
use Rattle.fc_typed.proofs.spellings.push_body.Goals as goal

pub returns-in-Some-after_name-clause-pushed : goal.returns-in-Some-after_name-clause-pushed
returns-in-Some-after_name-clause-pushed c =
    let line = c.args.line.now in
    let rest = take_rest line c.blanks_len.result ∙ ap (λ k. drop k line) c.blanks_len.ensures.value in
    let none : after_name foundation_names (after_blanks line) ≡ None =
    ap (after_name foundation_names) (sym rest) ∙ sym c.after_name.ensures.value ∙ ap option_copied c.in_default.is in
    let found =
    ap (after_name cell_names) (sym rest) ∙ sym c.after_name-2.ensures.value ∙ ap option_copied c.in-Some-after_name.is in
    c.push_piece-in-Some-after_name.ensures.pushed ∙ ap (λ t. c.args.tidy.now.items ++ t) (sym (spelling_cells line _ none found))

pub returns-clause-pushed : goal.returns-clause-pushed
returns-clause-pushed c =
    let line = c.args.line.now in
    let rest = take_rest line c.blanks_len.result ∙ ap (λ k. drop k line) c.blanks_len.ensures.value in
    let none : after_name foundation_names (after_blanks line) ≡ None =
    ap (after_name foundation_names) (sym rest) ∙ sym c.after_name.ensures.value ∙ ap option_copied c.in_default.is in
    let other : after_name cell_names (after_blanks line) ≡ None =
    ap (after_name cell_names) (sym rest) ∙ sym c.after_name-2.ensures.value ∙ ap option_copied c.in_default-after_name.is in
    let piece = c.after_label.ensures.value ∙ ap after_label rest in
    c.push_column.ensures.pushed
    ∙ ap (λ t. c.args.tidy.now.items ++ (before_piece t line ++ respelled_column t)) piece
    ∙ ap (λ t. c.args.tidy.now.items ++ t) (sym (spelling_column line none other))
