use Rattle.std.proofs.Common.{◌≡◌, ◌↔◌, IsTrue, None, drop, sym, ◌∙◌, ap, subst}
use Rattle.std.specs.Option.{option_copied}
use Rattle.std.proofs.lemmas.List.{take_rest}
use Rattle.fc_text.specs.Line.{after_blanks, after_name, foundation_names, line_of}
use Rattle.fc_typed.specs.Guess.{TellsHome}
use Rattle.fc_typed.proofs.MissingLemmas.{line_named, line_unnamed}
use Rattle.fc_typed.proofs.missing.line_tells_home.Goals as goal

pub returns-in-Some : goal.returns-in-Some
returns-in-Some c =
    let body = c.without_return-body.result.now in
    let rest = take_rest body c.blanks_len.result ∙ ap (λ k. drop k body) c.blanks_len.ensures.value in
    let found = ap (after_name foundation_names) (sym rest) ∙ sym c.after_name.ensures.value ∙ ap option_copied c.in-Some.is in
    let same = line_named c.args.card body _ found in
    let told = c.piece_tells_home.ensures in
    subst (λ l. IsTrue c.piece_tells_home.result ↔ TellsHome c.args.card (line_of l)) c.without_return-body.ensures.value
    (λ t. same.1 (told.0 t), λ home. told.1 (same.0 home))

pub returns-in-None : goal.returns-in-None
returns-in-None c =
    let body = c.without_return-body.result.now in
    let rest = take_rest body c.blanks_len.result ∙ ap (λ k. drop k body) c.blanks_len.ensures.value in
    let none : after_name foundation_names (after_blanks body) ≡ None =
    ap (after_name foundation_names) (sym rest) ∙ sym c.after_name.ensures.value ∙ ap option_copied c.in-None.is in (
      λ t. absurd (cc t),
      λ home. absurd (line_unnamed c.args.card body none
          (subst (λ l. TellsHome c.args.card (line_of l)) (sym c.without_return-body.ensures.value) home)),
    )
