use Rattle.std.proofs.Common.{[], ◌∷◌, ◌++◌}
use Rattle.std.specs.Prelude.{codes}
use Rattle.fc_position.specs.Board.{home}
use Rattle.fc_text.specs.Printed.{home_text, foundations_text}
use Rattle.fc_text.proofs.PrintLemmas.{appended}
use Rattle.fc_text.proofs.printers.push_foundations.Goals as goal

pub returns : goal.returns
returns c =
    let o = c.args.text.now.bytes in
    let b = c.args.position.now in
    let name = codes "Foundations:" in
    let hearts = 32 ∷ home_text 2 (home b 2) in
    let clubs = 32 ∷ home_text 0 (home b 0) in
    let diamonds = 32 ∷ home_text 1 (home b 1) in
    let spades = 32 ∷ home_text 3 (home b 3) in
    let one = appended o _ _ name hearts c.push_str.ensures.bytes c.push_home.ensures.text in
    let two = appended o _ _ (name ++ hearts) clubs one c.push_home-2.ensures.text in
    let three = appended o _ _ ((name ++ hearts) ++ clubs) diamonds two c.push_home-3.ensures.text in
    let four = appended o _ _ (((name ++ hearts) ++ clubs) ++ diamonds) spades three c.push_home-4.ensures.text in
    record { text = appended o _ _ (foundations_text b) (10 ∷ []) four c.push_byte.ensures.text }
