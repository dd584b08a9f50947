use Rattle.std.proofs.Common.{[], ◌∷◌, ◌++◌}
use Rattle.std.specs.Prelude.{codes, ◌+◌}
use Rattle.std.proofs.lemmas.Result.{IfErr-weaker, on_ok_weaker}
use Rattle.fc_row_text.specs.RowText.{home_entry, homes_head, word_at}
use Rattle.fc_row_text.specs.inner.RowLine.{IsFull}
use Rattle.fc_row_text.proofs.PushLemmas.{full_next, home_pushed, pushed_next}
use Rattle.fc_row_text.proofs.heads.push_homes.Goals as goal

pub returns-clause-pushed : goal.returns-clause-pushed
returns-clause-pushed c =
    let old = c.args.bytes.now.items in
    let line = c.args.line.now in
    let n = c.args.cells in
    let name = codes "Foundations:" in
    let hearts = name ++ 32 ∷ home_entry 72 (word_at (n + 2) line) in
    let clubs = hearts ++ 32 ∷ home_entry 67 (word_at n line) in
    let diamonds = clubs ++ 32 ∷ home_entry 68 (word_at (n + 1) line) in
    let one = home_pushed old _ _ name _ _ 72 c.in_ok-push.ensures.pushed c.in_ok-push_home.ensures.pushed c.word_at.ensures in
    let two = home_pushed old _ _ hearts _ _ 67 one c.in_ok-push_home-2.ensures.pushed c.word_at-2.ensures in
    let three = home_pushed old _ _ clubs _ _ 68 two c.in_ok-push_home-3.ensures.pushed c.word_at-3.ensures in
    let four = home_pushed old _ _ diamonds _ _ 83 three c.in_ok-push_home-4.ensures.pushed c.word_at-4.ensures in
    on_ok_weaker c.push-2.result (λ last. pushed_next old _ _ (homes_head n line) (10 ∷ []) four last) c.push-2.ensures.pushed

pub returns-clause-full : goal.returns-clause-full
returns-clause-full c =
    let old = c.args.bytes.now.items in
    let line = c.args.line.now in
    let n = c.args.cells in
    let name = codes "Foundations:" in
    let hearts = name ++ 32 ∷ home_entry 72 (word_at (n + 2) line) in
    let clubs = hearts ++ 32 ∷ home_entry 67 (word_at n line) in
    let diamonds = clubs ++ 32 ∷ home_entry 68 (word_at (n + 1) line) in
    let one = home_pushed old _ _ name _ _ 72 c.in_ok-push.ensures.pushed c.in_ok-push_home.ensures.pushed c.word_at.ensures in
    let two = home_pushed old _ _ hearts _ _ 67 one c.in_ok-push_home-2.ensures.pushed c.word_at-2.ensures in
    let three = home_pushed old _ _ clubs _ _ 68 two c.in_ok-push_home-3.ensures.pushed c.word_at-3.ensures in
    let four = home_pushed old _ _ diamonds _ _ 83 three c.in_ok-push_home-4.ensures.pushed c.word_at-4.ensures in
    IfErr-weaker c.push-2.result (IsFull _ (10 ∷ [])) (IsFull old (homes_head n line ++ 10 ∷ []))
    (λ fault last. full_next old _ (homes_head n line) (10 ∷ []) fault four last) c.push-2.ensures.full
