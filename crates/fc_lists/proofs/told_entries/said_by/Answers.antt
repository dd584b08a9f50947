use Rattle.std.proofs.Common.{rules, ◌≡◌, ℕ, Bor, List, [], get_or, map}
use Rattle.std.specs.Prelude.{codes}
use Rattle.fc_lists.proofs.ToldLemmas.{said_letters, two_words}
use Rattle.fc_lists.proofs.told_entries.said_by.Goals as goal

pub returns-clause-said : goal.returns-clause-said
returns-clause-said c =
    let d : Bor (List ℕ) = record { ref_ptr = (0, 0); now = [] } in
    let first : (get_or c.args.words.now 0 d).now ≡ codes "Move:" = search rules in
    said_letters (map (λ (w : Bor (List ℕ)). w.now) c.args.words.now) (get_or c.args.words.now 1 d).now (get_or c.args.words.now 0 d).now c.read_pair.result
    (two_words c.args.words.now d c.in-len2.len_at_least c.in-len2.len_below) first c.read_pair.ensures.read
