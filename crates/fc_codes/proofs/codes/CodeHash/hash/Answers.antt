use Rattle.fc_codes.proofs.WordLemmas.{words_are}
use Rattle.fc_codes.proofs.codes.CodeHash.hash.Goals as goal

pub returns : goal.returns
returns g c =
    let three = words_are c.words.result c.args.self.now c.words.ensures.words c.words.ensures.value in
    let one = three.0 in
    let two = three.1 in
    let last = three.2 in
    let first = c.write_u64.ensures in
    let then_ = c.write_u64-2.ensures in
    let end = c.write_u64-3.ensures in
    cc
