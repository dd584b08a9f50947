use Rattle.std.proofs.Common.{◌+◌, ◌*◌, get_or, ◌∙◌, ap}
use Rattle.fc_codes.proofs.WordLemmas.{word_state, word_fits}
use Rattle.fc_codes.proofs.codes.Code.word.Goals as goal

pub returns : goal.returns
returns c =
    let words = c.words.result in
    record {
      value = λ place small. word_state words c.args.index place c.words.ensures.words c.requires.there small
          ∙ ap (λ l. get_or l (21 * c.args.index + place) 0) c.words.ensures.value;
      small = word_fits words c.args.index c.words.ensures.words c.requires.there;
    }
