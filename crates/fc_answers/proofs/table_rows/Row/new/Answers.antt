use Rattle.std.proofs.Common.{ap, ◌∙◌}
use Rattle.fc_answers.specs.Table.{front_of}
use Rattle.fc_answers.proofs.CodedLemmas.{key_front, key_there}
use Rattle.fc_answers.proofs.table_rows.Row.new.Goals as goal

pub front_of-requires : goal.front_of-requires
front_of-requires c =
    record { begins = key_front c.args.position.now c.key.result.items c.key.ensures.whole c.key.ensures.value }

pub returns-clause-row : goal.returns-clause-row
returns-clause-row c =
    λ start coded spelled. (
      coded,
      c.front_of.ensures.value
          ∙ ap front_of (key_there start c.args.position.now c.args.code c.key.result.items coded spelled c.key.ensures.value),
    )
