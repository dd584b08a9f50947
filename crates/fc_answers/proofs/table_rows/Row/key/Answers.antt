use Rattle.fc_answers.proofs.CodedLemmas.{key_there}
use Rattle.fc_answers.proofs.table_rows.Row.key.Goals as goal

pub position_of-requires : goal.position_of-requires
position_of-requires c = record { code = c.requires.coded.1 }

pub returns : goal.returns
returns c =
    record {
      value = key_there c.args.layout.now c.position_of.result c.args.self.now.code c.key.result.items c.requires.coded c.position_of.ensures.value c.key.ensures.value;
    }
