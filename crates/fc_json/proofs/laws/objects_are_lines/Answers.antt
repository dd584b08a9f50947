use Rattle.fc_json.proofs.LineLemmas.{all_lines}
use Rattle.fc_json.proofs.laws.objects_are_lines.Goals as goal

pub returns : goal.returns
returns c = all_lines
