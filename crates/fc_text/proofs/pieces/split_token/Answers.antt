use Rattle.std.proofs.lemmas.List.{take_rest}
use Rattle.std.proofs.Common.{◌-◌, length, take, drop}
use Rattle.fc_text.proofs.PartLemmas.{split_token-is}
use Rattle.fc_text.proofs.pieces.split_token.Goals as goal

pub returns : goal.returns
returns g c =
    let n = c.gap_len.result in
    split_token-is g.G.Gaps.gap c.args.text.now (take (length c.args.text.now - n) (drop n c.args.text.now)) c.split_at.result.0.now c.split_at.result.1.now n c.token_len.result c.gap_len.ensures.value
    (take_rest c.args.text.now n) c.token_len.ensures.value c.split_at.ensures.front c.split_at.ensures.back
