use Rattle.std.proofs.Common.{◌++◌, take, ap, ◌∙◌, sym}
use Rattle.std.proofs.lemmas.List.{take_rest}
use Rattle.fc_io.proofs.MoveLemmas.{TakesBytes-both, parts_later, sound_at_ok}
use Rattle.fc_io.proofs.transfers.write_all.Goals as goal

pub loop-rest-preserved : goal.loop-rest-preserved
loop-rest-preserved g c =
    let loop = c.loop-rest.invariant in
    let rest = c.loop-rest.rest.now in
    let count = c.in_ok-count.count in
    record {
      sound = sound_at_ok _ c.in_ok-count.ensures.fault.1;
      front = loop.front ++ take count rest;
      parts = parts_later _ _ rest count loop.parts ∙ ap (λ l. (loop.front ++ take count rest) ++ l) (sym (take_rest rest count));
      taken = TakesBytes-both _ _ _ _ _ loop.taken c.in_ok-count.ensures.moved;
    }
