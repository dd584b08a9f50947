use Rattle.std.proofs.Common.{arith}
use Rattle.fc_search.proofs.position_searches.Search.count.Goals as goal

pub overflow_cast-result : goal.overflow_cast-result
overflow_cast-result g c =
    let size = c.len.ensures.size in
    let room = c.requires.sound.room in
    let most = c.known.ensures.budget.greatest in
    omega (arith, size, room, most)

pub returns : goal.returns
returns g c =
    let size = c.len.ensures.size in
    let room = c.requires.sound.room in
    let most = c.known.ensures.budget.greatest in
    record { value = size; few = omega (arith, size, room, most) }
