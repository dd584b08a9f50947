use Rattle.std.proofs.Common.{arith}
use Rattle.fc_search.proofs.position_searches.Search.floor_but.Goals as goal

pub overflow_add-most : goal.overflow_add-most
overflow_add-most g c =
    let low = c.requires.sound.low c.args.number c.at.result.0.now c.at.result.1 c.at.ensures.stands in
    let room = c.requires.sound.room in
    let greatest = c.known.ensures.budget.greatest in
    omega (arith, low, c.requires.within, room, greatest, c.from.ensures, c.bound_at.type_inv)
