-- The race has few rows.
use Rattle.std.proofs.Common.{arith}
use Rattle.sg_tables.proofs.Sizes.{sizes}
use Rattle.sg_tables.proofs.opening_walks.RowOpenings.next.Goals as goal

pub overflow_add-self : goal.overflow_add-self
overflow_add-self c =
    let plan = c.self.inside.tables.now.plan in
    let small = sizes plan c.self.inside.race c.self.invariant.1.limits c.self.invariant.1.within in
    let below = rw (← c.self.view_is) at c.requires in
    omega (arith, small.entries, below)
