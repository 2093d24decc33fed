use Rattle.std.proofs.Common.{◌+◌, ◌*◌, ◌<◌, ◌∙◌, arith, sym}
use Rattle.sg_plan.proofs.PlanLaws.{bounds, entry_small}
use Rattle.sg_plan.proofs.plan.Plan.entry.Goals as goal

pub overflow_cast-result : goal.overflow_cast-result
overflow_cast-result c = omega (arith, (bounds c.args.self.now c.requires.limits).few_candidates c.args.race)

-- the entry is one of the race's, so it is small
small : (c : goal.After-row_of) → c.row_of.result * c.candidates-candidates.result + c.args.column < 200000
small c =
    let below = rw c.candidates-candidates.ensures at c.if-column-candidates.false in
    let has = sym c.carries.ensures ∙ c.if-not-carries.false in
    rw (c.row_of.ensures, c.candidates-candidates.ensures)
    (entry_small c.args.self.now c.args.race c.args.ballot c.args.column c.requires.limits c.requires.race has below)

pub overflow_mul-result : goal.overflow_mul-result
overflow_mul-result c = omega (arith, small c)

pub overflow_add-result : goal.overflow_add-result
overflow_add-result c = omega (arith, small c)
