use Rattle.std.proofs.Common.{◌+◌, arith, length}
use Rattle.sg_ledger.proofs.Places.{row_place-end}
use Rattle.sg_plan.proofs.PlanLaws.{bounds}
use Rattle.sg_ledger.proofs.ledger.Ledger.write_flags.Goals as goal

pub set_bits-requires-clause-within : goal.set_bits-requires-clause-within
set_bits-requires-clause-within c =
    let in_plan = c.requires.placed in
    omega (
      arith,
      c.row_place-at.ensures.place,
      c.requires.sized.flagged,
      row_place-end c.args.self.now.book c.args.race c.args.instance (c.args.from + length c.args.bits.now) in_plan.0 in_plan.1 in_plan.2,
    )

pub set_bits-requires-clause-few : goal.set_bits-requires-clause-few
set_bits-requires-clause-few c =
    let in_plan = c.requires.placed in
    omega (
      arith,
      c.row_place-at.ensures.place,
      (bounds c.args.self.now.book c.plan.ensures.good).few_r_rows,
      row_place-end c.args.self.now.book c.args.race c.args.instance (c.args.from + length c.args.bits.now) in_plan.0 in_plan.1 in_plan.2,
    )
