use Rattle.std.proofs.Common.{◌+◌, arith}
use Rattle.sg_ledger.proofs.Places.{entry_place-end}
use Rattle.sg_plan.proofs.PlanLaws.{bounds}
use Rattle.sg_plan.specs.Ballots.{candidates_of}
use Rattle.sg_ledger.proofs.ledger.Ledger.write_code.Goals as goal

pub keep-requires-clause-few : goal.keep-requires-clause-few
keep-requires-clause-few c =
    let plan = c.args.self.now.book in
    omega (
      arith,
      c.entry_place-at.ensures.place,
      c.requires.placed.4,
      (bounds plan c.plan.ensures.good).few_all_entries,
      entry_place-end plan c.args.race (c.first_entry-first.result + candidates_of plan c.args.race) c.requires.placed.0 c.first_entry-first.ensures.within,
    )

pub keep-requires-clause-known : goal.keep-requires-clause-known
keep-requires-clause-known c =
    let plan = c.args.self.now.book in
    omega (
      arith,
      c.entry_place-at.ensures.place,
      c.requires.placed.4,
      c.requires.sized.known,
      entry_place-end plan c.args.race (c.first_entry-first.result + candidates_of plan c.args.race) c.requires.placed.0 c.first_entry-first.ensures.within,
    )

pub keep-requires-clause-marked : goal.keep-requires-clause-marked
keep-requires-clause-marked c =
    let plan = c.args.self.now.book in
    omega (
      arith,
      c.entry_place-at.ensures.place,
      c.requires.placed.4,
      c.requires.sized.marked,
      entry_place-end plan c.args.race (c.first_entry-first.result + candidates_of plan c.args.race) c.requires.placed.0 c.first_entry-first.ensures.within,
    )

pub keep-requires-clause-marks : goal.keep-requires-clause-marks
keep-requires-clause-marks c =
    let plan = c.args.self.now.book in
    omega (
      arith,
      c.entry_place-at.ensures.place,
      c.requires.placed.4,
      c.requires.sized.marks,
      entry_place-end plan c.args.race (c.first_entry-first.result + candidates_of plan c.args.race) c.requires.placed.0 c.first_entry-first.ensures.within,
    )

pub overflow_add-own : goal.overflow_add-own
overflow_add-own c =
    let plan = c.args.self.now.book in
    omega (
      arith,
      c.entry_place-at.ensures.place,
      c.requires.placed.4,
      (bounds plan c.plan.ensures.good).few_all_entries,
      entry_place-end plan c.args.race (c.first_entry-first.result + candidates_of plan c.args.race) c.requires.placed.0 c.first_entry-first.ensures.within,
    )

pub keep_code-requires-clause-audited : goal.keep_code-requires-clause-audited
keep_code-requires-clause-audited c =
    let plan = c.args.self.now.book in
    omega (
      arith,
      c.entry_place-at.ensures.place,
      c.requires.placed.4,
      c.requires.sized.audited,
      entry_place-end plan c.args.race (c.first_entry-first.result + candidates_of plan c.args.race) c.requires.placed.0 c.first_entry-first.ensures.within,
    )
