use Rattle.std.proofs.Common.{◌+◌, arith, length-take}
use Rattle.sg_ledger.proofs.Places.{entry_place-end}
use Rattle.sg_plan.proofs.PlanLaws.{bounds}
use Rattle.sg_plan.specs.Ballots.{candidates_of}
use Rattle.sg_ledger.proofs.ledger.Ledger.write_paper.Goals as goal

pub put_firsts-requires-clause-within : goal.put_firsts-requires-clause-within
put_firsts-requires-clause-within c =
    let plan = c.args.self.now.book in
    omega (
      arith,
      c.entry_place-at.ensures.place,
      c.candidates-candidates.ensures,
      length-take c.candidates-candidates.result c.args.codes.now,
      c.requires.sized.papers,
      entry_place-end plan c.args.race (c.first_entry-first.result + candidates_of plan c.args.race) c.requires.placed.0 c.first_entry-first.ensures.within,
    )

pub put_firsts-requires-clause-few : goal.put_firsts-requires-clause-few
put_firsts-requires-clause-few c =
    let plan = c.args.self.now.book in
    omega (
      arith,
      c.entry_place-at.ensures.place,
      c.candidates-candidates.ensures,
      length-take c.candidates-candidates.result c.args.codes.now,
      (bounds plan c.plan.ensures.good).few_all_entries,
      entry_place-end plan c.args.race (c.first_entry-first.result + candidates_of plan c.args.race) c.requires.placed.0 c.first_entry-first.ensures.within,
    )
