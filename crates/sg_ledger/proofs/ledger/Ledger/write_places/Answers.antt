use Rattle.std.proofs.Common.{◌+◌, arith, length}
use Rattle.sg_ledger.proofs.Places.{entry_place-end}
use Rattle.sg_plan.proofs.PlanLaws.{bounds}
use Rattle.sg_ledger.proofs.ledger.Ledger.write_places.Goals as goal

pub keep_places-requires-clause-few_places : goal.keep_places-requires-clause-few_places
keep_places-requires-clause-few_places c =
    omega (
      arith,
      c.entry_place-at.ensures.place,
      (bounds c.args.self.now.book c.plan.ensures.good).few_all_entries,
      entry_place-end c.args.self.now.book c.args.race (c.args.from + length c.args.bits.now) c.requires.placed.0 c.requires.placed.1,
    )

pub keep_places-requires-clause-few_votes : goal.keep_places-requires-clause-few_votes
keep_places-requires-clause-few_votes c =
    let few = bounds c.args.self.now.book c.plan.ensures.good in
    omega (arith, c.candidates-candidates.ensures, few.few_candidates c.args.race, few.few_races, c.requires.placed.0)

pub keep_places-requires-clause-places : goal.keep_places-requires-clause-places
keep_places-requires-clause-places c =
    omega (
      arith,
      c.entry_place-at.ensures.place,
      c.requires.sized.places,
      entry_place-end c.args.self.now.book c.args.race (c.args.from + length c.args.bits.now) c.requires.placed.0 c.requires.placed.1,
    )

pub keep_places-requires-clause-some : goal.keep_places-requires-clause-some
keep_places-requires-clause-some c = omega (arith, c.candidates-candidates.ensures, (bounds c.args.self.now.book c.plan.ensures.good).two_candidates c.args.race c.requires.placed.0)

pub keep_places-requires-clause-few : goal.keep_places-requires-clause-few
keep_places-requires-clause-few c = omega (arith, c.requires.placed.1, (bounds c.args.self.now.book c.plan.ensures.good).few_entries c.args.race c.requires.placed.0)

pub keep_places-requires-clause-votes : goal.keep_places-requires-clause-votes
keep_places-requires-clause-votes c =
    omega (arith, c.candidates-candidates.ensures, (bounds c.args.self.now.book c.plan.ensures.good).few_candidates c.args.race, c.requires.placed.0, c.requires.sized.votes)
