use Rattle.std.proofs.Common.{◌≡◌, ◌-◌, ◌*◌, ◌/◌, ◌%◌, ◌<◌, true, lt-ltb, arith}
use Rattle.std.proofs.lemmas.Bool.{and_from}
use Rattle.std.proofs.lemmas.Nat.{div-add-mod'}
use Rattle.sg_ledger.proofs.Judged.{path_judged}
use Rattle.sg_ledger.proofs.PathSteps.{are_small}
use Rattle.sg_ledger.proofs.Places.{ballot_end}
use Rattle.sg_plan.proofs.PlanLaws.{bounds}
use Rattle.sg_plan.specs.Ballots.{candidates_of, entries_of}
use Rattle.sg_ledger.proofs.paths.is_path_bad.Goals as goal

pub are_against-requires-clause-within : goal.are_against-requires-clause-within
are_against-requires-clause-within c =
    let plan = c.args.book.now in
    let place = rw c.candidates-candidates.ensures at c.entry_place-at.ensures.place in
    omega (
      arith,
      place,
      c.candidates-candidates.ensures,
      c.requires.paths,
      ballot_end plan c.args.race c.in-Both.left.value c.requires.race ((bounds plan c.plan.ensures.good).two_candidates c.args.race c.requires.race) (omega (arith, c.if-left-entries.false, c.entries-entries.ensures)),
    )

pub are_against-requires-clause-few_places : goal.are_against-requires-clause-few_places
are_against-requires-clause-few_places c =
    let plan = c.args.book.now in
    let place = rw c.candidates-candidates.ensures at c.entry_place-at.ensures.place in
    omega (
      arith,
      place,
      c.candidates-candidates.ensures,
      (bounds plan c.plan.ensures.good).few_all_entries,
      ballot_end plan c.args.race c.in-Both.left.value c.requires.race ((bounds plan c.plan.ensures.good).two_candidates c.args.race c.requires.race) (omega (arith, c.if-left-entries.false, c.entries-entries.ensures)),
    )

pub returns : goal.returns
returns c = λ instance row lines placed told.
    let plan = c.args.book.now in
    let race = c.args.race in
    let n = candidates_of plan race in
    let left = c.in-Both.left in
    let right = c.in-Both.right in
    let left_below : left.value < entries_of plan race = omega (arith, c.if-left-entries.false, c.entries-entries.ensures) in
    let right_below : right.value < entries_of plan race = omega (arith, c.if-right-entries.false, c.entries-entries.ensures) in
    let small : are_small plan race left right ≡ true = and_from _ _ (lt-ltb left.value (entries_of plan race) left_below) (lt-ltb right.value (entries_of plan race) right_below) in
    let first_is : left.value - left.value % n ≡ left.value / n * n = omega (arith, div-add-mod' left.value n) in
    let place = rw c.candidates-candidates.ensures at c.entry_place-at.ensures.place in
    let found = rw c.candidates-candidates.ensures at c.are_against.ensures.some in
    let none = rw c.candidates-candidates.ensures at c.are_against.ensures.none in
    let judged = path_judged plan c.args.paths.now lines race left right (left.value - left.value % n) c.entry_place-at.result c.are_against.result c.requires.race
    (omega (arith, (bounds plan c.plan.ensures.good).two_candidates race c.requires.race)) placed told small first_is place found none in
    rw (c.in-Both.is, small) judged
