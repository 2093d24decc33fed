use Rattle.std.proofs.Common.{◌≡◌, [], take, drop}
use Rattle.sg_plan.specs.Ballots.{ballot_has}
use Rattle.sg_plan.specs.Limits.{first_bad}
use Rattle.sg_office.proofs.marks.first_in_no_race.Given as goal

abbrev pub invariant-loop-at : goal.invariant-loop-at
invariant-loop-at l = first_bad (λ earlier mark. ballot_has l.index l.ballot mark.race) (take l.at l.marks) (drop l.at l.marks) ≡ first_bad (λ earlier mark. ballot_has l.index l.ballot mark.race) [] l.marks
