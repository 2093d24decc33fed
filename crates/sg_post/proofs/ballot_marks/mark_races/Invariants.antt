use Rattle.std.proofs.Common.{◌≡◌, map}
use Rattle.sg_plan.specs.Ballots.{entries_of}
use Rattle.sg_streams.specs.Numbers.{numbers_below}
use Rattle.sg_post.specs.Marks.{is_entry_marked}
use Rattle.sg_post.proofs.ballot_marks.mark_races.Given as goal

abbrev pub invariant-loop-race : goal.invariant-loop-race
invariant-loop-race l = l.marks ≡ map (λ race. map (is_entry_marked l.tables.plan l.tables.seed l.fates race) (numbers_below (entries_of l.tables.plan race))) (numbers_below l.race)
