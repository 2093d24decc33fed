use Rattle.std.proofs.Common.{◌≡◌, ℕ, ◌<◌, length, slice_get, Some}
use Rattle.sg_plan.specs.Ballots.{entries_before, entries_of}
use Rattle.sg_ledger.proofs.book.measure.Given as goal

abbrev pub invariant-loop-race : goal.invariant-loop-race
invariant-loop-race l = record {
  befores : length l.before ≡ l.race;
  counts : length l.entries ≡ l.race;
  before_is : (race : ℕ) → race < l.race → slice_get l.before race ≡ Some (entries_before l.plan race);
  count_is : (race : ℕ) → race < l.race → slice_get l.entries race ≡ Some (entries_of l.plan race);
  all_is : l.all ≡ entries_before l.plan l.race;
}
