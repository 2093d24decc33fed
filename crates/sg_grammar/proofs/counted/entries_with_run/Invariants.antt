use Rattle.std.proofs.Common.{◌≡◌, ℕ, ◌<◌, ◌≤◌, length, slice_index}
use Rattle.sg_plan.specs.Ballots.{entries_of}
use Rattle.sg_grammar.specs.Head.{with_run}
use Rattle.sg_grammar.proofs.counted.entries_with_run.Given as goal

abbrev pub invariant-loop-race : goal.invariant-loop-race
invariant-loop-race l = record {
  long : length l.entries ≡ 32;
  done : (k : ℕ) → k < l.race → slice_index l.entries k ≡ entries_of (with_run l.plan l.run.style l.run.count) k;
  left : (k : ℕ) → l.race ≤ k → k < length l.plan.races → slice_index l.entries k ≡ entries_of l.plan k;
}
