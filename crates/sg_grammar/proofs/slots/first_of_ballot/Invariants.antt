use Rattle.sg_grammar.specs.Coordinates.{LacksRaces}
use Rattle.sg_grammar.proofs.slots.first_of_ballot.Given as goal

abbrev pub invariant-loop-race : goal.invariant-loop-race
invariant-loop-race l = LacksRaces l.plan l.ballot l.from l.race
