use Rattle.sg_grammar.specs.Slots.{HasNoEntries}
use Rattle.sg_grammar.proofs.slots.first_with_entries.Given as goal

abbrev pub invariant-loop-race : goal.invariant-loop-race
invariant-loop-race l = HasNoEntries l.plan l.from l.race
