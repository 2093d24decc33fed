-- The races so far have their places.
use Rattle.sg_facts.proofs.Tabling.{IsBlank}
use Rattle.sg_facts.proofs.tables.blank_table.Given as goal

abbrev pub invariant-loop-race : goal.invariant-loop-race
invariant-loop-race l = IsBlank l.plan l.table l.race
