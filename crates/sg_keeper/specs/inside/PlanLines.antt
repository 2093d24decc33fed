-- The plan that a reader of lines has so far.
use Rattle.sg_grammar.specs.Head.{Making, made}
use Rattle.sg_grammar.specs.Walk.{Next}

-- the plan of the lines so far, as what may stand next has it
abbrev pub making_of : Next → Making
making_of next = made next.plan next.head
