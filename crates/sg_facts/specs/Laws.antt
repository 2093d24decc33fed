-- The law of facts.
use Rattle.sg_record.specs.declared.record.Record.{Record}
use Rattle.sg_facts.specs.Listed.{AreListed}

-- of each record
abbrev pub FactsAreListed : Type 0
FactsAreListed = (posted : Record) → AreListed posted
