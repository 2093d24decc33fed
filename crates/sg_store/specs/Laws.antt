-- The laws of a keeper over a database.
use Rattle.sqlite.specs.Steps.{over_memory}
use Rattle.sg_store.specs.Told.{IsSure}

-- each state of a store in memory is clean and open, and keeps its trees in order
abbrev pub MemoryIsSure : Type 0
MemoryIsSure = IsSure over_memory
