-- What is heard of an input.
use Rattle.std.specs.Prelude.{Result, Ok, Err}
use Rattle.sg_outside.specs.Faults.{Rose}
use Rattle.sg_outside.specs.Streams.{Seen}
use Rattle.sg_driver.specs.Judging.{Judging}
use Rattle.sg_driver.specs.Taken.{TookLines, TookUnended}
use Rattle.sg_driver.specs.inside.Stopping.{IsHeard}
use Rattle.sg_driver.specs.declared.hearing.Heard.{Heard}
use Rattle.sg_driver.specs.declared.hearing.Heard.TheVariants as heard

-- the answer, or that memory was wanted
abbrev pub heard_of : {A E : Type 0} → Result A E → Heard A
heard_of (Ok answer) = heard.Answer answer
heard_of (Err _) = heard.NoMemory

-- what was heard of an input
abbrev pub Hears : {A : Type 0} → Judging A → Heard A → Seen → Seen → Type 0
Hears judging (heard.Answer answer) input input' = IsHeard judging answer input input'
Hears judging heard.Fault input input' = Rose input.faults input'.faults × TookUnended judging.Unsettled input.bytes input'.bytes
Hears judging heard.NoMemory input input' = TookLines judging.Wants input.bytes input'.bytes
