-- What a reader of a JSON value answers.
use Rattle.std.specs.Prelude.{◌≡◌, Option, Some, None, Result, Ok, Err}
use Rattle.sg_asks.specs.declared.unread.Unread.{Unread}
use Rattle.sg_asks.specs.declared.unread.Unread.TheVariants as unread

-- a reader answers what is found, refuses where nothing is, and may want memory
abbrev pub Reads : {A : Type 0} → Result A Unread → Option A → Type 0
Reads (Ok value) found = found ≡ Some value
Reads (Err unread.Shape) found = found ≡ None
Reads (Err unread.NoMemory) found = Unit {0}
