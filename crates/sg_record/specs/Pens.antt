-- What a pen does: it writes lines into a sink, under a running seal where it keeps one.
use Rattle.std.specs.Prelude.{◌≡◌, ℕ, List, ◌++◌, Option, Some, None, OnOk, Result}
use Rattle.sg_commit.specs.Seals.{StandsFor}
use Rattle.sg_commit.specs.declared.Sealer.{Sealer}
use Rattle.sg_outside.specs.Faults.{HasCause}
use Rattle.sg_outside.specs.Streams.{PutAppends, Seen, seen}
use Rattle.sg_forms.specs.Said.{Said}
use Rattle.sg_record.specs.Writing.{text_in}

-- a pen: the version of the record that it writes, and the running seal over what it wrote, where it keeps one
pub record Ink : Type 0 where
  pub version : ℕ
  pub seal : Option Sealer

-- a running seal stands for these bytes
abbrev pub IsSealOf : Option Sealer → List ℕ → Type 0
IsSealOf None bytes = ⊥
IsSealOf (Some sealer) bytes = StandsFor sealer bytes

-- a running seal is kept where one is wanted, and one that is kept stands for these bytes
abbrev pub SealsWhere : Type 0 → Option Sealer → List ℕ → Type 0
SealsWhere wanted None bytes = wanted → ⊥
SealsWhere wanted (Some sealer) bytes = StandsFor sealer bytes

-- where a seal is kept, it takes these bytes in behind those before
abbrev pub TakesIn : Option Sealer → Option Sealer → List ℕ → Type 0
TakesIn None None bytes = Unit {0}
TakesIn None (Some now) bytes = ⊥
TakesIn (Some before) None bytes = ⊥
TakesIn (Some before) (Some now) bytes = (taken : List ℕ) → StandsFor before taken → StandsFor now (taken ++ bytes)

-- a pen and its sink at a moment
pub record Moment : Type 0 where
  pub pen : Ink
  pub out : Seen

-- the lines were appended whole, and the seal took them in; where the sink failed, a front of them was appended, and it
-- has counted a fault
pub record Puts {T E : Type 0} (before now : Moment) (result : Result T E) (lines : List Said) : Type 0 where
  pub bytes : PutAppends before.out.bytes now.out.bytes result (text_in before.pen.version lines)
  pub cause : HasCause before.out.faults now.out.faults result
  pub version : now.pen.version ≡ before.pen.version
  pub seal : OnOk result (TakesIn before.pen.seal now.pen.seal (text_in before.pen.version lines))

-- the pen and the sink, where the sink tells its bytes and its faults so
abbrev pub moment : {O : Type 0} → (O → Option (List ℕ)) → (O → ℕ) → Ink → O → Moment
moment written faults pen out = record { pen = pen; out = seen (written out) (faults out) }

-- the pen wrote these lines into the sink
abbrev pub Writes : {O T E : Type 0} → (O → Option (List ℕ)) → (O → ℕ) → Ink → O → Ink → O → Result T E → List Said → Type 0
Writes written faults pen out pen_now out_now result lines = Puts (moment written faults pen out) (moment written faults pen_now out_now) result lines
