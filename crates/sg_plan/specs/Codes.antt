-- The confirmation codes that a record may have, by its version (this project's rules for the record).
use Rattle.std.specs.Prelude.{ℕ, ◌==◌, nat_lt, if◌then◌else◌, Bool}
use Rattle.sg_plan.specs.declared.plan.Plan.{Plan}

-- how many codes a version has: three decimal digits in version 1, three of 32 signs in version 2
abbrev pub codes_of : ℕ → ℕ
codes_of version = (if version == 1 then 1000 else (if version == 2 then 32768 else 0))

-- the number is a code of the plan's version
abbrev pub is_code : Plan → ℕ → Bool
is_code plan code = nat_lt code (codes_of plan.version)
