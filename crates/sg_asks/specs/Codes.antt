-- The codes of an ask.
use Rattle.std.specs.Prelude.{ℕ, ◌<◌, All}
use Rattle.sg_plan.specs.Codes.{codes_of}
use Rattle.sg_acts.specs.declared.asks.Act.{Act}
use Rattle.sg_acts.specs.declared.asks.Act.TheVariants as act
use Rattle.sg_acts.specs.declared.asks.Ask.{Ask}
use Rattle.sg_acts.specs.declared.asks.Ask.TheVariants.{Do, See}

-- every code of the act is a code of the version
abbrev pub HasActCodes : ℕ → Act → Type 0
HasActCodes version (act.Audit ballot paper) = All (All (λ code. code < codes_of version)) paper
HasActCodes version (act.Claim ballot race code) = code < codes_of version
HasActCodes version _ = Unit {0}

-- every code of the ask is a code of the version
abbrev pub HasCodes : ℕ → Ask → Type 0
HasCodes version (Do stamp act) = HasActCodes version act
HasCodes version (See look) = Unit {0}
