-- Laws of the answer on a county.
use Rattle.std.specs.Prelude.{◌≡◌, ℕ, List}
use Rattle.sg_county.specs.County.{IsCounty}
use Rattle.sg_county.specs.declared.verdict.CountyVerdict.{CountyVerdict}

-- lines have at most one answer
abbrev pub OneCounty : Type 0
OneCounty = (lines : List (List ℕ)) (one other : CountyVerdict) → IsCounty lines one → IsCounty lines other → one ≡ other
