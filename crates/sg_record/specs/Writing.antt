-- How the writing of a record ends, and the codes of a version.
use Rattle.std.specs.Prelude.{◌≡◌, ℕ, ◌⊎◌, List, [], ◌∷◌, map}
use Rattle.std.specs.Io.KnownBytes.{Appends}
use Rattle.std.specs.List.{concat}
use Rattle.sg_outside.specs.Faults.{Rose}
use Rattle.sg_outside.specs.Streams.{AppendsFront, Seen}
use Rattle.sg_forms.specs.declared.line.CodeLine.{CodeLine}
use Rattle.sg_forms.specs.Said.{Said}
use Rattle.sg_forms.specs.Spelling.{IsCode, spelling}
use Rattle.sg_record.specs.declared.write.Wrote.{Wrote}
use Rattle.sg_record.specs.declared.write.Wrote.TheVariants as wrote

-- a version of the record
abbrev pub IsVersion : ℕ → Type 0
IsVersion version = (version ≡ 1) ⊎ (version ≡ 2)

-- the text of these lines, in a record of the version
abbrev pub text_in : ℕ → List Said → List ℕ
text_in version lines = concat (map (spelling version) lines)

-- how the writing of a text ends: it was appended whole; or the sink failed, behind a front of it; or memory was
-- wanted, and a front of it was appended
abbrev pub WriteEnds : Wrote → Seen → Seen → List ℕ → Type 0
WriteEnds wrote.Written before now text = Appends before.bytes now.bytes text
WriteEnds wrote.SinkFailed before now text = Rose before.faults now.faults × AppendsFront before.bytes now.bytes text
WriteEnds wrote.NoMemory before now text = AppendsFront before.bytes now.bytes text

-- each of the codes is one of the version
abbrev pub HaveCodes : ℕ → List CodeLine → Type 0
HaveCodes version [] = Unit {0}
HaveCodes version (code ∷ codes) = IsCode version code.code × HaveCodes version codes
