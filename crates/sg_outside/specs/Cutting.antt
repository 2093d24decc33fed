-- A line cutter, as contracts see it, and what its answers mean.
use Rattle.std.specs.Prelude.{◌≡◌, ℕ, ◌<◌, Bool, true, false, if◌then◌else◌, List, [], length, Option}
use Rattle.std.specs.Io.KnownBytes.{IsAtEnd, prepend_known}
use Rattle.sg_outside.specs.declared.cutter.Got.{Got}
use Rattle.sg_outside.specs.declared.cutter.Got.TheVariants.{Line, Part, Long, End, ReadFault}
use Rattle.sg_outside.specs.TextLines.{HasNoFeed, IsLine}

-- how many bytes a line has at most, the bytes of the last answer that has a text, the bytes held behind the last
-- answer, and whether every later answer is `End`
pub record Cutting : Type 0 where
  pub limit : ℕ
  pub text : List ℕ
  pub ahead : List ℕ
  pub is_over : Bool

-- whether every answer after this one is `End`
abbrev pub is_last : Got → Bool
is_last Line = false
is_last Part = true
is_last Long = true
is_last End = true
is_last ReadFault = true

-- whether an answer has a text: the bytes that it cuts off
abbrev pub has_text : Got → Bool
has_text Line = true
has_text Part = true
has_text Long = true
has_text End = false
has_text ReadFault = false

-- the bytes that an answer cuts off
abbrev pub cut_off : Got → Cutting → List ℕ
cut_off got lines = if has_text got then lines.text else []

-- what an answer tells of the text, of the bytes held behind it and of those that the source still has
abbrev pub Finds : Got → Cutting → Option (List ℕ) → Type 0
Finds Line lines left = IsLine lines.text
Finds Part lines left =
    HasNoFeed lines.text × (0 < length lines.text) × (length lines.text < lines.limit) × (lines.ahead ≡ []) × IsAtEnd left
Finds Long lines left = HasNoFeed lines.text × (length lines.text ≡ lines.limit) × (lines.ahead ≡ [])
Finds End lines left = (lines.ahead ≡ []) × IsAtEnd left
Finds ReadFault lines left = HasNoFeed lines.ahead × (length lines.ahead < lines.limit)

-- the bytes that lines are still cut from: those held, and then those of the source
abbrev pub to_come : Cutting → Option (List ℕ) → Option (List ℕ)
to_come lines left = prepend_known lines.ahead left
