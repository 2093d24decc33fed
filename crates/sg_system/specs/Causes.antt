-- Why a program ends without having done what it was asked, as it says so on standard error.
use Rattle.std.specs.Prelude.{ℕ, ◌==◌, ◌++◌, if◌then◌else◌, Option, Some, None, List, Ok, Err, codes, string_bytes}
use Rattle.std.specs.Option.{option_map}
use Rattle.std.specs.declared.io.Error.{Error}
use Rattle.sg_system.specs.declared.causes.Detail.{Detail}
use Rattle.sg_system.specs.declared.causes.Detail.TheVariants.{Words, System}
use Rattle.sg_system.specs.declared.causes.Why.{Why}

-- the cause of a status; none where the work was done, a verdict was reported, or the output says why it was not done
abbrev pub cause_text : ℕ → Option (List ℕ)
cause_text status =
    if status == 2 then Some (codes "the words must be")
    else if status == 3 then Some (codes "reading standard input failed")
    else if status == 4 then Some (codes "writing standard output failed")
    else if status == 5 then Some (codes "office.db could not be read or written")
    else if status == 6 then Some (codes "the port could not be listened on, or no connection be accepted")
    else if status == 9 then Some (codes "there was not enough memory")
    else None

-- what is told behind a cause; how the system tells an error no contract says
abbrev pub detail_text : Detail → Option (List ℕ)
detail_text (Words (Ok line)) = Some (string_bytes line)
detail_text (Words (Err missing)) = Some (codes "a command's")
detail_text (System error) = None

-- a cause, and its detail behind it
abbrev pub told : List ℕ → Option Detail → Option (List ℕ)
told cause None = Some cause
told cause (Some detail) = option_map (λ text. cause ++ codes ": " ++ text) (detail_text detail)

abbrev pub why_text : Why → Option (List ℕ)
why_text why = told why.cause.now why.detail

-- the error of the system that a detail tells
abbrev pub error_in : Detail → Option Error
error_in (Words line) = None
error_in (System error) = Some error.now

-- which of the last errors of input and output is told with a status
abbrev pub stream_error : ℕ → Option Error → Option Error → Option Error
stream_error status input out = if status == 3 then input else if status == 4 then out else None
