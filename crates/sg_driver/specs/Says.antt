-- How a command ends that judges the lines of its input, or reads it in another way, and writes what is due of it.
use Rattle.std.specs.Prelude.{◌≡◌, ◌⊎◌, ℕ, List, Option, IfSome}
use Rattle.std.specs.Io.KnownBytes.{Appends, IsAtEnd}
use Rattle.sg_outside.specs.Faults.{Rose}
use Rattle.sg_outside.specs.Streams.{AppendsFront, Seen}
use Rattle.sg_outside.specs.TextLines.{lines_of}
use Rattle.sg_outside.specs.declared.outcome.Outcome.{Outcome}
use Rattle.sg_outside.specs.declared.outcome.Outcome.TheVariants.{Done, No, ReadFailed, WriteFailed, Refused, NoMemory}
use Rattle.sg_driver.specs.Judging.{Judging}
use Rattle.sg_driver.specs.Taken.{TookLines, TookOneMore, TookUnended}

-- what was taken of an input, by the bytes that it had and those that are left of it, where it tells them
abbrev pub Taking : Type 1
Taking = Option (List ℕ) → Option (List ℕ) → Type 0

-- what is due of an input, by the same bytes: an outcome and a text
abbrev pub Owing : Type 1
Owing = Outcome → List ℕ → Taking

-- WHAT EACH OUTCOME SAYS

-- that of an answer: it is due, with a text that was written whole
pub record Shows (Due : Owing) (outcome : Outcome) (input input' out out' : Seen) : Type 0 where
  pub text : List ℕ
  pub due : Due outcome text input.bytes input'.bytes
  pub written : Appends out.bytes out'.bytes text

-- a read failed: the input's count of faults rose; so much was taken of it; and the output is as it was
pub record ReadFails (Took : Taking) (input input' out out' : Seen) : Type 0 where
  pub cause : Rose input.faults input'.faults
  pub taken : Took input.bytes input'.bytes
  pub written : out' ≡ out

-- a write failed: the output's count of faults rose, and a front of the text that is due was written
pub record WriteFails (Due : Owing) (input input' out out' : Seen) : Type 0 where
  pub cause : Rose out.faults out'.faults
  pub outcome : Outcome
  pub text : List ℕ
  pub due : Due outcome text input.bytes input'.bytes
  pub written : AppendsFront out.bytes out'.bytes text

-- memory was wanted: so much was taken of the input; and the output is as it was
pub record WantsMemory (Took : Taking) (input input' out out' : Seen) : Type 0 where
  pub taken : Took input.bytes input'.bytes
  pub written : out' ≡ out

-- how the command ended: what is due was written, or it ended for one of three causes; there is no other end
abbrev pub Ends : Owing → Taking → Taking → Outcome → Seen → Seen → Seen → Seen → Type 0
Ends Due Fails Wants Done input input' out out' = Shows Due Done input input' out out'
Ends Due Fails Wants No input input' out out' = Shows Due No input input' out out'
Ends Due Fails Wants Refused input input' out out' = Shows Due Refused input input' out out'
Ends Due Fails Wants ReadFailed input input' out out' = ReadFails Fails input input' out out'
Ends Due Fails Wants WriteFailed input input' out out' = WriteFails Due input input' out out'
Ends Due Fails Wants NoMemory input input' out out' = WantsMemory Wants input input' out out'
Ends Due Fails Wants _ input input' out out' = ⊥

-- WHAT IS DUE FOR AN ANSWER

-- where the source tells its bytes, this is the answer on their lines
abbrev pub Answers : {Answer : Type 0} → Judging Answer → Option (List ℕ) → Answer → Type 0
Answers judging known answer = IfSome known (λ bytes. judging.IsAnswer (lines_of bytes) answer)

-- how far the input is read for an answer: at most one line, or as many bytes, behind lines that settle nothing; and to its end,
-- for one that refuses nothing
pub record HasRead {Answer : Type 0} (judging : Judging Answer) (answer : Answer) (before now : Option (List ℕ)) : Type 0 where
  pub took : TookOneMore judging.Unsettled before now
  pub ended : (judging.Refuses answer → ⊥) → IsAtEnd now

-- the outcome of an answer, and its report: it is the answer on some lines, and on those of the input's bytes where they are told;
-- and the input was read as far as it says
pub record IsDue {Answer : Type 0} (judging : Judging Answer) (outcome : Outcome) (text : List ℕ) (before now : Option (List ℕ)) : Type 0 where
  pub answer : Answer
  pub outcome_is : outcome ≡ judging.outcome answer
  pub text_is : text ≡ judging.report answer
  pub lines : List (List ℕ)
  pub are : judging.IsAnswer lines answer
  pub answers : Answers judging before answer
  pub read : HasRead judging answer before now

-- so a command ends that judges lines: a read fails behind lines that settle nothing, and memory is wanted behind such lines as
-- it may be
abbrev pub Says : {Answer : Type 0} → Judging Answer → Outcome → Seen → Seen → Seen → Seen → Type 0
Says judging = Ends (IsDue judging) (TookUnended judging.Unsettled) (TookLines judging.Wants)

-- A TEXT

-- it was written whole, and the command ended so; or a front of it was, as a write failed
abbrev pub Writes : Outcome → List ℕ → Outcome → Seen → Seen → Type 0
Writes due text outcome out out' =
    ((outcome ≡ due) × Appends out.bytes out'.bytes text)
    ⊎ ((outcome ≡ WriteFailed) × Rose out.faults out'.faults × AppendsFront out.bytes out'.bytes text)
