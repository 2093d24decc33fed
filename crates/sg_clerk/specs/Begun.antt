-- How `init` ends (this project's command line).
use Rattle.std.specs.Prelude.{◌≡◌, ℕ, ◌+◌, ◌<◌, ◌≤◌, ◌++◌, ◌∷◌, [], List, length, codes, decimal, Option, None, Some, IfSome, Ok, Err}
use Rattle.std.specs.Io.KnownBytes.{Appends, IsAtEnd}
use Rattle.sg_plan.specs.Limits.{longest_election}
use Rattle.sg_outside.specs.Faults.{Rose}
use Rattle.sg_outside.specs.Streams.{AppendsFront, Seen}
use Rattle.sg_outside.specs.declared.outcome.Outcome.{Outcome}
use Rattle.sg_outside.specs.declared.outcome.Outcome.TheVariants as outcome
use Rattle.sg_plan.specs.declared.limits.PlanFault.{PlanFault}
use Rattle.sg_plan.specs.declared.limits.PlanFault.TheVariants as plan
use Rattle.sg_keeper.specs.Rows.{with_setup}
use Rattle.sg_keeper.specs.SetupText.{setup_text}
use Rattle.sg_keeper.specs.declared.rows.Rows.{Rows}
use Rattle.sg_keeper.specs.declared.setup.Setup.{Setup}
use Rattle.sg_asks.specs.ElectionFile.{setup_in}
use Rattle.sg_asks.specs.declared.setups.SetupFault.TheVariants as fault
use Rattle.sg_clerk.specs.Taken.{TookAtMost}
use Rattle.sg_clerk.specs.declared.refusal.Refusal.{Refusal}
use Rattle.sg_clerk.specs.declared.refusal.Refusal.TheVariants as refusal

-- THE LINES

-- the line that is written where an office was set up
abbrev pub begun_line : List ℕ
begun_line = codes "begun\n"

-- which limit of the plan is broken, and where
abbrev pub plan_words : PlanFault → List ℕ
plan_words plan.Version = codes "1"
plan_words plan.Name = codes "2"
plan_words plan.Instances = codes "3"
plan_words (plan.Race at) = codes "4 " ++ decimal at
plan_words (plan.Style at) = codes "5 " ++ decimal at
plan_words (plan.Run at) = codes "6 " ++ decimal at
plan_words (plan.TooLarge rows) = codes "7 " ++ decimal rows

-- the line that is written for a refusal
abbrev pub refusal_line : Refusal → List ℕ
refusal_line refusal.Size = codes "refused size\n"
refusal_line refusal.Json = codes "refused json\n"
refusal_line refusal.Shape = codes "refused shape\n"
refusal_line (refusal.Plan broken) = codes "refused plan " ++ (plan_words broken ++ 10 ∷ [])
refusal_line refusal.Secrets = codes "refused secrets\n"
refusal_line refusal.Begun = codes "refused begun\n"

-- WHAT IS REFUSED

-- the bytes are an election file of this setup
abbrev pub IsFileOf : Setup → List ℕ → Type 0
IsFileOf setup bytes = (length bytes ≤ longest_election) × (setup_in bytes ≡ Ok setup)

-- why an election file is refused
abbrev pub IsBadFile : Refusal → List ℕ → Type 0
IsBadFile refusal.Size bytes = longest_election < length bytes
IsBadFile refusal.Json bytes = (length bytes ≤ longest_election) × (setup_in bytes ≡ Err fault.NotJson)
IsBadFile refusal.Shape bytes = (length bytes ≤ longest_election) × (setup_in bytes ≡ Err fault.Shape)
IsBadFile (refusal.Plan broken) bytes = (length bytes ≤ longest_election) × (setup_in bytes ≡ Err (fault.Plan broken))
IsBadFile refusal.Secrets bytes = (length bytes ≤ longest_election) × (setup_in bytes ≡ Err fault.Secrets)
IsBadFile refusal.Begun bytes = (setup : Setup) × IsFileOf setup bytes

-- a setup is kept already
abbrev pub IsBegun : Refusal → Rows → Type 0
IsBegun refusal.Begun rows = (text : List ℕ) × (rows.setup ≡ Some text)
IsBegun other rows = Unit {0}

-- there is this cause to refuse, of bytes and of rows, where each is told
pub record IsCause (why : Refusal) (known : Option (List ℕ)) (tells : Type 0) (rows : Rows) : Type 0 where
  pub file : IfSome known (IsBadFile why)
  pub begun : tells → IsBegun why rows

-- HOW IT ENDS. `rows` and `rows'` are those of the keeper before and after.

-- the rows are as they were, where they are told
abbrev pub AreSame : (tells : Type 0) → Rows → Rows → Type 0
AreSame tells rows rows' = tells → rows' ≡ rows

-- no setup was kept, and the one of the election file is kept now
pub record IsSetUp (known : Option (List ℕ)) (tells : Type 0) (rows rows' : Rows) : Type 0 where
  pub setup : Setup
  pub file : IfSome known (IsFileOf setup)
  pub fresh : tells → rows.setup ≡ None
  pub kept : tells → rows' ≡ with_setup rows (setup_text setup)

-- an office was set up, the whole input was read, and the line that says so was written
pub record Begins (input input' : Seen) (tells : Type 0) (rows rows' : Rows) (out out' : Seen) : Type 0 where
  pub set_up : IsSetUp input.bytes tells rows rows'
  pub read : IsAtEnd input'.bytes
  pub written : Appends out.bytes out'.bytes begun_line

-- the input's count of faults rose; nothing was kept or written
pub record ReadFails (input input' : Seen) (tells : Type 0) (rows rows' : Rows) (out out' : Seen) : Type 0 where
  pub cause : Rose input.faults input'.faults
  pub same : AreSame tells rows rows'
  pub quiet : out' ≡ out

-- a front of the line that is due was written
pub data IsCut (input : Seen) (tells : Type 0) (rows rows' : Rows) (out out' : Seen) : Type 0 where
  Beginning : IsSetUp input.bytes tells rows rows' → AppendsFront out.bytes out'.bytes begun_line → IsCut input tells rows rows' out out'
  Refusing : (why : Refusal) → IsCause why input.bytes tells rows → AreSame tells rows rows' → AppendsFront out.bytes out'.bytes (refusal_line why) → IsCut input tells rows rows' out out'

-- the output's count of faults rose, and a front of the line that is due was written; the setup is kept only where that is
-- the line that says so
pub record WriteFails (input : Seen) (tells : Type 0) (rows rows' : Rows) (out out' : Seen) : Type 0 where
  pub cause : Rose out.faults out'.faults
  pub cut : IsCut input tells rows rows' out out'

-- the keeper's count of faults rose; nothing was kept or written
pub record KeeperFails (faults faults' : ℕ) (tells : Type 0) (rows rows' : Rows) (out out' : Seen) : Type 0 where
  pub cause : Rose faults faults'
  pub same : AreSame tells rows rows'
  pub quiet : out' ≡ out

-- there is cause to refuse, nothing was kept, and the refusal's line was written
pub record IsRefused (input : Seen) (tells : Type 0) (rows rows' : Rows) (out out' : Seen) : Type 0 where
  pub why : Refusal
  pub cause : IsCause why input.bytes tells rows
  pub same : AreSame tells rows rows'
  pub written : Appends out.bytes out'.bytes (refusal_line why)

-- memory was wanted; nothing was kept or written
pub record LacksMemory (tells : Type 0) (rows rows' : Rows) (out out' : Seen) : Type 0 where
  pub same : AreSame tells rows rows'
  pub quiet : out' ≡ out

-- what was read, kept and written, by how it ended
abbrev pub InitEnds : Outcome → Seen → Seen → (tells : Type 0) → Rows → Rows → ℕ → ℕ → Seen → Seen → Type 0
InitEnds outcome.Done input input' tells rows rows' faults faults' out out' = Begins input input' tells rows rows' out out'
InitEnds outcome.ReadFailed input input' tells rows rows' faults faults' out out' = ReadFails input input' tells rows rows' out out'
InitEnds outcome.WriteFailed input input' tells rows rows' faults faults' out out' = WriteFails input tells rows rows' out out'
InitEnds outcome.KeeperFailed input input' tells rows rows' faults faults' out out' = KeeperFails faults faults' tells rows rows' out out'
InitEnds outcome.Refused input input' tells rows rows' faults faults' out out' = IsRefused input tells rows rows' out out'
InitEnds outcome.NoMemory input input' tells rows rows' faults faults' out out' = LacksMemory tells rows rows' out out'
InitEnds _ input input' tells rows rows' faults faults' out out' = ⊥

-- how `init` ended; and however it did, of the input at most as many bytes were taken as an election file has, and one more
pub record InitSays (result : Outcome) (input input' : Seen) (tells : Type 0) (rows rows' : Rows) (faults faults' : ℕ) (out out' : Seen) : Type 0 where
  pub took : TookAtMost (longest_election + 1) input.bytes input'.bytes
  pub says : InitEnds result input input' tells rows rows' faults faults' out out'
