-- How `init` ends, from what was read, kept and written.
use Rattle.std.proofs.Common.{◌≡◌, ◌≢◌, ℕ, ◌≤◌, List, [], length, inl, inr, Bool, true, false, cond, refl, ap, subst, ◌∙◌, arith}
use Rattle.std.specs.Prelude.{◌&&◌, nat_le, is_some, Option, None, Some, Result, Ok, Err, IfSome}
use Rattle.std.specs.Io.KnownBytes.{Consumes, IsAtEnd}
use Rattle.std.proofs.lemmas.Bool.{and_parts, leb-true}
use Rattle.serde_json.specs.Data.{Data}
use Rattle.sg_outside.specs.Streams.{Seen}
use Rattle.sg_outside.specs.declared.outcome.Outcome.{Outcome}
use Rattle.sg_outside.specs.declared.outcome.Outcome.TheVariants as outcome
use Rattle.sg_outside.proofs.StreamLemmas.{Consumes-nil, Rose-later}
use Rattle.sg_plan.specs.Limits.{fault_of}
use Rattle.sg_plan.specs.declared.limits.PlanFault.{PlanFault}
use Rattle.sg_keeper.specs.Rows.{with_setup}
use Rattle.sg_keeper.specs.SetupText.{IsSetup, setup_text}
use Rattle.sg_keeper.specs.declared.rows.Rows.{Rows}
use Rattle.sg_keeper.specs.declared.setup.Setup.{Setup}
use Rattle.sg_asks.specs.ElectionFile.{file_in, setup_in, with_json, with_plan, with_secrets, with_shape}
use Rattle.sg_asks.specs.Json.{json_of}
use Rattle.sg_asks.specs.declared.setups.SetupFault.{SetupFault}
use Rattle.sg_asks.specs.declared.setups.SetupFault.TheVariants as fault
use Rattle.sg_clerk.specs.Begun.{InitEnds, IsBadFile, IsBegun, IsCause, IsCut, IsFileOf, IsSetUp}
use Rattle.sg_clerk.specs.Taken.{TookAtMost}
use Rattle.sg_clerk.specs.inside.Beginning.{AddsSetup, IsAdded, IsFile, IsHad, KeepsSetup, ReadsFile, Refuses, SetsUp, Tells}
use Rattle.sg_clerk.proofs.Hearing.{told_all}
use Rattle.sg_clerk.specs.declared.begun.File.{File}
use Rattle.sg_clerk.specs.declared.begun.File.TheVariants as file
use Rattle.sg_clerk.specs.declared.begun.Keeping.{Keeping}
use Rattle.sg_clerk.specs.declared.begun.Keeping.TheVariants as keeping
use Rattle.sg_clerk.specs.declared.refusal.Refusal.{Refusal}
use Rattle.sg_clerk.specs.declared.refusal.Refusal.TheVariants as refusal

-- WHAT A FILE IS

-- no setup was read
abbrev IsFault : Result Setup SetupFault → Type 0
IsFault (Ok setup) = ⊥
IsFault (Err why) = Unit {0}

-- the setup that was read, or else another one
abbrev setup_or : Setup → Result Setup SetupFault → Setup
setup_or other (Ok setup) = setup
setup_or other (Err why) = other

-- the secrets are as many as there may be
few_secrets : (one setup : Setup) → fault_of one.plan ≡ None → with_secrets one ≡ Ok setup → IsSetup setup
few_secrets one setup good is = at_test (nat_le 1 (length one.secrets) && nat_le (length one.secrets) 32) refl is
  where
    at_test : (b : Bool) → (nat_le 1 (length one.secrets) && nat_le (length one.secrets) 32) ≡ b
        → cond b (Ok one) (Err fault.Secrets) ≡ Ok setup → IsSetup setup
    at_test true both e =
        let parts = and_parts (nat_le 1 (length one.secrets)) (nat_le (length one.secrets) 32) both in
        let whole : IsSetup one = record { plan = good; some = leb-true 1 (length one.secrets) parts.0; few = leb-true (length one.secrets) 32 parts.1 } in
        subst IsSetup (ap (setup_or one) e) whole
    at_test false both e = absurd (subst IsFault e tt)

-- the setup of an election file keeps its limits
pub file_keeps : (bytes : List ℕ) (setup : Setup) → setup_in bytes ≡ Ok setup → IsSetup setup
unfolding setup_in
file_keeps bytes setup is = by_json (json_of bytes) is
  where
    by_plan : (one : Setup) (broken : Option PlanFault) → fault_of one.plan ≡ broken → with_plan broken one ≡ Ok setup → IsSetup setup
    by_plan one (Some broken) found e = absurd (subst IsFault e tt)
    by_plan one None found e = few_secrets one setup found e

    by_shape : (found : Option Setup) → with_shape found ≡ Ok setup → IsSetup setup
    by_shape None e = absurd (subst IsFault e tt)
    by_shape (Some one) e = by_plan one (fault_of one.plan) refl e

    by_json : (found : Option Data) → with_json found ≡ Ok setup → IsSetup setup
    by_json None e = absurd (subst IsFault e tt)
    by_json (Some value) e = by_shape (file_in value) e

-- what was read of an input that was read to its end is what its bytes are
pub file_read : (found : File) (input input' : Seen) (taken : List ℕ) → Consumes input.bytes input'.bytes taken → IsAtEnd input'.bytes
    → IsFile found (Some taken) → ReadsFile found input input'
file_read (file.Setup setup) input input' taken came ended is = ((is.0, told_all input.bytes input'.bytes taken (IsFileOf setup) came ended is.1), ended)
file_read (file.Bad why) input input' taken came ended is = (is.0, told_all input.bytes input'.bytes taken (IsBadFile why) came ended is.1)
file_read file.Fault input input' taken came ended is = absurd is
file_read file.NoMemory input input' taken came ended is = tt

-- no other refusal is that of a setup that is kept
abbrev IsOther : Refusal → Type 0
IsOther refusal.Begun = ⊥
IsOther refusal.Size = Unit {0}
IsOther refusal.Json = Unit {0}
IsOther refusal.Shape = Unit {0}
IsOther (refusal.Plan broken) = Unit {0}
IsOther refusal.Secrets = Unit {0}

pub other : (why : Refusal) → IsOther why → why ≢ refusal.Begun
other why is same = subst IsOther same is

-- and it says nothing of the rows
not_begun : (why : Refusal) (rows : Rows) → why ≢ refusal.Begun → IsBegun why rows
not_begun refusal.Size rows not = tt
not_begun refusal.Json rows not = tt
not_begun refusal.Shape rows not = tt
not_begun (refusal.Plan broken) rows not = tt
not_begun refusal.Secrets rows not = tt
not_begun refusal.Begun rows not = absurd (not refl)

-- WHAT CAME OF A SETUP

-- no setup is kept
pub none_kept : (has : Bool) (setup : Option (List ℕ)) → has ≡ is_some setup → has ≡ false → setup ≡ None
none_kept has None is not = refl
none_kept has (Some text) is not = cc (is, not)

-- it is added where none is kept
pub adds_keeps : (how : Keeping) (setup : Setup) (tells still : Type 0) (rows middle rows' : Rows) (faults mid faults' : ℕ) → (tells → still) → (tells → middle ≡ rows) → faults ≤ mid
    → (tells → rows.setup ≡ None) → AddsSetup how setup still middle rows' mid faults' → KeepsSetup how setup tells rows rows' faults faults'
adds_keeps keeping.Kept setup tells still rows middle rows' faults mid faults' told same later none adds = λ was.
    (none was, adds (told was) (ap (λ (r : Rows). r.setup) (same was) ∙ none was) ∙ ap (λ (r : Rows). with_setup r (setup_text setup)) (same was))
adds_keeps keeping.Begun setup tells still rows middle rows' faults mid faults' told same later none adds = absurd adds
adds_keeps keeping.Fault setup tells still rows middle rows' faults mid faults' told same later none adds =
    (Rose-later faults mid faults' later adds.0, λ was. adds.1 (told was) ∙ same was)
adds_keeps keeping.NoMemory setup tells still rows middle rows' faults mid faults' told same later none adds = λ was. adds (told was) ∙ same was

-- it is kept
pub tells_sets : (how : Outcome) (setup : Setup) (tells : Type 0) (rows rows' : Rows) (faults faults' : ℕ) (out out' : Seen)
    → (tells → IsAdded setup rows rows') → Tells how out out' → SetsUp how setup tells rows rows' faults faults' out out'
tells_sets outcome.Done setup tells rows rows' faults faults' out out' added told = (added, told)
tells_sets outcome.WriteFailed setup tells rows rows' faults faults' out out' added told = inl (added, told)
tells_sets _ setup tells rows rows' faults faults' out out' added told = absurd told

-- another one was
pub refused_sets : (how : Outcome) (setup : Setup) (tells : Type 0) (rows rows' : Rows) (faults faults' : ℕ) (out out' : Seen)
    → (tells → IsHad rows rows') → Refuses how refusal.Begun out out' → SetsUp how setup tells rows rows' faults faults' out out'
refused_sets outcome.Refused setup tells rows rows' faults faults' out out' had told = (had, told)
refused_sets outcome.WriteFailed setup tells rows rows' faults faults' out out' had told = inr (had, told)
refused_sets outcome.NoMemory setup tells rows rows' faults faults' out out' had told = (λ t. (had t).1, told)
refused_sets _ setup tells rows rows' faults faults' out out' had told = absurd told

-- ENDINGS

-- a file that is refused
pub bad_ends : (how : Outcome) (why : Refusal) (input input' : Seen) (tells : Type 0) (rows rows' : Rows) (faults faults' : ℕ) (out out' : Seen)
    → rows' ≡ rows → ReadsFile (file.Bad why) input input' → Refuses how why out out' → InitEnds how input input' tells rows rows' faults faults' out out'
bad_ends outcome.WriteFailed why input input' tells rows rows' faults faults' out out' same bad ends = record {
  cause = ends.0;
  cut = IsCut.Refusing why (record { file = bad.1; begun = λ told. not_begun why rows bad.0 }) (λ told. same) ends.1;
}
bad_ends outcome.Refused why input input' tells rows rows' faults faults' out out' same bad ends = record {
  why = why;
  cause = record { file = bad.1; begun = λ told. not_begun why rows bad.0 };
  same = λ told. same;
  written = ends;
}
bad_ends outcome.NoMemory why input input' tells rows rows' faults faults' out out' same bad ends = record { same = λ told. same; quiet = ends }
bad_ends _ why input input' tells rows rows' faults faults' out out' same bad ends = absurd ends

-- the one that is kept is that of the file
is_set_up : (setup : Setup) (known : Option (List ℕ)) (tells : Type 0) (rows rows' : Rows) → IfSome known (IsFileOf setup) → (tells → IsAdded setup rows rows')
    → IsSetUp known tells rows rows'
is_set_up setup known tells rows rows' read added = record { setup = setup; file = read; fresh = λ told. (added told).0; kept = λ told. (added told).1 }

-- a good file is no cause to refuse but where a setup is kept
had_before : (setup : Setup) (known : Option (List ℕ)) (tells : Type 0) (rows rows' : Rows) → IfSome known (IsFileOf setup) → (tells → IsHad rows rows')
    → IsCause refusal.Begun known tells rows
had_before setup known tells rows rows' read had = record { file = good known read; begun = λ told. (had told).0 }
  where
    good : (bytes : Option (List ℕ)) → IfSome bytes (IsFileOf setup) → IfSome bytes (IsBadFile refusal.Begun)
    good None is = tt
    good (Some bytes) is = (setup, is)

-- a file that was read
pub good_ends : (how : Outcome) (setup : Setup) (input input' : Seen) (tells : Type 0) (rows rows' : Rows) (faults faults' : ℕ) (out out' : Seen)
    → ReadsFile (file.Setup setup) input input' → SetsUp how setup tells rows rows' faults faults' out out' → InitEnds how input input' tells rows rows' faults faults' out out'
good_ends outcome.Done setup input input' tells rows rows' faults faults' out out' read sets =
    record { set_up = is_set_up setup input.bytes tells rows rows' read.0.1 sets.0; read = read.1; written = sets.1 }
good_ends outcome.WriteFailed setup input input' tells rows rows' faults faults' out out' read (inl sets) = record {
  cause = sets.1.0;
  cut = IsCut.Beginning (is_set_up setup input.bytes tells rows rows' read.0.1 sets.0) sets.1.1;
}
good_ends outcome.WriteFailed setup input input' tells rows rows' faults faults' out out' read (inr sets) = record {
  cause = sets.1.0;
  cut = IsCut.Refusing refusal.Begun (had_before setup input.bytes tells rows rows' read.0.1 sets.0) (λ told. (sets.0 told).1) sets.1.1;
}
good_ends outcome.KeeperFailed setup input input' tells rows rows' faults faults' out out' read sets = record { cause = sets.0; same = sets.1; quiet = sets.2 }
good_ends outcome.Refused setup input input' tells rows rows' faults faults' out out' read sets = record {
  why = refusal.Begun;
  cause = had_before setup input.bytes tells rows rows' read.0.1 sets.0;
  same = λ told. (sets.0 told).1;
  written = sets.1;
}
good_ends outcome.NoMemory setup input input' tells rows rows' faults faults' out out' read sets = record { same = sets.0; quiet = sets.1 }
good_ends _ setup input input' tells rows rows' faults faults' out out' read sets = absurd sets

-- nothing was taken of an input
pub took_nothing : (limit : ℕ) (known : Option (List ℕ)) → TookAtMost limit known known
took_nothing limit known = record { bytes = []; taken = Consumes-nil known; few = omega arith }
