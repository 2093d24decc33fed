-- How a run of `scans` ends, from what was read, answered and written.
use Rattle.std.proofs.Common.{◌≡◌, ℕ, ◌+◌, ◌<◌, ◌≤◌, List, [], ◌++◌, length, drop, None, Some, inl, inr, refl, sym, subst}
use Rattle.std.specs.Prelude.{Option, IfSome}
use Rattle.std.specs.Io.KnownBytes.{Consumes, IsAtEnd}
use Rattle.sg_outside.specs.Faults.{Rose}
use Rattle.sg_outside.specs.Streams.{Seen}
use Rattle.sg_outside.proofs.StreamLemmas.{Appends-nil, Keeps-refl}
use Rattle.sg_keeper.specs.declared.rows.Rows.{Rows}
use Rattle.sg_keeper.specs.declared.setup.Setup.{Setup}
use Rattle.sg_histories.specs.Histories.{Entry}
use Rattle.sg_scans.specs.FileRecords.{records_of}
use Rattle.sg_scans.specs.ScanLines.{IsFault}
use Rattle.sg_scans.specs.declared.fields.ScanLine.{ScanLine}
use Rattle.sg_scans.specs.declared.file.ScansFault.TheVariants as fault
use Rattle.sg_clerk.specs.Outside.{Outside, input_at, output_at}
use Rattle.sg_clerk.specs.Asking.{EndsAfter, EndsBy, TalkedBy}
use Rattle.sg_clerk.specs.Ends.{HasFailed, Refuses}
use Rattle.sg_clerk.specs.Taken.{TookAtMost}
use Rattle.sg_clerk.specs.declared.asker.Stop.{Stop}
use Rattle.sg_clerk.specs.declared.asker.Stop.TheVariants as stop
use Rattle.sg_clerk.specs.declared.ended.Ending.{Ending}
use Rattle.sg_clerk.specs.declared.ended.Ending.TheVariants as ending
use Rattle.sg_clerk.specs.declared.ended.Unfit.{Unfit}
use Rattle.sg_clerk.specs.declared.ended.Unfit.TheVariants as unfit
use Rattle.sg_clerk.proofs.TalkGoes.{cut-misses}
use Rattle.sg_clerk.proofs.Follows.{follows-none, follows-still}
use Rattle.sg_clerk.proofs.Hearing.{told_all}
use Rattle.sg_clerk.proofs.TalkGrows.{misses-none}
use Rattle.sg_clerk.specs.scans.DoesScans.{DoesScans, Handed, ScansEnd, by_scans, replies_in, scans_in}
use Rattle.sg_clerk.specs.scans.ScansEnds.{AreFirstScans, AreScansOf, IsRefusedFile, ScansEndSo, longest_file}
use Rattle.sg_clerk.specs.scans.inside.ScanSteps.{IsScanFile, ReadsScans, ScansCame, ScansOver}
use Rattle.sg_clerk.specs.declared.scans.reading.ScanFile.{ScanFile}
use Rattle.sg_clerk.specs.declared.scans.reading.ScanFile.TheVariants as file

-- WHAT WAS READ

-- why it is refused
refused_read : (why : Unfit) (known left : Option (List ℕ)) (taken : List ℕ) → Consumes known left taken → IsAtEnd left → IsRefusedFile why (Some taken) → IsRefusedFile why known
refused_read unfit.Size known left taken came ended is = told_all known left taken (λ bytes. longest_file < length bytes) came ended is
refused_read unfit.Header known left taken came ended is = told_all known left taken (λ bytes. (length bytes ≤ longest_file) × IsFault fault.Header (records_of bytes)) came ended is
refused_read unfit.Count known left taken came ended is = told_all known left taken (λ bytes. (length bytes ≤ longest_file) × IsFault fault.Count (records_of bytes)) came ended is
refused_read unfit.Line known left taken came ended is = absurd is

-- what was read of an input that was read to its end is what its bytes are
pub scans_read : (found : ScanFile) (input input' : Seen) (taken : List ℕ) → Consumes input.bytes input'.bytes taken → IsAtEnd input'.bytes
    → IsScanFile found (Some taken) → ReadsScans found input input'
scans_read (file.Scans lines) input input' taken came ended is = ((is.0, told_all input.bytes input'.bytes taken (AreScansOf lines) came ended is.1), ended)
scans_read (file.Bad why) input input' taken came ended is = refused_read why input.bytes input'.bytes taken came ended is
scans_read file.Fault input input' taken came ended is = absurd is
scans_read file.NoMemory input input' taken came ended is = tt

-- WHAT WAS ANSWERED

-- these are first records of the file
first_scans : (known : Option (List ℕ)) (lines front others : List ScanLine) → IfSome known (AreScansOf lines) → lines ≡ front ++ others → AreFirstScans known front
first_scans None lines front others are is = tt
first_scans (Some bytes) lines front others are is = (others, subst (λ (l : List ScanLine). AreScansOf l bytes) is are)

-- all were answered
all_end : (why : Stop) (how : Ending) (lines : List ScanLine) (handed : List Handed) (texts : List (List ℕ)) (before now : Outside) → ReadsScans (file.Scans lines) (input_at before) (input_at now)
    → ScansOver why lines handed → EndsAfter why how texts (output_at before) (output_at now) → (how ≡ ending.Done) × ScansEndSo ending.Done (scans_in handed) texts before.left now.left before.written now.written
all_end stop.Done how lines handed texts before now reads all ends = (ends.0, (subst (λ (l : List ScanLine). IfSome before.left (AreScansOf l)) all reads.0.1, reads.1, ends.1))
all_end stop.ReadFault how lines handed texts before now reads all ends = absurd all
all_end stop.LinkFault how lines handed texts before now reads all ends = absurd all
all_end (stop.Unfit why) how lines handed texts before now reads all ends = absurd all
all_end stop.NoMemory how lines handed texts before now reads all ends = absurd all

-- the records of a file that was read
pub does_lines : (how : Ending) (at : ℕ) (setup : Setup) (start : List Entry) (tells : Type 0) (rows after : Rows) (lines left : List ScanLine) (before now : Outside)
    → TookAtMost (longest_file + 1) before.left now.left → ReadsScans (file.Scans lines) (input_at before) (input_at now)
    → TalkedBy by_scans (ScansCame lines at left) (λ why. ScansOver why lines) how (output_at before) (output_at now) setup start tells rows after before.keep_faults now.keep_faults
    → DoesScans how setup start tells rows after before now
does_lines how at setup start tells rows after lines left before now took reads talked = record {
  exchanges = talked.exchanges;
  next = talked.next;
  talk = talked.talk;
  keeper = talked.keeper;
  ends = by_end talked.ends;
}
  where
    texts : List (List ℕ)
    texts = replies_in setup.plan.version talked.exchanges

    ends_at : (h : Ending) → HasFailed h before.read_faults now.read_faults before.write_faults now.write_faults → ScansEndSo h (scans_in talked.exchanges) texts before.left now.left before.written now.written → how ≡ h
        → ScansEnd before now how setup talked.exchanges
    ends_at h cause ends is = subst (λ (e : Ending). ScansEnd before now e setup talked.exchanges) (sym is) (record { took = took; cause = cause; ends = ends })

    by_end : EndsBy by_scans (ScansCame lines at left) (λ why. ScansOver why lines) how (output_at before) (output_at now) setup talked.exchanges → ScansEnd before now how setup talked.exchanges
    by_end (inl over) =
        let all = all_end over.why how lines talked.exchanges texts before now reads over.over over.ends in
        ends_at ending.Done tt all.1 all.0
    by_end (inr cut) =
        let first = first_scans before.left lines (scans_in talked.exchanges) (drop at lines) reads.0.1 cut.came.are in
        let misses = cut-misses before.written now.written texts cut.cut in
        elim cut.cause [
          | inl failed ↦ ends_at (ending.WriteFault None) failed.1 (first, misses) failed.0
          | inr memory ↦ ends_at ending.NoMemory tt (inr first, misses) memory
        ]

-- WITHOUT AN ANSWER

none_done : (how : Ending) (setup : Setup) (start : List Entry) (tells : Type 0) (rows : Rows) (before now : Outside) → now.keep_faults ≡ before.keep_faults → TookAtMost (longest_file + 1) before.left now.left
    → HasFailed how before.read_faults now.read_faults before.write_faults now.write_faults → ScansEndSo how [] [] before.left now.left before.written now.written
    → DoesScans how setup start tells rows rows before now
none_done how setup start tells rows before now same took cause ends = record {
  exchanges = [];
  next = start;
  talk = refl;
  keeper = follows-still setup start start 0 tells rows rows rows before.keep_faults before.keep_faults now.keep_faults refl same (follows-none setup start tells rows before.keep_faults);
  ends = record { took = took; cause = cause; ends = ends };
}

-- a refusal's line was written, or cut
pub does_refused : (how : Ending) (why : Unfit) (setup : Setup) (start : List Entry) (tells : Type 0) (rows : Rows) (before now : Outside) → now.keep_faults ≡ before.keep_faults
    → TookAtMost (longest_file + 1) before.left now.left → IsRefusedFile why before.left → Refuses how why before.written now.written before.write_faults now.write_faults
    → DoesScans how setup start tells rows rows before now
does_refused how why setup start tells rows before now same took bad (inl told) =
    subst (λ (h : Ending). DoesScans h setup start tells rows rows before now) (sym told.0)
    (none_done (ending.Refused why) setup start tells rows before now same took tt (bad, refl, told.1))
does_refused how why setup start tells rows before now same took bad (inr cut) =
    subst (λ (h : Ending). DoesScans h setup start tells rows rows before now) (sym cut.0)
    (none_done (ending.WriteFault (Some why)) setup start tells rows before now same took cut.1 (bad, refl, cut.2))

-- a read failed
pub does_unread : (setup : Setup) (start : List Entry) (tells : Type 0) (rows : Rows) (before now : Outside) → now.keep_faults ≡ before.keep_faults → now.written ≡ before.written
    → TookAtMost (longest_file + 1) before.left now.left → Rose before.read_faults now.read_faults → DoesScans ending.ReadFault setup start tells rows rows before now
does_unread setup start tells rows before now same quiet took rose =
    none_done ending.ReadFault setup start tells rows before now same took rose (refl, rw quiet (Keeps-refl before.written))

-- memory was wanted for the file
pub does_lost : (setup : Setup) (start : List Entry) (tells : Type 0) (rows : Rows) (before now : Outside) → now.keep_faults ≡ before.keep_faults → now.written ≡ before.written
    → TookAtMost (longest_file + 1) before.left now.left → DoesScans ending.NoMemory setup start tells rows rows before now
does_lost setup start tells rows before now same quiet took =
    none_done ending.NoMemory setup start tells rows before now same took tt (inl refl, misses-none before.written now.written [] (rw quiet (Appends-nil before.written)))
