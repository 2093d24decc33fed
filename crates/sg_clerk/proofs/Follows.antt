-- A keeper that follows a talk.
use Rattle.std.proofs.Common.{◌≡◌, ℕ, ◌+◌, ◌≤◌, List, ◌∙◌, arith}
use Rattle.sg_keeper.specs.declared.rows.Rows.{Rows}
use Rattle.sg_keeper.specs.declared.setup.Setup.{Setup}
use Rattle.sg_histories.specs.Histories.{Entry}
use Rattle.sg_clerk.specs.Talks.{KeeperFollows}

-- at first nothing was asked
pub follows-none : (setup : Setup) (history : List Entry) (tells : Type 0) (rows : Rows) (faults : ℕ) → KeeperFollows setup history history 0 tells rows rows faults faults
follows-none setup history tells rows faults = record { kept = λ told text is. is; counted = λ below. omega arith }

-- it goes on following
pub follows-on : (setup : Setup) (first middle last : List Entry) (some more : ℕ) (tells still : Type 0) (rows rows' rows'' : Rows) (faults faults' faults'' : ℕ) → (tells → still) → faults' ≤ faults''
    → KeeperFollows setup first middle some tells rows rows' faults faults' → KeeperFollows setup middle last more still rows' rows'' faults' faults''
    → KeeperFollows setup first last (some + more) tells rows rows'' faults faults''
follows-on setup first middle last some more tells still rows rows' rows'' faults faults' faults'' told later so_far on = record {
  kept = λ was text is. on.kept (told was) text (so_far.kept was text is);
  counted = λ below. omega (arith, so_far.counted (omega (arith, later, below)), on.counted below);
}

-- nothing more was asked
pub follows-still : (setup : Setup) (first last : List Entry) (some : ℕ) (tells : Type 0) (rows rows' rows'' : Rows) (faults faults' faults'' : ℕ) → rows'' ≡ rows' → faults'' ≡ faults'
    → KeeperFollows setup first last some tells rows rows' faults faults' → KeeperFollows setup first last some tells rows rows'' faults faults''
follows-still setup first last some tells rows rows' rows'' faults faults' faults'' same still so_far = record {
  kept = λ was text is. same ∙ so_far.kept was text is;
  counted = λ below. omega (arith, still, so_far.counted (omega (arith, still, below)));
}

-- it follows from before an opening, which changed no row and only the count
pub follows-from : (setup : Setup) (first last : List Entry) (some : ℕ) (tells still : Type 0) (rows rows' rows'' : Rows) (faults faults' faults'' : ℕ) → (tells → still) → (tells → rows' ≡ rows) → faults ≤ faults'
    → KeeperFollows setup first last some still rows' rows'' faults' faults'' → KeeperFollows setup first last some tells rows rows'' faults faults''
follows-from setup first last some tells still rows rows' rows'' faults faults' faults'' told same later on = record {
  kept = λ was text is. on.kept (told was) text (same was ∙ is);
  counted = λ below. omega (arith, later, on.counted below);
}
