-- Behind the line `printing` the parts are read, or the record has a fault.
use Rattle.std.proofs.Common.{◌≡◌, ◌≢◌, ℕ, ◌++◌, List, [], ap, append-nil, arith, subst, sym}
use Rattle.sg_driver.specs.declared.judge.Standing.TheVariants.{Open, Settled}
use Rattle.sg_parts.specs.Faults.{HasFault}
use Rattle.sg_parts.specs.declared.parts.RecountFault.{RecountFault}
use Rattle.sg_parts.specs.declared.parts.RecountFault.TheVariants.{NoMemory}
use Rattle.sg_reports.proofs.Courts.Taking.{parts_left}
use Rattle.sg_reports.specs.court.inside.Hearing.{AtPrinting, HasPrinting, IsAtPrinting, IsSettled, Stands, taken_left}
use Rattle.sg_reports.specs.declared.court.hearing.Taken.{Taken}
use Rattle.sg_reports.specs.declared.court.record.RecordTaken.{RecordTaken}
use Rattle.sg_reports.proofs.court.hearing.Hearing.begin.Goals as goal

-- the record with that line behind it
here : (posted : RecordTaken) (all : List (List ℕ)) → (at : IsAtPrinting posted all) → HasPrinting at.lines all []
here posted all at = subst (λ (l : List (List ℕ)). HasPrinting at.lines l []) (append-nil all) (at.printing [])

pub returns-in-Ok-clause-goes : goal.returns-in-Ok-clause-goes
returns-in-Ok-clause-goes c = λ lines at.
    let posted = subst (λ (t : Taken). AtPrinting t lines) (sym c.in-Record.ensures.value) at in
    subst (λ (t : Taken). Stands t lines) (sym c.replace-in-Ok.ensures.after) (c.in-Ok.ensures.parts posted.lines lines posted.is_taken (here c.in-Record.record lines posted))

pub returns-in-Ok-clause-falls : goal.returns-in-Ok-clause-falls
returns-in-Ok-clause-falls c = λ is_open.
    let lines = c.requires.0 in
    let posted = subst (λ (t : Taken). AtPrinting t lines) (sym c.in-Record.ensures.value) c.requires.1 in
    let few = parts_left c.in-Ok.parts lines (c.in-Ok.ensures.parts posted.lines lines posted.is_taken (here c.in-Record.record lines posted)) in
    omega (arith, few, ap taken_left c.replace-in-Ok.ensures.after, ap taken_left c.in-Record.ensures.value)

pub returns-in_ok-fault-in-Err : goal.returns-in_ok-fault-in-Err
returns-in_ok-fault-in-Err c = record {
  goes = λ lines at.
      let known = c.in_ok-fault-in-Err.ensures in
      let posted = subst (λ (t : Taken). AtPrinting t lines) (sym c.in-Record.ensures.value) at in
      subst (λ (t : Taken). IsSettled t lines) (sym c.replace-in-Err.ensures.after)
      (λ more. (
        known.0,
        subst (λ (f : RecountFault). HasFault (lines ++ more) f) (sym known.1)
            (c.in-Err.ensures.fault (subst (λ (f : RecountFault). f ≢ NoMemory) known.1 known.0) posted.lines (lines ++ more) more posted.is_taken (posted.printing more)),
      ));
  falls = λ is_open. absurd (closed is_open);
}
  where
    closed : Settled ≡ Open → ⊥
    closed e = cc
