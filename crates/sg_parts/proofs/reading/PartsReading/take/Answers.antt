-- The line was the one that is due, or it is off.
use Rattle.std.proofs.Common.{◌∷◌, List, ℕ, [], Bool, length, ap, subst, sym, append_assoc, arith}
use Rattle.sg_parts.specs.Faults.{HasFault}
use Rattle.sg_parts.specs.Reads.{HasRead}
use Rattle.sg_parts.specs.declared.reading.PartsReading.{PartsReading}
use Rattle.sg_parts.specs.inside.Reading.{Fits}
use Rattle.sg_parts.specs.inside.Taking.{IsOff}
use Rattle.sg_parts.proofs.Finding.{asked_few, taken_asked}
use Rattle.sg_parts.proofs.reading.PartsReading.take.Goals as goal

pub overflow_add-self : goal.overflow_add-self
overflow_add-self c =
    let taken = subst (λ (b : Bool). Fits c.args.self.now c.fits.new.self c.requires.0 c.args.line.now b) c.if-branch.true (c.in_ok-fits.ensures c.requires.0 c.requires.1) in
    omega (arith, ap (λ (r : PartsReading). r.taken) taken.0, taken_asked c.args.self.now c.requires.0 c.requires.1, asked_few c.args.self.now c.requires.0 c.requires.1)

pub returns-then-branch-clause-goes : goal.returns-then-branch-clause-goes
returns-then-branch-clause-goes c = λ lines has.
    (subst (λ (b : Bool). Fits c.args.self.now c.fits.new.self lines c.args.line.now b) c.if-branch.true (c.in_ok-fits.ensures lines has)).1

pub returns-then-branch-clause-falls : goal.returns-then-branch-clause-falls
returns-then-branch-clause-falls c = λ _.
    let taken = subst (λ (b : Bool). Fits c.args.self.now c.fits.new.self c.requires.0 c.args.line.now b) c.if-branch.true (c.in_ok-fits.ensures c.requires.0 c.requires.1) in
    omega (
      arith,
      ap (λ (r : PartsReading). r.taken) taken.0,
      ap (λ (r : PartsReading). length r.due) taken.0,
      ap (λ (r : PartsReading). r.count) taken.0,
      taken_asked c.args.self.now c.requires.0 c.requires.1,
    )

pub next_fault-requires : goal.next_fault-requires
next_fault-requires c =
    let off = subst (λ (b : Bool). Fits c.args.self.now c.fits.new.self c.requires.0 c.args.line.now b) c.if-branch.false (c.in_ok-fits.ensures c.requires.0 c.requires.1) in
    (c.requires.0, subst (λ (r : PartsReading). HasRead r c.requires.0) (sym off.0) c.requires.1)

pub returns-clause-goes : goal.returns-clause-goes
returns-clause-goes c = λ lines has.
    let off = subst (λ (b : Bool). Fits c.args.self.now c.fits.new.self lines c.args.line.now b) c.if-branch.false (c.in_ok-fits.ensures lines has) in (
      c.in_ok-off.ensures.known,
      λ more.
          subst (λ (l : List (List ℕ)). HasFault l c.in_ok-off.off) (sym (append_assoc lines (c.args.line.now ∷ []) more))
          (c.in_ok-off.ensures.has lines (c.args.line.now ∷ more) (subst (λ (r : PartsReading). HasRead r lines) (sym off.0) has)
          (subst (λ (r : PartsReading). IsOff r c.args.line.now) (sym off.0) off.1)),
    )
