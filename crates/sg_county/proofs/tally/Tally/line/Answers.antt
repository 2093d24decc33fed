-- A line `next`, or another.
use Rattle.std.proofs.Common.{not, sym, ap, ◌∙◌}
use Rattle.sg_county.proofs.Lines.{adds_next, never_both, says_next}
use Rattle.sg_county.proofs.tally.Tally.line.Goals as goal
use Rattle.sg_county.specs.Tally.{is_open}

pub returns-then-self-clause-adds : goal.returns-then-self-clause-adds
returns-then-self-clause-adds c = λ still. never_both _ (is_open c.args.self.now) still (ap not c.if-self.true)

pub returns-then-self-clause-says : goal.returns-then-self-clause-says
returns-then-self-clause-says c = λ still. never_both _ (is_open c.args.self.now) still (ap not c.if-self.true)

pub returns-then-self-clause-open : goal.returns-then-self-clause-open
returns-then-self-clause-open c = λ still. never_both _ (is_open c.args.self.now) still (ap not c.if-self.true)

pub next_part-requires : goal.next_part-requires
next_part-requires c = record { stands = c.requires.stands; «open» = ap not c.if-self.false }

pub returns-then-is_next_line-clause-adds : goal.returns-then-is_next_line-clause-adds
returns-then-is_next_line-clause-adds c = λ still.
    adds_next c.args.self.now c.next_part.new.self c.args.line.now c.next_part.result (sym c.is_next_line.ensures ∙ c.if-is_next_line.true) c.next_part.ensures.adds

pub returns-then-is_next_line-clause-says : goal.returns-then-is_next_line-clause-says
returns-then-is_next_line-clause-says c = λ still. says_next c.args.self.now c.args.line.now c.next_part.result (sym c.is_next_line.ensures ∙ c.if-is_next_line.true) c.next_part.ensures.says

pub returns-then-is_next_line-clause-open : goal.returns-then-is_next_line-clause-open
returns-then-is_next_line-clause-open c = λ still. c.next_part.ensures.open

pub returns-then-is_next_line-clause-falls : goal.returns-then-is_next_line-clause-falls
returns-then-is_next_line-clause-falls c = c.next_part.ensures.falls

pub returns-then-is_next_line-clause-stays : goal.returns-then-is_next_line-clause-stays
returns-then-is_next_line-clause-stays c = λ over. never_both _ (is_open c.args.self.now) (ap not c.if-self.false) over

pub returns-then-is_next_line-clause-err : goal.returns-then-is_next_line-clause-err
returns-then-is_next_line-clause-err c = c.next_part.ensures.err

pub inner_line-requires : goal.inner_line-requires
inner_line-requires c = record { stands = c.requires.stands; «open» = ap not c.if-self.false; inner = sym c.is_next_line.ensures ∙ c.if-is_next_line.false }

pub returns-clause-adds : goal.returns-clause-adds
returns-clause-adds c = λ still. c.inner_line.ensures.adds

pub returns-clause-says : goal.returns-clause-says
returns-clause-says c = λ still. c.inner_line.ensures.says

pub returns-clause-open : goal.returns-clause-open
returns-clause-open c = λ still. c.inner_line.ensures.open

pub returns-clause-falls : goal.returns-clause-falls
returns-clause-falls c = c.inner_line.ensures.falls

pub returns-clause-stays : goal.returns-clause-stays
returns-clause-stays c = λ over. never_both _ (is_open c.args.self.now) (ap not c.if-self.false) over

pub returns-clause-err : goal.returns-clause-err
returns-clause-err c = c.inner_line.ensures.err
