-- One byte more that is no space.
use Rattle.std.proofs.Common.{arith}
use Rattle.std.proofs.lemmas.Bool.{ne_eqb}
use Rattle.std.proofs.lemmas.List.{take_all}
use Rattle.sg_forms.proofs.Cutting.{one_more}
use Rattle.sg_forms.proofs.words.space_in.Goals as goal

pub loop-at-preserved : goal.loop-at-preserved
loop-at-preserved c = one_more c.args.text.now c.loop-at.at (omega arith) (ne_eqb _ 32 (λ is. omega arith)) c.loop-at.invariant

pub returns : goal.returns
returns c = rw (take_all c.loop-at.at c.args.text.now (omega arith)) at c.loop-at.invariant
