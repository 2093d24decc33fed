use Rattle.sg_forms.specs.Said.{said}
use Rattle.sg_grammar.specs.Coordinates.{placed}
use Rattle.sg_grammar.proofs.DueLines.{placed_in}
use Rattle.sg_grammar.proofs.body.stand_due.Goals as goal

pub returns-in-Some-clause-within : goal.returns-in-Some-clause-within
returns-in-Some-clause-within c = record {
  line = placed_in c.args.plan.now c.args.slot.now (said c.args.line.now) (placed c.in-Some.line) c.requires.slot c.in-Some.ensures;
  slot = c.next_slot.ensures.result_within;
  part = c.requires.part;
}
