use Rattle.sg_forms.specs.Said.{said}
use Rattle.sg_grammar.specs.inside.Expecting.{next_at}
use Rattle.sg_grammar.specs.Head.{made}
use Rattle.sg_grammar.proofs.Making.{made-line}
use Rattle.sg_grammar.proofs.Walking.{stepped_in_head}
use Rattle.sg_grammar.proofs.expecting.Expect.plan_step.Goals as goal

pub invariant_of-self-2 : goal.invariant_of-self-2
invariant_of-self-2 c = record {
  made = made-line c.self.inside.plan c.self.inside.head (said c.args.line.now) (made c.add.new.self c.in_ok-next.next) c.self.invariant.made c.in_ok-next.ensures.ok;
  slot_in = tt;
  part_in = tt;
}

pub returns-clause-ok : goal.returns-clause-ok
returns-clause-ok c =
    let next = next_at c.self.inside.plan c.self.inside.head c.self.inside.slot c.self.inside.part in
    rw (← c.self.view_is) (stepped_in_head next (said c.args.line.now) (made c.add.new.self c.in_ok-next.next) c.in_ok-next.ensures.ok)
