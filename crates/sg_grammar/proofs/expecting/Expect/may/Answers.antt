use Rattle.std.proofs.Common.{sym, None, Some}
use Rattle.sg_lists.proofs.Options.{is_some-false}
use Rattle.sg_forms.specs.Said.{said}
use Rattle.sg_grammar.specs.inside.Expecting.{next_at}
use Rattle.sg_grammar.specs.Standing.{taken_at}
use Rattle.sg_grammar.proofs.Walking.{taken_behind, taken_in_head}
use Rattle.sg_grammar.proofs.expecting.Expect.may.Goals as goal

pub returns-then-may_stand_in_head : goal.returns-then-may_stand_in_head
returns-then-may_stand_in_head c =
    let next = next_at c.self.inside.plan c.self.inside.head c.self.inside.slot c.self.inside.part in
    let stands = c.if-may_stand_in_head.ensures in
    rw (← c.self.view_is) (sym (taken_in_head next (said c.args.line.now) (sym stands)))

pub returns-in-Some : goal.returns-in-Some
returns-in-Some c =
    let next = next_at c.self.inside.plan c.self.inside.head c.self.inside.slot c.self.inside.part in
    let stands = c.if-may_stand_in_head.ensures in
    rw (← c.self.view_is) (sym (taken_behind next (said c.args.line.now) (Some (taken_at c.self.inside.plan c.in-Some.field-0)) (c.in-Some.ensures.stands (is_some-false _ (sym stands)))))

pub returns-in-None : goal.returns-in-None
returns-in-None c =
    let next = next_at c.self.inside.plan c.self.inside.head c.self.inside.slot c.self.inside.part in
    let stands = c.if-may_stand_in_head.ensures in
    rw (← c.self.view_is) (sym (taken_behind next (said c.args.line.now) None (c.in-None.ensures.stands (is_some-false _ (sym stands)))))
