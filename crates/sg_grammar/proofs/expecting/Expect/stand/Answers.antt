use Rattle.sg_grammar.specs.Walk.{take_line}
use Rattle.sg_grammar.proofs.expecting.Expect.stand.Goals as goal

pub returns-clause-taken : goal.returns-clause-taken
unfolding take_line
returns-clause-taken c =
    let behind = rw (← c.self.view_is) at c.requires.behind in
    rw (← c.self.view_is) (c.stand_behind.ensures.stands behind)
