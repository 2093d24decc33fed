-- By what the cutter gave.
use Rattle.std.proofs.Common.{ap, refl, arith}
use Rattle.sg_outside.specs.Streams.{seen}
use Rattle.sg_clerk.proofs.LineAsks.{fault-open, gives-text, line-open, line-some, long-open, none-held, over-end, over-fault, over-held, over-more, part-open, some-held}
use Rattle.sg_clerk.proofs.talk.end_behind.Goals as goal

pub returns-in-Line-clause-ends : goal.returns-in-Line-clause-ends
returns-in-Line-clause-ends g c = λ before exchanges came.
    let found = c.in-Line.ensures in
    over-more _ c.next.new.self before _ _ exchanges
    (gives-text _ c.next.new.self _ _ (λ over. line-open (found.over over).0) found.cut (found.few refl) found.limit c.requires found.later)
    (λ more. line-some c.next.new.self.text (found.found more)) came

pub returns-in-Part-clause-ends : goal.returns-in-Part-clause-ends
returns-in-Part-clause-ends g c = λ before exchanges came.
    let found = c.in-Part.ensures in
    over-more _ c.next.new.self before _ _ exchanges
    (gives-text _ c.next.new.self _ _ (λ over. part-open (found.over over).0) found.cut (found.few refl) found.limit c.requires found.later)
    (λ more. (found.found more).1) came

pub returns-in-Long-clause-ends : goal.returns-in-Long-clause-ends
returns-in-Long-clause-ends g c = λ before exchanges came.
    let found = c.in-Long.ensures in
    over-more _ c.next.new.self before _ _ exchanges
    (gives-text _ c.next.new.self _ _ (λ over. long-open (found.over over).0) found.cut (found.few refl) found.limit c.requires found.later)
    (λ more. omega (arith, (found.found more).1, found.limit, c.requires)) came

pub returns-in-End-clause-ends : goal.returns-in-End-clause-ends
returns-in-End-clause-ends g c = λ before exchanges came.
    let found = c.in-End.ensures in
    over-end _ c.next.new.self _ before _ _ exchanges
    (λ over. ap (λ (s : g.row.S.Denot). seen (g.S.Source.left s) (g.S.Source.faults s)) (found.over over).2) found.cut found.found came

pub returns-then-is_empty-clause-ends : goal.returns-then-is_empty-clause-ends
returns-then-is_empty-clause-ends g c = λ before exchanges came.
    let found = c.in-ReadFault.ensures in
    over-fault _ c.next.new.self _ before _ _ exchanges (λ over. fault-open (found.over over).0) found.cut found.found (omega (arith, found.limit, c.requires)) (found.failed refl)
    (λ none. none-held c.held.result.now _ c.held.ensures c.if-is_empty.ensures) came

pub returns-else-is_empty-clause-ends : goal.returns-else-is_empty-clause-ends
returns-else-is_empty-clause-ends g c = λ before exchanges came.
    let found = c.in-ReadFault.ensures in
    over-held _ c.next.new.self before _ _ exchanges (λ over. fault-open (found.over over).0) found.cut found.found (omega (arith, found.limit, c.requires))
    (some-held c.held.result.now _ c.held.ensures c.if-is_empty.ensures) came
