-- By what the cutter gave.
use Rattle.std.proofs.Common.{ap, refl, arith}
use Rattle.sg_outside.specs.Streams.{seen}
use Rattle.sg_clerk.proofs.LineAsks.{cuts-line, cuts-part, fault-open, gives-text, line-open, long-open, over-end, over-fault, over-long, part-open}
use Rattle.sg_clerk.proofs.talk.cut_ask.Goals as goal

pub returns-in-Line-clause-cuts : goal.returns-in-Line-clause-cuts
returns-in-Line-clause-cuts g c = λ before room exchanges came.
    let found = c.in-Line.ensures in
    cuts-line _ c.next.new.self room before _ _ exchanges
    (gives-text _ c.next.new.self _ _ (λ over. line-open (found.over over).0) found.cut (found.few refl) found.limit c.requires found.later)
    found.is_over found.found came

pub returns-in-Part-clause-cuts : goal.returns-in-Part-clause-cuts
returns-in-Part-clause-cuts g c = λ before room exchanges came.
    let found = c.in-Part.ensures in
    cuts-part _ c.next.new.self room before _ _ exchanges
    (gives-text _ c.next.new.self _ _ (λ over. part-open (found.over over).0) found.cut (found.few refl) found.limit c.requires found.later)
    found.is_over found.found came

pub returns-in-Long-clause-cuts : goal.returns-in-Long-clause-cuts
returns-in-Long-clause-cuts g c = λ before room exchanges came.
    let found = c.in-Long.ensures in
    over-long _ c.next.new.self room before _ _ exchanges
    (gives-text _ c.next.new.self _ _ (λ over. long-open (found.over over).0) found.cut (found.few refl) found.limit c.requires found.later)
    found.found (omega (arith, found.limit, c.requires)) came

pub returns-in-End-clause-cuts : goal.returns-in-End-clause-cuts
returns-in-End-clause-cuts g c = λ before room exchanges came.
    let found = c.in-End.ensures in
    over-end _ c.next.new.self _ before _ _ exchanges
    (λ over. ap (λ (s : g.row.S.Denot). seen (g.S.Source.left s) (g.S.Source.faults s)) (found.over over).2) found.cut found.found came

pub returns-in-ReadFault-clause-cuts : goal.returns-in-ReadFault-clause-cuts
returns-in-ReadFault-clause-cuts g c = λ before room exchanges came.
    let found = c.in-ReadFault.ensures in
    over-fault _ c.next.new.self _ before _ _ exchanges (λ over. fault-open (found.over over).0) found.cut found.found (omega (arith, found.limit, c.requires)) (found.failed refl)
    (λ none. absurd (omega (arith, none))) came
