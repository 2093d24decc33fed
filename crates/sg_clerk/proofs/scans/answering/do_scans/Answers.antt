-- By what was read of the input.
use Rattle.std.proofs.Common.{refl, arith}
use Rattle.sg_clerk.proofs.ScanFiles.ScanEnds.{does_lines, does_lost, does_refused, does_unread}
use Rattle.sg_clerk.specs.Outside.{unlinked}
use Rattle.sg_clerk.proofs.scans.answering.do_scans.Goals as goal

pub converse-requires-clause-ready : goal.converse-requires-clause-ready
converse-requires-clause-ready g c = (c.in-Scans.ensures.reads.0.0, omega arith)

pub converse-requires-clause-none : goal.converse-requires-clause-none
converse-requires-clause-none g c = record { same = refl; are = refl }

pub returns-in-Scans-clause-does : goal.returns-in-Scans-clause-does
returns-in-Scans-clause-does g c = λ history stands.
    does_lines c.converse.result c.converse.new.asker.at _ history _ _ _ c.in-Scans.lines c.converse.new.input (unlinked _ _ _ _ _) (unlinked _ _ _ _ _) c.in-Scans.ensures.bounded c.in-Scans.ensures.reads
    (c.converse.ensures.talks history stands)

pub returns-in-Bad-clause-does : goal.returns-in-Bad-clause-does
returns-in-Bad-clause-does g c = λ history stands.
    does_refused c.refuse.result c.in-Bad.why _ history _ _ (unlinked _ _ _ _ _) (unlinked _ _ _ _ _) refl c.in-Bad.ensures.bounded c.in-Bad.ensures.reads c.refuse.ensures.refuses

pub returns-in-Fault-clause-does : goal.returns-in-Fault-clause-does
returns-in-Fault-clause-does g c = λ history stands. does_unread _ history _ _ (unlinked _ _ _ _ _) (unlinked _ _ _ _ _) refl refl c.in-Fault.ensures.bounded c.in-Fault.ensures.reads

pub returns-in-NoMemory-clause-does : goal.returns-in-NoMemory-clause-does
returns-in-NoMemory-clause-does g c = λ history stands. does_lost _ history _ _ (unlinked _ _ _ _ _) (unlinked _ _ _ _ _) refl refl c.in-NoMemory.ensures.bounded
