-- Behind the port that was listened on, the connections are served by a talk.
use Rattle.std.proofs.Common.{inl}
use Rattle.sg_clerk.proofs.Connections.Going.{calls-none, serves-calls}
use Rattle.sg_clerk.specs.Outside.{unread}
use Rattle.sg_clerk.proofs.calls.station.serve_calls.Goals as goal

pub converse-requires-clause-none : goal.converse-requires-clause-none
converse-requires-clause-none g c = calls-none c.args.count (g.L.Links.board c.listen.new.self) (g.L.Links.faults c.listen.new.self)

pub returns-in-Ok-listen-clause-serves : goal.returns-in-Ok-listen-clause-serves
returns-in-Ok-listen-clause-serves g c = inl (λ history stands.
    serves-calls c.converse.result _ history c.args.count c.converse.new.asker.left (g.L.Links.faults c.listen.new.self) (g.L.Links.board c.listen.new.self) _ _ _ (unread _ _ _ _ _) (unread _ _ _ _ _)
    c.in-Ok-listen.ensures.ok c.in-Ok-listen.ensures.cause.later (c.converse.ensures.talks history stands))
