use Rattle.std.proofs.Common.{◌≡◌, ◌++◌, drop}
use Rattle.sg_desks.specs.inside.Races.{posted_among}
use Rattle.sg_desks.proofs.claims.posted_in.Given as goal

abbrev pub invariant-loop-race : goal.invariant-loop-race
invariant-loop-race l =
    l.seen ++ posted_among l.tables.plan l.tables.seed l.fn.ballot l.fate (drop l.race-index l.races) ≡ posted_among l.tables.plan l.tables.seed l.fn.ballot l.fate l.races
