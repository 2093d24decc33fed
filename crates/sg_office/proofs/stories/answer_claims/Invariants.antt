use Rattle.std.proofs.Common.{◌≡◌, ◌++◌, drop, map}
use Rattle.sg_histories.specs.Stories.{answered}
use Rattle.sg_office.specs.inside.Now.{fate_at}
use Rattle.sg_office.proofs.stories.answer_claims.Given as goal

abbrev pub invariant-loop-at : goal.invariant-loop-at
invariant-loop-at l = l.answers ++ map (answered l.tables.plan l.tables.seed (fate_at l.slots)) (drop l.at l.claims) ≡ map (answered l.tables.plan l.tables.seed (fate_at l.slots)) l.claims
