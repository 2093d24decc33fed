-- A race of the plan has a small number.
use Rattle.std.proofs.Common.{◌≡◌, ◌<◌, length, ap}
use Rattle.sg_tables.specs.Tables.{MadeFrom}
use Rattle.sg_tables.proofs.Sizes.{sizes}
use Rattle.sg_tables.proofs.table_set.Tables.keys.Goals as goal

pub stream-requires-clause-small_race : goal.stream-requires-clause-small_race
stream-requires-clause-small_race c =
    let same : c.self.inside.plan ≡ c.args.self.now.plan = ap (λ (m : MadeFrom). m.plan) c.self.view_is in
    let here : c.args.race < length c.self.inside.plan.races = rw same c.requires.race in
    (sizes c.self.inside.plan c.args.race c.self.invariant.limits here).small
