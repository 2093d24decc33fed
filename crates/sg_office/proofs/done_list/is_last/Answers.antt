use Rattle.std.proofs.Common.{true, w64, ap}
use Rattle.std.proofs.lemmas.Int.{to_z-of_z}
use Rattle.std.specs.Option.{option_map_or}
use Rattle.sg_office.specs.inside.Runs.{are_below}
use Rattle.sg_office.proofs.done_list.is_last.Goals as goal

pub returns-in-None : goal.returns-in-None
returns-in-None c = ap (λ o. option_map_or (are_below c.args.number) o true) (rw (to_z-of_z w64 c.args.station c.ranges.station) at c.in-None.ensures.value)
