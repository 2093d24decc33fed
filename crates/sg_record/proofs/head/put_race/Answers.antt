-- The race, and then its candidates.
use Rattle.std.proofs.Common.{◌∷◌, [], map, length}
use Rattle.sg_record.proofs.Putting.{puts_stop, puts_then}
use Rattle.sg_forms.specs.Said.Said.{Cand, Race}
use Rattle.sg_record.proofs.head.put_race.Goals as goal

pub returns-in_err-put_race_line : goal.returns-in_err-put_race_line
returns-in_err-put_race_line g c =
    puts_stop _ _ _ _ (Race c.args.race.now.name (length c.args.race.now.candidates) c.args.race.now.votes ∷ []) (map Cand c.args.race.now.candidates) c.from_residual.ensures.0 c.in_err-put_race_line.ensures

pub returns : goal.returns
returns g c =
    puts_then _ _ _ _ _ (Race c.args.race.now.name (length c.args.race.now.candidates) c.args.race.now.votes ∷ []) (map Cand c.args.race.now.candidates) c.in_ok-put_race_line.ensures
    (c.put_lines.ensures)
