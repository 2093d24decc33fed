-- The ballot, and then its races.
use Rattle.std.proofs.Common.{◌∷◌, [], ◌∙◌}
use Rattle.sg_forms.specs.Said.Said.{Cast}
use Rattle.sg_record.proofs.Putting.{puts_stop, puts_then}
use Rattle.sg_post.specs.inside.Lines.{fate_races}
use Rattle.sg_post.proofs.ballots.put_cast.Goals as goal

pub put_races-requires-clause-version : goal.put_races-requires-clause-version
put_races-requires-clause-version g c = c.in_ok-put_line.ensures.version ∙ c.requires.version

pub returns-in_err-put_line : goal.returns-in_err-put_line
returns-in_err-put_line g c =
    let plan = c.args.tables.now.plan in
    puts_stop _ _ _ _ (Cast c.args.told.now.ballot ∷ []) (fate_races plan c.args.tables.now.seed c.args.told.now.ballot c.args.told.now.fate) c.from_residual.ensures.0 c.in_err-put_line.ensures

pub returns : goal.returns
returns g c =
    let plan = c.args.tables.now.plan in
    puts_then _ _ _ _ _ (Cast c.args.told.now.ballot ∷ []) (fate_races plan c.args.tables.now.seed c.args.told.now.ballot c.args.told.now.fate) c.in_ok-put_line.ensures c.put_races.ensures
