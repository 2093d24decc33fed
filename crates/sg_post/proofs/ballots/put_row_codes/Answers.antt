-- The columns follow one another.
use Rattle.std.proofs.Common.{ap, arith, ◌∙◌}
use Rattle.sg_plan.specs.Ballots.{candidates_of}
use Rattle.sg_plan.specs.declared.plan.Plan.{Plan}
use Rattle.sg_tables.proofs.Sizes.{sizes}
use Rattle.sg_record.proofs.Putting.{each_end, each_fault, each_next}
use Rattle.sg_post.specs.inside.Lines.{row_code}
use Rattle.sg_post.proofs.ballots.put_row_codes.Goals as goal

pub overflow_cast-candidates : goal.overflow_cast-candidates
overflow_cast-candidates g c = omega (arith, c.candidates-candidates.ensures, ap (λ (p : Plan). candidates_of p c.args.race) c.plan.ensures.plan, (sizes c.args.tables.now.plan c.args.race c.plan.ensures.limits c.requires.race).candidates)

pub returns-in_err-put_code : goal.returns-in_err-put_code
returns-in_err-put_code g c =
    each_fault _ _ _ _ _ (row_code c.args.tables.now.plan c.args.tables.now.seed c.args.race c.args.row) c.loop-column.column (candidates_of c.args.tables.now.plan c.args.race) (omega (arith, ap (λ (p : Plan). candidates_of p c.args.race) c.plan.ensures.plan)) c.loop-column.invariant c.from_residual.ensures.0 c.in_err-put_code.ensures

pub loop-column-preserved : goal.loop-column-preserved
loop-column-preserved g c =
    each_next _ _ _ _ (row_code c.args.tables.now.plan c.args.tables.now.seed c.args.race c.args.row) c.loop-column.column (candidates_of c.args.tables.now.plan c.args.race) (omega (arith, ap (λ (p : Plan). candidates_of p c.args.race) c.plan.ensures.plan)) c.loop-column.invariant c.in_ok-put_code.ensures

pub returns : goal.returns
returns g c = each_end _ _ _ (row_code c.args.tables.now.plan c.args.tables.now.seed c.args.race c.args.row) c.loop-column.column (candidates_of c.args.tables.now.plan c.args.race) c.loop-column.invariant (omega (arith, ap (λ (p : Plan). candidates_of p c.args.race) c.plan.ensures.plan))

pub put_code-requires-clause-version : goal.put_code-requires-clause-version
put_code-requires-clause-version g c = c.loop-column.invariant.puts.version ∙ c.requires.version
