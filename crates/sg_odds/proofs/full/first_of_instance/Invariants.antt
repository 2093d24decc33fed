-- The pointers of the rows so far are noted, and no row so far is lacking.
use Rattle.sg_plan.specs.declared.plan.Side.TheVariants as side
use Rattle.sg_parts.specs.Given.{completion_of}
use Rattle.sg_odds.specs.inside.Lacking.{IsFullBefore, is_earlier}
use Rattle.sg_odds.specs.inside.Values.{HasValues}
use Rattle.sg_odds.proofs.full.first_of_instance.Given as goal

abbrev pub invariant-loop-row : goal.invariant-loop-row
invariant-loop-row l = record {
  lefts : HasValues l.count (is_earlier (completion_of l.parts.rows) side.Left l.race l.instance l.row) l.lefts;
  rights : HasValues l.count (is_earlier (completion_of l.parts.rows) side.Right l.race l.instance l.row) l.rights;
  before : IsFullBefore l.parts.posted.plan (completion_of l.parts.rows) l.race l.instance l.row;
}
