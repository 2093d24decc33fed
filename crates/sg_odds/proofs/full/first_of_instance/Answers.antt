-- A row more is noted, and isn't lacking.
use Rattle.std.proofs.Common.{sym, ◌∙◌}
use Rattle.sg_plan.specs.declared.plan.Side.TheVariants as side
use Rattle.sg_parts.proofs.Halves.{on_half}
use Rattle.sg_parts.specs.Given.{completion_of}
use Rattle.sg_parts.specs.declared.checks.At.{At}
use Rattle.sg_odds.proofs.Lacks.{full_more, lacks_is, none_lacking, seen_more}
use Rattle.sg_odds.proofs.full.first_of_instance.Goals as goal

pub loop-row-preserved : goal.loop-row-preserved
loop-row-preserved c =
    let at : At = record { race = c.args.race; instance = c.args.instance; row = c.loop-row.row } in
    let left_is = c.given_in.ensures ∙ on_half (completion_of c.args.parts.now.rows) c.on.result side.Left at c.on.ensures.side c.on.ensures.at in
    let right_is = c.given_in-in-loop-row.ensures ∙ on_half (completion_of c.args.parts.now.rows) c.on-in-loop-row.result side.Right at c.on-in-loop-row.ensures.side c.on-in-loop-row.ensures.at in
    let left = lacks_is (completion_of c.args.parts.now.rows) side.Left c.args.race c.args.instance c.args.parts.now.posted.plan c.rows_in-count.result c.loop-row.row c.loop-row.lefts c.given_in.result c.rows_in-count.ensures
    c.loop-row.invariant.lefts left_is in
    let right = lacks_is (completion_of c.args.parts.now.rows) side.Right c.args.race c.args.instance c.args.parts.now.posted.plan c.rows_in-count.result c.loop-row.row c.loop-row.rights c.given_in-in-loop-row.result
    c.rows_in-count.ensures c.loop-row.invariant.rights right_is in
    record {
      lefts =
          seen_more (completion_of c.args.parts.now.rows) side.Left c.args.race c.args.instance c.rows_in-count.result c.loop-row.row c.loop-row.lefts c.note_pointer-left.new.seen c.given_in.result
          c.loop-row.invariant.lefts left_is c.note_pointer-left.ensures.long c.note_pointer-left.ensures.puts;
      rights =
          seen_more (completion_of c.args.parts.now.rows) side.Right c.args.race c.args.instance c.rows_in-count.result c.loop-row.row c.loop-row.rights c.note_pointer-right.new.seen
          c.given_in-in-loop-row.result c.loop-row.invariant.rights right_is c.note_pointer-right.ensures.long c.note_pointer-right.ensures.puts;
      before =
          full_more c.args.parts.now.posted.plan (completion_of c.args.parts.now.rows) c.args.race c.args.instance c.loop-row.row c.loop-row.invariant.before
          (none_lacking c.args.parts.now.posted.plan (completion_of c.args.parts.now.rows) c.args.race c.args.instance c.loop-row.row (sym left ∙ (sym c.note_pointer-left.ensures.lacking ∙ c.if-left.false))
          (sym right ∙ (sym c.note_pointer-right.ensures.lacking ∙ c.if-right.false)));
    }
