-- One more line of the races was appended, or a front of it.
use Rattle.std.proofs.Common.{◌≡◌, ◌+◌, drop, map, subst, arith, Some}
use Rattle.std.specs.Prelude.{slice_get}
use Rattle.sg_tables.specs.Tables.{codes_of_row}
use Rattle.sg_sheet.specs.Sheet.{codes_line, line_text, lines_text}
use Rattle.sg_clerk.proofs.Sheets.{front_written, has_listed, one_written, races_at}
use Rattle.sg_clerk.proofs.printing.write_races.Goals as goal

pub write_race-requires-clause-has : goal.write_race-requires-clause-has
write_race-requires-clause-has g c =
    has_listed c.args.tables.now.plan c.args.ballot c.loop-at.at c.race_at.result
    (subst (λ races. slice_get races c.loop-at.at ≡ Some c.race_at.result) c.requires.races c.race_at.ensures)

pub returns-in-Err-clause-bytes : goal.returns-in-Err-clause-bytes
returns-in-Err-clause-bytes g c =
    let plan = c.args.tables.now.plan in
    let seed = c.args.tables.now.seed in
    let at = c.loop-at.at in
    front_written _ _ _ (line_text plan.version (codes_line plan (codes_of_row plan seed) c.args.ballot c.race_at.result))
    (lines_text plan.version (map (codes_line plan (codes_of_row plan seed) c.args.ballot) (drop at c.args.races.now)))
    (lines_text plan.version (map (codes_line plan (codes_of_row plan seed) c.args.ballot) (drop (at + 1) c.args.races.now)))
    (lines_text plan.version (map (codes_line plan (codes_of_row plan seed) c.args.ballot) c.args.races.now))
    (races_at plan seed c.args.ballot c.args.races.now at c.race_at.result c.race_at.ensures) c.loop-at.invariant.0 c.in-Err.ensures.bytes

pub loop-at-preserved : goal.loop-at-preserved
loop-at-preserved g c =
    let plan = c.args.tables.now.plan in
    let seed = c.args.tables.now.seed in
    let at = c.loop-at.at in (
      one_written _ _ _ (line_text plan.version (codes_line plan (codes_of_row plan seed) c.args.ballot c.race_at.result))
          (lines_text plan.version (map (codes_line plan (codes_of_row plan seed) c.args.ballot) (drop at c.args.races.now)))
          (lines_text plan.version (map (codes_line plan (codes_of_row plan seed) c.args.ballot) (drop (at + 1) c.args.races.now)))
          (lines_text plan.version (map (codes_line plan (codes_of_row plan seed) c.args.ballot) c.args.races.now))
          (races_at plan seed c.args.ballot c.args.races.now at c.race_at.result c.race_at.ensures) c.loop-at.invariant.0 c.in-Ok.ensures.bytes,
      omega (arith, c.loop-at.invariant.1, c.in-Ok.ensures.cause.later),
    )
