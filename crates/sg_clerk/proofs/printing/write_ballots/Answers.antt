-- The lines of one more ballot were appended, or a front of them.
use Rattle.std.proofs.Common.{◌≡◌, ◌+◌, drop, subst, arith, Some}
use Rattle.sg_plan.specs.Ballots.{ballot_styles, style_of_ballot}
use Rattle.sg_plan.specs.declared.plan.Plan.{Plan}
use Rattle.sg_tables.specs.Tables.{codes_of_row}
use Rattle.sg_sheet.specs.Sheet.{ballot_lines, lines_from, lines_text}
use Rattle.sg_clerk.specs.Sheet.{sheet_text}
use Rattle.sg_clerk.proofs.Sheets.{ballots_at, front_written, none_written, one_written, sheet_start}
use Rattle.sg_clerk.proofs.printing.write_ballots.Goals as goal

pub loop-at-init : goal.loop-at-init
loop-at-init g c = (none_written _ _ _ (sheet_start c.args.tables.now.plan c.args.tables.now.seed), omega arith)

pub returns-in-Err-clause-bytes : goal.returns-in-Err-clause-bytes
returns-in-Err-clause-bytes g c =
    let plan = c.args.tables.now.plan in
    let seed = c.args.tables.now.seed in
    let at = c.loop-at.at in
    let is = subst (λ (p : Plan). style_of_ballot p (at + 1) ≡ Some c.style.result) c.requires.index c.style.ensures in
    front_written _ _ _ (lines_text plan.version (ballot_lines plan (codes_of_row plan seed) (at + 1) c.style.result))
    (lines_text plan.version (lines_from plan (codes_of_row plan seed) (at + 1) (drop at (ballot_styles plan.runs))))
    (lines_text plan.version (lines_from plan (codes_of_row plan seed) (at + 1 + 1) (drop (at + 1) (ballot_styles plan.runs)))) (sheet_text plan seed)
    (ballots_at plan seed at c.style.result is) c.loop-at.invariant.0 c.in-Err.ensures.bytes

pub loop-at-preserved : goal.loop-at-preserved
loop-at-preserved g c =
    let plan = c.args.tables.now.plan in
    let seed = c.args.tables.now.seed in
    let at = c.loop-at.at in
    let is = subst (λ (p : Plan). style_of_ballot p (at + 1) ≡ Some c.style.result) c.requires.index c.style.ensures in (
      one_written _ _ _ (lines_text plan.version (ballot_lines plan (codes_of_row plan seed) (at + 1) c.style.result))
          (lines_text plan.version (lines_from plan (codes_of_row plan seed) (at + 1) (drop at (ballot_styles plan.runs))))
          (lines_text plan.version (lines_from plan (codes_of_row plan seed) (at + 1 + 1) (drop (at + 1) (ballot_styles plan.runs)))) (sheet_text plan seed)
          (ballots_at plan seed at c.style.result is) c.loop-at.invariant.0 c.in-Ok.ensures.bytes,
      omega (arith, c.loop-at.invariant.1, c.in-Ok.ensures.cause.later),
    )
