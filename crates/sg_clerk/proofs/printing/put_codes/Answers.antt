-- Each turn puts one more code.
use Rattle.std.proofs.Common.{◌+◌, ◌<◌, ◌≤◌, ◌∷◌, ◌++◌, drop, arith}
use Rattle.sg_lines.specs.Words.{code_word}
use Rattle.sg_plan.specs.Ballots.{candidates_of}
use Rattle.sg_tables.specs.Tables.{codes_of_row}
use Rattle.sg_sheet.specs.Sheet.{code_words}
use Rattle.sg_clerk.proofs.Sheets.{line_end, line_step, row_next, row_over}
use Rattle.sg_clerk.proofs.printing.put_codes.Goals as goal

pub loop-candidate-preserved : goal.loop-candidate-preserved
loop-candidate-preserved c =
    let plan = c.args.tables.now.plan in
    let seed = c.args.tables.now.seed in
    let at = c.loop-candidate.candidate in
    let list = codes_of_row plan seed c.args.race c.args.row in
    let less : at < candidates_of plan c.args.race = omega (arith, c.count_candidates-candidates.ensures) in
    line_step c.loop-candidate.line c.put_code.new.line (32 ∷ code_word c.version_of-version.result c.code.result)
    (code_words plan.version (drop at list)) (code_words plan.version (drop (at + 1) list)) (c.args.line.now ++ code_words plan.version list)
    c.in_ok-put_code.ensures
    (row_next plan seed c.args.race c.args.row at c.version_of-version.result c.code.result c.version_of-version.ensures.limits c.requires.race less
    c.version_of-version.ensures.value c.code.ensures.value)
    c.loop-candidate.invariant

pub returns : goal.returns
returns c =
    let plan = c.args.tables.now.plan in
    let seed = c.args.tables.now.seed in
    let at = c.loop-candidate.candidate in
    let list = codes_of_row plan seed c.args.race c.args.row in
    let past : candidates_of plan c.args.race ≤ at = omega (arith, c.count_candidates-candidates.ensures) in
    line_end c.loop-candidate.line (code_words plan.version (drop at list)) (c.args.line.now ++ code_words plan.version list)
    (row_over plan seed c.args.race c.args.row at c.version_of-version.ensures.limits c.requires.race past) c.loop-candidate.invariant
