-- The papers follow one another, each with its race.
use Rattle.std.proofs.Common.{◌+◌, ◌∷◌, [], get_or, drop, arith}
use Rattle.std.proofs.lemmas.List.{drop_all}
use Rattle.sg_forms.specs.Said.Said.{Paper}
use Rattle.sg_record.proofs.Marks.{first_paper, papers_step}
use Rattle.sg_record.proofs.Putting.{left_at_fault, left_behind, left_none}
use Rattle.sg_record.specs.inside.Parts.{paper_lines}
use Rattle.sg_record.proofs.blocks.put_papers.Goals as goal

pub put_paper-requires-clause-codes : goal.put_paper-requires-clause-codes
put_paper-requires-clause-codes g c =
    rw c.loop-at.invariant.left.puts.version (first_paper c.args.pen.now.version c.args.races.now c.args.papers.now c.loop-at.at c.get.result.now (omega (arith, c.requires.len)) c.get.ensures.rest c.loop-at.invariant.each).0

pub put_paper-requires-clause-some : goal.put_paper-requires-clause-some
put_paper-requires-clause-some g c =
    (first_paper c.args.pen.now.version c.args.races.now c.args.papers.now c.loop-at.at c.get.result.now (omega (arith, c.requires.len)) c.get.ensures.rest c.loop-at.invariant.each).1

pub put_paper-requires-clause-most : goal.put_paper-requires-clause-most
put_paper-requires-clause-most g c =
    (first_paper c.args.pen.now.version c.args.races.now c.args.papers.now c.loop-at.at c.get.result.now (omega (arith, c.requires.len)) c.get.ensures.rest c.loop-at.invariant.each).2

pub returns-in_err-put_paper : goal.returns-in_err-put_paper
returns-in_err-put_paper g c =
    let races = c.args.races.now in
    let papers = c.args.papers.now in
    left_at_fault _ _ _ _ _ (paper_lines races papers) (paper_lines (drop c.loop-at.at races) (drop c.loop-at.at papers)) (Paper (get_or races c.loop-at.at 0) c.get.result.now ∷ []) (paper_lines (drop (c.loop-at.at + 1) races) (drop (c.loop-at.at + 1) papers)) c.loop-at.invariant.left (papers_step races papers c.loop-at.at c.get.result.now (omega (arith, c.requires.len)) c.get.ensures.rest) c.from_residual.ensures.0 c.in_err-put_paper.ensures

pub loop-at-preserved : goal.loop-at-preserved
loop-at-preserved g c =
    let races = c.args.races.now in
    let papers = c.args.papers.now in
    record {
      left = left_behind _ _ _ _ (paper_lines races papers) (paper_lines (drop c.loop-at.at races) (drop c.loop-at.at papers)) (Paper (get_or races c.loop-at.at 0) c.get.result.now ∷ []) (paper_lines (drop (c.loop-at.at + 1) races) (drop (c.loop-at.at + 1) papers)) c.loop-at.invariant.left (papers_step races papers c.loop-at.at c.get.result.now (omega (arith, c.requires.len)) c.get.ensures.rest) c.in_ok-put_paper.ensures;
      each = (first_paper c.args.pen.now.version races papers c.loop-at.at c.get.result.now (omega (arith, c.requires.len)) c.get.ensures.rest c.loop-at.invariant.each).3;
    }

pub returns : goal.returns
returns g c =
    let no_race = drop_all c.loop-at.at c.args.races.now (omega (arith, c.requires.len)) in
    left_none _ _ _ (paper_lines c.args.races.now c.args.papers.now) (rw no_race at c.loop-at.invariant.left)
