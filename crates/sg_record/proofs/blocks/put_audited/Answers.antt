-- The first line, the papers, and then the codes.
use Rattle.std.proofs.Common.{◌∷◌, [], ◌∙◌, map, ◌++◌}
use Rattle.sg_record.proofs.Marks.{audit_have, audit_papers}
use Rattle.sg_record.proofs.Putting.{puts_stop, puts_then}
use Rattle.sg_forms.specs.Said.Said.{Audited, Code}
use Rattle.sg_record.specs.inside.Parts.{paper_lines}
use Rattle.sg_record.proofs.blocks.put_audited.Goals as goal

pub returns-in_err-put_line : goal.returns-in_err-put_line
returns-in_err-put_line g c =
    rw (← c.requires.races)
    (puts_stop _ _ _ _ (Audited c.args.ballot ∷ []) (paper_lines c.args.races.now c.args.papers.now ++ (map Code c.args.codes.now)) c.from_residual.ensures.0 c.in_err-put_line.ensures)

pub returns-in_err-put_papers : goal.returns-in_err-put_papers
returns-in_err-put_papers g c =
    rw (← c.requires.races)
    (puts_then _ _ _ _ _ (Audited c.args.ballot ∷ []) (paper_lines c.args.races.now c.args.papers.now ++ (map Code c.args.codes.now)) c.in_ok-put_line.ensures
    (puts_stop _ _ _ _ (paper_lines c.args.races.now c.args.papers.now) (map Code c.args.codes.now) c.from_residual-in_err-put_papers.ensures.0 c.in_err-put_papers.ensures))

pub returns : goal.returns
returns g c =
    rw (← c.requires.races)
    (puts_then _ _ _ _ _ (Audited c.args.ballot ∷ []) (paper_lines c.args.races.now c.args.papers.now ++ (map Code c.args.codes.now)) c.in_ok-put_line.ensures
    (puts_then _ _ _ _ _ (paper_lines c.args.races.now c.args.papers.now) (map Code c.args.codes.now) c.in_ok-put_papers.ensures
    (c.put_codes.ensures)))

pub put_papers-requires-clause-len : goal.put_papers-requires-clause-len
put_papers-requires-clause-len g c = rw c.requires.races (audit_papers c.args.index.now c.args.ballot c.args.papers.now c.args.codes.now c.plan.ensures.good c.requires.fate).len

pub put_papers-requires-clause-papers : goal.put_papers-requires-clause-papers
put_papers-requires-clause-papers g c =
    rw (c.in_ok-put_line.ensures.version ∙ c.requires.version, c.requires.races)
    (audit_papers c.args.index.now c.args.ballot c.args.papers.now c.args.codes.now c.plan.ensures.good c.requires.fate).each

pub put_codes-requires : goal.put_codes-requires
put_codes-requires g c = record {
  codes = rw (c.in_ok-put_papers.ensures.version ∙ (c.in_ok-put_line.ensures.version ∙ c.requires.version)) (audit_have c.args.index.now c.args.ballot c.args.papers.now c.args.codes.now c.requires.fate);
}
