-- The ballot, its paper, and then its codes.
use Rattle.std.proofs.Common.{◌∷◌, ◌++◌, [], length, List, ℕ, subst, sym, ap, ◌∙◌}
use Rattle.sg_forms.specs.Said.Said.{Audited}
use Rattle.sg_plan.proofs.PlanLaws.{bounds}
use Rattle.sg_plan.specs.Ballots.{races_of_ballot, style_of_ballot}
use Rattle.sg_plan.specs.declared.plan.Plan.{Plan}
use Rattle.sg_record.proofs.Limits.{ballot_two}
use Rattle.sg_record.proofs.Marks.{Papers, papers_pass}
use Rattle.sg_record.proofs.Putting.{puts_stop, puts_then}
use Rattle.sg_record.specs.inside.Parts.{ArePapers, paper_lines}
use Rattle.sg_post.specs.inside.Lines.{fate_races}
use Rattle.sg_post.proofs.ballots.put_audited.Goals as goal

pub put_papers-requires-clause-len : goal.put_papers-requires-clause-len
put_papers-requires-clause-len g c =
    let plan = c.args.tables.now.plan in
    let races = c.races.ensures ∙ ap (λ (p : Plan). races_of_ballot p c.args.told.now.ballot) c.requires.index in
    let good = c.count_races.ensures.limits in
    let pass : Papers plan (races_of_ballot plan c.args.told.now.ballot) c.args.paper.now =
    papers_pass plan (races_of_ballot plan c.args.told.now.ballot) c.args.paper.now (bounds plan good).few_candidates (ballot_two plan good (style_of_ballot plan c.args.told.now.ballot)) c.requires.paper in
    pass.len ∙ sym (ap length races)

pub put_papers-requires-clause-papers : goal.put_papers-requires-clause-papers
put_papers-requires-clause-papers g c =
    let plan = c.args.tables.now.plan in
    let races = c.races.ensures ∙ ap (λ (p : Plan). races_of_ballot p c.args.told.now.ballot) c.requires.index in
    let good = c.count_races.ensures.limits in
    let pass : Papers plan (races_of_ballot plan c.args.told.now.ballot) c.args.paper.now =
    papers_pass plan (races_of_ballot plan c.args.told.now.ballot) c.args.paper.now (bounds plan good).few_candidates (ballot_two plan good (style_of_ballot plan c.args.told.now.ballot)) c.requires.paper in
    let at = subst (λ (v : ℕ). ArePapers v (races_of_ballot plan c.args.told.now.ballot) c.args.paper.now) (sym (c.in_ok-put_line.ensures.version ∙ c.requires.version)) pass.each in
    subst (λ (r : List ℕ). ArePapers c.put_line.new.self.version r c.args.paper.now) (sym races) at

pub put_races-requires-clause-version : goal.put_races-requires-clause-version
put_races-requires-clause-version g c = c.in_ok-put_papers.ensures.version ∙ (c.in_ok-put_line.ensures.version ∙ c.requires.version)

pub returns-in_err-put_line : goal.returns-in_err-put_line
returns-in_err-put_line g c =
    let plan = c.args.tables.now.plan in
    puts_stop _ _ _ _ (Audited c.args.told.now.ballot ∷ []) (paper_lines (races_of_ballot plan c.args.told.now.ballot) c.args.paper.now ++ fate_races plan c.args.tables.now.seed c.args.told.now.ballot c.args.told.now.fate)
    c.from_residual.ensures.0 c.in_err-put_line.ensures

pub returns-in_err-put_papers : goal.returns-in_err-put_papers
returns-in_err-put_papers g c =
    let plan = c.args.tables.now.plan in
    let races = c.races.ensures ∙ ap (λ (p : Plan). races_of_ballot p c.args.told.now.ballot) c.requires.index in
    puts_then _ _ _ _ _ (Audited c.args.told.now.ballot ∷ []) (paper_lines (races_of_ballot plan c.args.told.now.ballot) c.args.paper.now ++ fate_races plan c.args.tables.now.seed c.args.told.now.ballot c.args.told.now.fate)
    c.in_ok-put_line.ensures
    (puts_stop _ _ _ _ (paper_lines (races_of_ballot plan c.args.told.now.ballot) c.args.paper.now) (fate_races plan c.args.tables.now.seed c.args.told.now.ballot c.args.told.now.fate)
    c.from_residual-in_err-put_papers.ensures.0 (rw races at c.in_err-put_papers.ensures))

pub returns : goal.returns
returns g c =
    let plan = c.args.tables.now.plan in
    let races = c.races.ensures ∙ ap (λ (p : Plan). races_of_ballot p c.args.told.now.ballot) c.requires.index in
    puts_then _ _ _ _ _ (Audited c.args.told.now.ballot ∷ []) (paper_lines (races_of_ballot plan c.args.told.now.ballot) c.args.paper.now ++ fate_races plan c.args.tables.now.seed c.args.told.now.ballot c.args.told.now.fate)
    c.in_ok-put_line.ensures
    (puts_then _ _ _ _ _ (paper_lines (races_of_ballot plan c.args.told.now.ballot) c.args.paper.now) (fate_races plan c.args.tables.now.seed c.args.told.now.ballot c.args.told.now.fate)
    (rw races at c.in_ok-put_papers.ensures) c.put_races.ensures)
