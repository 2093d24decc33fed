-- The opening holds the entry's code.
use Rattle.std.proofs.Common.{◌≡◌, ℕ, List, refl, sym, ap, ◌∙◌}
use Rattle.sg_plan.specs.declared.plan.Plan.{Plan}
use Rattle.sg_commit.specs.declared.Key.{Key}
use Rattle.sg_commit.specs.declared.Opening.{Opening}
use Rattle.sg_tables.specs.Posts.{row_entry}
use Rattle.sg_tables.specs.Tables.{code_of_entry, q_opening_of}
use Rattle.sg_forms.specs.declared.line.CodeLine.{CodeLine}
use Rattle.sg_post.specs.Posted.{code_in_row}
use Rattle.sg_post.proofs.ballots.code_line.Goals as goal

opened-code : (plan : Plan) (seed : List ℕ) (race entry : ℕ) → (q_opening_of plan seed race entry).value ≡ code_of_entry plan seed race entry
unfolding q_opening_of
opened-code plan seed race entry = refl

abbrev line-of : ℕ → ℕ → Key → ℕ → CodeLine
line-of race column key code = record { race = race; column = column; key = key; code = code }

pub returns-clause-value : goal.returns-clause-value
unfolding code_in_row
returns-clause-value c =
    let plan = c.args.tables.now.plan in
    let seed = c.args.tables.now.seed in
    let race = c.args.race in
    let column = c.args.column in
    let at = c.row_entry-entry.ensures.value in
    let opening = λ (entry : ℕ). q_opening_of plan seed race entry in
    let key = ap (λ (o : Opening). o.key) (c.q_opening.ensures.opening ∙ ap opening at) in
    let code = c.entry_code-code.ensures.value ∙ (sym (opened-code plan seed race c.row_entry-entry.result) ∙ ap (λ (o : Opening). o.value) (ap opening at)) in
    ap (λ (k : Key). line-of race column k c.entry_code-code.result) key ∙ ap (line-of race column (opening (row_entry plan race c.args.row column)).key) code
