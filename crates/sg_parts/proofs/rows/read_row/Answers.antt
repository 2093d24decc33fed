-- A row's line is `none`, or opens a half or both.
use Rattle.std.proofs.Common.{◌≡◌, true, false, Some, None, inl, inr, sym, ◌∙◌}
use Rattle.std.specs.Prelude.{codes}
use Rattle.std.proofs.lemmas.Slice.Eq.{bytes_eq-Decides}
use Rattle.sg_parts.proofs.RowLines.{row_cases}
use Rattle.sg_parts.proofs.rows.read_row.Goals as goal

pub returns-in-None-clause-only : goal.returns-in-None-clause-only
returns-in-None-clause-only c = λ is. elim (row_cases c.args.line.now is) [
  | inl none ↦
      let found = (bytes_eq-Decides c.args.line.now (codes "none\n")).1 none in
      let both : true ≡ false = sym found ∙ (sym c.is_same.ensures ∙ c.if-is_same.false) in
      cc
  | inr one ↦
      let some : None ≡ Some one.0 = c.in-None.ensures.only one.0 one.1 one.2 in
      cc
]
