use Rattle.std.proofs.Common.{ap, ◌∙◌}
use Rattle.sg_forms.proofs.LineLaws.{lines_are_read}
use Rattle.sg_forms.specs.Reading.{line_of}
use Rattle.sg_grammar.proofs.Walking.{read_next-line}
use Rattle.sg_grammar.proofs.reading.read_line.Goals as goal

-- a line in range is read from its spelling, and where it may stand it is what is read next
pub returns-clause-only : goal.returns-clause-only
returns-clause-only c s fits is some =
    let version = c.args.expect.now.plan.version in
    c.next_line.ensures.exact ∙ read_next-line c.args.expect.now c.args.bytes.now s (ap (line_of version) is ∙ lines_are_read version s fits) some
