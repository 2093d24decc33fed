-- The pass takes one more line, or the verdict stands.
use Rattle.std.proofs.Common.{◌≡◌, false, ap, ◌∙◌}
use Rattle.sg_judge.specs.Pass.{is_fine, is_open, says_ready}
use Rattle.sg_judge.proofs.Feeds.{fed_more, fed_over}
use Rattle.sg_judge.proofs.judging.feed_header.Goals as goal

pub loop-at-init : goal.loop-at-init
loop-at-init c = (c.requires.fed, c.requires.before)

pub loop-at-preserved : goal.loop-at-preserved
loop-at-preserved c =
    let fed = c.loop-at.invariant.0 in (
      fed_more c.loop-at.pass c.header_line.new.self c.args.text.now _ c.loop-at.at c.line_end-end.result fed c.line_end-end.ensures.line c.line_end-end.ensures.within
          (c.in-Ok-More.ensures.adds fed.unbroken fed.done fed.stands) (c.in-Ok-More.ensures.open fed.unbroken ∙ ap is_fine c.in-Ok-More.field-0-is),
      c.in-Ok-More.ensures.ready ∙ ap says_ready c.in-Ok-More.field-0-is,
    )

pub returns-in-Ok-Ready-clause-goes_on : goal.returns-in-Ok-Ready-clause-goes_on
returns-in-Ok-Ready-clause-goes_on c =
    let fed = c.loop-at.invariant.0 in (
      fed_more c.loop-at.pass c.header_line.new.self c.args.text.now _ c.loop-at.at c.line_end-end.result fed c.line_end-end.ensures.line c.line_end-end.ensures.within
          (c.in-Ok-Ready.ensures.adds fed.unbroken fed.done fed.stands) (c.in-Ok-Ready.ensures.open fed.unbroken ∙ ap is_fine c.in-Ok-Ready.field-0-is),
      c.in-Ok-Ready.ensures.ready ∙ ap says_ready c.in-Ok-Ready.field-0-is,
    )

pub returns-in-Ok-Over-clause-settled : goal.returns-in-Ok-Over-clause-settled
returns-in-Ok-Over-clause-settled c =
    let fed = c.loop-at.invariant.0 in
    let closed : is_open c.header_line.new.self ≡ false = c.in-Ok-Over.ensures.open fed.unbroken ∙ ap is_fine c.in-Ok-Over.field-0-is in
    let stands = c.in-Ok-Over.ensures.adds fed.unbroken fed.done fed.stands in
    λ judged ends. fed_over c.loop-at.pass c.header_line.new.self c.args.text.now _ c.loop-at.at c.line_end-end.result judged fed c.line_end-end.ensures.line
    (λ more. ends.over closed _ more stands)
