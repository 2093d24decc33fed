-- The pass takes one more line, or the verdict stands.
use Rattle.std.proofs.Common.{◌≡◌, false}
use Rattle.sg_judge.specs.Pass.{is_open}
use Rattle.sg_judge.proofs.Feeds.{fed_more, fed_over}
use Rattle.sg_judge.proofs.judging.judge_behind.Goals as goal

pub loop-at-init : goal.loop-at-init
loop-at-init c = (c.requires.fed, c.requires.ready)

pub returns-in-Over : goal.returns-in-Over
returns-in-Over c =
    let fed = c.loop-at.invariant.0 in
    let closed : is_open c.line.new.self ≡ false = c.in-Over.ensures.open fed.unbroken in
    let stands = c.in-Over.ensures.adds fed.unbroken fed.done fed.stands in
    fed_over c.loop-at.pass c.line.new.self c.args.text.now _ c.loop-at.at c.line_end-end.result _ fed c.line_end-end.ensures.line
    (λ more. c.end.ensures.over closed _ more stands)

pub loop-at-preserved : goal.loop-at-preserved
loop-at-preserved c =
    let fed = c.loop-at.invariant.0 in (
      fed_more c.loop-at.pass c.line.new.self c.args.text.now _ c.loop-at.at c.line_end-end.result fed c.line_end-end.ensures.line c.line_end-end.ensures.within
          (c.in-More.ensures.adds fed.unbroken fed.done fed.stands) (c.in-More.ensures.open fed.unbroken),
      c.in-More.ensures.ready,
    )
