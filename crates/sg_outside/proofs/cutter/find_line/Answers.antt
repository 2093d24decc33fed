-- A line among the bytes held is cut from them; where there is none, the bytes held have no line feed.
use Rattle.std.proofs.Common.{arith, ◌≤◌, ◌+◌, ◌-◌, length-take, length-drop, drop, slice_range}
use Rattle.sg_outside.proofs.CuttingLemmas.{cut_held}
use Rattle.sg_outside.proofs.LineLemmas.{HasNoFeed-Contains}
use Rattle.sg_outside.proofs.cutter.find_line.Goals as goal

pub returns-in-Some-clause-cut : goal.returns-in-Some-clause-cut
returns-in-Some-clause-cut g c = λ text.
    let buf = c.args.buf.now in
    let within : c.args.before.behind + c.in-Some.count ≤ c.args.before.end =
    omega (arith, c.in-Some.ensures.0, length-take (c.args.before.end - c.args.before.behind) (drop c.args.before.behind buf), length-drop c.args.before.behind buf) in
    cut_held buf c.args.before.behind (c.args.before.behind + c.in-Some.count) c.args.before.end _ (omega arith) within

pub returns-clause-ready : goal.returns-clause-ready
returns-clause-ready g c =
    λ feed. absurd (HasNoFeed-Contains (slice_range c.args.buf.now c.args.before.behind c.args.before.end) c.in_default.ensures feed)
