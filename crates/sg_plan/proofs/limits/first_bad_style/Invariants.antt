use Rattle.std.proofs.Common.{◌≡◌, ◌≤◌, [], take, drop}
use Rattle.sg_plan.specs.Limits.{first_bad, style_fits}
use Rattle.sg_plan.proofs.limits.first_bad_style.Given as goal

abbrev pub invariant-loop-at : goal.invariant-loop-at
invariant-loop-at l = record {
  few : l.at ≤ 32;
  rest : first_bad (style_fits l.fn.races) (take l.at l.styles) (drop l.at l.styles) ≡ first_bad (style_fits l.fn.races) [] l.styles;
}
