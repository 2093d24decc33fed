-- The wanted lines before this place were put, and those from here on are still to come.
use Rattle.std.proofs.Common.{◌≡◌, ◌-◌, ◌≤◌, ◌++◌, length, drop, take}
use Rattle.sg_outside.specs.TextLines.{lines_of}
use Rattle.sg_page.specs.Shown.{bytes_where, placed_front, text_where}
use Rattle.sg_page.specs.inside.Wanting.{is_wanted}
use Rattle.sg_page.proofs.walk.put_wanted.Given as goal

abbrev pub invariant-loop-at : goal.invariant-loop-at
invariant-loop-at l =
    (l.at ≤ length l.text) × (l.used ≤ length l.out) × (length l.out ≡ length l.fn.out)
    × (take l.used l.out ++ bytes_where (is_wanted l.wanted) (placed_front l.expect (lines_of (drop l.at l.text))) ≡ text_where (is_wanted l.wanted) (lines_of l.text))

abbrev pub decreases-loop-at : goal.decreases-loop-at
decreases-loop-at l = length l.text - l.at
