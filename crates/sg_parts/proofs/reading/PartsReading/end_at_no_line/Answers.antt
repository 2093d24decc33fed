-- Bytes with no line feed aren't the line that is due.
use Rattle.std.proofs.Common.{IfOk, Ok, Err, Result, ◌∷◌}
use Rattle.sg_parts.proofs.ShortLines.{no_line_off}
use Rattle.sg_parts.proofs.reading.PartsReading.end_at_no_line.Goals as goal

ok_as : {A E : Type 0} {P Q : A → Type 0} (result : Result A E) → IfOk result P → ((x : A) → P x → Q x) → IfOk result Q
ok_as (Ok x) is then = then x is
ok_as (Err e) is then = tt

pub returns-clause-has : goal.returns-clause-has
returns-clause-has c =
    ok_as c.next_fault-off.result c.next_fault-off.ensures.has
    (λ off is lines more text has none. is lines (text ∷ more) has (no_line_off c.args.self lines text has none))
