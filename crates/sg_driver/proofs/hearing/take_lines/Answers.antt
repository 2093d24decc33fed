-- Where the lines stop, and one more line of them.
use Rattle.std.proofs.Common.{List, [], ◌∷◌, ◌++◌, ℕ, subst}
use Rattle.sg_outside.specs.Streams.{Seen, seen}
use Rattle.sg_driver.specs.Standing.{Goes}
use Rattle.sg_driver.specs.declared.judge.Standing.{Standing}
use Rattle.sg_driver.specs.declared.judge.Standing.TheVariants.{Open, Settled}
use Rattle.sg_driver.proofs.Stops.{fed-line, stop-cut, stop-memory, stop-settled}
use Rattle.sg_driver.proofs.hearing.take_lines.Goals as goal

pub returns-in-Some : goal.returns-in-Some
returns-in-Some g c =
    let first : Seen = seen (g.S.Source.left c.args.input.now) (g.S.Source.faults c.args.input.now) in
    let before : Seen = seen (g.S.Source.left c.loop-stop.input) (g.S.Source.faults c.loop-stop.input) in
    let now : Seen = seen (g.S.Source.left c.cut_line.new.input) (g.S.Source.faults c.cut_line.new.input) in
    stop-cut g.J.Judge.judging (g.J.Judge.stands c.loop-stop.judge) c.loop-stop.lines c.cut_line.new.lines first before now c.loop-stop.invariant
    (g.J.Judge.settled c.loop-stop.judge) c.in-Some.stop c.in-Some.ensures

pub loop-stop-preserved : goal.loop-stop-preserved
loop-stop-preserved g c =
    let first : Seen = seen (g.S.Source.left c.args.input.now) (g.S.Source.faults c.args.input.now) in
    let before : Seen = seen (g.S.Source.left c.loop-stop.input) (g.S.Source.faults c.loop-stop.input) in
    let now : Seen = seen (g.S.Source.left c.cut_line.new.input) (g.S.Source.faults c.cut_line.new.input) in
    let fed = c.loop-stop.invariant in
    let Stands : List (List ℕ) → Type 0 = g.J.Judge.stands c.line.new.self in
    let IsSettled : List (List ℕ) → Type 0 = g.J.Judge.settled c.line.new.self in
    let goes : Goes g.J.Judge.judging Stands IsSettled Open (fed.done ++ c.cut_line.new.lines.text ∷ []) =
    subst (λ (s : Standing). Goes g.J.Judge.judging Stands IsSettled s (fed.done ++ c.cut_line.new.lines.text ∷ [])) c.in-Ok-Open.field-0-is
    (subst (λ text. Goes g.J.Judge.judging Stands IsSettled c.in-Ok-Open.field-0 (fed.done ++ text ∷ [])) c.text.ensures (c.in-Ok-Open.ensures.goes fed.done fed.stands)) in
    fed-line g.J.Judge.judging (g.J.Judge.stands c.loop-stop.judge) c.loop-stop.lines c.cut_line.new.lines first before now fed Stands c.in-None.ensures goes.0 goes.1

pub returns-in-Ok-Settled : goal.returns-in-Ok-Settled
returns-in-Ok-Settled g c =
    let first : Seen = seen (g.S.Source.left c.args.input.now) (g.S.Source.faults c.args.input.now) in
    let before : Seen = seen (g.S.Source.left c.loop-stop.input) (g.S.Source.faults c.loop-stop.input) in
    let now : Seen = seen (g.S.Source.left c.cut_line.new.input) (g.S.Source.faults c.cut_line.new.input) in
    let fed = c.loop-stop.invariant in
    let Stands : List (List ℕ) → Type 0 = g.J.Judge.stands c.line.new.self in
    let IsSettled : List (List ℕ) → Type 0 = g.J.Judge.settled c.line.new.self in
    let goes : Goes g.J.Judge.judging Stands IsSettled Settled (fed.done ++ c.cut_line.new.lines.text ∷ []) =
    subst (λ (s : Standing). Goes g.J.Judge.judging Stands IsSettled s (fed.done ++ c.cut_line.new.lines.text ∷ [])) c.in-Ok-Settled.field-0-is
    (subst (λ text. Goes g.J.Judge.judging Stands IsSettled c.in-Ok-Settled.field-0 (fed.done ++ text ∷ [])) c.text.ensures (c.in-Ok-Settled.ensures.goes fed.done fed.stands)) in
    stop-settled g.J.Judge.judging (g.J.Judge.stands c.loop-stop.judge) c.loop-stop.lines c.cut_line.new.lines first before now fed IsSettled c.in-None.ensures goes

pub returns-in-Err : goal.returns-in-Err
returns-in-Err g c =
    let first : Seen = seen (g.S.Source.left c.args.input.now) (g.S.Source.faults c.args.input.now) in
    let before : Seen = seen (g.S.Source.left c.loop-stop.input) (g.S.Source.faults c.loop-stop.input) in
    let now : Seen = seen (g.S.Source.left c.cut_line.new.input) (g.S.Source.faults c.cut_line.new.input) in
    let fed = c.loop-stop.invariant in
    stop-memory g.J.Judge.judging (g.J.Judge.stands c.loop-stop.judge) c.loop-stop.lines c.cut_line.new.lines first before now fed c.in-None.ensures
    (c.in-Err.ensures.wants fed.done fed.stands)
