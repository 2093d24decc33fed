-- The line before the openings, and then those of the rows.
use Rattle.std.proofs.Common.{List, ℕ, sym, subst}
use Rattle.sg_outside.specs.Streams.{AppendsFront, PutAppends}
use Rattle.sg_outside.proofs.StreamLemmas.{AppendsFront-more}
use Rattle.sg_record.specs.Writing.{text_in}
use Rattle.sg_openings.specs.Openings.{completion_line}
use Rattle.sg_openings.specs.inside.Lines.{all_lines}
use Rattle.sg_openings.proofs.Listing.{cause_after, put_after, text-is}
use Rattle.sg_openings.proofs.writing.put_lines.Goals as goal

pub returns-in-Ok-clause-bytes : goal.returns-in-Ok-clause-bytes
returns-in-Ok-clause-bytes g c =
    let plan = c.args.tables.now.plan in
    let seed = c.args.tables.now.seed in
    let before = g.O.Sink.written c.args.out.now in
    let now = g.O.Sink.written c.put_head.new.out in
    let next = g.O.Sink.written c.put_rows.new.out in
    let P : List ℕ → Type 0 = λ text. PutAppends before next c.put_rows.result text in
    let Q : ℕ → Type 0 = λ version. PutAppends now next c.put_rows.result (text_in version (all_lines plan seed)) in
    subst P (sym (text-is plan seed))
    (put_after before now next c.put_rows.result completion_line (text_in plan.version (all_lines plan seed)) c.in-Ok.ensures.bytes (subst Q c.requires c.put_rows.ensures.bytes))

pub returns-in-Ok-clause-cause : goal.returns-in-Ok-clause-cause
returns-in-Ok-clause-cause g c =
    cause_after (g.O.Sink.faults c.args.out.now) (g.O.Sink.faults c.put_head.new.out) (g.O.Sink.faults c.put_rows.new.out) c.put_rows.result c.in-Ok.ensures.cause.later c.put_rows.ensures.cause

pub returns-in-Err-clause-bytes : goal.returns-in-Err-clause-bytes
returns-in-Err-clause-bytes g c =
    let plan = c.args.tables.now.plan in
    let seed = c.args.tables.now.seed in
    let before = g.O.Sink.written c.args.out.now in
    let now = g.O.Sink.written c.put_head.new.out in
    let P : List ℕ → Type 0 = λ text. AppendsFront before now text in
    subst P (sym (text-is plan seed)) (AppendsFront-more before now completion_line (text_in plan.version (all_lines plan seed)) c.in-Err.ensures.bytes)
