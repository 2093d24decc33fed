-- The record's lines are those that were taken.
use Rattle.std.proofs.Common.{IfOk, Ok, Err, Result, ap, length, sym, ◌∙◌}
use Rattle.sg_parts.proofs.reading.PartsReading.start.Goals as goal

pub accepted_record-requires : goal.accepted_record-requires
accepted_record-requires c = (c.requires.0, c.requires.1, c.requires.2)

pub begin-requires : goal.begin-requires
begin-requires c = (c.in_ok-posted.ensures c.requires.0 c.requires.1 c.requires.2).accepted

ok_as : {A E : Type 0} {P Q : A → Type 0} (result : Result A E) → IfOk result P → ((x : A) → P x → Q x) → IfOk result Q
ok_as (Ok x) is then = then x is
ok_as (Err e) is then = tt

pub returns : goal.returns
returns c =
    ok_as c.begin.result c.begin.ensures
    (λ reading reads lines all taken good before record_is begins.
    let read = c.in_ok-posted.ensures lines taken good in
    reads all (record { accepted = read.accepted; text = record_is ∙ read.text }) (before ∙ ap length (sym record_is)) begins)
