-- The ballot's line, and then those of its races.
use Rattle.std.proofs.Common.{List, ℕ, ◌++◌, map, subst}
use Rattle.sg_outside.specs.Streams.{PutAppends}
use Rattle.sg_outside.proofs.StreamLemmas.{AppendsFront-more}
use Rattle.sg_plan.specs.Ballots.{races_of_style}
use Rattle.sg_tables.specs.Tables.{codes_of_row}
use Rattle.sg_sheet.specs.Sheet.{ballot_text, codes_line, lines_text}
use Rattle.sg_clerk.proofs.Sheets.{put_after, style_races}
use Rattle.sg_clerk.proofs.printing.write_ballot.Goals as goal

pub returns-in-Ok-clause-bytes : goal.returns-in-Ok-clause-bytes
returns-in-Ok-clause-bytes g c =
    let plan = c.args.tables.now.plan in
    let seed = c.args.tables.now.seed in
    let head = ballot_text c.args.ballot c.args.style in
    let P : List ℕ → Type 0 =
    λ races. PutAppends (g.O.Sink.written c.args.out.now) (g.O.Sink.written c.write_races.new.out) c.write_races.result (head ++ lines_text plan.version (map (codes_line plan (codes_of_row plan seed) c.args.ballot) races)) in
    subst P (style_races plan c.args.index.now c.args.ballot c.args.style c.races.result.now c.requires.index c.races.ensures c.requires.style)
    (put_after (g.O.Sink.written c.args.out.now) (g.O.Sink.written c.write_head.new.out) (g.O.Sink.written c.write_races.new.out) c.write_races.result
    head (lines_text plan.version (map (codes_line plan (codes_of_row plan seed) c.args.ballot) c.races.result.now)) c.in-Ok.ensures.bytes c.write_races.ensures.bytes)

pub returns-in-Err-clause-bytes : goal.returns-in-Err-clause-bytes
returns-in-Err-clause-bytes g c =
    let plan = c.args.tables.now.plan in
    AppendsFront-more (g.O.Sink.written c.args.out.now) (g.O.Sink.written c.write_head.new.out) (ballot_text c.args.ballot c.args.style)
    (lines_text plan.version (map (codes_line plan (codes_of_row plan c.args.tables.now.seed) c.args.ballot) (races_of_style plan c.args.style))) c.in-Err.ensures.bytes
