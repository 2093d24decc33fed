-- The line is its words, with a line feed over the last space.
use Rattle.sg_forms.specs.Said.{said}
use Rattle.sg_forms.proofs.Written.{line_room, line_length, line_short, line_written}
use Rattle.sg_forms.proofs.write.write_line.Goals as goal

pub write_words-end-requires-clause-room : goal.write_words-end-requires-clause-room
write_words-end-requires-clause-room c = line_room c.args.version (said c.args.line.now) c.args.out.now c.know_line.ensures c.requires.room

pub returns-clause-len : goal.returns-clause-len
returns-clause-len c = line_length c.args.version (said c.args.line.now) _ _ _ c.know_line.ensures c.write_words-end.ensures

pub returns-clause-written : goal.returns-clause-written
returns-clause-written c = line_written c.args.version (said c.args.line.now) _ _ _ c.know_line.ensures c.write_words-end.ensures

pub returns-clause-short : goal.returns-clause-short
returns-clause-short c = line_short c.args.version (said c.args.line.now) _ _ _ c.know_line.ensures c.write_words-end.ensures
