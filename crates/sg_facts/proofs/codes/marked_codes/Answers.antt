-- The table has what the blocks of cast ballots give of each entry.
use Rattle.sg_check.specs.Facts.{first_given}
use Rattle.sg_check.specs.Printings.{marked_code}
use Rattle.sg_record.proofs.FormedLists.{formed_parts}
use Rattle.sg_record.specs.Places.{places_in}
use Rattle.sg_facts.specs.Listed.{block_mark}
use Rattle.sg_facts.proofs.Facts.{are_listed}
use Rattle.sg_facts.proofs.Tabling.{blocks_fates, put_all}
use Rattle.sg_facts.proofs.codes.marked_codes.Goals as goal

pub note_marks-requires-clause-fates : goal.note_marks-requires-clause-fates
note_marks-requires-clause-fates c =
    let posted = c.args.posted.now in
    rw c.requires.index (blocks_fates posted.plan posted.ballots (formed_parts posted c.requires.formed).blocks)

pub returns : goal.returns
returns c =
    let posted = c.args.posted.now in
    let plan = posted.plan in
    let is = c.requires.index in
    put_all plan c.in_ok-table.table c.note_marks.new.table (λ r e. first_given (block_mark plan r e) posted.ballots) (λ r e. marked_code plan r e (places_in posted))
    (rw is at c.in_ok-table.ensures) (rw is at c.note_marks.ensures.sized) (rw is at c.note_marks.ensures.puts) (are_listed posted).mark
