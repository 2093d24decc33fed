-- The table has what the blocks and disputes give of each entry.
use Rattle.std.proofs.Common.{Some}
use Rattle.std.specs.Option.{option_map_or}
use Rattle.sg_check.specs.Facts.{first_given, known_code}
use Rattle.sg_record.proofs.FormedLists.{formed_parts}
use Rattle.sg_record.specs.Places.{places_in}
use Rattle.sg_facts.specs.Listed.{block_code, dispute_code}
use Rattle.sg_facts.proofs.Facts.{are_listed}
use Rattle.sg_facts.proofs.Tabling.{all_disputes, blocks_fates, put_all, puts_both}
use Rattle.sg_facts.proofs.codes.known_codes.Goals as goal

pub note_blocks-requires-clause-fates : goal.note_blocks-requires-clause-fates
note_blocks-requires-clause-fates c =
    let posted = c.args.posted.now in
    rw c.requires.index (blocks_fates posted.plan posted.ballots (formed_parts posted c.requires.formed).blocks)

pub note_disputes-requires-clause-disputes : goal.note_disputes-requires-clause-disputes
note_disputes-requires-clause-disputes c =
    let posted = c.args.posted.now in
    rw c.requires.index (all_disputes posted.plan posted.disputes (formed_parts posted c.requires.formed).disputes)

pub returns : goal.returns
returns c =
    let posted = c.args.posted.now in
    let plan = posted.plan in
    let is = c.requires.index in
    let blank = c.in_ok-table.table in
    let table = c.note_disputes.new.table in
    put_all plan blank table (λ r e. option_map_or Some (first_given (block_code plan r e) posted.ballots) (first_given (dispute_code plan r e) posted.disputes))
    (λ r e. known_code plan r e (places_in posted)) (rw is at c.in_ok-table.ensures) (rw is at c.note_disputes.ensures.sized)
    (puts_both plan blank c.note_blocks.new.table table (λ r e. first_given (block_code plan r e) posted.ballots) (λ r e. first_given (dispute_code plan r e) posted.disputes)
    (rw is at c.note_blocks.ensures.puts) (rw is at c.note_disputes.ensures.puts)) (are_listed posted).known
