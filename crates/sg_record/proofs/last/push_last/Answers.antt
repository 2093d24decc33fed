-- What the steps before give.
use Rattle.sg_record.proofs.Appending.{block_put_back}
use Rattle.sg_record.specs.inside.Growing.{change_of}
use Rattle.sg_record.proofs.last.push_last.Goals as goal

pub returns : goal.returns
returns c =
    block_put_back (change_of c.args.more) c.args.blocks.now c.replace-block.new.self c.replace.new.self c.len-count.result c.replace-block.result c.no_block.result c.push.new.fate
    c.len-count.ensures c.if-count-eq0.false c.replace-block.ensures.old c.replace-block.ensures.rest c.in_ok-push.ensures c.replace.ensures.rest
