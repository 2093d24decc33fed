-- What the steps before give.
use Rattle.sg_record.proofs.Appending.{dispute_put_back}
use Rattle.sg_record.proofs.last.push_dispute_code.Goals as goal

pub returns : goal.returns
returns c =
    dispute_put_back c.args.code c.args.blocks.now c.replace-block.new.self c.replace.new.self c.len-count.result c.replace-block.result c.no_dispute.result c.push.new.self
    c.len-count.ensures c.if-count-eq0.false c.replace-block.ensures.old c.replace-block.ensures.rest c.in_ok-push.ensures.ok c.replace.ensures.rest
