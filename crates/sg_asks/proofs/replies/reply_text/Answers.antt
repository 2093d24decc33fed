use Rattle.sg_asks.proofs.ReplyTexts.{put_together-text}
use Rattle.sg_asks.proofs.replies.reply_text.Goals as goal

pub returns : goal.returns
returns c = put_together-text c.args.version c.args.reply.now c.requires.codes c.requires.kept c.put_together.result c.put_together.ensures
