use Rattle.sg_post.proofs.PostedText.{posted_is_text}
use Rattle.sg_post.proofs.laws.posted_text_law.Goals as goal

pub returns : goal.returns
returns c = posted_is_text
