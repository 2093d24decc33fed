use Rattle.std.proofs.Common.{sym, ap, ◌∙◌, nat_eq}
use Rattle.serde_json.specs.View.{view}
use Rattle.serde_json.proofs.Views.{members_len-members_view, view-Object}
use Rattle.sg_asks.specs.Members.{has_members}
use Rattle.sg_asks.proofs.kinds.has_members.Goals as goal

pub returns-in-Object : goal.returns-in-Object
unfolding has_members
returns-in-Object c =
    ap (λ n. nat_eq n c.args.count) (c.len.ensures.len ∙ sym (members_len-members_view c.in-Object.members.entries))
    ∙ sym (ap (has_members c.args.count) (ap view c.in-Object.is ∙ view-Object c.in-Object.members))
