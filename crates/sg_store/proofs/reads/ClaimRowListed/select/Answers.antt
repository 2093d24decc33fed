-- What is left to show of the selection of a `ClaimRow`.
use Rattle.sg_store.proofs.Rows.{select_claim, claim_selects}
use Rattle.sg_store.proofs.Selected.{kept, claim_selected}
use Rattle.sg_store.proofs.reads.ClaimRowListed.select.Goals as goal

pub returns-clause-kept : goal.returns-clause-kept
returns-clause-kept g c = kept g.S.Store select_claim _ _ claim_selects _ c.args.conn.now c.query_all.new.self c.query_all.result (λ has. c.query_all.ensures.ok (has.sure.clean c.query_all.new.self)) (λ has. c.query_all.ensures.err (has.sure.clean c.query_all.new.self))

pub returns-clause-found : goal.returns-clause-found
returns-clause-found g c = claim_selected g.S.Store c.args.conn.now c.query_all.new.self c.query_all.result (λ has. c.query_all.ensures.ok (has.sure.clean c.query_all.new.self))
