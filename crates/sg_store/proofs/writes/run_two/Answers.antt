-- What is left to show of `run_two`.
use Rattle.std.proofs.Common.{◌≡◌, refl, sym, subst, arith, rules}
use Rattle.sqlite.specs.Values.{bound}
use Rattle.sqlite.specs.State.{HasCleanDisk}
use Rattle.sqlite.specs.Held.{state}
use Rattle.sg_store.specs.inside.Two.{RanTwo}
use Rattle.sg_store.proofs.writes.run_two.Goals as goal

pub returns-clause-both : goal.returns-clause-both
returns-clause-both g c clean =
    let old = c.args.conn.now in
    let mid = c.execute.new.self.conn.now in
    let last = c.execute-2.new.self.conn.now in
    let first = c.args.first.now in
    let second = c.args.second.now in
    let given = bound c.args.given.now in
    let also = bound c.args.also.now in
    let begun = c.transaction-tx.ensures.begun in
    let ran = λ (clean : HasCleanDisk (state g.S.Store last)).
    let one = c.in_ok-execute.ensures.runs (omega (arith, c.execute-2.ensures.survives.clean)) (rw begun) in
    let two = c.in_ok-execute-2.ensures.runs clean one.1.mode in
    let both : RanTwo g.S.Store first given second also old (state g.S.Store last).now =
    record { mid = mid; last = last; counts = (c.in_ok-execute.field-0, c.in_ok-execute-2.field-0); one = rw begun at one.0; two = two.0; is = refl } in both in
    let end = c.commit.new.self.0 in
    let same : end ≡ c.conn-2-1.given.0 = search rules in
    let late : HasCleanDisk (state g.S.Store end) = search rules in
    subst (λ h. RanTwo g.S.Store first given second also old (state g.S.Store h).committed) same
    (subst (RanTwo g.S.Store first given second also old) (sym (c.in_ok-commit.ensures.ok late).1.committed_is) (ran (omega (arith, c.commit.ensures.survives.clean))))
