-- Each read brings the next bytes behind those read before. Where it brings no line feed, it brings no head.
use Rattle.std.proofs.Common.{rules, arith, ◌≡◌, ◌+◌, sym, ap, Some, subst, slice_range}
use Rattle.sg_http.specs.Leads.{HasNoHead, feeds}
use Rattle.sg_http.proofs.HeadLemmas.{HasNoHead-nil, HasNoHead-unfed, not_full}
use Rattle.sg_links.proofs.TakenLemmas.{Taken-nil, Taken-on, take_read}
use Rattle.sg_http.proofs.heads.read_start.Goals as goal

pub loop-count-init : goal.loop-count-init
loop-count-init g c = record {
  high = omega arith;
  same = search rules;
  headers = c.requires.headers;
  opened = c.requires.opened;
  none = HasNoHead-nil;
  taken = Taken-nil (g.L.Links.board c.args.links.now);
  later = search rules;
}

pub returns-in-Some-clause-taken : goal.returns-in-Some-clause-taken
returns-in-Some-clause-taken g c =
    Taken-on _ _ _ c.loop-count.buf c.read_more.new.buf c.loop-count.end c.in-Ok.count (omega (arith, c.if-count-eq0.false)) c.in-Ok.ensures.ok.front c.loop-count.invariant.taken c.in-Ok.ensures.taken

pub returns-in-Some-clause-failed : goal.returns-in-Some-clause-failed
returns-in-Some-clause-failed g c = λ e. absurd (c.in-Some.ensures.heard (ap Some e))

pub loop-count-preserved-in-loop-count : goal.loop-count-preserved-in-loop-count
loop-count-preserved-in-loop-count g c =
    let full = c.in_default-judge.ensures.more in
    record {
      high = not_full _ c.in-Ok.ensures.ok.bounds full;
      same = search rules;
      headers = search rules;
      opened = search rules;
      none = c.in_default-judge.ensures.none;
      taken = Taken-on _ _ _ c.loop-count.buf c.read_more.new.buf c.loop-count.end c.in-Ok.count (omega (arith, c.if-count-eq0.false)) c.in-Ok.ensures.ok.front c.loop-count.invariant.taken c.in-Ok.ensures.taken;
      later = search rules;
    }

pub loop-count-preserved : goal.loop-count-preserved
loop-count-preserved g c =
    let end = c.loop-count.end in
    let count = c.in-Ok.count in
    let grown = take_read c.loop-count.buf c.read_more.new.buf end count c.in-Ok.ensures.ok.front in
    let unfed : feeds (slice_range c.read_more.new.buf end (end + count)) ≡ 0 = c.is_due-due.ensures c.if-due.false in
    record {
      high = omega (arith, c.in-Ok.ensures.ok.bounds, c.if-is_full.false);
      same = search rules;
      headers = search rules;
      opened = search rules;
      none = subst HasNoHead (sym grown) (HasNoHead-unfed _ _ c.loop-count.invariant.none unfed);
      taken = Taken-on _ _ _ c.loop-count.buf c.read_more.new.buf end count (omega (arith, c.if-count-eq0.false)) c.in-Ok.ensures.ok.front c.loop-count.invariant.taken c.in-Ok.ensures.taken;
      later = search rules;
    }
