-- The part of the page that one connection was sent.
use Rattle.std.proofs.Common.{rules, ◌≡◌, ◌≤◌, ◌<◌, ◌∙◌, refl, sym, ap, length, arith}
use Rattle.std.proofs.lemmas.Option.{slice_get_read}
use Rattle.sg_links.proofs.KeptLemmas.{EndBy-at, current-at, finished-at}
use Rattle.sg_links.proofs.calls.Calls.sent.Goals as goal

pub part-requires-clause-order : goal.part-requires-clause-order
part-requires-clause-order c =
    let kept = c.self.inside in
    let found = rw c.deref.ensures.value at c.in-Some.ensures.lookup in
    let at = slice_get_read kept.finished.items (length kept.finished.items) c.args.at c.in-Some.talk.now refl (omega (arith, found.3.0)) found.1 in
    (EndBy-at kept.used kept.finished.items c.args.at c.in-Some.talk.now c.self.invariant.parts at).0

pub part-requires-clause-within : goal.part-requires-clause-within
part-requires-clause-within c =
    let kept = c.self.inside in
    let found = rw c.deref.ensures.value at c.in-Some.ensures.lookup in
    let at = slice_get_read kept.finished.items (length kept.finished.items) c.args.at c.in-Some.talk.now refl (omega (arith, found.3.0)) found.1 in
    let by = EndBy-at kept.used kept.finished.items c.args.at c.in-Some.talk.now c.self.invariant.parts at in
    rw c.deref-in-Some.ensures.value (omega (arith, by.1, c.self.invariant.fits))

pub returns-in-Some : goal.returns-in-Some
returns-in-Some c =
    let kept = c.self.inside in
    let found = rw c.deref.ensures.value at c.in-Some.ensures.lookup in
    let at = slice_get_read kept.finished.items (length kept.finished.items) c.args.at c.in-Some.talk.now refl (omega (arith, found.3.0)) found.1 in
    let part = rw c.deref-in-Some.ensures.value at c.part.ensures in
    rw (← c.self.view_is) (part ∙ sym (finished-at kept.incoming.items kept.finished.items kept.current kept.is_open kept.page.items kept.used kept.port c.args.at c.in-Some.talk.now at))

pub returns-in-None : goal.returns-in-None
returns-in-None c =
    let kept = c.self.inside in
    let part = rw c.deref-in-None.ensures.value at c.part-in-None.ensures in
    let past = rw c.deref.ensures.value at c.in-None.ensures.lookup in
    let within = rw (← c.self.view_is) at c.requires in
    rw (← c.self.view_is) (part
    ∙ sym (current-at kept.incoming.items kept.finished.items kept.current kept.is_open kept.page.items kept.used kept.port c.args.at past.3 within))
