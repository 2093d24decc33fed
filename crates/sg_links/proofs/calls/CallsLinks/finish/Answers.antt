-- The current connection is the last of those that are finished.
use Rattle.std.proofs.Common.{rules, ◌≡◌, Some, ◌≤◌, ◌<◌, true, sym, ap, ◌∙◌, arith, length}
use Rattle.std.specs.Prelude.{vec_len}
use Rattle.std.proofs.lemmas.Bool.{false≢true}
use Rattle.sg_links.proofs.KeptLemmas.{EndBy-push, finishes_current, open_is, pieces_left}
use Rattle.sg_links.proofs.calls.CallsLinks.finish.Goals as goal

pub unreachable-requires : goal.unreachable-requires
unreachable-requires c =
    let kept = c.self.inside in
    let current : kept.is_open ≡ true =
    sym (open_is kept.incoming.items kept.finished.items kept.current kept.is_open kept.page.items kept.used) ∙ (rw (← c.self.view_is) at c.requires) in
    omega (arith, c.in_default.ensures.full, c.self.invariant.few current, c.self.invariant.room)

pub invariant_of-self : goal.invariant_of-self
invariant_of-self c =
    let kept = c.self.inside in
    record {
      fits = c.self.invariant.fits;
      parts = rw c.in-Ok.ensures.items (EndBy-push kept.used kept.finished.items _ c.self.invariant.parts c.self.invariant.start (omega arith));
      start = c.self.invariant.start;
      room = omega (arith, c.self.invariant.room, c.in-Ok.ensures.capacity);
      pieces = c.self.invariant.pieces;
      few = λ e. absurd (false≢true e);
      taken = λ e. absurd (false≢true e);
    }

pub returns-clause-board : goal.returns-clause-board
returns-clause-board c =
    let kept = c.self.inside in
    let current : kept.is_open ≡ true =
    sym (open_is kept.incoming.items kept.finished.items kept.current kept.is_open kept.page.items kept.used) ∙ (rw (← c.self.view_is) at c.requires) in
    rw (← c.self.view_is, c.in-Ok.ensures.items) (ap Some (finishes_current kept.incoming.items kept.finished.items kept.current kept.is_open kept.page.items kept.used kept.port current))

pub returns-clause-after : goal.returns-clause-after
returns-clause-after c =
    let kept = c.self.inside in
    let current : kept.is_open ≡ true =
    sym (open_is kept.incoming.items kept.finished.items kept.current kept.is_open kept.page.items kept.used) ∙ (rw (← c.self.view_is) at c.requires) in
    rw (← c.self.view_is, c.in-Ok.ensures.items) (λ i. record {
      board = finishes_current kept.incoming.items kept.finished.items kept.current kept.is_open kept.page.items kept.used kept.port current i;
      pieces = pieces_left kept.incoming.items kept.finished.items (record kept.current { end = kept.used }) i;
      most = kept.most;
      used = kept.used;
      room = vec_len kept.page;
      fails = kept.fails.items;
      calls = kept.calls;
      faults = kept.faults;
    })
