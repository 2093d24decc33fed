-- The first connection still to come is the current one.
use Rattle.std.proofs.Common.{◌≡◌, ◌<◌, false, sym, ap, ◌∙◌, length, map, drop, arith}
use Rattle.std.specs.Prelude.{vec_len}
use Rattle.sg_links.specs.Board.{Board}
use Rattle.sg_links.specs.Calling.{Calling}
use Rattle.sg_links.proofs.KeptLemmas.{accepts_next, length-conns, open_is}
use Rattle.sg_links.proofs.calls.Calls.take_next.Goals as goal

pub invariant_of-self : goal.invariant_of-self
invariant_of-self c =
    let kept = c.self.inside in
    let room = rw (← c.self.view_is) at c.requires.room in
    record {
      fits = c.self.invariant.fits;
      parts = c.self.invariant.parts;
      start = omega arith;
      room = c.self.invariant.room;
      pieces = c.self.invariant.pieces;
      few = λ _. omega (arith, room, length-conns kept.page.items kept.incoming.items 0 kept.finished.items);
      taken = λ _. omega arith;
    }

pub returns : goal.returns
returns c =
    let kept = c.self.inside in
    let closed : kept.is_open ≡ false =
    sym (open_is kept.incoming.items kept.finished.items kept.current kept.is_open kept.page.items kept.used) ∙ (rw (← c.self.view_is) at c.requires.closed) in
    rw (← c.self.view_is) (ap (λ (b : Board). record {
      board = b;
      pieces = map (λ i. i.piece) (drop (length kept.finished.items) kept.incoming.items);
      most = kept.most;
      used = kept.used;
      room = vec_len kept.page;
      fails = kept.fails.items;
      calls = kept.calls;
      faults = kept.faults;
    }) (accepts_next kept.incoming.items kept.finished.items kept.current kept.is_open kept.page.items kept.used kept.port closed))
