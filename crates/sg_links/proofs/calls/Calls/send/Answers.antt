-- The piece stands on the page behind what all connections were sent.
use Rattle.std.proofs.Common.{rules, ◌≡◌, ◌+◌, ◌≤◌, true, sym, ap, ◌∙◌, length, map, drop, arith}
use Rattle.std.specs.Prelude.{vec_len}
use Rattle.sg_links.specs.Board.{Board}
use Rattle.sg_links.proofs.KeptLemmas.{EndBy-later, gets_piece, open_is}
use Rattle.sg_links.proofs.calls.Calls.send.Goals as goal

pub invariant_of-self : goal.invariant_of-self
invariant_of-self c =
    let kept = c.self.inside in
    let room = rw (← c.self.view_is) at c.requires.room in
    let later = kept.used + length c.args.piece.now in
    record {
      fits = omega (arith, room, c.put_at.ensures.same, c.put_at.new.page.ok.0);
      parts = EndBy-later kept.used later kept.finished.items (omega arith) c.self.invariant.parts;
      start = omega (arith, c.self.invariant.start);
      room = c.self.invariant.room;
      pieces = c.self.invariant.pieces;
      few = c.self.invariant.few;
      taken = c.self.invariant.taken;
    }

pub returns : goal.returns
returns c =
    let kept = c.self.inside in
    let piece = c.args.piece.now in
    let current : kept.is_open ≡ true =
    sym (open_is kept.incoming.items kept.finished.items kept.current kept.is_open kept.page.items kept.used) ∙ (rw (← c.self.view_is) at c.requires.current) in
    rw (← c.self.view_is, c.put_at.ensures.same) (ap (λ (b : Board). record {
      board = b;
      pieces = map (λ i. i.piece) (drop (length kept.finished.items) kept.incoming.items);
      most = kept.most;
      used = kept.used + length piece;
      room = vec_len kept.page;
      fails = kept.fails.items;
      calls = kept.calls;
      faults = kept.faults;
    }) (gets_piece kept.incoming.items kept.finished.items kept.current kept.is_open kept.page.items c.put_at.new.page.items kept.used kept.port piece
    current c.self.invariant.parts c.self.invariant.start c.self.invariant.fits c.put_at.ensures.front))
