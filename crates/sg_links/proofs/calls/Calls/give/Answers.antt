-- The bytes given are the next ones of the current connection.
use Rattle.std.proofs.Common.{rules, ◌≡◌, ◌+◌, ◌-◌, ◌≤◌, true, sym, ap, ◌∙◌, length, map, take, drop, arith, length-take, length-drop}
use Rattle.std.specs.Prelude.{min, vec_len}
use Rattle.std.proofs.lemmas.List.{take_at}
use Rattle.sg_links.specs.Board.{Board, reads_end}
use Rattle.sg_links.specs.inside.Kept.{bytes_at}
use Rattle.sg_links.proofs.KeptLemmas.{counts_given, open_is, takes_given}
use Rattle.sg_links.proofs.calls.Calls.give.Goals as goal

pub returns-clause-count : goal.returns-clause-count
returns-clause-count c =
    let kept = c.self.inside in
    let current : kept.is_open ≡ true =
    sym (open_is kept.incoming.items kept.finished.items kept.current kept.is_open kept.page.items kept.used) ∙ (rw (← c.self.view_is) at c.requires) in
    let counted = rw (c.deref.ensures.value, c.len-number.ensures, kept.finished.ok.0) at c.copy_next-count.ensures.count in
    rw (← c.self.view_is) (counted
    ∙ counts_given kept.incoming.items kept.finished.items kept.current kept.is_open kept.page.items kept.used (length c.args.buf.now) current)

pub returns-clause-given : goal.returns-clause-given
returns-clause-given c =
    let kept = c.self.inside in
    let bytes = bytes_at kept.incoming.items (length kept.finished.items) in
    let count = c.copy_next-count.result in
    let current : kept.is_open ≡ true =
    sym (open_is kept.incoming.items kept.finished.items kept.current kept.is_open kept.page.items kept.used) ∙ (rw (← c.self.view_is) at c.requires) in
    let given = rw (c.deref.ensures.value, c.len-number.ensures, kept.finished.ok.0) at c.copy_next-count.ensures.given in
    let counted = rw (c.deref.ensures.value, c.len-number.ensures, kept.finished.ok.0) at c.copy_next-count.ensures.count in
    let taken = c.self.invariant.taken current in
    let within : kept.current.taken + count ≤ length bytes = omega (arith, counted, taken) in
    let front : take count c.copy_next-count.new.buf ≡ take count (drop kept.current.taken bytes) =
    ap (take count) given ∙ take_at (take count (drop kept.current.taken bytes)) (drop count c.args.buf.now) count
    (omega (arith, counted, taken, length-take count (drop kept.current.taken bytes), length-drop kept.current.taken bytes)) in
    rw (← c.self.view_is, c.either-self-inside.ensures, c.is_end.ensures) (ap (λ (b : Board). record {
      board = b;
      pieces = map (λ i. i.piece) (drop (length kept.finished.items) kept.incoming.items);
      most = kept.most;
      used = kept.used;
      room = vec_len kept.page;
      fails = kept.fails.items;
      calls = kept.calls;
      faults = kept.faults;
    }) (takes_given kept.incoming.items kept.finished.items kept.current kept.is_open kept.page.items kept.used kept.port
    count (take count c.copy_next-count.new.buf) (reads_end (length c.args.buf.now) count) current front within))
