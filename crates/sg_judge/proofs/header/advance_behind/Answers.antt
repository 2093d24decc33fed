use Rattle.sg_grammar.specs.Head.{is_behind}
use Rattle.sg_judge.proofs.Advancing.{kept_advances, kept_closed, kept_opens, opened_advances, opened_stands}
use Rattle.sg_judge.proofs.header.advance_behind.Goals as goal

pub advance-broken-requires-clause-stands : goal.advance-broken-requires-clause-stands
advance-broken-requires-clause-stands c = (
  c.requires.stands.0,
  opened_stands c.args.expect.now c.args.sealer.now c.args.index c.in_ok-opened.opened c.requires.index c.in_ok-opened.ensures c.requires.stands.0 c.requires.stands.1,
)

pub returns-clause-goes_on : goal.returns-clause-goes_on
returns-clause-goes_on c = λ lines stands.
    kept_advances c.advance-broken.result c.advance-broken.new.expect c.advance-broken.new.sealer c.advance-broken.new.ledger c.args.ledger.now c.keep_opened.new.ledger lines c.args.bytes.now c.keep_opened.ensures
    (opened_advances c.args.expect.now c.advance-broken.new.expect c.args.sealer.now c.advance-broken.new.sealer c.args.index c.in_ok-opened.opened c.advance-broken.new.ledger c.args.bytes.now c.advance-broken.result
    c.requires.index c.in_ok-opened.ensures c.advance-broken.ensures.goes_on lines stands)

pub returns-clause-opens : goal.returns-clause-opens
returns-clause-opens c = λ good. kept_opens c.advance-broken.result c.advance-broken.new.ledger c.args.ledger.now c.keep_opened.new.ledger (is_behind c.advance-broken.new.expect.head) c.keep_opened.ensures (c.advance-broken.ensures.whole good) good

pub returns-clause-bad : goal.returns-clause-bad
returns-clause-bad c = λ bad. kept_closed c.advance-broken.result c.advance-broken.new.ledger c.args.ledger.now c.keep_opened.new.ledger c.keep_opened.ensures c.requires.closed bad
