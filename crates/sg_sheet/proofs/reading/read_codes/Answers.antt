-- The words behind the race's number are those of the codes.
use Rattle.sg_sheet.proofs.Cutting.{reads_found, reads_only}
use Rattle.sg_sheet.proofs.reading.read_codes.Goals as goal

pub returns-clause-found : goal.returns-clause-found
returns-clause-found c =
    reads_found c.args.version c.args.race c.args.count c.args.bytes.now c.in-Some.rest.now c.in-Some-after_decimal.words.now c.read_words.result c.in-Some.ensures c.in-Some-after_decimal.ensures c.read_words.ensures

pub returns-clause-only : goal.returns-clause-only
returns-clause-only c =
    reads_only c.args.version c.args.race c.args.count c.args.bytes.now c.in-Some.rest.now c.in-Some-after_decimal.words.now c.read_words.result c.in-Some.ensures c.in-Some-after_decimal.ensures c.read_words.ensures
