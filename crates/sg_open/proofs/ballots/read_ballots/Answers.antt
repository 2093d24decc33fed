use Rattle.std.proofs.Common.{◌≡◌, ◌<◌, [], length, take, true, ap, sym, ◌∙◌, arith}
use Rattle.std.specs.List.{list_all}
use Rattle.std.specs.Str.{is_utf8}
use Rattle.std.proofs.lemmas.List.{length-set}
use Rattle.sg_plan.specs.Limits.{first_bad}
use Rattle.sg_desks.specs.ActReading.{act_in}
use Rattle.sg_keeper.specs.Rows.{ballot_before}
use Rattle.sg_histories.specs.ValidRows.{ballot_keeps, climbs}
use Rattle.sg_open.specs.declared.ballots.Found.{Found}
use Rattle.sg_open.specs.inside.Finding.{found_with}
use Rattle.sg_open.proofs.Steps.{bad_here, bad_on, damage_here}
use Rattle.sg_open.proofs.TellingRows.{ballot_bad, ballot_good, told_utf8, told_within}
use Rattle.sg_open.proofs.Walking.{found_on, utf8_push}
use Rattle.sg_open.proofs.ballots.read_ballots.Goals as goal

pub returns-in_default-clause-fault : goal.returns-in_default-clause-fault
returns-in_default-clause-fault c =
    let keeps = ballot_keeps c.args.index.now (act_in c.args.index.now.version) in
    let up : climbs ballot_before (take c.loop-at.at c.args.rows.now) c.get-row.result.now ≡ true = sym c.climbs_at.ensures ∙ c.if-not-climbs_at.false in
    let bad = ballot_bad c.args.index.now (take c.loop-at.at c.args.rows.now) c.get-row.result.now up (sym c.in_ok-told.ensures.told ∙ c.in_default.is) in
    let within : c.loop-at.at < length c.args.rows.now = omega (arith, c.loop-at-test.true, c.len-at-end.ensures) in
    damage_here 2 c.loop-at.at (first_bad keeps [] c.args.rows.now) c.bad_row-in_default.result
    (bad_here keeps c.args.rows.now c.loop-at.at c.get-row.result.now c.loop-at.invariant.bad within c.get-row.ensures.rest bad) c.bad_row-in_default.ensures

pub scanner_of-scanner-requires : goal.scanner_of-scanner-requires
scanner_of-scanner-requires c = told_utf8 c.args.index.now c.get-row.result.now c.in-Some.told (sym c.in_ok-told.ensures.told ∙ c.in-Some.is)

pub put_told-requires-clause-slots : goal.put_told-requires-clause-slots
put_told-requires-clause-slots c = let w = told_within c.args.index.now c.get-row.result.now c.in-Some.told (sym c.in_ok-told.ensures.told ∙ c.in-Some.is) in omega (arith, w.1, c.loop-at.invariant.slots)

pub put_told-requires-clause-scanners : goal.put_told-requires-clause-scanners
put_told-requires-clause-scanners c = let w = told_within c.args.index.now c.get-row.result.now c.in-Some.told (sym c.in_ok-told.ensures.told ∙ c.in-Some.is) in omega (arith, w.1, c.loop-at.invariant.scanners)

pub loop-at-preserved : goal.loop-at-preserved
loop-at-preserved c =
    let keeps = ballot_keeps c.args.index.now (act_in c.args.index.now.version) in
    let e = sym c.in_ok-told.ensures.told ∙ c.in-Some.is in
    let up : climbs ballot_before (take c.loop-at.at c.args.rows.now) c.get-row.result.now ≡ true = sym c.climbs_at.ensures ∙ c.if-not-climbs_at.false in
    let good = ballot_good c.args.index.now (take c.loop-at.at c.args.rows.now) c.get-row.result.now c.in-Some.told up e in
    let is = c.in_ok-put_told.ensures ∙ ap (found_with c.loop-at.found c.in-Some.told) c.scanner_of-scanner.ensures in
    record {
      bad = bad_on keeps c.args.rows.now c.loop-at.at c.get-row.result.now c.loop-at.invariant.bad c.get-row.ensures.front c.get-row.ensures.rest good;
      found = found_on c.args.index.now _ c.loop-at.found c.put_told.new.found c.args.rows.now c.loop-at.at c.get-row.result.now c.in-Some.told _ c.loop-at.invariant.found c.get-row.ensures.rest e is;
      utf8 = ap (λ (f : Found). list_all is_utf8 f.told) c.in_ok-put_told.ensures ∙ utf8_push c.loop-at.found.told c.in-Some.told.text c.loop-at.invariant.utf8 (told_utf8 c.args.index.now c.get-row.result.now c.in-Some.told e);
      slots = ap (λ (f : Found). length f.slots) c.in_ok-put_told.ensures ∙ (length-set c.loop-at.found.slots _ _ ∙ c.loop-at.invariant.slots);
      scanners = ap (λ (f : Found). length f.scanners) c.in_ok-put_told.ensures ∙ (length-set c.loop-at.found.scanners _ _ ∙ c.loop-at.invariant.scanners);
    }
