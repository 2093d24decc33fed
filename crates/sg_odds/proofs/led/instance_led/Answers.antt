-- A row more is counted. A race has few candidates and few rows.
use Rattle.std.proofs.Common.{ℕ, ◌%◌, ◌<◌, None, Option, replicate, refl, ap, sym, ◌∙◌, arith}
use Rattle.std.specs.Option.{option_map_or}
use Rattle.std.specs.Prelude.{is_some}
use Rattle.sg_plan.proofs.PlanLaws.{bounds}
use Rattle.sg_plan.specs.Ballots.{candidates_of, entries_of}
use Rattle.sg_plan.specs.declared.plan.Side.{Side}
use Rattle.sg_plan.specs.declared.plan.Side.TheVariants as side
use Rattle.sg_record.specs.Places.{places_in}
use Rattle.sg_facts.specs.Items.{item_in}
use Rattle.sg_parts.proofs.Accepting.{good_plan}
use Rattle.sg_parts.proofs.Halves.{on_half}
use Rattle.sg_parts.specs.Given.{completion_of}
use Rattle.sg_parts.specs.declared.checks.At.{At}
use Rattle.sg_recount.proofs.Facing.{mark_is}
use Rattle.sg_odds.proofs.Leading.{pointers_once}
use Rattle.sg_odds.proofs.Leads.{leads_few, leads_more, leads_start}
use Rattle.sg_odds.specs.Odds.{half_of}
use Rattle.sg_odds.proofs.led.instance_led.Goals as goal

pub loop-row-init : goal.loop-row-init
loop-row-init c =
    leads_start c.args.parts.now.posted.plan (places_in c.args.parts.now.posted) (completion_of c.args.parts.now.rows) c.args.race c.args.instance (candidates_of c.args.parts.now.posted.plan c.args.race) c.in_ok-counts.counts
    (c.in_ok-counts.ensures ∙ ap (λ (n : ℕ). replicate {A = ℕ} n 0) c.candidates_in-candidates.ensures)

pub note_row-requires-clause-few : goal.note_row-requires-clause-few
note_row-requires-clause-few c =
    leads_few c.args.parts.now.posted.plan (places_in c.args.parts.now.posted) (completion_of c.args.parts.now.rows) c.args.race c.args.instance (candidates_of c.args.parts.now.posted.plan c.args.race) c.loop-row.row
    c.loop-row.counts c.loop-row.invariant (omega (arith, c.loop-row-test.true, c.rows_in-row-end.ensures, (bounds c.args.parts.now.posted.plan (good_plan c.args.parts.now.posted c.posted.ensures.parts.accepted)).few_entries c.args.race c.requires.race))

pub loop-row-preserved : goal.loop-row-preserved
loop-row-preserved c =
    let less : c.loop-row.row < entries_of c.args.parts.now.posted.plan c.args.race = omega (arith, c.loop-row-test.true, c.rows_in-row-end.ensures) in
    let below = (pointers_once c.args.parts.now.posted.plan (completion_of c.args.parts.now.rows) c.args.race c.args.instance c.requires.full side.Left).below c.loop-row.row less refl in
    let marks = mark_is c.args.parts.now.posted c.args.marked.now c.requires.table c.args.race (half_of (completion_of c.args.parts.now.rows) side.Left c.args.race c.args.instance c.loop-row.row).value c.requires.race below in
    let at : At = record { race = c.args.race; instance = c.args.instance; row = c.loop-row.row } in
    let pointer = λ (on : Side) (race instance row : ℕ). (half_of (completion_of c.args.parts.now.rows) on race instance row).value in
    let left_is = c.pointer_of-left.ensures ∙ on_half pointer c.on.result side.Left at c.on.ensures.side c.on.ensures.at in
    let right_is = c.pointer_of-right.ensures ∙ on_half pointer c.on-in-loop-row.result side.Right at c.on-in-loop-row.ensures.side c.on-in-loop-row.ensures.at in
    let code = c.entry_code.ensures ∙ ap (λ (n : ℕ). option_map_or (λ (code : Option ℕ). code) (item_in c.args.marked.now c.args.race n) None) left_is in
    leads_more c.args.parts.now.posted.plan (places_in c.args.parts.now.posted) (completion_of c.args.parts.now.rows) c.args.race c.args.instance (candidates_of c.args.parts.now.posted.plan c.args.race) c.loop-row.row
    (c.pointer_of-right.result % c.candidates_in-candidates.result) c.is_some-is_marked.result c.loop-row.counts c.note_row.new.counts c.loop-row.invariant
    (c.is_some-is_marked.ensures ∙ (ap (λ (o : Option ℕ). is_some o) code ∙ sym marks))
    (ap (λ (n : ℕ). n % c.candidates_in-candidates.result) right_is
    ∙ ap (λ (n : ℕ). (half_of (completion_of c.args.parts.now.rows) side.Right c.args.race c.args.instance c.loop-row.row).value % n) c.candidates_in-candidates.ensures)
    c.note_row.ensures.long c.note_row.ensures.puts
