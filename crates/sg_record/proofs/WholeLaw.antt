-- Lines that are a whole record are those of a formed record's text.
use Rattle.std.proofs.Common.{◌≡◌, ◌≤◌, length, ℕ, true, false, List, [], ◌∷◌, ◌++◌, map, Option, Some, None, refl, sym, subst, ap, ◌∙◌, arith, ◌+◌, ◌==◌, nat_lt, Bool, ◌&&◌, cond, is_some}
use Rattle.std.specs.List.{flat_map, list_all}
use Rattle.std.specs.Option.{option_map_or}
use Rattle.sg_plan.specs.Limits.{fault_of, most_claims}
use Rattle.sg_plan.specs.declared.plan.Plan.{Plan}
use Rattle.sg_forms.specs.Said.{Said}
use Rattle.sg_forms.specs.Said.Said.{Version, Audited, Cast, Code, Dispute, Spoiled, Voided}
use Rattle.sg_forms.specs.Spelling.{spelling, IsInRange}
use Rattle.sg_grammar.proofs.Making.{runs-fault}
use Rattle.sg_grammar.specs.Due.{commits, due_audit, race_codes, results}
use Rattle.sg_grammar.specs.Walk.{Next, Walked, is_whole, start, walk, Taken, after_block, after_dispute, begins, behind, first_taken, in_cast, is_later, is_whole_at, take_line, took}
use Rattle.sg_grammar.specs.declared.state.Part.TheVariants as part
use Rattle.sg_record.proofs.BytesWalk.{All-from_AreIn, start-said}
use Rattle.sg_record.proofs.Filling.{AreIn, AreIn-parts, parts-are, Fills, behind-are}
use Rattle.sg_record.proofs.FormedLaw.{result_lines-are}
use Rattle.sg_record.proofs.FormedParts.{form-to}
use Rattle.sg_record.proofs.HeadBack.{plan-back}
use Rattle.sg_record.proofs.SaidWalk.{Goes, slot-goes}
use Rattle.sg_record.proofs.SectionLines.{AreCommits, AreResults, Commits, Results, commits-spells, lines_of_commits, lines_of_results, results-spells}
use Rattle.sg_record.specs.Formed.{are_blocks, is_dispute, is_formed, are_cast, has_columns, is_fate}
use Rattle.sg_record.specs.Laws.{HasWords, WholeAreFormed}
use Rattle.sg_record.specs.Lines.{lines_in, plan_lines, texts_in}
use Rattle.sg_record.specs.Tree.{as_line, block_tree, dispute_tree, cast_said, fate_tree}
use Rattle.sg_record.specs.declared.record.BallotBlock.{BallotBlock}
use Rattle.sg_record.specs.declared.record.DisputeBlock.{DisputeBlock}
use Rattle.sg_record.specs.declared.record.Record.{Record}
use Rattle.std.proofs.lemmas.Bool.{and_from, and_parts, lt-ltb, ltb-true}
use Rattle.std.proofs.lemmas.List.{append_assoc}
use Rattle.std.proofs.lemmas.Option.{cond_some}
use Rattle.sg_plan.specs.Ballots.{ballot_has}
use Rattle.sg_plan.specs.Codes.{codes_of, is_code}
use Rattle.sg_grammar.specs.Placed.Placed.{Begun, Disputed}
use Rattle.sg_grammar.specs.declared.state.Block.TheVariants as block
use Rattle.sg_grammar.specs.declared.state.Head.TheVariants as head
use Rattle.sg_grammar.specs.declared.state.Part.{Part}
use Rattle.sg_grammar.specs.declared.state.Slot.{Slot}
use Rattle.sg_record.proofs.BlockLines.{columns-spells, due_audit-spells}
use Rattle.sg_record.proofs.CastLines.{cast-has_code, cast-other, cast_of, cast_of-is, in_cast-line, line-before, may_stand, next_of, taken_of}
use Rattle.sg_record.specs.declared.record.BlockFate.{BlockFate}
use Rattle.sg_record.specs.declared.record.BlockFate.TheVariants as fate
use Rattle.sg_record.specs.declared.record.CastLine.{CastLine}

-- WHAT LINES ARE

-- the blocks of disputes, behind so many
pub record DisputesOf (plan : Plan) (count : ℕ) (lines : List Said) : Type 0 where
  pub disputes : List DisputeBlock
  pub is : lines ≡ flat_map (dispute_tree as_line) disputes
  pub pass : list_all (is_dispute plan) disputes ≡ true
  pub few : count + length disputes ≤ most_claims

-- the results, and then disputes
pub record ResultsOf (plan : Plan) (lines : List Said) : Type 0 where
  pub front : List Said
  pub back : List Said
  pub is : lines ≡ front ++ back
  pub fills : Fills (results plan) front
  pub disputes : DisputesOf plan 0 back

-- blocks of ballots behind this one, and then the results
pub record BlocksOf (plan : Plan) (last : ℕ) (lines : List Said) : Type 0 where
  pub blocks : List BallotBlock
  pub back : List Said
  pub is : lines ≡ flat_map (block_tree as_line plan) blocks ++ back
  pub pass : are_blocks plan last blocks ≡ true
  pub results : ResultsOf plan back

-- what is left of the block of a cast ballot, and then blocks of later ballots
pub record CastOf (plan : Plan) (ballot race column : ℕ) (lines : List Said) : Type 0 where
  pub first : List CastLine
  pub back : List Said
  pub is : lines ≡ map cast_said first ++ back
  pub pass : are_cast plan ballot race column first ≡ true
  pub blocks : BlocksOf plan ballot back

abbrev pub PartOf : Plan → Part → List Said → Type 0
PartOf plan (part.Ballots last) lines = BlocksOf plan last lines
PartOf plan (part.Cast ballot race column) lines = CastOf plan ballot race column lines
PartOf plan (part.Disputes count) lines = DisputesOf plan count lines

-- the lines that are due, and then those that begin where none is
pub record DueOf (plan : Plan) (due : List Slot) (may_begin : Part) (lines : List Said) : Type 0 where
  pub front : List Said
  pub back : List Said
  pub is : lines ≡ front ++ back
  pub fills : Fills due front
  pub others : PartOf plan may_begin back

-- no more disputes than may stand
abbrev pub IsFew : Part → Type 0
IsFew (part.Ballots last) = Unit {0}
IsFew (part.Cast ballot race column) = Unit {0}
IsFew (part.Disputes count) = count ≤ most_claims

-- what is known of lines behind another one
abbrev Known : Plan → List Said → Next → Type 0
Known plan lines end = (due : List Slot) (may_begin : Part) → IsFew may_begin → Goes (behind plan due may_begin) lines end → DueOf plan due may_begin lines

-- no line is due
none-due : (plan : Plan) (may_begin : Part) (lines : List Said) (d : DueOf plan [] may_begin lines) → lines ≡ d.back
none-due plan may_begin lines d = d.is ∙ ap (λ l. l ++ d.back) (nothing d.front d.fills)
  where
    nothing : (front : List Said) → Fills [] front → front ≡ []
    nothing [] fills = refl
    nothing (said ∷ front) fills = absurd fills

-- where a line that is taken under a test comes from
under : (test : Bool) (t taken : Taken) (lines : List Said) (end : Next) → cond test (Some t) None ≡ Some taken → Goes taken.next lines end → (test ≡ true) × Goes t.next lines end
under test t taken lines end e goes =
    let parts = cond_some test t taken e in
    (parts.0, subst (λ (x : Taken). Goes x.next lines end) (sym parts.1) goes)

-- BLOCKS OF BALLOTS

-- one more block
add_block : (plan : Plan) (last ballot : ℕ) (what : BlockFate) (lines rest : List Said) → is_later plan last ballot ≡ true → is_fate plan ballot what ≡ true
    → lines ≡ fate_tree as_line plan ballot what ++ rest → BlocksOf plan ballot rest → BlocksOf plan last lines
add_block plan last ballot what lines rest later passes is others = record {
  blocks = record { ballot = ballot; fate = what } ∷ others.blocks;
  back = others.back;
  is = is ∙ (ap (λ l. fate_tree as_line plan ballot what ++ l) others.is ∙ sym (append_assoc (fate_tree as_line plan ballot what) (flat_map (block_tree as_line plan) others.blocks) others.back));
  pass = and_from (is_later plan last ballot && is_fate plan ballot what) (are_blocks plan ballot others.blocks)
      (and_from (is_later plan last ballot) (is_fate plan ballot what) later passes) others.pass;
  results = others.results;
}

-- the first line of the results
first-back : (plan : Plan) (last : ℕ) (slots : List Slot) (said : Said) (lines : List Said) (end : Next) (taken : Taken) → results plan ≡ slots → Known plan lines end
    → first_taken plan slots said ≡ Some taken → Goes taken.next lines end → BlocksOf plan last (said ∷ lines)
first-back plan last [] said lines end taken are known e goes = cc
first-back plan last (first ∷ due) said lines end taken are known e goes =
    let from = slot-goes plan first due (part.Disputes 0) said taken e in
    let rest = known due (part.Disputes 0) (omega arith) (subst (λ (n : Next). Goes n lines end) (sym from.1) goes) in
    let filled : Fills (first ∷ due) (said ∷ rest.front) = (from.0, rest.fills) in
    record {
      blocks = [];
      back = said ∷ lines;
      is = refl;
      pass = refl;
      results = record {
        front = said ∷ rest.front;
        back = rest.back;
        is = ap (λ l. said ∷ l) rest.is;
        fills = subst (λ (l : List Slot). Fills l (said ∷ rest.front)) (sym are) filled;
        disputes = rest.others;
      };
    }

block-back : (plan : Plan) (last : ℕ) (said : Said) (lines : List Said) (end : Next) (taken : Taken) → fault_of plan ≡ None → AreIn plan.version lines → Known plan lines end
    → after_block plan last said ≡ Some taken → Goes taken.next lines end → BlocksOf plan last (said ∷ lines)
block-back plan last (Cast ballot) lines end taken fine all known e goes =
    let on = under (is_later plan last ballot) (took (Begun ballot) (behind plan [] (part.Cast ballot 0 0))) taken lines end e goes in
    let rest = known [] (part.Cast ballot 0 0) tt on.1 in
    let block : CastOf plan ballot 0 0 rest.back = rest.others in
    add_block plan last ballot (fate.Cast block.first) (Cast ballot ∷ lines) block.back on.0 block.pass
    (ap (λ l. Cast ballot ∷ l) (none-due plan (part.Cast ballot 0 0) lines rest ∙ block.is)) block.blocks
block-back plan last (Spoiled ballot) lines end taken fine all known e goes =
    let on = under (is_later plan last ballot) (took (Begun ballot) (behind plan [] (part.Ballots ballot))) taken lines end e goes in
    let rest = known [] (part.Ballots ballot) tt on.1 in
    add_block plan last ballot fate.Spoiled (Spoiled ballot ∷ lines) rest.back on.0 refl (ap (λ l. Spoiled ballot ∷ l) (none-due plan (part.Ballots ballot) lines rest)) rest.others
block-back plan last (Audited ballot) lines end taken fine all known e goes =
    let on = under (is_later plan last ballot) (took (Begun ballot) (behind plan (due_audit plan ballot) (part.Ballots ballot))) taken lines end e goes in
    let rest = known (due_audit plan ballot) (part.Ballots ballot) tt on.1 in
    let kept = AreIn-parts plan.version rest.front rest.back (subst (AreIn plan.version) rest.is all) in
    let found = (due_audit-spells plan ballot fine).back rest.front rest.fills kept.0 in
    add_block plan last ballot (fate.Audited found.item.0 found.item.1) (Audited ballot ∷ lines) rest.back on.0
    (and_from _ _ found.passes.0 found.passes.1)
    (behind-are (Audited ballot) lines rest.front rest.back _ rest.is found.is) rest.others
block-back plan last (Voided ballot) lines end taken fine all known e goes =
    let on = under (plan.version == 2 && is_later plan last ballot) (took (Begun ballot) (behind plan [] (part.Ballots ballot))) taken lines end e goes in
    let tests = and_parts (plan.version == 2) (is_later plan last ballot) on.0 in
    let rest = known [] (part.Ballots ballot) tt on.1 in
    add_block plan last ballot fate.Voided (Voided ballot ∷ lines) rest.back tests.1 tests.0 (ap (λ l. Voided ballot ∷ l) (none-due plan (part.Ballots ballot) lines rest)) rest.others
block-back plan last said lines end taken fine all known e goes = first-back plan last (results plan) said lines end taken refl known e goes

-- IN THE BLOCK OF A CAST BALLOT

cast-back : (plan : Plan) (ballot race column : ℕ) (said : Said) (lines : List Said) (end : Next) (taken : Taken) → fault_of plan ≡ None → AreIn plan.version (said ∷ lines) → Known plan lines end
    → in_cast plan ballot race column said ≡ Some taken → Goes taken.next lines end → CastOf plan ballot race column (said ∷ lines)
cast-back plan ballot race column said lines end taken fine all known e goes = by_line (cast_of said) refl
  where
    by_line : (o : Option CastLine) → cast_of said ≡ o → CastOf plan ballot race column (said ∷ lines)
    by_line None is = record {
      first = [];
      back = said ∷ lines;
      is = refl;
      pass = refl;
      blocks = block-back plan ballot said lines end taken fine all.1 known (sym (cast-other plan ballot race column said (ap is_some is)) ∙ e) goes;
    }
    by_line (Some line) is =
        let same : said ≡ cast_said line = cast_of-is said line is in
        let next : ℕ × ℕ = next_of line in
        let on = under (may_stand plan ballot race column line) (taken_of plan ballot line) taken lines end
        (sym (in_cast-line plan ballot race column line) ∙ (ap (in_cast plan ballot race column) (sym same) ∙ e)) goes in
        let rest = known [] (part.Cast ballot next.0 next.1) tt on.1 in
        let behind_it : CastOf plan ballot next.0 next.1 rest.back = rest.others in
        record {
          first = line ∷ behind_it.first;
          back = behind_it.back;
          is = ap (λ s. s ∷ lines) same ∙ ap (λ l. cast_said line ∷ l) (none-due plan (part.Cast ballot next.0 next.1) lines rest ∙ behind_it.is);
          pass = line-before plan ballot race column line behind_it.first on.0 (cast-has_code plan line (subst (IsInRange plan.version) same all.0)) behind_it.pass;
          blocks = behind_it.blocks;
        }

-- DISPUTES

-- one more dispute
add_dispute : (plan : Plan) (count : ℕ) (one : DisputeBlock) (lines rest : List Said) → lines ≡ dispute_tree as_line one ++ rest → is_dispute plan one ≡ true
    → DisputesOf plan (count + 1) rest → DisputesOf plan count lines
add_dispute plan count one lines rest is passes others = record {
  disputes = one ∷ others.disputes;
  is = is ∙ ap (λ l. dispute_tree as_line one ++ l) others.is;
  pass = and_from (is_dispute plan one) (list_all (is_dispute plan) others.disputes) passes others.pass;
  few = omega (arith, others.few);
}

dispute-back : (plan : Plan) (count : ℕ) (said : Said) (lines : List Said) (end : Next) (taken : Taken) → AreIn plan.version (said ∷ lines) → Known plan lines end
    → after_dispute plan count said ≡ Some taken → Goes taken.next lines end → DisputesOf plan count (said ∷ lines)
dispute-back plan count (Dispute ballot race code word) lines end taken all known e goes =
    let on = under (nat_lt count most_claims && (nat_lt race (length plan.races) && ballot_has plan ballot race))
    (took (Disputed ballot race code word) (behind plan (race_codes plan block.Dispute ballot race) (part.Disputes (count + 1)))) taken lines end e goes in
    let tests = and_parts (nat_lt count most_claims) (nat_lt race (length plan.races) && ballot_has plan ballot race) on.0 in
    let less = ltb-true count most_claims tests.0 in
    let rest = known (race_codes plan block.Dispute ballot race) (part.Disputes (count + 1)) (omega (arith, less)) on.1 in
    let more : DisputesOf plan (count + 1) rest.back = rest.others in
    let kept = AreIn-parts plan.version rest.front rest.back (subst (AreIn plan.version) rest.is all.1) in
    let found = (columns-spells plan block.Dispute ballot race).back rest.front rest.fills kept.0 in
    let small : is_code plan code ≡ true = lt-ltb code (codes_of plan.version) all.0.2 in
    add_dispute plan count (record { ballot = ballot; race = race; code = code; word = word; codes = found.item }) (Dispute ballot race code word ∷ lines) rest.back
    (behind-are (Dispute ballot race code word) lines rest.front rest.back (map Code found.item) rest.is found.is)
    (and_from ((nat_lt race (length plan.races) && ballot_has plan ballot race) && is_code plan code) (has_columns plan race found.item)
    (and_from (nat_lt race (length plan.races) && ballot_has plan ballot race) (is_code plan code) tests.1 small) found.passes)
    more
dispute-back plan count said lines end taken all known e goes = cc

-- ALL LINES

-- at the end of a whole record nothing is due, and further disputes may come
at-end : (plan : Plan) (due : List Slot) (may_begin : Part) → is_whole_at head.Whole due may_begin ≡ true → IsFew may_begin → DueOf plan due may_begin []
at-end plan [] (part.Disputes count) whole few = record {
  front = [];
  back = [];
  is = refl;
  fills = tt;
  others = record { disputes = []; is = refl; pass = refl; few = omega (arith, few) };
}
at-end plan [] (part.Ballots last) whole few = cc
at-end plan [] (part.Cast ballot race column) whole few = cc
at-end plan (first ∷ due) may_begin whole few = cc

begins-back : (plan : Plan) (may_begin : Part) (said : Said) (lines : List Said) (end : Next) (taken : Taken) → fault_of plan ≡ None → AreIn plan.version (said ∷ lines) → Known plan lines end
    → begins plan may_begin said ≡ Some taken → Goes taken.next lines end → PartOf plan may_begin (said ∷ lines)
begins-back plan (part.Ballots last) said lines end taken fine all known e goes = block-back plan last said lines end taken fine all.1 known e goes
begins-back plan (part.Cast ballot race column) said lines end taken fine all known e goes = cast-back plan ballot race column said lines end taken fine all known e goes
begins-back plan (part.Disputes count) said lines end taken fine all known e goes = dispute-back plan count said lines end taken all known e goes

pub body-back : (plan : Plan) (end : Next) (lines : List Said) → fault_of plan ≡ None → is_whole end ≡ true → AreIn plan.version lines
    → (due : List Slot) (may_begin : Part) → IsFew may_begin → Goes (behind plan due may_begin) lines end → DueOf plan due may_begin lines
unfolding take_line
body-back plan end [] fine whole all due may_begin few goes = at-end plan due may_begin (ap is_whole goes ∙ whole) few
body-back plan end (said ∷ lines) fine whole all (first ∷ due) may_begin few goes =
    let from = slot-goes plan first due may_begin said goes.0 goes.1 in
    let rest = body-back plan end lines fine whole all.1 due may_begin few (subst (λ (n : Next). Goes n lines end) (sym from.1) goes.2) in
    record { front = said ∷ rest.front; back = rest.back; is = ap (λ l. said ∷ l) rest.is; fills = (from.0, rest.fills); others = rest.others }
body-back plan end (said ∷ lines) fine whole all [] may_begin few goes = record {
  front = [];
  back = said ∷ lines;
  is = refl;
  fills = tt;
  others = begins-back plan may_begin said lines end goes.0 fine all (body-back plan end lines fine whole all.1) goes.1 goes.2;
}

-- the record of its parts
abbrev pub record_of : Plan → Commits → List BallotBlock → Results → List DisputeBlock → Record
record_of plan c blocks r disputes = record {
  plan = plan;
  code_commits = c.0;
  row_commits = c.1.0;
  seals = c.1.1 ∷ r.1.0 ∷ r.1.1.1.1 ∷ [];
  ballots = blocks;
  flags = r.0.0;
  places = r.0.1.0;
  totals = r.0.1.1;
  draw = r.1.1.0;
  rows = r.1.1.1.0;
  disputes = disputes;
}

-- its lines
pub record_of-lines : (plan : Plan) (c : Commits) (blocks : List BallotBlock) (r : Results) (disputes : List DisputeBlock)
    → lines_in (record_of plan c blocks r disputes)
    ≡ plan_lines plan ++ (lines_of_commits c ++ (flat_map (block_tree as_line plan) blocks ++ (lines_of_results plan r ++ flat_map (dispute_tree as_line) disputes)))
record_of-lines plan c blocks r disputes =
    ap (λ l. plan_lines plan ++ (lines_of_commits c ++ (flat_map (block_tree as_line plan) blocks ++ l)))
    (result_lines-are (record_of plan c blocks r disputes) c.1.1 r.1.0 r.1.1.1.1 (flat_map (dispute_tree as_line) disputes) refl)

-- it is formed, where its parts are
record_of-formed : (plan : Plan) (c : Commits) (blocks : List BallotBlock) (r : Results) (disputes : List DisputeBlock) → fault_of plan ≡ None → AreCommits plan c → are_blocks plan 0 blocks ≡ true
    → AreResults plan.version plan r → length disputes ≤ most_claims → list_all (is_dispute plan) disputes ≡ true → is_formed (record_of plan c blocks r disputes) ≡ true
record_of-formed plan c blocks r disputes fine are_commits are_ballots are_results few are_disputes =
    form-to (record_of plan c blocks r disputes) c.1.1 r.1.0 r.1.1.1.1 (record {
      fine = fine;
      seals = refl;
      commits = are_commits;
      blocks = are_ballots;
      results = are_results;
      few = few;
      disputes = are_disputes;
    })

-- section by section
sections-are : (plan : Plan) (c : Commits) (blocks : List BallotBlock) (r : Results) (disputes : List DisputeBlock) (lines body ballots tail rest : List Said)
    → lines ≡ plan_lines plan ++ body → body ≡ lines_of_commits c ++ ballots → ballots ≡ flat_map (block_tree as_line plan) blocks ++ tail → tail ≡ lines_of_results plan r ++ rest
    → rest ≡ flat_map (dispute_tree as_line) disputes → lines ≡ lines_in (record_of plan c blocks r disputes)
sections-are plan c blocks r disputes lines body ballots tail rest one two three four five =
    one
    ∙ (ap (λ l. plan_lines plan ++ l)
    (two ∙ ap (λ l. lines_of_commits c ++ l) (three ∙ ap (λ l. flat_map (block_tree as_line plan) blocks ++ l) (four ∙ ap (λ l. lines_of_results plan r ++ l) five)))
    ∙ sym (record_of-lines plan c blocks r disputes))

-- a formed record with these lines
pub record FormedOf (version : ℕ) (lines : List Said) : Type 0 where
  pub posted : Record
  pub same : posted.plan.version ≡ version
  pub formed : is_formed posted ≡ true
  pub is : lines ≡ lines_in posted

-- lines that may stand from the start on, up to a whole record
pub lines-back : (version : ℕ) (lines : List Said) (end : Next) → AreIn version (Version version ∷ lines) → is_whole end ≡ true → Goes start (Version version ∷ lines) end
    → FormedOf version (Version version ∷ lines)
lines-back version lines end all whole goes =
    let head_of = plan-back end (Version version ∷ lines) whole goes in
    let plan : Plan = head_of.whole in
    let is : Version version ∷ lines ≡ plan_lines plan ++ head_of.back = head_of.is ∙ ap (λ l. l ++ head_of.back) head_of.all in
    let same : version ≡ plan.version = first_version version plan.version lines _ is in
    let kept = subst (λ (v : ℕ). AreIn v (plan_lines plan ++ head_of.back)) same (subst (AreIn version) is all) in
    let behind_plan = (AreIn-parts plan.version (plan_lines plan) head_of.back kept).1 in
    let fine = runs-fault plan head_of.kept in
    let body = body-back plan end head_of.back fine whole behind_plan (commits plan) (part.Ballots 0) tt head_of.goes in
    let body_in = AreIn-parts plan.version body.front body.back (subst (AreIn plan.version) body.is behind_plan) in
    let c = (commits-spells plan.version plan).back body.front body.fills body_in.0 in
    let blocks : BlocksOf plan 0 body.back = body.others in
    let blocks_in = AreIn-parts plan.version (flat_map (block_tree as_line plan) blocks.blocks) blocks.back (subst (AreIn plan.version) blocks.is body_in.1) in
    let results_of = blocks.results in
    let results_in = AreIn-parts plan.version results_of.front results_of.back (subst (AreIn plan.version) results_of.is blocks_in.1) in
    let r = (results-spells plan.version plan).back results_of.front results_of.fills results_in.0 in
    let disputes = results_of.disputes in
    record {
      posted = record_of plan c.item blocks.blocks r.item disputes.disputes;
      same = sym same;
      formed = record_of-formed plan c.item blocks.blocks r.item disputes.disputes fine c.passes blocks.pass r.passes (omega (arith, disputes.few)) disputes.pass;
      is = sections-are plan c.item blocks.blocks r.item disputes.disputes (Version version ∷ lines) head_of.back body.back blocks.back results_of.back is
          (parts-are head_of.back body.front body.back (lines_of_commits c.item) body.back body.is c.is refl) blocks.is
          (parts-are blocks.back results_of.front results_of.back (lines_of_results plan r.item) results_of.back results_of.is r.is refl) disputes.is;
    }
  where
    first_version : (a b : ℕ) (xs ys : List Said) → Version a ∷ xs ≡ Version b ∷ ys → a ≡ b
    first_version a b xs ys e = cc

-- the record of a whole walk
pub walk-back : (bytes : List ℕ) (lines : List (List ℕ)) (w : Walked) → walk start (bytes ∷ lines) ≡ Some w → is_whole w.next ≡ true
    → (posted : Record) × HasWords posted × (is_formed posted ≡ true) × (bytes ∷ lines ≡ texts_in posted)
walk-back bytes lines w e whole =
    let begins = start-said bytes lines w e in
    let found = lines-back begins.version begins.said w.next begins.all whole begins.goes in
    let all : AreIn found.posted.plan.version (lines_in found.posted) = subst (λ (v : ℕ). AreIn v (lines_in found.posted)) (sym found.same) (subst (AreIn begins.version) found.is begins.all) in (
      found.posted,
      All-from_AreIn found.posted.plan.version (lines_in found.posted) all,
      found.formed,
      begins.spelled ∙ (ap (map (spelling begins.version)) found.is ∙ ap (λ v. map (spelling v) (lines_in found.posted)) (sym found.same)),
    )

pub whole_are_formed : WholeAreFormed
unfolding walk
whole_are_formed [] whole = cc
whole_are_formed (bytes ∷ lines) whole = at_walk (walk start (bytes ∷ lines)) refl whole
  where
    at_walk : (o : Option Walked) → walk start (bytes ∷ lines) ≡ o → option_map_or (λ (w : Walked). is_whole w.next) o false ≡ true
        → (posted : Record) × HasWords posted × (is_formed posted ≡ true) × (bytes ∷ lines ≡ texts_in posted)
    at_walk None e none = cc
    at_walk (Some w) e some = walk-back bytes lines w e some
