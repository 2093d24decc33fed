-- The lines of a formed record's text give its lists, and lines that are a whole record give those of a formed record.
use Rattle.std.proofs.Common.{◌≡◌, ℕ, true, false, List, [], ◌∷◌, ◌++◌, map, drop, Option, Some, None, refl, sym, subst, ap, ◌∙◌}
use Rattle.std.proofs.lemmas.Option.{same_Some}
use Rattle.std.specs.List.{flat_map}
use Rattle.std.specs.Option.{is_some, option_map, option_map_or}
use Rattle.std.specs.Prelude.{option_and_then}
use Rattle.sg_lists.proofs.Options.{is_some-true, option_and_then-some, option_map-some}
use Rattle.sg_commit.specs.declared.Digest.{Digest}
use Rattle.sg_plan.specs.declared.plan.Plan.{Plan}
use Rattle.sg_forms.proofs.LineLaws.{lines_are_read}
use Rattle.sg_forms.specs.Reading.{line_of}
use Rattle.sg_forms.specs.Said.{Said}
use Rattle.sg_forms.specs.Said.Said.{Version}
use Rattle.sg_forms.specs.Spelling.{spelling}
use Rattle.sg_grammar.proofs.Walking.{take_line-head}
use Rattle.sg_grammar.specs.Head.{head_line, no_plan}
use Rattle.sg_grammar.specs.Due.{commits, results}
use Rattle.sg_grammar.specs.Placed.{Placed}
use Rattle.sg_grammar.specs.Placed.Placed.{OfPlan}
use Rattle.sg_grammar.specs.Walk.{Next, Taken, Walked, behind, headed, is_whole, start, took, take_line, walk, walked_on}
use Rattle.sg_grammar.specs.declared.state.Part.TheVariants as part
use Rattle.sg_record.proofs.SaidWalk.{run_state}
use Rattle.sg_record.proofs.BytesWalk.{AreIn-from_All, Stays, first_line, take_line-stays}
use Rattle.sg_record.proofs.Filling.{AreIn, filled}
use Rattle.sg_record.proofs.FormedLaw.{formed_behind, has_form, later_lines, later_places, lines_in-are}
use Rattle.sg_record.proofs.FormedParts.{IsFormed, commits_of, results_of}
use Rattle.sg_record.proofs.GatheredLines.{Gathers, as-gathers, bare, blank-bare, blocks-made, commits-put, committed, disputes-made, gathers-commits, made_of, made_of-due, resulted, results-put}
use Rattle.sg_record.proofs.Placing.{GoesAs, goes_as-plan, walk-step}
use Rattle.sg_record.proofs.SectionLines.{Commits, Results, commits-spells, lines_of_commits, lines_of_results, places_of_commits, places_of_results, results-spells}
use Rattle.sg_record.proofs.WholeLaw.{whole_are_formed}
use Rattle.sg_record.specs.Formed.{is_formed}
use Rattle.sg_record.specs.inside.Gathering.{Gathered, added, blank, gather, gather_line, gathered_on, nothing_yet}
use Rattle.sg_record.specs.Laws.{AreWhole, HasWords}
use Rattle.sg_record.specs.Lines.{lines_in, plan_lines, texts_in}
use Rattle.sg_record.specs.Places.{behind_record}
use Rattle.sg_record.specs.Tree.{as_line, as_place, dispute_tree}
use Rattle.sg_record.specs.declared.record.Record.{Record}

-- THE LINES OF THE PLAN

-- lines of the plan leave the record without lines behind the plan
plan-gathers : (next end : Next) (lines rest : List Said) (last : Next) (final : Record) → GoesAs next lines (map OfPlan lines) end → Gathers end (blank end.plan) rest last final
    → Gathers next (blank next.plan) (lines ++ rest) last final
plan-gathers next end [] rest last final goes on = subst (λ (n : Next). Gathers n (blank n.plan) rest last final) (sym goes) on
plan-gathers next end (said ∷ lines) rest last final goes on = (took (OfPlan said) goes.0, goes.1, plan-gathers goes.0 end lines rest last final goes.2 on)

-- ALL LINES OF A FORMED RECORD

-- the record of its lines
abbrev whole_of : Record → Digest → Digest → Digest → Record
whole_of posted first second third =
    record (resulted (record (committed posted.plan (commits_of posted first)) { ballots = [] ++ posted.ballots }) (results_of posted second third)) { disputes = [] ++ posted.disputes }

whole_of-is : (posted : Record) (first second third : Digest) → posted.seals ≡ first ∷ second ∷ third ∷ [] → whole_of posted first second third ≡ posted
whole_of-is posted first second third seals = ap (λ (l : List Digest). let it : Record = record posted { seals = l } in it) (sym seals)

formed_made : (posted : Record) (first second third : Digest) → IsFormed posted first second third
    → made_of posted.plan (lines_of_commits (commits_of posted first) ++ later_lines posted second third) (places_of_commits (commits_of posted first) ++ later_places posted second third) (bare posted.plan)
    ≡ whole_of posted first second third
formed_made posted first second third is =
    let plan : Plan = posted.plan in
    let version : ℕ = posted.plan.version in
    let c : Commits = commits_of posted first in
    let r : Results = results_of posted second third in
    let disputes : List Said = flat_map (dispute_tree as_line) posted.disputes in
    let places : List Placed = flat_map (dispute_tree as_place) posted.disputes in
    let made : Record = record (committed plan c) { ballots = [] ++ posted.ballots } in
    made_of-due plan (commits plan) (lines_of_commits c) (later_lines posted second third) (places_of_commits c) (later_places posted second third) (bare plan) ((commits-spells version plan).out c is.commits)
    ∙ (ap (made_of plan (later_lines posted second third) (later_places posted second third)) (commits-put version plan c is.commits)
    ∙ (blocks-made plan 0 posted.ballots (committed plan c) (lines_of_results plan r ++ disputes) (places_of_results plan r ++ places) is.fine is.blocks
    ∙ (made_of-due plan (results plan) (lines_of_results plan r) disputes (places_of_results plan r) places made ((results-spells version plan).out r is.results)
    ∙ (ap (made_of plan disputes places) (results-put version plan r made is.results)
    ∙ disputes-made plan posted.disputes (resulted made r) is.disputes))))

formed_gathers : (posted : Record) (first second third : Digest) → IsFormed posted first second third → Gathers start (blank no_plan) (lines_in posted) (behind_record posted) (whole_of posted first second third)
formed_gathers posted first second third is =
    let plan : Plan = posted.plan in
    let end : Next = behind_record posted in
    let final : Record = whole_of posted first second third in
    let lines : List Said = lines_of_commits (commits_of posted first) in
    let rest : List Said = later_lines posted second third in
    let places : List Placed = places_of_commits (commits_of posted first) ++ later_places posted second third in
    let body = as-gathers plan (behind plan (commits plan) (part.Ballots 0)) end (lines ++ rest) places (bare plan) refl refl (formed_behind posted first second third is) in
    let commits_on = gathers-commits plan (bare plan) lines rest end final (filled (commits-spells plan.version plan) (commits_of posted first) is.commits)
    (subst (λ (r : Record). Gathers (behind plan (commits plan) (part.Ballots 0)) (bare plan) (lines ++ rest) end r) (formed_made posted first second third is) body) in
    subst (λ (l : List Said). Gathers start (blank no_plan) l end final) (sym (lines_in-are posted first second third is.seals))
    (plan-gathers start (run_state plan) (plan_lines plan) (lines ++ rest) end final (goes_as-plan plan is.fine)
    (subst (λ (r : Record). Gathers (run_state plan) r (lines ++ rest) end final) (sym (blank-bare plan)) commits_on))

-- ONE LINE, AS BYTES

-- a line that is read and taken
gather_line-is : (so_far : Gathered) (bytes : List ℕ) (said : Said) (t : Taken) → line_of so_far.next.plan.version bytes ≡ Some said → take_line so_far.next said ≡ Some t
    → gather_line so_far bytes ≡ Some (gathered_on so_far said t)
gather_line-is so_far bytes said t read taken = rw (read, taken) refl

-- a line of the plan: no line behind the plan stands yet
pub plan_line-gathers : (so_far : Gathered) (bytes : List ℕ) (said : Said) (next : Next) → line_of so_far.next.plan.version bytes ≡ Some said
    → is_some (head_line so_far.next.plan so_far.next.head said) ≡ true → option_map (λ taken. taken.next) (take_line so_far.next said) ≡ Some next
    → gather_line so_far bytes ≡ Some (record { next = next; made = blank next.plan })
plan_line-gathers so_far bytes said next read of_plan step =
    let making = is_some-true (head_line so_far.next.plan so_far.next.head said) of_plan in
    let taken : take_line so_far.next said ≡ Some (headed said making.0) = take_line-head so_far.next said making.0 making.1 in
    gather_line-is so_far bytes said (headed said making.0) read taken
    ∙ ap (λ (n : Next). Some (record { next = n; made = blank n.plan })) (same_Some (headed said making.0).next next (sym (ap (option_map (λ (t : Taken). t.next)) taken) ∙ step))

-- ALL LINES, AS BYTES

-- with one more line
pub gather-push : (so_far : Gathered) (lines : List (List ℕ)) (bytes : List ℕ) → gather so_far (lines ++ bytes ∷ []) ≡ option_and_then (λ more. gather_line more bytes) (gather so_far lines)
unfolding gather
gather-push so_far [] bytes = at_line (gather_line so_far bytes)
  where
    at_line : (o : Option Gathered) → option_and_then (λ more. gather more []) o ≡ o
    at_line None = refl
    at_line (Some more) = refl
gather-push so_far (first ∷ lines) bytes = at_line (gather_line so_far first) (λ more. gather-push more lines bytes)
  where
    at_line : (o : Option Gathered) → ((more : Gathered) → gather more (lines ++ bytes ∷ []) ≡ option_and_then (λ m. gather_line m bytes) (gather more lines))
        → option_and_then (λ more. gather more (lines ++ bytes ∷ [])) o ≡ option_and_then (λ m. gather_line m bytes) (option_and_then (λ more. gather more lines) o)
    at_line None on = refl
    at_line (Some more) on = on more

-- lines in range are gathered as they are taken
said-gathers : (version : ℕ) (next : Next) (made : Record) (lines : List Said) (end : Next) (final : Record) → Stays version next → AreIn version lines → Gathers next made lines end final
    → gather (record { next = next; made = made }) (map (spelling version) lines) ≡ Some (record { next = end; made = final })
unfolding gather
said-gathers version next made [] end final stays all goes =
    ap (λ (n : Next). Some (record { next = n; made = made })) goes.0 ∙ ap (λ (r : Record). Some (record { next = end; made = r })) goes.1
said-gathers version next made (said ∷ lines) end final stays all goes =
    let so_far : Gathered = record { next = next; made = made } in
    let read : line_of next.plan.version (spelling version said) ≡ Some said = ap (λ v. line_of v (spelling version said)) stays.0 ∙ lines_are_read version said all.0 in
    let on = take_line-stays next said goes.0 stays.1 goes.1 in
    ap (λ o. option_and_then (λ more. gather more (map (spelling version) lines)) o) (gather_line-is so_far (spelling version said) said goes.0 read goes.1)
    ∙ said-gathers version goes.0.next (added goes.0.next.plan made goes.0.placed said) lines end final (on.0 ∙ stays.0, on.1) all.1 goes.2

-- and from the start on
start-gathers : (version : ℕ) (lines : List Said) (end : Next) (final : Record) → AreIn version (Version version ∷ lines) → Gathers start (blank no_plan) (Version version ∷ lines) end final
    → gather nothing_yet (map (spelling version) (Version version ∷ lines)) ≡ Some (record { next = end; made = final })
unfolding gather
start-gathers version lines end final all goes =
    let first = first_line (Version version) goes.0 goes.1 in
    let same : first.version ≡ version = let both : Version version ≡ Version first.version = first.is in cc in
    ap (λ o. option_and_then (λ more. gather more (map (spelling version) lines)) o)
    (gather_line-is nothing_yet (spelling version (Version version)) (Version version) goes.0 (lines_are_read 0 (Version version) all.0) goes.1)
    ∙ said-gathers version goes.0.next (added goes.0.next.plan (blank no_plan) goes.0.placed (Version version)) lines end final (first.stays.0 ∙ same, first.stays.1) all.1 goes.2

-- THE LAWS

-- the lines of a formed record give the record, and it is whole
pub formed_gathered : (posted : Record) → HasWords posted → is_formed posted ≡ true → gather nothing_yet (texts_in posted) ≡ Some (record { next = behind_record posted; made = posted })
formed_gathered posted words formed =
    let form = has_form posted words formed in
    let goes = formed_gathers posted form.first form.second form.third form.is in
    start-gathers posted.plan.version (drop 1 (lines_in posted)) (behind_record posted) (whole_of posted form.first form.second form.third)
    (AreIn-from_All posted.plan.version (lines_in posted) words) goes
    ∙ ap (λ (r : Record). Some (record { next = behind_record posted; made = r })) (whole_of-is posted form.first form.second form.third form.is.seals)

-- what is gathered is walked over
gather-walks : (so_far more : Gathered) (lines : List (List ℕ)) → gather so_far lines ≡ Some more → (w : Walked) × (walk so_far.next lines ≡ Some w) × (w.next ≡ more.next)
unfolding gather walk
gather-walks so_far more [] e = (record { posted = []; next = so_far.next }, refl, ap (λ (g : Gathered). g.next) (same_Some so_far more e))
gather-walks so_far more (bytes ∷ lines) e =
    let first = option_and_then-some (λ m. gather m lines) (gather_line so_far bytes) more e in
    let line = option_and_then-some (λ said. option_map (gathered_on so_far said) (take_line so_far.next said)) (line_of so_far.next.plan.version bytes) first.0 first.1 in
    let taken = option_map-some (gathered_on so_far line.0) (take_line so_far.next line.0) first.0 line.2 in
    let same : first.0.next ≡ taken.0.next = ap (λ (g : Gathered). g.next) (sym taken.2) in
    let rest = gather-walks first.0 more lines first.2 in
    let others : walk taken.0.next lines ≡ Some rest.0 = ap (λ (n : Next). walk n lines) (sym same) ∙ rest.1 in
    (walked_on bytes taken.0 rest.0, walk-step so_far.next bytes line.0 taken.0 lines rest.0 line.1 taken.1 others, rest.2)

-- what is gathered of a formed record
pub record GatheredOf (lines : List (List ℕ)) (made : Record) : Type 0 where
  pub words : HasWords made
  pub formed : is_formed made ≡ true
  pub is : lines ≡ texts_in made

-- lines that are gathered, up to a whole record, give a formed record, and are its lines
pub whole_gathered : (lines : List (List ℕ)) (so_far : Gathered) → gather nothing_yet lines ≡ Some so_far → is_whole so_far.next ≡ true → GatheredOf lines so_far.made
whole_gathered lines so_far e whole =
    let walks = gather-walks nothing_yet so_far lines e in
    let are_whole : AreWhole lines = ap (λ (o : Option Walked). option_map_or (λ (w : Walked). is_whole w.next) o false) walks.1 ∙ (ap is_whole walks.2 ∙ whole) in
    let found = whole_are_formed lines are_whole in
    let both : Some so_far ≡ Some (record { next = behind_record found.0; made = found.0 }) = sym e ∙ (ap (gather nothing_yet) found.3 ∙ formed_gathered found.0 found.1 found.2) in
    let same : so_far.made ≡ found.0 = ap (λ (g : Gathered). g.made) (same_Some so_far (record { next = behind_record found.0; made = found.0 }) both) in
    subst (λ (r : Record). GatheredOf lines r) (sym same) (record { words = found.1; formed = found.2; is = found.3 })
