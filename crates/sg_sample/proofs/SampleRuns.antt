-- What a sample run tells: its record ends with its third seal, and is accepted.
use Rattle.std.proofs.Common.{◌≡◌, ℕ, zero, suc, ◌+◌, ◌<◌, ◌≤◌, true, not, List, [], ◌∷◌, ◌++◌, length, map, refl, sym, subst, ap, ◌∙◌, append_assoc, append-nil, arith}
use Rattle.std.specs.List.{flat_map}
use Rattle.std.specs.Int.{bytes_high_first}
use Rattle.std.specs.Prelude.{All, slice_index}
use Rattle.std.proofs.lemmas.List.{length-map}
use Rattle.std.proofs.lemmas.List.Elements.{All-cons}
use Rattle.std.proofs.lemmas.List.Sums.{count_by-le-length, length-filter}
use Rattle.sha2.proofs.Facts256.{length-sha256}
use Rattle.sg_lists.proofs.Numbers.{byte_at_below}
use Rattle.sg_outside.specs.TextLines.{lines_of}
use Rattle.sg_plan.specs.Ballots.{ballots_of}
use Rattle.sg_plan.specs.declared.plan.Draw.{Draw}
use Rattle.sg_plan.specs.declared.plan.Fate.{Fate}
use Rattle.sg_plan.specs.declared.plan.Plan.{Plan}
use Rattle.sg_plan.specs.declared.plan.Stage.{Stage}
use Rattle.sg_plan.specs.declared.plan.Stage.TheVariants as stage
use Rattle.sg_streams.specs.Numbers.{numbers_below}
use Rattle.sg_streams.proofs.NumberLists.{length-numbers_below}
use Rattle.sg_forms.specs.Said.{Said}
use Rattle.sg_forms.specs.Said.Said.{Seal}
use Rattle.sg_forms.specs.Spelling.{spelling}
use Rattle.sg_record.proofs.Putting.{text-append}
use Rattle.sg_record.specs.Lines.{lines_in, plan_lines}
use Rattle.sg_record.specs.Tree.{as_line, block_tree, commit_tree, draw_leaf, indexed, race_row_tree, result_tree}
use Rattle.sg_record.specs.Writing.{text_in}
use Rattle.sg_record.specs.declared.record.Record.{Record}
use Rattle.sg_acts.specs.declared.asks.Act.TheVariants as act
use Rattle.sg_keeper.specs.declared.setup.Setup.{Setup}
use Rattle.sg_post.specs.Posted.{lines_at, posted_record, posted_text, seal_3}
use Rattle.sg_post.specs.declared.story.Claimed.{Claimed}
use Rattle.sg_post.specs.declared.story.Story.{Story}
use Rattle.sg_post.specs.declared.story.Told.{Told}
use Rattle.sg_histories.specs.Answers.{entry_of}
use Rattle.sg_record.specs.Formed.{is_draw}
use Rattle.sg_histories.specs.Histories.{Entry, claims_of, fate_of, phase_word, stage_of}
use Rattle.sg_histories.specs.HistoryLaws.{history_after}
use Rattle.sg_histories.specs.Lawful.{IsAskable, Lawful}
use Rattle.sg_histories.specs.Stories.{answered, is_unused_fate, told_fates, told_of}
use Rattle.sg_check.specs.Verdict.{IsVerdict}
use Rattle.sg_check.specs.declared.judged.Judged.TheVariants as judged
use Rattle.sg_accepted.specs.Totals.{told_totals}
use Rattle.sg_unaltered.specs.UnalteredHistories.{HasTruePaper, IsUnalteredHistory}
use Rattle.sg_unaltered.proofs.Accepting.{histories_are_accepted}
use Rattle.sg_sample.specs.SampleRun.{ballot_asks, sample_draw, sample_history, sample_plan, sample_record, sample_seed, sample_setup, sample_story}
use Rattle.sg_sample.specs.Laws.{AsksAreDone, RecordsAreSealed}
use Rattle.sg_sample.specs.inside.Sealed.{EndsWith}
use Rattle.sg_sample.specs.inside.Voting.{stamp_of}
use Rattle.sg_sample.proofs.SamplePlan.{ballots_are, plan_fits}
use Rattle.sg_sample.proofs.Voting.{Stood, behind_done, stood_behind, whole_done, whole_history, whole_lawful}

-- THE HISTORY

pub draw_fits : (number : ℕ) → is_draw (sample_draw number) ≡ true
draw_fits number = refl

high_bytes : (k n i : ℕ) → slice_index (bytes_high_first k n) i < 256
high_bytes zero n i = omega arith
high_bytes (suc k) n zero = byte_at_below k n
high_bytes (suc k) n (suc i) = high_bytes k n i

pub draw_askable : (number : ℕ) (setup : Setup) → IsAskable setup (act.Draw (sample_draw number))
draw_askable number setup = record { codes = tt; counted = λ i. high_bytes 4 number i }

stood : (number ballots : ℕ) → ballots ≤ 9000 → Stood (sample_setup number ballots) (ballot_asks (sample_setup number ballots) ballots) ballots
stood number ballots few = stood_behind (sample_setup number ballots) ballots ballots refl refl few (omega arith)

whole : (number ballots : ℕ) → ballots ≤ 9000
    → sample_history number ballots
    ≡ entry_of (stamp_of (suc (length (ballot_asks (sample_setup number ballots) ballots)))) (act.Draw (sample_draw number))
    ∷ entry_of (stamp_of (length (ballot_asks (sample_setup number ballots) ballots))) act.Close
    ∷ history_after (sample_setup number ballots) (ballot_asks (sample_setup number ballots) ballots)
unfolding sample_history
whole number ballots few =
    whole_history (sample_setup number ballots) (ballot_asks (sample_setup number ballots) ballots) ballots (sample_draw number) refl (stood number ballots few) (draw_fits number)

drawn : (number ballots : ℕ) → ballots ≤ 9000 → stage_of (sample_history number ballots) ≡ stage.Drawn (sample_draw number)
drawn number ballots few = ap stage_of (whole number ballots few)

no_claims : (number ballots : ℕ) → ballots ≤ 9000 → claims_of (sample_history number ballots) ≡ []
no_claims number ballots few = ap claims_of (whole number ballots few) ∙ (stood number ballots few).claims_are

true_papers : (number ballots : ℕ) → ballots ≤ 9000 → All (λ (entry : Entry). HasTruePaper (sample_setup number ballots) entry.act) (sample_history number ballots)
true_papers number ballots few =
    let P : Entry → Type 0 = λ entry. HasTruePaper (sample_setup number ballots) entry.act in
    let asks = ballot_asks (sample_setup number ballots) ballots in
    subst (λ (l : List Entry). All P l) (sym (whole number ballots few))
    (All-cons P (entry_of (stamp_of (suc (length asks))) (act.Draw (sample_draw number))) (entry_of (stamp_of (length asks)) act.Close ∷ history_after (sample_setup number ballots) asks) tt
    (All-cons P (entry_of (stamp_of (length asks)) act.Close) (history_after (sample_setup number ballots) asks) tt (stood number ballots few).papers))

lawful : (number ballots : ℕ) → ballots ≤ 9000 → Lawful (sample_setup number ballots) (sample_history number ballots)
unfolding sample_history
lawful number ballots few =
    whole_lawful (sample_setup number ballots) (ballot_asks (sample_setup number ballots) ballots) ballots (sample_draw number) few refl (stood number ballots few) (draw_fits number)
    (draw_askable number (sample_setup number ballots))

pub sample_unaltered : (number ballots : ℕ) → ballots ≤ 9000 → IsUnalteredHistory (sample_setup number ballots) (sample_history number ballots)
sample_unaltered number ballots few = record { lawful = lawful number ballots few; drawn = ap phase_word (drawn number ballots few); papers = true_papers number ballots few }

pub sample_accepted : (number ballots : ℕ) → 1 ≤ ballots → ballots ≤ 9000
    → IsVerdict (lines_of (sample_record number ballots)) (judged.Yes (told_totals (sample_plan ballots) (sample_seed number) (sample_story number ballots).fates))
sample_accepted number ballots some few =
    histories_are_accepted (sample_setup number ballots) (sample_history number ballots) (plan_fits ballots some few) (sample_unaltered number ballots few)

-- THE FATES

told_few : (plan : Plan) (fates : ℕ → Fate) → length (told_fates plan fates) ≤ ballots_of plan
told_few plan fates =
    let all = map (λ place. told_of fates (place + 1)) (numbers_below (ballots_of plan)) in
    let a = length-filter (λ (told : Told). not (is_unused_fate told.fate)) all in
    let b = count_by-le-length (λ (told : Told). not (is_unused_fate told.fate)) all in
    let c = length-map (numbers_below (ballots_of plan)) (λ place. told_of fates (place + 1)) in
    let d = length-numbers_below (ballots_of plan) in
    omega (arith, a, b, c, d)

pub fates_few : (number ballots : ℕ) → ballots ≤ 9000 → length (sample_story number ballots).fates ≤ 9000
fates_few number ballots few =
    let a = told_few (sample_plan ballots) (fate_of (sample_history number ballots)) in
    let b = ballots_are ballots in
    omega (arith, a, b, few)

-- THE LAST LINE

last_behind : (head commits blocks results rows : List Said) (draws seal : Said)
    → head ++ (commits ++ (blocks ++ (results ++ ((draws ∷ (rows ++ seal ∷ [])) ++ [])))) ≡ (head ++ (commits ++ (blocks ++ (results ++ (draws ∷ rows))))) ++ seal ∷ []
last_behind head commits blocks results rows draws seal = simp (append_assoc, append-nil)

-- the lines before the third seal of a record without claims
before_seal : Record → List Said
before_seal posted =
    plan_lines posted.plan
    ++ (commit_tree as_line posted ++ (flat_map (block_tree as_line posted.plan) posted.ballots ++ (result_tree as_line posted ++ (draw_leaf as_line posted.draw ∷ indexed (race_row_tree as_line) 0 posted.rows))))

record_lines : (plan : Plan) (seed : List ℕ) (fates : List Told) (draw : Draw)
    → lines_in (posted_record plan seed fates draw []) ≡ before_seal (posted_record plan seed fates draw []) ++ Seal 3 (seal_3 plan seed fates draw) ∷ []
unfolding before_seal
record_lines plan seed fates draw =
    let posted = posted_record plan seed fates draw [] in
    last_behind (plan_lines plan) (commit_tree as_line posted) (flat_map (block_tree as_line plan) posted.ballots) (result_tree as_line posted) (indexed (race_row_tree as_line) 0 posted.rows) (draw_leaf as_line draw) (Seal 3 (seal_3 plan seed fates draw))

whole_seal : (plan : Plan) (seed : List ℕ) (fates : List Told) (draw : Draw) → length (seal_3 plan seed fates draw).0 ≡ 32
unfolding seal_3
whole_seal plan seed fates draw = length-sha256 _

-- the text of the lines before that seal
text_before : Plan → List ℕ → List Told → Draw → List ℕ
text_before plan seed fates draw = text_in plan.version (before_seal (posted_record plan seed fates draw []))

text_is : (plan : Plan) (seed : List ℕ) (story : Story) (draw : Draw) → story.stage ≡ stage.Drawn draw → story.claims ≡ []
    → posted_text plan seed story ≡ text_before plan seed story.fates draw ++ spelling plan.version (Seal 3 (seal_3 plan seed story.fates draw))
unfolding posted_text text_before
text_is plan seed story draw stage_is none =
    let seal = Seal 3 (seal_3 plan seed story.fates draw) in
    let front = before_seal (posted_record plan seed story.fates draw []) in
    let lines : lines_at plan seed story.fates story.claims story.stage ≡ front ++ seal ∷ []
    = ap (λ (c : List Claimed). lines_at plan seed story.fates c story.stage) none
    ∙ (ap (λ (s : Stage). lines_at plan seed story.fates [] s) stage_is ∙ record_lines plan seed story.fates draw) in
    ap (text_in plan.version) lines
    ∙ (text-append plan.version front (seal ∷ []) ∙ ap (λ (l : List ℕ). text_in plan.version front ++ l) (append-nil (spelling plan.version seal)))

text_ends : (plan : Plan) (seed : List ℕ) (story : Story) (draw : Draw) → story.stage ≡ stage.Drawn draw → story.claims ≡ [] → EndsWith (posted_text plan seed story) (seal_3 plan seed story.fates draw)
text_ends plan seed story draw stage_is none = record {
  front = text_before plan seed story.fates draw;
  version = plan.version;
  number = 3;
  whole = whole_seal plan seed story.fates draw;
  is = text_is plan seed story draw stage_is none;
}

story_claims : (number ballots : ℕ) → ballots ≤ 9000 → (sample_story number ballots).claims ≡ []
story_claims number ballots few = ap (map (answered (sample_plan ballots) (sample_seed number) (fate_of (sample_history number ballots)))) (no_claims number ballots few)

pub record_ends : (number ballots : ℕ) → ballots ≤ 9000
    → EndsWith (sample_record number ballots) (seal_3 (sample_plan ballots) (sample_seed number) (sample_story number ballots).fates (sample_draw number))
record_ends number ballots few =
    text_ends (sample_plan ballots) (sample_seed number) (sample_story number ballots) (sample_draw number) (drawn number ballots few) (story_claims number ballots few)

-- THE LAWS

pub asks_are_done : AsksAreDone
asks_are_done number ballots few =
    let setup = sample_setup number ballots in
    let asks = ballot_asks setup ballots in
    let behind = behind_done setup ballots ballots refl refl few (omega arith) in (
      whole_done setup asks ballots (sample_draw number) refl (stood number ballots few) (draw_fits number) behind.0,
      ap length (whole number ballots few) ∙ ap (λ k. suc (suc k)) behind.1,
    )

first_version : (ballots : ℕ) → (sample_plan ballots).version ≡ 1
unfolding sample_plan
first_version ballots = refl

pub records_are_sealed : RecordsAreSealed
records_are_sealed number ballots few =
    let seal = Seal 3 (seal_3 (sample_plan ballots) (sample_seed number) (sample_story number ballots).fates (sample_draw number)) in
    let front = text_before (sample_plan ballots) (sample_seed number) (sample_story number ballots).fates (sample_draw number) in (
      front,
      text_is (sample_plan ballots) (sample_seed number) (sample_story number ballots) (sample_draw number) (drawn number ballots few) (story_claims number ballots few)
          ∙ ap (λ version. front ++ spelling version seal) (first_version ballots),
    )
