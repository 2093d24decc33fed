-- The office's answers from what it keeps, where the calls' contracts speak of histories.
use Rattle.std.specs.Prelude.{◌≡◌, ℕ, ◌-◌, ◌==◌, if◌then◌else◌, true, List, length, map, slice_get, Option, None}
use Rattle.std.specs.Option.{IfSome, option_map_or}
use Rattle.sg_plan.specs.Ballots.{ballot_has}
use Rattle.sg_plan.specs.declared.plan.Fate.{Fate}
use Rattle.sg_plan.specs.declared.plan.Fate.TheVariants as fate
use Rattle.sg_plan.specs.declared.plan.Plan.{Plan}
use Rattle.sg_acts.specs.declared.asks.Act.{Act}
use Rattle.sg_acts.specs.declared.asks.Act.TheVariants as act
use Rattle.sg_acts.specs.declared.replies.FateWord.{FateWord}
use Rattle.sg_acts.specs.declared.replies.FateWord.TheVariants as word
use Rattle.sg_acts.specs.declared.replies.Reply.{Reply}
use Rattle.sg_post.specs.declared.story.Story.{Story}
use Rattle.sg_histories.specs.declared.kept.Kept.{Kept}
use Rattle.sg_histories.specs.declared.kept.Slot.{Slot}
use Rattle.sg_histories.specs.Answers.{audit_refusal, claim_refusal, close_refusal, draw_refusal, early_refusal, is_ballot, scan_refusal, totals_of, void_refusal}
use Rattle.sg_histories.specs.Histories.{fate_word, phase_word}
use Rattle.sg_histories.specs.Stories.{answered, told_fates}

-- SLOTS

-- the slot of a ballot: ballots are numbered from 1
abbrev pub slot_at : List Slot → ℕ → Option Slot
slot_at slots ballot = (if ballot == 0 then None else slice_get slots (ballot - 1))

-- the fate that is kept of a ballot
abbrev pub fate_at : List Slot → ℕ → Fate
fate_at slots ballot = option_map_or (λ slot. slot.fate) (slot_at slots ballot) fate.Unused

-- and without its details
abbrev pub word_at : List Slot → ℕ → FateWord
word_at slots ballot = option_map_or (λ slot. fate_word slot.fate) (slot_at slots ballot) word.Unused

-- the station that is kept of a ballot
abbrev pub scanner_at : List Slot → ℕ → ℕ
scanner_at slots ballot = option_map_or (λ slot. slot.station) (slot_at slots ballot) 0

-- REFUSALS

-- why a station's new act is refused
abbrev pub refusal_now : Kept → ℕ → Act → Option Reply
refusal_now kept station (act.Scan ballot marks) = scan_refusal kept.setup.plan (phase_word kept.stage) (word_at kept.slots ballot) ballot marks
refusal_now kept station (act.Spoil ballot) = early_refusal kept.setup.plan (phase_word kept.stage) (word_at kept.slots ballot) ballot
refusal_now kept station (act.Audit ballot paper) = audit_refusal kept.setup.plan (phase_word kept.stage) (word_at kept.slots ballot) ballot paper
refusal_now kept station act.Close = close_refusal (phase_word kept.stage)
refusal_now kept station (act.Draw drawn) = draw_refusal (phase_word kept.stage) drawn
refusal_now kept station (act.Claim ballot race code) = claim_refusal kept.setup.plan (phase_word kept.stage) (length kept.claims) ballot race
refusal_now kept station (act.Void ballot) = void_refusal kept.setup.plan (phase_word kept.stage) (word_at kept.slots ballot) (scanner_at kept.slots ballot) station ballot

-- BODIES

-- a claim is of a race of a ballot of the plan
abbrev pub FitsBody : Plan → Act → Type 0
FitsBody plan (act.Claim ballot race code) = (is_ballot plan ballot ≡ true) × (ballot_has plan ballot race ≡ true)
FitsBody plan (act.Scan ballot marks) = Unit {0}
FitsBody plan (act.Spoil ballot) = Unit {0}
FitsBody plan (act.Audit ballot paper) = Unit {0}
FitsBody plan act.Close = Unit {0}
FitsBody plan (act.Draw drawn) = Unit {0}
FitsBody plan (act.Void ballot) = Unit {0}

-- STORIES

-- what the office tells
abbrev pub story_now : Kept → Story
story_now kept = record {
  fates = told_fates kept.setup.plan (fate_at kept.slots);
  stage = kept.stage;
  claims = map (answered kept.setup.plan kept.setup.seed.0 (fate_at kept.slots)) kept.claims;
}

-- TOTALS

-- totals that an office has counted are those of the fates that it keeps
abbrev pub AreTotals : Plan → List ℕ → List Slot → Option (List (List ℕ)) → Type 0
AreTotals plan seed slots totals = IfSome totals (λ counted. counted ≡ totals_of plan seed (fate_at slots))
