-- A walk over bytes is one over the lines that they spell.
use Rattle.std.proofs.Common.{◌≡◌, ℕ, ◌+◌, ◌-◌, ◌*◌, Bool, true, false, ◌&&◌, ◌==◌, nat_le, nat_lt, cond, List, [], ◌∷◌, All, length, map, Some, refl, sym, subst, ap, ◌∙◌, Option, None, is_some}
use Rattle.std.proofs.lemmas.Option.{same_Some}
use Rattle.std.proofs.lemmas.List.Elements.{All-cons, All-head, All-nil, All-tail}
use Rattle.sg_lists.proofs.Options.{cond_some-then, option_map-some}
use Rattle.sg_plan.specs.Ballots.{ballot_has, r_rows}
use Rattle.sg_plan.specs.Limits.{is_version, most_claims, most_instances, most_races, most_styles, race_head_keeps, run_keeps, style_keeps}
use Rattle.sg_plan.specs.Names.{is_name_word, is_within, name_keeps}
use Rattle.sg_plan.specs.declared.plan.Plan.{Plan}
use Rattle.sg_forms.proofs.LineLaws.{lines_are_read, lines_are_spelled}
use Rattle.sg_forms.specs.Reading.{line_of}
use Rattle.sg_forms.specs.Said.{Said}
use Rattle.sg_forms.specs.Said.Said.{Audited, Ballots, Cand, Cast, Code, CodeCommit, Dispute, DrawFull, DrawPublic, Election, Flags, Instances, Paper, Places, Race, Row, RowCommit, Seal, Spoiled, Style, Total, Version, Voided}
use Rattle.sg_forms.specs.Spelling.{IsInRange, spelling}
use Rattle.sg_grammar.proofs.Claims.{if_then-claim}
use Rattle.sg_grammar.proofs.FirstLines.{take_bytes-line, walk-first, walk-none}
use Rattle.sg_grammar.specs.Due.{due_audit, commits, race_codes, results}
use Rattle.sg_grammar.specs.Head.{Making, behind_candidate, head_line, last_candidates, made, no_plan, take_run, take_style, with_cand, with_instances, with_name, with_race, with_run, with_style, with_version}
use Rattle.sg_grammar.specs.Placed.{Placed}
use Rattle.sg_grammar.specs.Placed.Placed.{Begun, CodeAt, CodeCommitAt, Disputed, DrawnFull, DrawnPublic, FlagsAt, OfPlan, PaperAt, PlacesAt, RowAt, RowCommitAt, SealAt, TotalAt}
use Rattle.sg_grammar.specs.Walk.{Next, Taken, Walked, after_block, after_dispute, after_run, behind, body_line, first_taken, headed, in_cast, in_head, is_later, place, start, take_at, take_bytes, take_line, taking, took, walk, walked_on}
use Rattle.sg_grammar.specs.declared.state.Block.TheVariants as block
use Rattle.sg_grammar.specs.declared.state.Head.{Head}
use Rattle.sg_grammar.specs.declared.state.Head.TheVariants as head
use Rattle.sg_grammar.specs.declared.state.Part.{Part}
use Rattle.sg_grammar.specs.declared.state.Part.TheVariants as part
use Rattle.sg_grammar.specs.declared.state.Slot.{Slot}
use Rattle.sg_grammar.specs.declared.state.Slot.TheVariants as slot
use Rattle.sg_record.proofs.CastLines.{cast-other, cast_of, cast_of-is, in_cast-line, may_stand, taken_of}
use Rattle.sg_record.proofs.Filling.{AreIn}
use Rattle.sg_record.proofs.SaidWalk.{Goes}
use Rattle.sg_record.specs.Tree.{cast_place}
use Rattle.sg_record.specs.declared.record.CastLine.{CastLine}
use Rattle.sg_record.specs.declared.record.CastLine.TheVariants as cast

-- THE VERSION STAYS

-- no line stands yet
abbrev pub is_first : Head → Bool
is_first head.Version = true
is_first stage = false

-- behind a line that is not the first one the version is as before it
abbrev pub Stays : ℕ → Next → Type 0
Stays version next = (next.plan.version ≡ version) × (is_first next.head ≡ false)

abbrev pub Stay : Plan → Taken → Type 0
Stay plan taken = Stays plan.version taken.next

-- the line is none of the plan
abbrev pub IsBody : Placed → Type 0
IsBody (OfPlan said) = ⊥
IsBody line = Unit {0}

-- behind a line behind the plan the plan is as before, and whole
abbrev pub IsBehind : Plan → Taken → Type 0
IsBehind plan taken = (taken.next.plan ≡ plan) × (taken.next.head ≡ head.Whole) × IsBody taken.placed

slot-body : (first : Slot) (said : Said) (line : Placed) → place first said ≡ Some line → IsBody line
slot-body (slot.CodeCommit race entry) (CodeCommit named digest) line e = if_then-claim IsBody (named == race) (CodeCommitAt race entry digest) line (λ ok. tt) e
slot-body (slot.RowCommit race instance at) (RowCommit named of left right) line e = if_then-claim IsBody (named == race && of == instance) (RowCommitAt race instance at left right) line (λ ok. tt) e
slot-body (slot.Seal number) (Seal named digest) line e = if_then-claim IsBody (named == number) (SealAt number digest) line (λ ok. tt) e
slot-body (slot.Paper ballot race count) (Paper named list) line e = if_then-claim IsBody (named == race && length list == count) (PaperAt ballot race list) line (λ ok. tt) e
slot-body (slot.Code kind ballot race column) (Code code) line e = if_then-claim IsBody (code.race == race && code.column == column) (CodeAt kind ballot race column code) line (λ ok. tt) e
slot-body (slot.Flags race instance number count) (Flags named of bits) line e = if_then-claim IsBody ((named == race && of == instance) && length bits == count) (FlagsAt race instance (64 * number) bits) line (λ ok. tt) e
slot-body (slot.Places race number count) (Places named bits) line e = if_then-claim IsBody (named == race && length bits == count) (PlacesAt race (64 * number) bits) line (λ ok. tt) e
slot-body (slot.Total race candidate) (Total named of count) line e = if_then-claim IsBody (named == race && of == candidate) (TotalAt race candidate count) line (λ ok. tt) e
slot-body slot.Draw DrawFull line e = subst IsBody (same_Some DrawnFull line e) tt
slot-body slot.Draw (DrawPublic digits) line e = subst IsBody (same_Some (DrawnPublic digits) line e) tt
slot-body (slot.Row race instance at) (Row opening) line e = subst IsBody (same_Some (RowAt race instance at opening) line e) tt
slot-body first said line e = cc

slot-behind : (plan : Plan) (first : Slot) (due : List Slot) (may_begin : Part) (said : Said) (t : Taken) → taking plan due may_begin (place first said) ≡ Some t → IsBehind plan t
slot-behind plan first due may_begin said t e =
    let from = option_map-some (λ line. took line (behind plan due may_begin)) (place first said) t e in
    subst (IsBehind plan) from.2 (refl, refl, slot-body first said from.0 from.1)

first_taken-behind : (plan : Plan) (slots : List Slot) (said : Said) (t : Taken) → first_taken plan slots said ≡ Some t → IsBehind plan t
first_taken-behind plan [] said t e = cc
first_taken-behind plan (first ∷ due) said t e = slot-behind plan first due (part.Disputes 0) said t e

after_block-behind : (plan : Plan) (last : ℕ) (said : Said) (t : Taken) → after_block plan last said ≡ Some t → IsBehind plan t
after_block-behind plan last (Cast ballot) t e = if_then-claim (IsBehind plan) (is_later plan last ballot) (took (Begun ballot) (behind plan [] (part.Cast ballot 0 0))) t (λ ok. (refl, refl, tt)) e
after_block-behind plan last (Spoiled ballot) t e = if_then-claim (IsBehind plan) (is_later plan last ballot) (took (Begun ballot) (behind plan [] (part.Ballots ballot))) t (λ ok. (refl, refl, tt)) e
after_block-behind plan last (Audited ballot) t e =
    if_then-claim (IsBehind plan) (is_later plan last ballot) (took (Begun ballot) (behind plan (due_audit plan ballot) (part.Ballots ballot))) t (λ ok. (refl, refl, tt)) e
after_block-behind plan last (Voided ballot) t e =
    if_then-claim (IsBehind plan) (plan.version == 2 && is_later plan last ballot) (took (Begun ballot) (behind plan [] (part.Ballots ballot))) t (λ ok. (refl, refl, tt)) e
after_block-behind plan last said t e = first_taken-behind plan (results plan) said t e

cast-body : (ballot : ℕ) (line : CastLine) → IsBody (cast_place ballot line)
cast-body ballot (cast.Code code) = tt
cast-body ballot line = tt

in_cast-behind : (plan : Plan) (ballot race column : ℕ) (said : Said) (t : Taken) → in_cast plan ballot race column said ≡ Some t → IsBehind plan t
in_cast-behind plan ballot race column said t e = by_line (cast_of said) refl
  where
    by_line : (o : Option CastLine) → cast_of said ≡ o → IsBehind plan t
    by_line None is = after_block-behind plan ballot said t (sym (cast-other plan ballot race column said (ap is_some is)) ∙ e)
    by_line (Some line) is =
        if_then-claim (IsBehind plan) (may_stand plan ballot race column line) (taken_of plan ballot line) t (λ ok. (refl, refl, cast-body ballot line))
        (sym (in_cast-line plan ballot race column line) ∙ (ap (in_cast plan ballot race column) (sym (cast_of-is said line is)) ∙ e))

after_dispute-behind : (plan : Plan) (count : ℕ) (said : Said) (t : Taken) → after_dispute plan count said ≡ Some t → IsBehind plan t
after_dispute-behind plan count (Dispute ballot race code word) t e =
    if_then-claim (IsBehind plan) (nat_lt count most_claims && (nat_lt race (length plan.races) && ballot_has plan ballot race))
    (took (Disputed ballot race code word) (behind plan (race_codes plan block.Dispute ballot race) (part.Disputes (count + 1)))) t (λ ok. (refl, refl, tt)) e
after_dispute-behind plan count said t e = cc

pub body-behind : (plan : Plan) (due : List Slot) (may_begin : Part) (said : Said) (t : Taken) → body_line plan due may_begin said ≡ Some t → IsBehind plan t
body-behind plan (first ∷ due) may_begin said t e = slot-behind plan first due may_begin said t e
body-behind plan [] (part.Ballots last) said t e = after_block-behind plan last said t e
body-behind plan [] (part.Cast ballot race column) said t e = in_cast-behind plan ballot race column said t e
body-behind plan [] (part.Disputes count) said t e = after_dispute-behind plan count said t e

body-stays : (plan : Plan) (due : List Slot) (may_begin : Part) (said : Said) (t : Taken) → body_line plan due may_begin said ≡ Some t → Stay plan t
body-stays plan due may_begin said t e =
    let is = body-behind plan due may_begin said t e in
    (ap (λ (p : Plan). p.version) is.0, ap is_first is.1)

abbrev pub StaysMade : Plan → Making → Type 0
StaysMade plan making = (making.plan.version ≡ plan.version) × (is_first making.head ≡ false)

take_style-stays : (plan : Plan) (name races : List ℕ) (m : Making) → take_style plan (Style name races) ≡ Some m → StaysMade plan m
take_style-stays plan name races m e =
    if_then-claim (StaysMade plan) (nat_lt (length plan.styles) most_styles && style_keeps (length plan.races) plan.styles (record { name = name; races = races }))
    (made (with_style plan name races) head.Styles) m (λ ok. (refl, refl)) e

take_run-stays : (plan : Plan) (said : Said) (m : Making) → take_run plan said ≡ Some m → StaysMade plan m
take_run-stays plan (Ballots style count) m e =
    if_then-claim (StaysMade plan) (run_keeps (length plan.styles) plan.runs (record { style = style; count = count }) && nat_le (r_rows (with_run plan style count)) 200000)
    (made (with_run plan style count) head.Runs) m (λ ok. (refl, refl)) e
take_run-stays plan said m e = cc

pub head_line-stays : (plan : Plan) (stage : Head) (said : Said) (m : Making) → is_first stage ≡ false → head_line plan stage said ≡ Some m → StaysMade plan m
head_line-stays plan head.Version said m later e = cc
head_line-stays plan head.Election (Election name) m later e = if_then-claim (StaysMade plan) (is_name_word name) (made (with_name plan name) head.Instances) m (λ ok. (refl, refl)) e
head_line-stays plan head.Election said m later e = cc
head_line-stays plan head.Instances (Instances instances) m later e =
    if_then-claim (StaysMade plan) (is_within 1 most_instances instances) (made (with_instances plan instances) head.Races) m (λ ok. (refl, refl)) e
head_line-stays plan head.Instances said m later e = cc
head_line-stays plan head.Races (Race name candidates votes) m later e =
    if_then-claim (StaysMade plan) (nat_lt (length plan.races) most_races && race_head_keeps plan.races name candidates votes) (made (with_race plan name votes) (head.Candidates candidates)) m
    (λ ok. (refl, refl)) e
head_line-stays plan head.Races (Style name races) m later e = take_style-stays plan name races m (cond_some-then (nat_lt 0 (length plan.races)) (take_style plan (Style name races)) m e)
head_line-stays plan head.Races said m later e = cc
head_line-stays plan (head.Candidates left) (Cand name) m later e =
    if_then-claim (StaysMade plan) (name_keeps (last_candidates plan.races) name) (made (with_cand plan name) (behind_candidate left)) m (λ ok. (refl, at_last (left == 1))) e
  where
    at_last : (b : Bool) → is_first (cond b head.Races (head.Candidates (left - 1))) ≡ false
    at_last true = refl
    at_last false = refl
head_line-stays plan (head.Candidates left) said m later e = cc
head_line-stays plan head.Styles (Style name races) m later e = take_style-stays plan name races m e
head_line-stays plan head.Styles said m later e = take_run-stays plan said m e
head_line-stays plan head.Runs said m later e = take_run-stays plan said m e
head_line-stays plan head.Whole said m later e = cc

in_head-stays : (plan : Plan) (stage : Head) (said : Said) (t : Taken) → is_first stage ≡ false → in_head plan stage said ≡ Some t → Stay plan t
in_head-stays plan stage said t later e =
    let from = option_map-some (headed said) (head_line plan stage said) t e in
    subst (Stay plan) from.2 (head_line-stays plan stage said from.0 later from.1)

after_run-stays : (plan : Plan) (said : Said) (t : Taken) → after_run plan said ≡ Some t → Stay plan t
after_run-stays plan (Ballots style count) t e = in_head-stays plan head.Runs (Ballots style count) t refl e
after_run-stays plan said t e = body-stays plan (commits plan) (part.Ballots 0) said t e

take_at-stays : (plan : Plan) (stage : Head) (due : List Slot) (may_begin : Part) (said : Said) (t : Taken) → is_first stage ≡ false → take_at plan stage due may_begin said ≡ Some t → Stay plan t
take_at-stays plan head.Whole due may_begin said t later e = body-stays plan due may_begin said t e
take_at-stays plan head.Runs due may_begin said t later e = after_run-stays plan said t e
take_at-stays plan stage due may_begin said t later e = in_head-stays plan stage said t later e

pub take_line-stays : (next : Next) (said : Said) (t : Taken) → is_first next.head ≡ false → take_line next said ≡ Some t → Stay next.plan t
unfolding take_line
take_line-stays next said t later e = take_at-stays next.plan next.head next.due next.part said t later e

-- LINES AND THEIR BYTES

-- the words of each line are of their kinds
pub AreIn-from_All : (version : ℕ) (lines : List Said) → All (IsInRange version) lines → AreIn version lines
AreIn-from_All version [] all = tt
AreIn-from_All version (said ∷ lines) all =
    (All-head (IsInRange version) said lines all, AreIn-from_All version lines (All-tail (IsInRange version) said lines all))

pub All-from_AreIn : (version : ℕ) (lines : List Said) → AreIn version lines → All (IsInRange version) lines
All-from_AreIn version [] all = All-nil (IsInRange version)
All-from_AreIn version (said ∷ lines) all = All-cons (IsInRange version) said lines all.0 (All-from_AreIn version lines all.1)

-- a walk to this state
pub record WalksTo (next : Next) (lines : List (List ℕ)) (end : Next) : Type 0 where
  pub walked : Walked
  pub goes : walk next lines ≡ Some walked
  pub ends : walked.next ≡ end

-- one line, and a walk behind it
walks-on : (next : Next) (bytes : List ℕ) (said : Said) (t : Taken) (lines : List (List ℕ)) (end : Next)
    → line_of next.plan.version bytes ≡ Some said → take_line next said ≡ Some t → WalksTo t.next lines end → WalksTo next (bytes ∷ lines) end
unfolding walk take_bytes
walks-on next bytes said t lines end read taken on = record {
  walked = walked_on bytes t on.walked;
  goes = rw (read, taken, on.goes) refl;
  ends = on.ends;
}

pub said-walks : (version : ℕ) (next : Next) (lines : List Said) (end : Next) → Stays version next → AreIn version lines → Goes next lines end
    → WalksTo next (map (spelling version) lines) end
unfolding walk
said-walks version next [] end stays all goes = record { walked = record { posted = []; next = next }; goes = refl; ends = goes }
said-walks version next (said ∷ lines) end stays all goes =
    let read : line_of next.plan.version (spelling version said) ≡ Some said = ap (λ v. line_of v (spelling version said)) stays.0 ∙ lines_are_read version said all.0 in
    let on = take_line-stays next said goes.0 stays.1 goes.1 in
    walks-on next (spelling version said) said goes.0 (map (spelling version) lines) end read goes.1
    (said-walks version goes.0.next lines end (on.0 ∙ stays.0, on.1) all.1 goes.2)

-- the lines that a walk's bytes spell
pub record SaidBy (version : ℕ) (next : Next) (lines : List (List ℕ)) (end : Next) : Type 0 where
  pub said : List Said
  pub spelled : lines ≡ map (spelling version) said
  pub all : AreIn version said
  pub goes : Goes next said end

pub walk-said : (version : ℕ) (next : Next) (lines : List (List ℕ)) (w : Walked) → Stays version next → walk next lines ≡ Some w → SaidBy version next lines w.next
walk-said version next [] w stays e = record { said = []; spelled = refl; all = tt; goes = sym (walk-none next w e) }
walk-said version next (bytes ∷ lines) w stays e =
    let first = walk-first next bytes lines w e in
    let line = take_bytes-line next bytes first.taken first.first in
    let on = take_line-stays next line.0 first.taken stays.1 line.2 in
    let rest = walk-said version first.taken.next lines first.rest (on.0 ∙ stays.0, on.1) first.others in
    let spelled = lines_are_spelled version bytes line.0 (ap (λ v. line_of v bytes) (sym stays.0) ∙ line.1) in
    let same : first.rest.next ≡ w.next = ap (λ (x : Walked). x.next) first.is in
    record {
      said = line.0 ∷ rest.said;
      spelled = ap (λ b. b ∷ lines) spelled.1 ∙ ap (λ l. spelling version line.0 ∷ l) rest.spelled;
      all = (spelled.0, rest.all);
      goes = subst (λ (end : Next). Goes next (line.0 ∷ rest.said) end) same (first.taken, line.2, rest.goes);
    }

-- THE FIRST LINE

-- it is that of the version
pub record FirstLine (said : Said) (t : Taken) : Type 0 where
  pub version : ℕ
  pub is : said ≡ Version version
  pub stays : Stays version t.next

pub first_line : (said : Said) (t : Taken) → take_line start said ≡ Some t → FirstLine said t
unfolding take_line
first_line (Version version) t e =
    let from = option_map-some (headed (Version version)) (head_line no_plan head.Version (Version version)) t e in
    record {
      version = version;
      is = refl;
      stays = subst (λ (x : Taken). Stays version x.next) from.2
          (if_then-claim (λ (m : Making). (m.plan.version ≡ version) × (is_first m.head ≡ false)) (is_version version) (made (with_version no_plan version) head.Election) from.0
          (λ ok. (refl, refl)) from.1);
    }
first_line said t e = cc

-- what is walked over from the start are such lines
pub record Begins (lines : List (List ℕ)) (end : Next) : Type 0 where
  pub version : ℕ
  pub said : List Said
  pub spelled : lines ≡ map (spelling version) (Version version ∷ said)
  pub all : AreIn version (Version version ∷ said)
  pub goes : Goes start (Version version ∷ said) end

pub start-said : (bytes : List ℕ) (lines : List (List ℕ)) (w : Walked) → walk start (bytes ∷ lines) ≡ Some w → Begins (bytes ∷ lines) w.next
start-said bytes lines w e =
    let on = walk-first start bytes lines w e in
    let line = take_bytes-line start bytes on.taken on.first in
    let first = first_line line.0 on.taken line.2 in
    let rest = walk-said first.version on.taken.next lines on.rest first.stays on.others in
    let spelled = lines_are_spelled 0 bytes line.0 line.1 in
    let same : on.rest.next ≡ w.next = ap (λ (x : Walked). x.next) on.is in
    let word : bytes ≡ spelling first.version (Version first.version) = spelled.1 ∙ ap (spelling 0) first.is in
    let fit : IsInRange 0 (Version first.version) = subst (IsInRange 0) first.is spelled.0 in
    record {
      version = first.version;
      said = rest.said;
      spelled = ap (λ b. b ∷ lines) word ∙ ap (λ l. spelling first.version (Version first.version) ∷ l) rest.spelled;
      all = (fit, rest.all);
      goes = subst (λ (end : Next). Goes start (Version first.version ∷ rest.said) end) same
          (on.taken, ap (take_line start) (sym first.is) ∙ line.2, rest.goes);
    }
