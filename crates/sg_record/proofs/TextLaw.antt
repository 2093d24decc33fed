-- Different formed records have different texts.
use Rattle.std.proofs.Common.{◌≡◌, ℕ, ◌<◌, nat_lt, Bool, true, false, ◌&&◌, not, List, [], ◌∷◌, ◌++◌, All, length, map, None, refl, sym, subst, ap, ◌∙◌, arith, Option, is_some, Some}
use Rattle.std.proofs.lemmas.Bool.{and_parts, true≢false, not-true}
use Rattle.std.proofs.lemmas.List.{append_assoc}
use Rattle.std.proofs.lemmas.List.Elements.{All-head, All-tail}
use Rattle.std.specs.List.{flat_map, join_with_byte, list_all}
use Rattle.std.specs.Option.{option_map_or}
use Rattle.sg_lists.proofs.Lists.{cons_parts}
use Rattle.sg_commit.specs.declared.Digest.{Digest}
use Rattle.sg_outside.proofs.LineLemmas.{HasNoFeed-append, IsLine-append, lines_of-concat}
use Rattle.sg_outside.specs.TextLines.{AreLines, HasNoFeed, IsLine, lines_of}
use Rattle.sg_plan.specs.Ballots.{ballot_has}
use Rattle.sg_plan.specs.Limits.{fault_of}
use Rattle.sg_plan.specs.declared.plan.ClaimWord.{ClaimWord}
use Rattle.sg_plan.specs.declared.plan.Plan.{Plan}
use Rattle.sg_forms.proofs.LineLaws.{lines_differ}
use Rattle.sg_forms.proofs.Plain.{ArePlain, words_plain}
use Rattle.sg_forms.proofs.WordKinds.{IsInk}
use Rattle.sg_forms.specs.Said.{Said}
use Rattle.sg_forms.specs.Said.Said.{Code, Dispute, Version}
use Rattle.sg_forms.specs.Spelling.{IsInRange, spelling, words_of}
use Rattle.sg_forms.specs.declared.line.CodeLine.{CodeLine}
use Rattle.sg_grammar.specs.Due.{due_audit, commits, race_codes, results}
use Rattle.sg_grammar.specs.Walk.{Next, is_later, start}
use Rattle.sg_grammar.specs.declared.state.Block.TheVariants as block
use Rattle.sg_grammar.specs.declared.state.Slot.{Slot}
use Rattle.sg_record.proofs.BlockLines.{Audit, IsAudit, audit_lines, columns-spells, due_audit-spells, is_code_slot}
use Rattle.sg_record.proofs.BytesWalk.{AreIn-from_All}
use Rattle.sg_record.proofs.CastLines.{cast_of, cast_of-said}
use Rattle.sg_record.proofs.Filling.{AreIn, Fills, Fills-same, filled}
use Rattle.sg_record.proofs.FormedLaw.{formed_goes, has_form}
use Rattle.sg_record.proofs.FormedParts.{HasForm, commits_of, results_of}
use Rattle.sg_record.proofs.SaidWalk.{Goes, fitting, goes-one, is_block_line, is_other_slot, opens, results-no_code, results-some}
use Rattle.sg_record.proofs.SectionLines.{AreCommits, AreResults, Commits, Results, commits-spells, lines_of_commits, lines_of_results, results-spells}
use Rattle.sg_record.proofs.WholeLaw.{record_of, record_of-lines}
use Rattle.sg_plan.specs.Codes.{is_code}
use Rattle.sg_record.specs.Formed.{are_blocks, has_columns, is_dispute, is_fate}
use Rattle.sg_record.specs.Laws.{HasWords, TextsDiffer}
use Rattle.sg_record.specs.Lines.{lines_in, plan_lines, text_of, texts_in}
use Rattle.sg_record.specs.Places.{behind_record}
use Rattle.sg_record.specs.Tree.{as_line, block_tree, cast_said, dispute_tree, fate_tree}
use Rattle.sg_record.specs.declared.record.BallotBlock.{BallotBlock}
use Rattle.sg_record.specs.declared.record.BlockFate.{BlockFate}
use Rattle.sg_record.specs.declared.record.BlockFate.TheVariants as fate
use Rattle.sg_record.specs.declared.record.CastLine.{CastLine}
use Rattle.sg_record.specs.declared.record.DisputeBlock.{DisputeBlock}
use Rattle.sg_record.specs.declared.record.Record.{Record}

-- A TEXT AND ITS LINES

ink_no_feed : (word : List ℕ) → All IsInk word → HasNoFeed word
ink_no_feed [] ink = tt
ink_no_feed (byte ∷ word) ink =
    let first = All-head IsInk byte word ink in
    ((λ e. omega (arith, first, e)), ink_no_feed word (All-tail IsInk byte word ink))

joined_no_feed : (words : List (List ℕ)) → ArePlain words → HasNoFeed (join_with_byte 32 words)
joined_no_feed [] plain = tt
joined_no_feed (first ∷ []) plain = ink_no_feed first plain.0
joined_no_feed (first ∷ next ∷ words) plain =
    HasNoFeed-append first (32 ∷ join_with_byte 32 (next ∷ words)) (ink_no_feed first plain.0) ((λ e. omega (arith, e)), joined_no_feed (next ∷ words) plain.1)

spelled_line : (version : ℕ) (said : Said) → IsInRange version said → IsLine (spelling version said)
spelled_line version said fit = IsLine-append (join_with_byte 32 (words_of version said)) (10 ∷ []) (joined_no_feed (words_of version said) (words_plain version said fit).0) refl

pub spelled_lines : (version : ℕ) (lines : List Said) → AreIn version lines → AreLines (map (spelling version) lines)
spelled_lines version [] all = tt
spelled_lines version (said ∷ lines) all = (spelled_line version said all.0, spelled_lines version lines all.1)

-- different lines have different texts
spelled-one : (version : ℕ) (xs ys : List Said) → AreIn version xs → AreIn version ys → map (spelling version) xs ≡ map (spelling version) ys → xs ≡ ys
spelled-one version [] [] p q same = refl
spelled-one version [] (y ∷ ys) p q same = cc
spelled-one version (x ∷ xs) [] p q same = cc
spelled-one version (x ∷ xs) (y ∷ ys) p q same =
    let parts = cons_parts same in
    ap (λ s. s ∷ xs) (lines_differ version x y p.0 q.0 parts.0) ∙ ap (λ l. y ∷ l) (spelled-one version xs ys p.1 q.1 parts.1)

-- records with the same text have the same version and the same lines
same_lines : (a b : Record) → HasWords a → HasWords b → text_of a ≡ text_of b → lines_in a ≡ lines_in b
unfolding text_of
same_lines a b some more same =
    let here = AreIn-from_All a.plan.version (lines_in a) some in
    let there = AreIn-from_All b.plan.version (lines_in b) more in
    let texts : texts_in a ≡ texts_in b
    = sym (lines_of-concat (texts_in a) (spelled_lines a.plan.version (lines_in a) here))
    ∙ (ap lines_of same ∙ lines_of-concat (texts_in b) (spelled_lines b.plan.version (lines_in b) there)) in
    let first = cons_parts texts in
    let said : Version a.plan.version ≡ Version b.plan.version = lines_differ 0 (Version a.plan.version) (Version b.plan.version) here.0 there.0 first.0 in
    let version : b.plan.version ≡ a.plan.version = cc in
    spelled-one a.plan.version (lines_in a) (lines_in b) here (subst (λ (v : ℕ). AreIn v (lines_in b)) version there)
    (texts ∙ ap (λ v. map (spelling v) (lines_in b)) version)

-- BALLOTS

-- there is a line, and it belongs to no ballot's block
abbrev closes : List Said → Bool
closes [] = false
closes (said ∷ lines) = not (is_some (cast_of said)) && not (is_block_line said)

closes-opens : (lines : List Said) → closes lines ≡ true → opens lines ≡ true
closes-opens [] end = cc
closes-opens (said ∷ lines) end = (and_parts (not (is_some (cast_of said))) (not (is_block_line said)) end).0

-- the results do
results-close : (plan : Plan) (lines rest : List Said) → Fills (results plan) lines → closes (lines ++ rest) ≡ true
results-close plan lines rest fills = from (results plan) lines (results-some plan) (results-no_code plan) fills
  where
    from : (slots : List Slot) (front : List Said) → 0 < length slots → list_all is_other_slot slots ≡ true → Fills slots front → closes (front ++ rest) ≡ true
    from [] front some other filled = absurd (omega arith)
    from (first ∷ due) [] some other filled = absurd filled
    from (first ∷ due) (said ∷ front) some other filled =
        let tests = and_parts (is_other_slot first) (list_all is_other_slot due) other in
        rw ((fitting first said filled.0).no_cast (not-true (is_code_slot first) tests.0), (fitting first said filled.0).no_block) refl

-- a block does not, and it opens
block-opens : (plan : Plan) (ballot : ℕ) (what : BlockFate) (rest : List Said) → (closes (fate_tree as_line plan ballot what ++ rest) ≡ false) × (opens (fate_tree as_line plan ballot what ++ rest) ≡ true)
block-opens plan ballot (fate.Cast lines) rest = (refl, refl)
block-opens plan ballot fate.Spoiled rest = (refl, refl)
block-opens plan ballot (fate.Audited papers codes) rest = (refl, refl)
block-opens plan ballot fate.Voided rest = (refl, refl)

blocks-open : (plan : Plan) (blocks : List BallotBlock) (rest : List Said) → closes rest ≡ true → opens (flat_map (block_tree as_line plan) blocks ++ rest) ≡ true
blocks-open plan [] rest end = closes-opens rest end
blocks-open plan (one ∷ blocks) rest end =
    ap opens (append_assoc (block_tree as_line plan one) (flat_map (block_tree as_line plan) blocks) rest) ∙ (block-opens plan one.ballot one.fate (flat_map (block_tree as_line plan) blocks ++ rest)).1

-- the lines of a cast ballot at the front, and what follows
cast_in : List Said → List CastLine
cast_in [] = []
cast_in (said ∷ lines) = option_map_or (λ line. line ∷ cast_in lines) (cast_of said) []

behind_in : List Said → List Said
behind_in [] = []
behind_in (said ∷ lines) = option_map_or (λ line. behind_in lines) (cast_of said) (said ∷ lines)

reads-none : (rest : List Said) → opens rest ≡ true → (cast_in rest ≡ []) × (behind_in rest ≡ rest)
unfolding cast_in behind_in
reads-none [] end = cc
reads-none (said ∷ rest) end = by_line (cast_of said) refl (not-true (is_some (cast_of said)) end)
  where
    by_line : (o : Option CastLine) → cast_of said ≡ o → is_some o ≡ false → (cast_in (said ∷ rest) ≡ []) × (behind_in (said ∷ rest) ≡ said ∷ rest)
    by_line None e none = rw e (refl, refl)
    by_line (Some line) e none = cc

reads-cast : (lines : List CastLine) (rest : List Said) → opens rest ≡ true → (cast_in (map cast_said lines ++ rest) ≡ lines) × (behind_in (map cast_said lines ++ rest) ≡ rest)
unfolding cast_in behind_in
reads-cast [] rest end = reads-none rest end
reads-cast (line ∷ lines) rest end =
    let on = reads-cast lines rest end in
    rw (cast_of-said line) (ap (λ l. line ∷ l) on.0, on.1)

cast-one : (xs ys : List CastLine) (c d : List Said) → opens c ≡ true → opens d ≡ true → map cast_said xs ++ c ≡ map cast_said ys ++ d → (xs ≡ ys) × (c ≡ d)
cast-one xs ys c d one two same =
    let here = reads-cast xs c one in
    let there = reads-cast ys d two in
    (sym here.0 ∙ (ap cast_in same ∙ there.0), sym here.1 ∙ (ap behind_in same ∙ there.1))

-- the block of an audited ballot
due_audit-one : (plan : Plan) (ballot : ℕ) (x y : Audit) (c d : List Said) → fault_of plan ≡ None → IsAudit plan ballot x → IsAudit plan ballot y
    → audit_lines plan ballot x ++ c ≡ audit_lines plan ballot y ++ d → (x ≡ y) × (c ≡ d)
due_audit-one plan ballot x y c d fine p q same =
    let spells = due_audit-spells plan ballot fine in
    let parts = Fills-same (due_audit plan ballot) (audit_lines plan ballot x) (audit_lines plan ballot y) c d (filled spells x p) (filled spells y q) same in
    (spells.one x y p q parts.0, parts.1)

-- two blocks at the front are one
pub record SameBlock (a b : ℕ) (x y : BlockFate) (c d : List Said) : Type 0 where
  pub ballot : a ≡ b
  pub what : x ≡ y
  pub rest : c ≡ d

fates-one : (plan : Plan) (a b : ℕ) (x y : BlockFate) (c d : List Said) → fault_of plan ≡ None → is_fate plan a x ≡ true → is_fate plan b y ≡ true → opens c ≡ true → opens d ≡ true
    → fate_tree as_line plan a x ++ c ≡ fate_tree as_line plan b y ++ d → SameBlock a b x y c d
fates-one plan a b (fate.Cast xs) (fate.Cast ys) c d fine p q one two same =
    let parts = cons_parts same in
    let ballot : a ≡ b = let first = parts.0 in cc in
    let others = cast-one xs ys c d one two parts.1 in
    record { ballot = ballot; what = ap fate.Cast others.0; rest = others.1 }
fates-one plan a b fate.Spoiled fate.Spoiled c d fine p q one two same = record { ballot = cc; what = refl; rest = cc }
fates-one plan a b (fate.Audited xs vs) (fate.Audited ys ws) c d fine p q one two same =
    let parts = cons_parts same in
    let ballot : a ≡ b = let first = parts.0 in cc in
    let here = and_parts _ _ p in
    let there = and_parts _ _ q in
    let is_b : IsAudit plan b (ys, ws) = (there.0, there.1) in
    let is_a : IsAudit plan a (ys, ws) = subst (λ (n : ℕ). IsAudit plan n (ys, ws)) (sym ballot) is_b in
    let others = due_audit-one plan a (xs, vs) (ys, ws) c d fine (here.0, here.1) is_a (parts.1 ∙ ap (λ n. audit_lines plan n (ys, ws) ++ d) (sym ballot)) in
    record { ballot = ballot; what = ap (λ (z : Audit). fate.Audited z.0 z.1) others.0; rest = others.1 }
fates-one plan a b fate.Voided fate.Voided c d fine p q one two same = record { ballot = cc; what = refl; rest = cc }
fates-one plan a b x y c d fine p q one two same = cc

blocks-one : (plan : Plan) (last other : ℕ) (xs ys : List BallotBlock) (c d : List Said) → fault_of plan ≡ None → are_blocks plan last xs ≡ true → are_blocks plan other ys ≡ true
    → closes c ≡ true → closes d ≡ true → flat_map (block_tree as_line plan) xs ++ c ≡ flat_map (block_tree as_line plan) ys ++ d → (xs ≡ ys) × (c ≡ d)
blocks-one plan last other [] [] c d fine p q one two same = (refl, same)
blocks-one plan last other [] (y ∷ ys) c d fine p q one two same =
    let back = append_assoc (block_tree as_line plan y) (flat_map (block_tree as_line plan) ys) d in
    absurd (true≢false (sym one ∙ (ap closes (same ∙ back) ∙ (block-opens plan y.ballot y.fate (flat_map (block_tree as_line plan) ys ++ d)).0)))
blocks-one plan last other (x ∷ xs) [] c d fine p q one two same =
    let back = append_assoc (block_tree as_line plan x) (flat_map (block_tree as_line plan) xs) c in
    absurd (true≢false (sym two ∙ (ap closes (sym same ∙ back) ∙ (block-opens plan x.ballot x.fate (flat_map (block_tree as_line plan) xs ++ c)).0)))
blocks-one plan last other (x ∷ xs) (y ∷ ys) c d fine p q one two same =
    let here = and_parts (is_later plan last x.ballot && is_fate plan x.ballot x.fate) (are_blocks plan x.ballot xs) p in
    let there = and_parts (is_later plan other y.ballot && is_fate plan y.ballot y.fate) (are_blocks plan y.ballot ys) q in
    let first = fates-one plan x.ballot y.ballot x.fate y.fate (flat_map (block_tree as_line plan) xs ++ c) (flat_map (block_tree as_line plan) ys ++ d) fine
    (and_parts (is_later plan last x.ballot) (is_fate plan x.ballot x.fate) here.0).1 (and_parts (is_later plan other y.ballot) (is_fate plan y.ballot y.fate) there.0).1
    (blocks-open plan xs c one) (blocks-open plan ys d two)
    (sym (append_assoc (block_tree as_line plan x) (flat_map (block_tree as_line plan) xs) c) ∙ (same ∙ append_assoc (block_tree as_line plan y) (flat_map (block_tree as_line plan) ys) d)) in
    let rest = blocks-one plan x.ballot y.ballot xs ys c d fine here.1 there.1 one two first.rest in
    let ballots : x ≡ y
    = ap (λ (n : ℕ). let it : BallotBlock = record { ballot = n; fate = x.fate } in it) first.ballot
    ∙ ap (λ (f : BlockFate). let it : BallotBlock = record { ballot = y.ballot; fate = f } in it) first.what in
    (ap (λ z. z ∷ xs) ballots ∙ ap (λ l. y ∷ l) rest.0, rest.1)

-- DISPUTES

dispute-same : (x y : DisputeBlock) → x.ballot ≡ y.ballot → x.race ≡ y.race → x.code ≡ y.code → x.word ≡ y.word → x.codes ≡ y.codes → x ≡ y
dispute-same x y ballot race code word codes =
    ap (λ (n : ℕ). let it : DisputeBlock = record x { ballot = n } in it) ballot
    ∙ (ap (λ (n : ℕ). let it : DisputeBlock = record { ballot = y.ballot; race = n; code = x.code; word = x.word; codes = x.codes } in it) race
    ∙ (ap (λ (n : ℕ). let it : DisputeBlock = record { ballot = y.ballot; race = y.race; code = n; word = x.word; codes = x.codes } in it) code
    ∙ (ap (λ (w : ClaimWord). let it : DisputeBlock = record { ballot = y.ballot; race = y.race; code = y.code; word = w; codes = x.codes } in it) word
    ∙ ap (λ (l : List CodeLine). let it : DisputeBlock = record { ballot = y.ballot; race = y.race; code = y.code; word = y.word; codes = l } in it) codes)))

disputes-one : (plan : Plan) (xs ys : List DisputeBlock) → list_all (is_dispute plan) xs ≡ true → list_all (is_dispute plan) ys ≡ true
    → flat_map (dispute_tree as_line) xs ≡ flat_map (dispute_tree as_line) ys → xs ≡ ys
disputes-one plan [] [] p q same = refl
disputes-one plan [] (y ∷ ys) p q same = cc
disputes-one plan (x ∷ xs) [] p q same = cc
disputes-one plan (x ∷ xs) (y ∷ ys) p q same =
    let parts = cons_parts same in
    let fields = said_parts x.ballot y.ballot x.race y.race x.code y.code x.word y.word parts.0 in
    let here = and_parts (is_dispute plan x) (list_all (is_dispute plan) xs) p in
    let there = and_parts (is_dispute plan y) (list_all (is_dispute plan) ys) q in
    let codes_x = (and_parts ((nat_lt x.race (length plan.races) && ballot_has plan x.ballot x.race) && is_code plan x.code) (has_columns plan x.race x.codes) here.0).1 in
    let codes_y = (and_parts ((nat_lt y.race (length plan.races) && ballot_has plan y.ballot y.race) && is_code plan y.code) (has_columns plan y.race y.codes) there.0).1 in
    let too = subst (λ (r : ℕ). has_columns plan r y.codes ≡ true) (sym fields.1) codes_y in
    let spells = columns-spells plan block.Dispute x.ballot x.race in
    let others = Fills-same (race_codes plan block.Dispute x.ballot x.race) (map Code x.codes) (map Code y.codes) (flat_map (dispute_tree as_line) xs) (flat_map (dispute_tree as_line) ys)
    (filled spells x.codes codes_x) (filled spells y.codes too) parts.1 in
    let first : x ≡ y = dispute-same x y fields.0 fields.1 fields.2 fields.3 (spells.one x.codes y.codes codes_x too others.0) in
    ap (λ z. z ∷ xs) first ∙ ap (λ l. y ∷ l) (disputes-one plan xs ys here.1 there.1 others.1)
  where
    said_parts : (a b c d e f : ℕ) (v w : ClaimWord) → Dispute a c e v ≡ Dispute b d f w → (a ≡ b) × (c ≡ d) × (e ≡ f) × (v ≡ w)
    said_parts a b c d e f v w both = (cc, cc, cc, cc)

-- THE WHOLE

-- lists with the same front
front-one : (front xs ys : List Said) → front ++ xs ≡ front ++ ys → xs ≡ ys
front-one [] xs ys same = same
front-one (said ∷ front) xs ys same = front-one front xs ys (cons_parts same).1

-- the parts of a formed record whose plan this is
pub record PartsOf (plan : Plan) (posted : Record) : Type 0 where
  pub commits : Commits
  pub blocks : List BallotBlock
  pub results : Results
  pub disputes : List DisputeBlock
  pub is : posted ≡ record_of plan commits blocks results disputes
  pub fine : fault_of plan ≡ None
  pub are_commits : AreCommits plan commits
  pub are_ballots : are_blocks plan 0 blocks ≡ true
  pub are_results : AreResults plan.version plan results
  pub are_disputes : list_all (is_dispute plan) disputes ≡ true

parts-of : (posted : Record) → HasForm posted → PartsOf posted.plan posted
parts-of posted form =
    let is = form.is in
    record {
      commits = commits_of posted form.first;
      blocks = posted.ballots;
      results = results_of posted form.second form.third;
      disputes = posted.disputes;
      is = ap (λ (seals : List Digest). let it : Record = record posted { seals = seals } in it) is.seals;
      fine = is.fine;
      are_commits = is.commits;
      are_ballots = is.blocks;
      are_results = is.results;
      are_disputes = is.disputes;
    }

-- records of the same plan and the same lines are one
parts-one : (plan : Plan) (a b : Record) → PartsOf plan a → PartsOf plan b → lines_in a ≡ lines_in b → a ≡ b
parts-one plan a b p q same =
    let whole = sym (record_of-lines plan p.commits p.blocks p.results p.disputes) ∙ (ap lines_in (sym p.is) ∙ (same ∙ (ap lines_in q.is ∙ record_of-lines plan q.commits q.blocks q.results q.disputes))) in
    let behind_plan = front-one (plan_lines plan) _ _ whole in
    let of_commits = commits-spells plan.version plan in
    let one = Fills-same (commits plan) (lines_of_commits p.commits) (lines_of_commits q.commits) _ _ (filled of_commits p.commits p.are_commits) (filled of_commits q.commits q.are_commits) behind_plan in
    let of_results = results-spells plan.version plan in
    let fills = filled of_results p.results p.are_results in
    let too = filled of_results q.results q.are_results in
    let two = blocks-one plan 0 0 p.blocks q.blocks (lines_of_results plan p.results ++ flat_map (dispute_tree as_line) p.disputes) (lines_of_results plan q.results ++ flat_map (dispute_tree as_line) q.disputes)
    p.fine p.are_ballots q.are_ballots (results-close plan (lines_of_results plan p.results) (flat_map (dispute_tree as_line) p.disputes) fills)
    (results-close plan (lines_of_results plan q.results) (flat_map (dispute_tree as_line) q.disputes) too) one.1 in
    let three = Fills-same (results plan) (lines_of_results plan p.results) (lines_of_results plan q.results) (flat_map (dispute_tree as_line) p.disputes) (flat_map (dispute_tree as_line) q.disputes) fills too two.1 in
    let commits_same : p.commits ≡ q.commits = of_commits.one p.commits q.commits p.are_commits q.are_commits one.0 in
    let results_same : p.results ≡ q.results = of_results.one p.results q.results p.are_results q.are_results three.0 in
    let disputes_same : p.disputes ≡ q.disputes = disputes-one plan p.disputes q.disputes p.are_disputes q.are_disputes three.1 in
    p.is
    ∙ (ap (λ (c : Commits). record_of plan c p.blocks p.results p.disputes) commits_same
    ∙ (ap (λ (l : List BallotBlock). record_of plan q.commits l p.results p.disputes) two.0
    ∙ (ap (λ (r : Results). record_of plan q.commits q.blocks r p.disputes) results_same
    ∙ (ap (λ (l : List DisputeBlock). record_of plan q.commits q.blocks q.results l) disputes_same ∙ sym q.is))))

-- formed records with the same lines are one
pub lines-one : (a b : Record) → HasForm a → HasForm b → lines_in a ≡ lines_in b → a ≡ b
lines-one a b p q same =
    let here = formed_goes a p.first p.second p.third p.is in
    let there = formed_goes b q.first q.second q.third q.is in
    let ends : behind_record b ≡ behind_record a = goes-one start (behind_record b) (behind_record a) (lines_in b) there (subst (λ (l : List Said). Goes start l (behind_record a)) same here) in
    let plans : b.plan ≡ a.plan = ap (λ (n : Next). n.plan) ends in
    parts-one a.plan a b (parts-of a p) (subst (λ (plan : Plan). PartsOf plan b) plans (parts-of b q)) same

pub texts_differ : TextsDiffer
texts_differ a b some more p q same = lines-one a b (has_form a some p) (has_form b more q) (same_lines a b some more same)
