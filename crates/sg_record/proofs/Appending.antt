-- A list of lists that grows in its place, and a list whose last item is changed: taken out, changed and put back.
use Rattle.std.proofs.Common.{◌≡◌, ◌≢◌, ℕ, zero, suc, ◌+◌, ◌-◌, ◌≤◌, List, [], ◌∷◌, ◌++◌, length, get_or, replicate, slice_get, slice_set, Some, refl, sym, ap, ◌∙◌, arith}
use Rattle.std.proofs.lemmas.List.{replicate-append-replicate, set-set, set_past}
use Rattle.std.proofs.lemmas.Option.{get_or_from_slice_get}
use Rattle.sg_forms.specs.declared.line.CodeLine.{CodeLine}
use Rattle.sg_record.specs.inside.Gathering.{append_at, append_in, dispute_with, last_with}
use Rattle.sg_record.specs.declared.record.BallotBlock.{BallotBlock}
use Rattle.sg_record.specs.declared.record.BlockFate.{BlockFate}
use Rattle.sg_record.specs.declared.record.DisputeBlock.{DisputeBlock}

-- a list that was taken out, grew, and was put back
pub put_back : {A : Type 0} (lists out back : List (List A)) (at : ℕ) (list items grown : List A) → slice_get lists at ≡ Some list → out ≡ slice_set lists at []
    → grown ≡ list ++ items → back ≡ slice_set out at grown → back ≡ append_at lists at items
put_back lists out back at list items grown was taken grew put =
    let here : get_or lists at [] ≡ list = get_or_from_slice_get lists at list [] was in
    let whole : grown ≡ get_or lists at [] ++ items = grew ∙ ap (λ l. l ++ items) (sym here) in
    put ∙ (ap (λ l. slice_set l at grown) taken ∙ (set-set lists at [] grown ∙ ap (slice_set lists at) whole))

-- the lists of a race that were taken out, grew in an instance, and were put back
pub race_put_back : {A : Type 0} (lists out back : List (List (List A))) (race instance : ℕ) (list grown : List (List A)) (items : List A) → slice_get lists race ≡ Some list
    → out ≡ slice_set lists race [] → grown ≡ append_at list instance items → back ≡ slice_set out race grown → back ≡ append_in lists race instance items
race_put_back lists out back race instance list grown items was taken grew put =
    let here : get_or lists race [] ≡ list = get_or_from_slice_get lists race list [] was in
    let whole : grown ≡ append_at (get_or lists race []) instance items = grew ∙ ap (λ l. append_at l instance items) (sym here) in
    put ∙ (ap (λ l. slice_set l race grown) taken ∙ (set-set lists race [] grown ∙ ap (slice_set lists race) whole))

-- one more of the same
pub one_more : {A : Type 0} (x : A) (count : ℕ) (items grown : List A) → items ≡ replicate count x → grown ≡ items ++ x ∷ [] → grown ≡ replicate (count + 1) x
one_more x count items grown are grew = grew ∙ (ap (λ l. l ++ x ∷ []) are ∙ replicate-append-replicate count 1 x)

-- a place that a list does not have takes nothing
pub no_list : {A : Type 0} (lists : List (List A)) (at : ℕ) (items : List A) → length lists ≤ at → lists ≡ append_at lists at items
no_list lists at items past = sym (set_past lists at (get_or lists at [] ++ items) past)

pub no_table : {A : Type 0} (lists : List (List (List A))) (race instance : ℕ) (items : List A) → length lists ≤ race → lists ≡ append_in lists race instance items
no_table lists race instance items past = sym (set_past lists race (append_at (get_or lists race []) instance items) past)

-- the number of the last item
last_at : (count size : ℕ) → count ≡ size → count ≢ 0 → (count - 1) + 1 ≡ size
last_at zero size is some = absurd (some refl)
last_at (suc count) size is some = omega (arith, is)

-- the last block in its place
last_set : (change : BlockFate → BlockFate) (blocks : List BallotBlock) (at : ℕ) (one : BallotBlock) → at + 1 ≡ length blocks → slice_get blocks at ≡ Some one
    → slice_set blocks at (record one { fate = change one.fate }) ≡ last_with change blocks
last_set change [] at one many was = absurd (omega (arith, many))
last_set change (first ∷ []) zero one many was = let same : one ≡ first = cc in ap (λ (b : BallotBlock). let it : BallotBlock = record b { fate = change b.fate } in it ∷ []) same
last_set change (first ∷ []) (suc at) one many was = absurd (omega (arith, many))
last_set change (first ∷ second ∷ blocks) zero one many was = absurd (omega (arith, many))
last_set change (first ∷ second ∷ blocks) (suc at) one many was = ap (λ l. first ∷ l) (last_set change (second ∷ blocks) at one (omega (arith, many)) was)

-- the last block that was taken out, changed, and put back
last_put_back : (change : BlockFate → BlockFate) (blocks out back : List BallotBlock) (at : ℕ) (one other : BallotBlock) (what : BlockFate) → at + 1 ≡ length blocks → slice_get blocks at ≡ Some one
    → out ≡ slice_set blocks at other → what ≡ change one.fate → back ≡ slice_set out at (record { ballot = one.ballot; fate = what }) → back ≡ last_with change blocks
last_put_back change blocks out back at one other what many was taken is put =
    put
    ∙ (ap (λ l. slice_set l at (record { ballot = one.ballot; fate = what })) taken
    ∙ (set-set blocks at other (record { ballot = one.ballot; fate = what })
    ∙ (ap (λ (f : BlockFate). let it : BallotBlock = record { ballot = one.ballot; fate = f } in slice_set blocks at it) is ∙ last_set change blocks at one many was)))

-- the same of the block at the end
pub block_put_back : (change : BlockFate → BlockFate) (blocks out back : List BallotBlock) (count : ℕ) (one other : BallotBlock) (what : BlockFate) → count ≡ length blocks → count ≢ 0
    → slice_get blocks (count - 1) ≡ Some one → out ≡ slice_set blocks (count - 1) other → what ≡ change one.fate
    → back ≡ slice_set out (count - 1) (record { ballot = one.ballot; fate = what }) → back ≡ last_with change blocks
block_put_back change blocks out back count one other what many some was taken is put =
    last_put_back change blocks out back (count - 1) one other what (last_at count (length blocks) many some) was taken is put

-- no block is there to be changed
pub last-none : (change : BlockFate → BlockFate) (blocks : List BallotBlock) → length blocks ≡ 0 → blocks ≡ last_with change blocks
last-none change [] none = refl
last-none change (one ∷ blocks) none = absurd (omega (arith, none))

-- the last dispute in its place
dispute_set : (code : CodeLine) (blocks : List DisputeBlock) (at : ℕ) (one : DisputeBlock) → at + 1 ≡ length blocks → slice_get blocks at ≡ Some one
    → slice_set blocks at (record one { codes = one.codes ++ code ∷ [] }) ≡ dispute_with code blocks
dispute_set code [] at one many was = absurd (omega (arith, many))
dispute_set code (first ∷ []) zero one many was = let same : one ≡ first = cc in ap (λ (b : DisputeBlock). let it : DisputeBlock = record b { codes = b.codes ++ code ∷ [] } in it ∷ []) same
dispute_set code (first ∷ []) (suc at) one many was = absurd (omega (arith, many))
dispute_set code (first ∷ second ∷ blocks) zero one many was = absurd (omega (arith, many))
dispute_set code (first ∷ second ∷ blocks) (suc at) one many was = ap (λ l. first ∷ l) (dispute_set code (second ∷ blocks) at one (omega (arith, many)) was)

-- the last dispute that was taken out, got a code, and was put back
pub dispute_put_back : (code : CodeLine) (blocks out back : List DisputeBlock) (count : ℕ) (one other : DisputeBlock) (codes : List CodeLine) → count ≡ length blocks → count ≢ 0
    → slice_get blocks (count - 1) ≡ Some one → out ≡ slice_set blocks (count - 1) other → codes ≡ one.codes ++ code ∷ []
    → back ≡ slice_set out (count - 1) (record { ballot = one.ballot; race = one.race; code = one.code; word = one.word; codes = codes }) → back ≡ dispute_with code blocks
dispute_put_back code blocks out back count one other codes many some was taken is put =
    let new : List CodeLine → DisputeBlock = λ l. record { ballot = one.ballot; race = one.race; code = one.code; word = one.word; codes = l } in
    put
    ∙ (ap (λ l. slice_set l (count - 1) (new codes)) taken
    ∙ (set-set blocks (count - 1) other (new codes) ∙ (ap (λ l. slice_set blocks (count - 1) (new l)) is ∙ dispute_set code blocks (count - 1) one (last_at count (length blocks) many some) was)))

-- no dispute is there to be changed
pub dispute-none : (code : CodeLine) (blocks : List DisputeBlock) → length blocks ≡ 0 → blocks ≡ dispute_with code blocks
dispute-none code [] none = refl
dispute-none code (one ∷ blocks) none = absurd (omega (arith, none))

pub ruleset appending = (one_more, put_back, race_put_back, no_list, no_table)

pub ruleset changing = (last-none, dispute-none)
