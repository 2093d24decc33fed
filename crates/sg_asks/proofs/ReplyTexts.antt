-- A reply's pieces, put together, are the compact text of its value.
use Rattle.std.proofs.Common.{◌≡◌, ◌≢◌, ℕ, ◌+◌, ◌<◌, ◌≤◌, ◌/◌, ◌%◌, nat_le, nat_lt, Bool, true, false, List, [], ◌∷◌, ◌++◌, All, Result, Ok, Err, IfOk, codes, decimal, map, inl, inr, refl, sym, ap, ap₂, ◌∙◌, append_assoc, arith}
use Rattle.std.specs.Fmt.{digits}
use Rattle.std.specs.List.{concat}
use Rattle.std.proofs.lemmas.Bool.{agree_below_at, le-ltb, leb-true, ne_eqb}
use Rattle.std.proofs.lemmas.List.Elements.{All-head, All-tail}
use Rattle.json.specs.Print.{escape, escape_byte, quoted}
use Rattle.serde_json.specs.Data.{Data}
use Rattle.serde_json.specs.View.{items_of}
use Rattle.serde_json.specs.Written.{comma_if, compact_text, items_text}
use Rattle.sg_plan.specs.Codes.{codes_of}
use Rattle.sg_plan.specs.declared.memory.NoMemory.{NoMemory}
use Rattle.sg_plan.specs.declared.plan.ClaimWord.TheVariants.{Posted, Unposted, Absent}
use Rattle.sg_lines.specs.Words.{code_word, digit_of, sign_of}
use Rattle.sg_lines.proofs.Signs.{by_version}
use Rattle.sg_acts.specs.declared.replies.Body.{Body}
use Rattle.sg_acts.specs.declared.replies.Body.TheVariants as body
use Rattle.sg_acts.specs.declared.replies.CodeSeen.{CodeSeen}
use Rattle.sg_acts.specs.declared.replies.FateWord.{FateWord}
use Rattle.sg_acts.specs.declared.replies.FateWord.TheVariants as fate
use Rattle.sg_acts.specs.declared.replies.Phase.TheVariants as phase
use Rattle.sg_acts.specs.declared.replies.Reply.{Reply}
use Rattle.sg_acts.specs.declared.replies.Reply.TheVariants as reply
use Rattle.sg_asks.specs.Replies.{HasPlainText, HasReplyCodes, IsFrom, IsPlain, body_value, fate_word, list_of, receipt_value, reply_value, seen_value, text_of_reply, whole}
use Rattle.sg_asks.specs.inside.Pieces.{body_pieces, joined, list_text, numbers_text, reply_pieces, seen_text}

-- ---- texts without escapes

-- a byte that needs no escape
escape-none : (byte : ℕ) → 32 ≤ byte → byte ≢ 34 → byte ≢ 92 → escape_byte byte ≡ byte ∷ []
unfolding escape_byte
escape-none byte from quote back =
    let printed : nat_lt byte 32 ≡ false = le-ltb byte 32 from in
    rw (
      ne_eqb byte 34 quote,
      ne_eqb byte 92 back,
      ne_eqb byte 8 (λ is. omega arith),
      ne_eqb byte 12 (λ is. omega arith),
      ne_eqb byte 10 (λ is. omega arith),
      ne_eqb byte 13 (λ is. omega arith),
      ne_eqb byte 9 (λ is. omega arith),
      printed,
    ) refl

escape-plain_byte : (byte : ℕ) → IsPlain byte → escape_byte byte ≡ byte ∷ []
escape-plain_byte byte (inl small) = escape-none byte (omega arith) (λ is. omega arith) (λ is. omega arith)
escape-plain_byte byte (inr (inl large)) = escape-none byte (omega arith) (λ is. omega arith) (λ is. omega arith)
escape-plain_byte byte (inr (inr (inl digit))) = escape-none byte (omega arith) (λ is. omega arith) (λ is. omega arith)
escape-plain_byte byte (inr (inr (inr (inl space)))) = escape-none byte (omega arith) (λ is. omega arith) (λ is. omega arith)
escape-plain_byte byte (inr (inr (inr (inr comma)))) = escape-none byte (omega arith) (λ is. omega arith) (λ is. omega arith)

escape-plain : (text : List ℕ) → All IsPlain text → escape text ≡ text
escape-plain [] plain = refl
escape-plain (byte ∷ text) plain =
    ap₂ (λ a b. a ++ b) (escape-plain_byte byte (All-head IsPlain byte text plain)) (escape-plain text (All-tail IsPlain byte text plain))

-- a text in quotation marks, with what stands behind
quoted-by : (text rest : List ℕ) → escape text ≡ text → quoted text ++ rest ≡ 34 ∷ (text ++ 34 ∷ rest)
quoted-by text rest same = ap (λ s. 34 ∷ ((s ++ 34 ∷ []) ++ rest)) same ∙ ap (λ s. 34 ∷ s) (append_assoc text (34 ∷ []) rest)

-- ---- codes

escape-three : (a b c : ℕ) → escape_byte a ≡ a ∷ [] → escape_byte b ≡ b ∷ [] → escape_byte c ≡ c ∷ [] → escape (a ∷ b ∷ c ∷ []) ≡ a ∷ b ∷ c ∷ []
escape-three a b c first second third = ap₂ (λ s t. s ++ t) first (ap₂ (λ s t. s ++ t) second (ap (λ s. s ++ []) third))

escape-digit : (value : ℕ) → value < 10 → escape_byte (digit_of value) ≡ digit_of value ∷ []
escape-digit value fits = escape-none (48 + value) (omega arith) (λ is. omega arith) (λ is. omega arith)

sign-from : (value : ℕ) → value < 32 → IsFrom 50 90 (sign_of value)
unfolding sign_of
sign-from value fits =
    let low : nat_le 50 (sign_of value) ≡ true = agree_below_at (λ v. nat_le 50 (sign_of v)) (λ v. true) 32 value refl fits in
    let high : nat_le (sign_of value) 90 ≡ true = agree_below_at (λ v. nat_le (sign_of v) 90) (λ v. true) 32 value refl fits in
    (leb-true 50 (sign_of value) low, leb-true (sign_of value) 90 high)

sign-not_back : (value : ℕ) → value < 32 → sign_of value ≢ 92
sign-not_back value fits is = let from = sign-from value fits in omega (arith, from.1)

escape-sign : (value : ℕ) → value < 32 → escape_byte (sign_of value) ≡ sign_of value ∷ []
escape-sign value fits =
    let from = sign-from value fits in
    escape-none (sign_of value) (omega (arith, from.0)) (λ is. omega (arith, from.0)) (sign-not_back value fits)

escape-code_word : (version code : ℕ) → code < codes_of version → escape (code_word version code) ≡ code_word version code
unfolding code_word
escape-code_word version code fits =
    by_version (λ v. escape (code_word v code) ≡ code_word v code) version code fits
    (λ small. escape-three _ _ _ (escape-digit (code / 10 / 10) (omega arith)) (escape-digit (code / 10 % 10) (omega arith)) (escape-digit (code % 10) (omega arith)))
    (λ small. escape-three _ _ _ (escape-sign (code / 32 / 32) (omega arith)) (escape-sign (code / 32 % 32) (omega arith)) (escape-sign (code % 32) (omega arith)))

-- ---- lists

-- one text more
regroup : (comma text rest closed : List ℕ) → rest ++ 93 ∷ [] ≡ closed → (comma ++ text ++ rest) ++ 93 ∷ [] ≡ comma ++ (text ++ closed)
regroup comma text rest closed is = append_assoc (comma ++ text) rest (93 ∷ []) ∙ ap (λ s. (comma ++ text) ++ s) is ∙ append_assoc comma text closed

joined-items : {A : Type 0} (P : A → Type 0) (text : A → List ℕ) (value : A → Data) → ((a : A) → P a → text a ≡ compact_text (value a)) → (later : Bool) (list : List A) → All P list
    → joined later (map text list) ++ 93 ∷ [] ≡ items_text later (items_of (map value list))
joined-items P text value each later [] all = refl
joined-items P text value each later (a ∷ list) all =
    regroup (comma_if later) (text a) (joined true (map text list)) (items_text true (items_of (map value list))) (joined-items P text value each true list (All-tail P a list all))
    ∙ ap (λ s. comma_if later ++ (s ++ items_text true (items_of (map value list)))) (each a (All-head P a list all))

list-text : {A : Type 0} (P : A → Type 0) (text : A → List ℕ) (value : A → Data) → ((a : A) → P a → text a ≡ compact_text (value a)) → (list : List A) → All P list
    → list_text (map text list) ≡ compact_text (list_of value list)
list-text P text value each list all = ap (λ s. 91 ∷ s) (joined-items P text value each false list all)

-- numbers
numbers-text : (list : List ℕ) → numbers_text list ≡ compact_text (list_of whole list)
numbers-text list = list-text (λ n. Unit {0}) decimal whole (λ n any. refl) list (λ k d lt. tt)

-- lists of numbers
lists-text : (lists : List (List ℕ)) → list_text (map numbers_text lists) ≡ compact_text (list_of (list_of whole) lists)
lists-text lists = list-text (λ list. Unit {0}) numbers_text (list_of whole) (λ list any. numbers-text list) lists (λ k d lt. tt)

seen-flat : (race word : List ℕ) → 91 ∷ race ++ codes ",\"" ++ word ++ codes "\"]" ≡ 91 ∷ (race ++ 44 ∷ 34 ∷ (word ++ 34 ∷ 93 ∷ []))
seen-flat race word = simp append_assoc

-- a posted code
seen-text : (version : ℕ) (seen : CodeSeen) → seen.code < codes_of version → seen_text version seen ≡ compact_text (seen_value version seen)
seen-text version seen fits =
    seen-flat (decimal seen.race) (code_word version seen.code) ∙ ap (λ s. 91 ∷ (decimal seen.race ++ 44 ∷ s)) (sym (quoted-by (code_word version seen.code) (93 ∷ []) (escape-code_word version seen.code fits)))

-- posted codes
seens-text : (version : ℕ) (list : List CodeSeen) → All (λ seen. seen.code < codes_of version) list → list_text (map (seen_text version) list) ≡ compact_text (list_of (seen_value version) list)
seens-text version list fits = list-text (λ seen. seen.code < codes_of version) (seen_text version) (seen_value version) (seen-text version) list fits

-- ---- replies

-- a receipt, from the texts of its lists
abbrev receipt_by : ℕ → FateWord → List ℕ → List ℕ → List ℕ
receipt_by ballot fate seen over =
    concat (codes "{\"ballot\":" ∷ decimal ballot ∷ codes ",\"codes\":" ∷ seen ∷ codes ",\"fate\":\"" ∷ fate_word fate ∷ codes "\",\"over\":" ∷ over ∷ codes ",\"status\":200}" ∷ [])

receipt-text : (version ballot : ℕ) (fate : FateWord) (seen : List CodeSeen) (over : List ℕ) → All (λ seen. seen.code < codes_of version) seen
    → receipt_by ballot fate (list_text (map (seen_text version) seen)) (numbers_text over) ≡ compact_text (receipt_value version (record { ballot = ballot; fate = fate; codes = seen; over = over }))
unfolding escape_byte digits
receipt-text version ballot fate.Unused seen over fits = ap₂ (receipt_by ballot fate.Unused) (seens-text version seen fits) (numbers-text over)
receipt-text version ballot fate.Cast seen over fits = ap₂ (receipt_by ballot fate.Cast) (seens-text version seen fits) (numbers-text over)
receipt-text version ballot fate.Spoiled seen over fits = ap₂ (receipt_by ballot fate.Spoiled) (seens-text version seen fits) (numbers-text over)
receipt-text version ballot fate.Audited seen over fits = ap₂ (receipt_by ballot fate.Audited) (seens-text version seen fits) (numbers-text over)
receipt-text version ballot fate.Voided seen over fits = ap₂ (receipt_by ballot fate.Voided) (seens-text version seen fits) (numbers-text over)

-- the answer to an ask that is accepted
body-text : (version : ℕ) (body : Body) → HasReplyCodes version (reply.Done body) → concat (body_pieces version body) ≡ compact_text (body_value version body)
unfolding escape_byte digits body_pieces body_value
body-text version (body.Scanned over) fits = ap (λ s. concat (codes "{\"over\":" ∷ s ∷ codes ",\"status\":200}" ∷ [])) (numbers-text over)
body-text version body.Spoiled fits = refl
body-text version body.Voided fits = refl
body-text version (body.Audited true) fits = refl
body-text version (body.Audited false) fits = refl
body-text version body.Closed fits = refl
body-text version body.Drawn fits = refl
body-text version (body.Claimed Posted) fits = refl
body-text version (body.Claimed Unposted) fits = refl
body-text version (body.Claimed Absent) fits = refl
body-text version (body.Receipt receipt) fits = receipt-text version receipt.ballot receipt.fate receipt.codes receipt.over fits
body-text version (body.Totals totals) fits = ap (λ s. concat (codes "{\"status\":200,\"totals\":" ∷ s ∷ codes "}" ∷ [])) (lists-text totals)

-- a reply
reply-text : (version : ℕ) (reply : Reply) → HasReplyCodes version reply → HasPlainText reply → concat (reply_pieces version reply) ≡ text_of_reply version reply
unfolding escape_byte digits reply_pieces reply_value
reply-text version (reply.Done body) fits plain = body-text version body fits
reply-text version reply.Secret fits plain = refl
reply-text version reply.Ballot fits plain = refl
reply-text version (reply.Ref kept) fits plain =
    ap (λ s. codes "{\"error\":\"ref\",\"kept\":" ++ s) (sym (quoted-by kept (codes ",\"status\":409}") (escape-plain kept plain)))
reply-text version (reply.Phase phase.Voting) fits plain = refl
reply-text version (reply.Phase phase.Closed) fits plain = refl
reply-text version (reply.Phase phase.Drawn) fits plain = refl
reply-text version (reply.Fate fate.Unused) fits plain = refl
reply-text version (reply.Fate fate.Cast) fits plain = refl
reply-text version (reply.Fate fate.Spoiled) fits plain = refl
reply-text version (reply.Fate fate.Audited) fits plain = refl
reply-text version (reply.Fate fate.Voided) fits plain = refl
reply-text version reply.Full fits plain = refl
reply-text version (reply.Race at) fits plain = refl
reply-text version (reply.Candidate at) fits plain = refl
reply-text version (reply.Twice at) fits plain = refl
reply-text version (reply.Station kept) fits plain = refl
reply-text version reply.Paper fits plain = refl
reply-text version reply.Draw fits plain = refl
reply-text version reply.Memory fits plain = refl
reply-text version reply.Store fits plain = refl

-- what is put together is the reply's text
pub put_together-text : (version : ℕ) (reply : Reply) → HasReplyCodes version reply → HasPlainText reply → (result : Result (List ℕ) NoMemory) → IfOk result (λ text. text ≡ concat (reply_pieces version reply))
    → IfOk result (λ text. text ≡ text_of_reply version reply)
put_together-text version reply fits plain (Ok text) is = is ∙ reply-text version reply fits plain
put_together-text version reply fits plain (Err none) is = tt
