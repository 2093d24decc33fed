-- The JSON value of a reply. Its members stand in rising order of their names, and its text is the value's compact text.
use Rattle.std.specs.Prelude.{◌≡◌, ◌⊎◌, ℕ, ◌<◌, ◌≤◌, List, [], ◌∷◌, All, map, codes}
use Rattle.sg_plan.specs.Limits.{most_claims}
use Rattle.serde_json.specs.Data.{Data, unsigned, boolean, number, string, array, object, Members, no_members, member}
use Rattle.serde_json.specs.View.{items_of}
use Rattle.serde_json.specs.Written.{compact_text}
use Rattle.sg_plan.specs.Codes.{codes_of}
use Rattle.sg_lines.specs.Words.{code_word}
use Rattle.sg_forms.specs.Spelling.{claim_word}
use Rattle.sg_acts.specs.declared.replies.Body.{Body}
use Rattle.sg_acts.specs.declared.replies.Body.TheVariants as body
use Rattle.sg_acts.specs.declared.replies.CodeSeen.{CodeSeen}
use Rattle.sg_acts.specs.declared.replies.FateWord.{FateWord}
use Rattle.sg_acts.specs.declared.replies.FateWord.TheVariants as fate
use Rattle.sg_acts.specs.declared.replies.Phase.{Phase}
use Rattle.sg_acts.specs.declared.replies.Phase.TheVariants as phase
use Rattle.sg_acts.specs.declared.replies.Receipt.{Receipt}
use Rattle.sg_acts.specs.declared.replies.Reply.{Reply}
use Rattle.sg_acts.specs.declared.replies.Reply.TheVariants as reply

-- ---- values

-- a whole number
abbrev pub whole : ℕ → Data
whole n = number (unsigned n)

-- a list, each item as a value
abbrev pub list_of : {A : Type 0} → (A → Data) → List A → Data
list_of value_of items = array (items_of (map value_of items))

-- the members with these names and values
abbrev pub members_of : List (List ℕ × Data) → Members
members_of [] = no_members
members_of (named ∷ others) = member named.0 named.1 (members_of others)

-- the object with these members
abbrev pub object_of : List (List ℕ × Data) → Data
object_of named = object (members_of named)

-- ---- words

-- the word of a fate
abbrev pub fate_word : FateWord → List ℕ
fate_word fate.Unused = codes "unused"
fate_word fate.Cast = codes "cast"
fate_word fate.Spoiled = codes "spoiled"
fate_word fate.Audited = codes "audited"
fate_word fate.Voided = codes "voided"

-- the word of a phase
abbrev pub phase_word : Phase → List ℕ
phase_word phase.Voting = codes "voting"
phase_word phase.Closed = codes "closed"
phase_word phase.Drawn = codes "drawn"

-- ---- replies

-- the answer to an ask that is accepted and has no content
abbrev pub done_value : Data
done_value = object_of ((codes "status", whole 200) ∷ [])

-- a posted code is a pair of its race and its text, as `[0,"679"]`
abbrev pub seen_value : ℕ → CodeSeen → Data
seen_value version seen = array (items_of (whole seen.race ∷ string (code_word version seen.code) ∷ []))

-- a receipt
abbrev pub receipt_value : ℕ → Receipt → Data
receipt_value version receipt = object_of (
    (codes "ballot", whole receipt.ballot) ∷
    (codes "codes", list_of (seen_value version) receipt.codes) ∷
    (codes "fate", string (fate_word receipt.fate)) ∷
    (codes "over", list_of whole receipt.over) ∷
    (codes "status", whole 200) ∷ [])

-- the answer to an ask that is accepted
unfoldable pub body_value : ℕ → Body → Data
body_value version (body.Scanned over) = object_of ((codes "over", list_of whole over) ∷ (codes "status", whole 200) ∷ [])
body_value version body.Spoiled = done_value
body_value version body.Voided = done_value
body_value version (body.Audited matches) = object_of ((codes "match", boolean matches) ∷ (codes "status", whole 200) ∷ [])
body_value version body.Closed = done_value
body_value version body.Drawn = done_value
body_value version (body.Claimed word) = object_of ((codes "status", whole 200) ∷ (codes "word", string (claim_word word)) ∷ [])
body_value version (body.Receipt receipt) = receipt_value version receipt
body_value version (body.Totals totals) = object_of ((codes "status", whole 200) ∷ (codes "totals", list_of (list_of whole) totals) ∷ [])

-- a refusal: its word and its status
abbrev pub refusal : List ℕ → ℕ → Data
refusal word status = object_of ((codes "error", string word) ∷ (codes "status", whole status) ∷ [])

-- a refusal with one member more, whose name stands between `error` and `status`
abbrev pub refusal_with : List ℕ → Data → List ℕ → ℕ → Data
refusal_with name value word status = object_of ((codes "error", string word) ∷ (name, value) ∷ (codes "status", whole status) ∷ [])

-- the refusal of the mark at that place
abbrev pub refused_mark : ℕ → List ℕ → Data
refused_mark at word = object_of ((codes "at", whole at) ∷ (codes "error", string word) ∷ (codes "status", whole 422) ∷ [])

-- the value of a reply
unfoldable pub reply_value : ℕ → Reply → Data
reply_value version (reply.Done body) = body_value version body
reply_value version reply.Secret = refusal (codes "secret") 403
reply_value version reply.Ballot = refusal (codes "ballot") 404
reply_value version (reply.Ref kept) = refusal_with (codes "kept") (string kept) (codes "ref") 409
reply_value version (reply.Phase phase) = refusal_with (codes "phase") (string (phase_word phase)) (codes "phase") 409
reply_value version (reply.Fate fate) = refusal_with (codes "fate") (string (fate_word fate)) (codes "fate") 409
reply_value version reply.Full = refusal_with (codes "limit") (whole most_claims) (codes "full") 409
reply_value version (reply.Race at) = refused_mark at (codes "race")
reply_value version (reply.Candidate at) = refused_mark at (codes "candidate")
reply_value version (reply.Twice at) = refused_mark at (codes "twice")
reply_value version (reply.Station kept) = refusal_with (codes "kept") (whole kept) (codes "station") 409
reply_value version reply.Paper = refusal (codes "paper") 422
reply_value version reply.Draw = refusal (codes "draw") 422
reply_value version reply.Memory = refusal (codes "memory") 500
reply_value version reply.Store = refusal (codes "store") 503

-- the text of a reply, without spaces
abbrev pub text_of_reply : ℕ → Reply → List ℕ
text_of_reply version reply = compact_text (reply_value version reply)

-- ---- conditions

-- the byte is one of those from the first to the last
abbrev pub IsFrom : ℕ → ℕ → ℕ → Type 0
IsFrom first last byte = (first ≤ byte) × (byte ≤ last)

-- the byte is an ASCII letter, a digit or `:` (48 to 58), a space or a comma
abbrev pub IsPlain : ℕ → Type 0
IsPlain byte = IsFrom 97 122 byte ⊎ (IsFrom 65 90 byte ⊎ (IsFrom 48 58 byte ⊎ ((byte ≡ 32) ⊎ (byte ≡ 44))))

-- every code in the reply is a code of the version
abbrev pub HasReplyCodes : ℕ → Reply → Type 0
HasReplyCodes version (reply.Done (body.Receipt receipt)) = All (λ seen. seen.code < codes_of version) receipt.codes
HasReplyCodes version _ = Unit {0}

-- the kept act's text, where the reply has one, is made of plain bytes, as every act's text is
abbrev pub HasPlainText : Reply → Type 0
HasPlainText (reply.Ref kept) = All IsPlain kept
HasPlainText _ = Unit {0}
