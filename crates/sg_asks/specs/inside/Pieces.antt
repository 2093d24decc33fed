-- A reply's text, put together piece by piece.
use Rattle.std.specs.Prelude.{ℕ, ◌<◌, List, [], ◌∷◌, ◌++◌, All, map, Bool, true, false, codes, decimal}
use Rattle.serde_json.specs.Written.{comma_if}
use Rattle.sg_plan.specs.Codes.{codes_of}
use Rattle.sg_plan.specs.declared.plan.ClaimWord.{ClaimWord}
use Rattle.sg_lines.specs.Words.{code_word}
use Rattle.sg_acts.specs.declared.replies.Body.{Body}
use Rattle.sg_acts.specs.declared.replies.Body.TheVariants as body
use Rattle.sg_acts.specs.declared.replies.CodeSeen.{CodeSeen}
use Rattle.sg_acts.specs.declared.replies.FateWord.{FateWord}
use Rattle.sg_acts.specs.declared.replies.Phase.{Phase}
use Rattle.sg_acts.specs.declared.replies.Receipt.{Receipt}
use Rattle.sg_acts.specs.declared.replies.Reply.{Reply}
use Rattle.sg_acts.specs.declared.replies.Reply.TheVariants as reply
use Rattle.sg_asks.specs.Replies.{fate_word, phase_word}
use Rattle.sg_forms.specs.Spelling.{claim_word}
use Rattle.sg_asks.specs.declared.pieces.Piece.{Piece}
use Rattle.sg_asks.specs.declared.pieces.Piece.TheVariants as piece

-- ---- lists

-- texts with a comma before each, but for the first where nothing stands before it
abbrev pub joined : Bool → List (List ℕ) → List ℕ
joined later [] = []
joined later (text ∷ texts) = comma_if later ++ text ++ joined true texts

-- a list of texts
abbrev pub list_text : List (List ℕ) → List ℕ
list_text texts = 91 ∷ joined false texts ++ 93 ∷ []

-- a list of numbers
abbrev pub numbers_text : List ℕ → List ℕ
numbers_text numbers = list_text (map decimal numbers)

-- a posted code
abbrev pub seen_text : ℕ → CodeSeen → List ℕ
seen_text version seen = 91 ∷ decimal seen.race ++ codes ",\"" ++ code_word version seen.code ++ codes "\"]"

-- ---- pieces

-- what a piece puts into a text
abbrev pub piece_text : ℕ → Piece → List ℕ
piece_text version (piece.Text bytes) = bytes.now
piece_text version (piece.Number value) = decimal value
piece_text version (piece.Numbers list) = numbers_text list.now
piece_text version (piece.Lists lists) = list_text (map numbers_text lists.now)
piece_text version (piece.Seen list) = list_text (map (seen_text version) list.now)

-- every code of the piece is a code of the version
abbrev pub IsPiece : ℕ → Piece → Type 0
IsPiece version (piece.Seen list) = All (λ seen. seen.code < codes_of version) list.now
IsPiece version _ = Unit {0}

-- every code of the pieces is a code of the version
abbrev pub ArePieces : ℕ → List Piece → Type 0
ArePieces version [] = Unit {0}
ArePieces version (first ∷ pieces) = IsPiece version first × ArePieces version pieces

-- ---- replies

-- a truth as JSON
abbrev pub bool_text : Bool → List ℕ
bool_text true = codes "true"
bool_text false = codes "false"

-- the pieces of a receipt
abbrev pub receipt_pieces : ℕ → Receipt → List (List ℕ)
receipt_pieces version receipt =
    codes "{\"ballot\":" ∷ decimal receipt.ballot ∷ codes ",\"codes\":" ∷ list_text (map (seen_text version) receipt.codes)
    ∷ codes ",\"fate\":\"" ∷ fate_word receipt.fate ∷ codes "\",\"over\":" ∷ numbers_text receipt.over ∷ codes ",\"status\":200}" ∷ []

-- the pieces of the answer to a scan
abbrev pub scanned_pieces : List ℕ → List (List ℕ)
scanned_pieces over = codes "{\"over\":" ∷ numbers_text over ∷ codes ",\"status\":200}" ∷ []

-- the pieces of the answer to an audit
abbrev pub audited_pieces : Bool → List (List ℕ)
audited_pieces matches = codes "{\"match\":" ∷ bool_text matches ∷ codes ",\"status\":200}" ∷ []

-- the pieces of the answer to a claim
abbrev pub claimed_pieces : ClaimWord → List (List ℕ)
claimed_pieces word = codes "{\"status\":200,\"word\":\"" ∷ claim_word word ∷ codes "\"}" ∷ []

-- the pieces of the totals
abbrev pub totals_pieces : List (List ℕ) → List (List ℕ)
totals_pieces totals = codes "{\"status\":200,\"totals\":" ∷ list_text (map numbers_text totals) ∷ codes "}" ∷ []

-- the pieces of an answer without content
abbrev pub done_pieces : List (List ℕ)
done_pieces = codes "{\"status\":200}" ∷ []

-- the pieces of the answer to an ask that is accepted
unfoldable pub body_pieces : ℕ → Body → List (List ℕ)
body_pieces version (body.Scanned over) = scanned_pieces over
body_pieces version body.Spoiled = done_pieces
body_pieces version body.Voided = done_pieces
body_pieces version (body.Audited matches) = audited_pieces matches
body_pieces version body.Closed = done_pieces
body_pieces version body.Drawn = done_pieces
body_pieces version (body.Claimed word) = claimed_pieces word
body_pieces version (body.Receipt receipt) = receipt_pieces version receipt
body_pieces version (body.Totals totals) = totals_pieces totals

-- the pieces of the refusal of a mark
abbrev pub mark_pieces : ℕ → List ℕ → List (List ℕ)
mark_pieces at word = codes "{\"at\":" ∷ decimal at ∷ codes ",\"error\":\"" ∷ word ∷ codes "\",\"status\":422}" ∷ []

-- the pieces of a refusal that tells another word, behind this front
abbrev pub conflict_pieces : List ℕ → List ℕ → List (List ℕ)
conflict_pieces front word = front ∷ word ∷ codes "\",\"status\":409}" ∷ []

-- the pieces of the refusal of a number that was accepted with another act
abbrev pub ref_pieces : List ℕ → List (List ℕ)
ref_pieces kept = conflict_pieces (codes "{\"error\":\"ref\",\"kept\":\"") kept

-- the pieces of the refusal of an ask that the phase does not allow
abbrev pub phase_pieces : Phase → List (List ℕ)
phase_pieces phase = conflict_pieces (codes "{\"error\":\"phase\",\"phase\":\"") (phase_word phase)

-- the pieces of the refusal of an ask that the ballot's fate does not allow
abbrev pub fate_pieces : FateWord → List (List ℕ)
fate_pieces fate = conflict_pieces (codes "{\"error\":\"fate\",\"fate\":\"") (fate_word fate)

-- the pieces of the refusal of a void by the station whose scan is kept
abbrev pub station_pieces : ℕ → List (List ℕ)
station_pieces kept = codes "{\"error\":\"station\",\"kept\":" ∷ decimal kept ∷ codes ",\"status\":409}" ∷ []

-- the pieces of a reply
unfoldable pub reply_pieces : ℕ → Reply → List (List ℕ)
reply_pieces version (reply.Done body) = body_pieces version body
reply_pieces version reply.Secret = codes "{\"error\":\"secret\",\"status\":403}" ∷ []
reply_pieces version reply.Ballot = codes "{\"error\":\"ballot\",\"status\":404}" ∷ []
reply_pieces version (reply.Ref kept) = ref_pieces kept
reply_pieces version (reply.Phase phase) = phase_pieces phase
reply_pieces version (reply.Fate fate) = fate_pieces fate
reply_pieces version reply.Full = codes "{\"error\":\"full\",\"limit\":10000,\"status\":409}" ∷ []
reply_pieces version (reply.Race at) = mark_pieces at (codes "race")
reply_pieces version (reply.Candidate at) = mark_pieces at (codes "candidate")
reply_pieces version (reply.Twice at) = mark_pieces at (codes "twice")
reply_pieces version (reply.Station kept) = station_pieces kept
reply_pieces version reply.Paper = codes "{\"error\":\"paper\",\"status\":422}" ∷ []
reply_pieces version reply.Draw = codes "{\"error\":\"draw\",\"status\":422}" ∷ []
reply_pieces version reply.Memory = codes "{\"error\":\"memory\",\"status\":500}" ∷ []
reply_pieces version reply.Store = codes "{\"error\":\"store\",\"status\":503}" ∷ []
