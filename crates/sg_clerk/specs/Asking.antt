-- Who asks an office one ask after another, and the talk that comes of it (this project's rules for the office).
use Rattle.std.specs.Prelude.{◌≡◌, ℕ, ◌+◌, ◌⊎◌, List, [], ◌∷◌, ◌++◌, map, None, Some, Result, MatchResult}
use Rattle.std.specs.List.{concat}
use Rattle.std.specs.Io.KnownBytes.{Appends}
use Rattle.sg_outside.specs.Faults.{Rose}
use Rattle.sg_outside.specs.Streams.{Seen}
use Rattle.sg_keeper.specs.declared.rows.Rows.{Rows}
use Rattle.sg_keeper.specs.declared.setup.Setup.{Setup}
use Rattle.sg_histories.specs.declared.kept.Kept.{Kept}
use Rattle.sg_histories.specs.Histories.{Entry}
use Rattle.sg_histories.specs.Standing.{StandsFor}
use Rattle.sg_clerk.specs.Ends.{CutsLast, refused_line}
use Rattle.sg_clerk.specs.Talks.{KeeperFollows, Talked}
use Rattle.sg_clerk.specs.declared.ended.Ending.{Ending}
use Rattle.sg_clerk.specs.declared.ended.Ending.TheVariants as ending
use Rattle.sg_clerk.specs.declared.asker.Stop.{Stop}
use Rattle.sg_clerk.specs.declared.asker.Stop.TheVariants as stop

-- A TALK

-- what passes between an office and what asks it
pub record Exchanging (X Reply : Type 0) : Type 1 where
  -- it is asked and replied so, from a history to the next
  pub Turn : Setup → X → List Entry → List Entry → Type 0
  -- how often its reply says that the keeper failed: once or never
  pub store : X → ℕ
  -- what was replied
  pub reply : X → Reply
  -- such a reply can be written, in this version of the record, and this is its line
  pub IsWritable : ℕ → Reply → Type 0
  pub line : ℕ → Reply → List ℕ

-- exchanges come one after another, each by a turn
abbrev pub TalkBy : {X Reply : Type 0} → Exchanging X Reply → Setup → List X → List Entry → List Entry → Type 0
TalkBy kind setup [] before after = after ≡ before
TalkBy kind setup (one ∷ others) before after = (middle : List Entry) × kind.Turn setup one before middle × TalkBy kind setup others middle after

-- how many replies say that the keeper failed
abbrev pub stores_by : {X Reply : Type 0} → Exchanging X Reply → List X → ℕ
stores_by kind [] = 0
stores_by kind (one ∷ others) = kind.store one + stores_by kind others

-- the lines that are written for the replies
abbrev pub texts_by : {X Reply : Type 0} → Exchanging X Reply → ℕ → List X → List (List ℕ)
texts_by {X} kind version exchanges = map (λ (one : X). kind.line version (kind.reply one)) exchanges

-- THE NEXT ASK

-- One more came behind these, and the office replied to it by a turn. The office then stands for the next history, and the
-- keeper followed.
pub record RepliesNext {X Reply : Type 0} (kind : Exchanging X Reply) (Came : List X → Type 0) (reply : Reply) (setup : Setup) (office : Kept)
    (tells : Type 0) (rows after : Rows) (faults faults' : ℕ) (history : List Entry) (exchanges : List X) : Type 0 where
  pub one : X
  pub next : List Entry
  pub turn : kind.Turn setup one history next
  pub reply_is : kind.reply one ≡ reply
  pub stands : StandsFor office next
  pub keeper : KeeperFollows setup history next (kind.store one) tells rows after faults faults'
  pub came : Came (exchanges ++ one ∷ [])

-- no more comes, and nothing was asked
pub record AsksNoMore {X : Type 0} (Over : Stop → List X → Type 0) (why : Stop) (office : Kept) (rows after : Rows) (faults faults' : ℕ)
    (history : List Entry) (exchanges : List X) : Type 0 where
  pub stands : StandsFor office history
  pub rows_are : after ≡ rows
  pub counts : faults' ≡ faults
  pub over : Over why exchanges

-- the next ask was replied to, or there is none
abbrev pub AsksNext : {X Reply : Type 0} → Exchanging X Reply → (Came : List X → Type 0) (Over : Stop → List X → Type 0) → Result Reply Stop → Setup → Kept
    → (tells : Type 0) → Rows → Rows → ℕ → ℕ → List Entry → List X → Type 0
AsksNext kind Came Over found setup office tells rows after faults faults' history exchanges =
    MatchResult found (λ reply. RepliesNext kind Came reply setup office tells rows after faults faults' history exchanges)
    (λ why. AsksNoMore Over why office rows after faults faults' history exchanges)

-- THE END

-- a talk whose lines were all written ends so, where no more comes: a refusal has its line, or the last of the lines was cut
abbrev pub EndsAfter : Stop → Ending → List (List ℕ) → Seen → Seen → Type 0
EndsAfter stop.Done how texts out out' = (how ≡ ending.Done) × Appends out.bytes out'.bytes (concat texts)
EndsAfter stop.ReadFault how texts out out' = (how ≡ ending.ReadFault) × Appends out.bytes out'.bytes (concat texts)
EndsAfter stop.LinkFault how texts out out' = (how ≡ ending.LinkFault) × Appends out.bytes out'.bytes (concat texts)
EndsAfter (stop.Unfit why) how texts out out' =
    ((how ≡ ending.Refused why) × Appends out.bytes out'.bytes (concat texts ++ refused_line why))
    ⊎ ((how ≡ ending.WriteFault (Some why)) × Rose out.faults out'.faults × CutsLast out.bytes out'.bytes (texts ++ refused_line why ∷ []))
EndsAfter stop.NoMemory how texts out out' = (how ≡ ending.NoMemory) × Appends out.bytes out'.bytes (concat texts)

-- no more came
pub record EndsOver (Over : Stop → Type 0) (how : Ending) (texts : List (List ℕ)) (out out' : Seen) : Type 0 where
  pub why : Stop
  pub over : Over why
  pub ends : EndsAfter why how texts out out'

-- the last of the lines was cut
pub record EndsCut (Came : Type 0) (how : Ending) (texts : List (List ℕ)) (out out' : Seen) : Type 0 where
  pub came : Came
  pub cause : ((how ≡ ending.WriteFault None) × Rose out.faults out'.faults) ⊎ (how ≡ ending.NoMemory)
  pub cut : CutsLast out.bytes out'.bytes texts

-- how a talk ends, by what came
abbrev pub EndsBy : {X Reply : Type 0} → Exchanging X Reply → (Came : List X → Type 0) (Over : Stop → List X → Type 0) → Ending → Seen → Seen → Setup → List X → Type 0
EndsBy kind Came Over how out out' setup exchanges =
    EndsOver (λ why. Over why exchanges) how (texts_by kind setup.plan.version exchanges) out out'
    ⊎ EndsCut (Came exchanges) how (texts_by kind setup.plan.version exchanges) out out'

-- A talk from a history on: what came in was replied to, one ask after another, and the lines of the replies were written.
abbrev pub TalkedBy : {X Reply : Type 0} → Exchanging X Reply → (Came : List X → Type 0) (Over : Stop → List X → Type 0) → Ending → Seen → Seen
    → Setup → List Entry → (tells : Type 0) → Rows → Rows → ℕ → ℕ → Type 0
TalkedBy kind Came Over how out out' = Talked (TalkBy kind) (stores_by kind) (EndsBy kind Came Over how out out')
