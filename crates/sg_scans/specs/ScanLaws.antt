-- Scans that come twice (this project's rules for scanner files).
use Rattle.std.specs.Prelude.{◌≡◌, ℕ, ◌==◌, ◌&&◌, if◌then◌else◌, Bool, true, false, List, [], ◌∷◌, ◌++◌, bytes_eq, All}
use Rattle.std.specs.List.{list_any}
use Rattle.sg_plan.specs.declared.plan.Mark.{Mark}
use Rattle.sg_forms.specs.Spelling.{IsNumber}
use Rattle.sg_acts.specs.declared.asks.Act.{Act}
use Rattle.sg_acts.specs.declared.asks.Act.TheVariants as act
use Rattle.sg_acts.specs.declared.asks.Ask.{Ask}
use Rattle.sg_acts.specs.declared.asks.Ask.TheVariants as ask
use Rattle.sg_acts.specs.declared.asks.Stamp.{Stamp}
use Rattle.sg_acts.specs.declared.replies.Reply.{Reply}
use Rattle.sg_keeper.specs.declared.setup.Setup.{Setup}
use Rattle.sg_desks.specs.ActTexts.{IsMark}
use Rattle.sg_histories.specs.Answers.{answer_of, is_done, next_history}
use Rattle.sg_histories.specs.Histories.{Entry}

-- SCANS

-- a scan that a station asks for
pub record Scan : Type 0 where
  pub stamp : Stamp
  pub ballot : ℕ
  pub marks : List Mark

abbrev pub scan_act : Scan → Act
scan_act scan = act.Scan scan.ballot scan.marks

abbrev pub scan_ask : Scan → Ask
scan_ask scan = ask.Do scan.stamp (scan_act scan)

-- its numbers are in the ranges of their types, as those of each scan in the program are
pub record IsScan (scan : Scan) : Type 0 where
  pub ballot : IsNumber scan.ballot
  pub marks : All IsMark scan.marks

-- EQUAL SCANS

abbrev pub same_stamp : Stamp → Stamp → Bool
same_stamp a b = a.station == b.station && (bytes_eq a.secret b.secret && a.number == b.number)

abbrev pub same_marks : List Mark → List Mark → Bool
same_marks [] [] = true
same_marks [] (b ∷ more) = false
same_marks (a ∷ marks) [] = false
same_marks (a ∷ marks) (b ∷ more) = (a.race == b.race && a.candidate == b.candidate) && same_marks marks more

abbrev pub same_scan : Scan → Scan → Bool
same_scan a b = same_stamp a.stamp b.stamp && (a.ballot == b.ballot && same_marks a.marks b.marks)

-- the scans without each one that equals an earlier one; `before` came before them
unfoldable pub firsts : List Scan → List Scan → List Scan
firsts before [] = []
firsts before (scan ∷ scans) = (if list_any (same_scan scan) before then firsts before scans else scan ∷ firsts (scan ∷ before) scans)

-- THE LAWS

-- the history behind these scans, which are asked for one after another
unfoldable pub history_after : Setup → List Entry → List Scan → List Entry
history_after setup history [] = history
history_after setup history (scan ∷ scans) = history_after setup (next_history setup history (scan_ask scan)) scans

-- the same history comes behind the scans and behind each scan once
abbrev pub OnceLeadsThere : Type 0
OnceLeadsThere = (setup : Setup) (history : List Entry) (scans : List Scan) → All IsScan scans
    → history_after setup history scans ≡ history_after setup history (firsts [] scans)

-- what was done is answered alike when it comes again, and what was refused is refused
pub record AnswersAlike (first again : Reply) : Type 0 where
  pub done : is_done first ≡ true → again ≡ first
  pub refused : is_done first ≡ false → is_done again ≡ false

-- a scan that comes twice, with other scans before and between, is answered so
abbrev pub TwiceIsAnswered : Type 0
TwiceIsAnswered = (setup : Setup) (history : List Entry) (before : List Scan) (scan : Scan) (between : List Scan)
    → IsScan scan → All IsScan between
    → AnswersAlike
    (answer_of setup (history_after setup history before) (scan_ask scan))
    (answer_of setup (history_after setup history (before ++ scan ∷ between)) (scan_ask scan))
