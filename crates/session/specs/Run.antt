-- A run of a script: how its lines are counted, what they leave, and what is printed.
-- Assumes nothing.
use Rattle.std.specs.Prelude.{◌≡◌, ℕ, ◌+◌, ◌-◌, ◌^◌, min, Bool, false, if◌then◌else◌, List, [], ◌∷◌, ◌++◌, Ok, Err, Result, ◌==◌}
use Rattle.std.specs.declared.alloc.AllocError.{AllocError}
use Rattle.lines.specs.declared.trouble.Trouble.{Trouble}
use Rattle.lines.specs.declared.trouble.Trouble.TheVariants.{NotUnderstood, OutOfMemory}
use Rattle.script.specs.Words.{words}
use Rattle.transcript.specs.Appends.{Appends}
use Rattle.transcript.specs.Printed.{echo_text, not_understood_text}
use Rattle.transcript.specs.declared.answers.Reason.{Reason}
use Rattle.session.specs.Catalogs.{Held, at_start, held_by}
use Rattle.session.specs.Lines.{Reply, reply}
use Rattle.session.specs.declared.session.Session.{Session}

-- lines read, lines echoed, calls refused, lines not understood; and the catalogs
pub record Run : Type 0 where
  pub read : ℕ
  pub echoed : ℕ
  pub refused : ℕ
  pub misread : ℕ
  pub catalogs : Held

abbrev pub start : Run
start = record { read = 0; echoed = 0; refused = 0; misread = 0; catalogs = at_start }

abbrev pub run_of : Session → Run
run_of s = record { read = s.read; echoed = s.echoed; refused = s.refused; misread = s.misread; catalogs = held_by s.catalogs }

-- one more, as far as 64 bits reach
abbrev pub one_more : ℕ → ℕ
one_more n = min (n + 1) (2 ^ 64 - 1)

-- a line that was answered
abbrev pub replied : Result Reply Reason → Run → Run
replied (Ok told) s = record s { refused = if told.refused then one_more s.refused else s.refused; catalogs = told.catalogs }
replied (Err why) s = record s { misread = one_more s.misread }

abbrev pub Replied : Result Reply Reason → Run → Run → Type 0
Replied told before after = after ≡ replied told before

-- a line of which it is known whether it was a call that was refused, or why it is not understood
abbrev pub ended : Result Bool Trouble → Run → Run
ended (Ok refused) s = record s { refused = if refused then one_more s.refused else s.refused }
ended (Err (NotUnderstood why)) s = record s { misread = one_more s.misread }
ended (Err (OutOfMemory e)) s = s

-- the same counts, whatever the catalogs hold
abbrev pub AlikeCounted : Run → Run → Type 0
AlikeCounted before after =
    (after.read ≡ before.read) × (after.echoed ≡ before.echoed) × (after.refused ≡ before.refused) × (after.misread ≡ before.misread)

-- a line whose first word begins with # (35) is a comment
abbrev pub is_comment : List ℕ → Bool
is_comment [] = false
is_comment (b ∷ bs) = b == 35

-- a line that was read, and one that is neither blank nor a comment, which is echoed
abbrev pub after_read : Run → Run
after_read s = record s { read = one_more s.read }

abbrev pub after_echo : Run → Run
after_echo s = record s { read = one_more s.read; echoed = one_more s.echoed }

-- what a line leaves, by its words
abbrev pub done : Run → List (List ℕ) → Run
done s [] = after_read s
done s (verb ∷ ws) = if is_comment verb then after_read s else replied (reply s.catalogs verb ws) (after_echo s)

abbrev pub all_done : Run → List (List ℕ) → Run
all_done s [] = s
all_done s (line ∷ ls) = all_done (done s (words line)) ls

-- what is printed for a line that is answered, by its number
abbrev pub answered : ℕ → Result Reply Reason → List ℕ
answered number (Ok told) = told.text
answered number (Err why) = not_understood_text number why

-- what is printed behind the answer of such a line; want of memory is handed on
abbrev pub Closes : ℕ → Result Bool Trouble → List ℕ → List ℕ → Result (Unit {0}) AllocError → Type 0
Closes number (Ok refused) before after r = (after ≡ before) × (r ≡ Ok tt)
Closes number (Err (NotUnderstood why)) before after r = Appends (not_understood_text number why) before after r
Closes number (Err (OutOfMemory e)) before after r = r ≡ Err e

-- what is printed for a line: nothing for a blank line and for a comment
abbrev pub printed_for : Run → List ℕ → List (List ℕ) → List ℕ
printed_for s line [] = []
printed_for s line (verb ∷ ws) = if is_comment verb then [] else echo_text line ++ answered (one_more s.read) (reply s.catalogs verb ws)

abbrev pub printed : Run → List ℕ → List ℕ
printed s line = printed_for s line (words line)

abbrev pub all_printed : Run → List (List ℕ) → List ℕ
all_printed s [] = []
all_printed s (line ∷ ls) = printed s line ++ all_printed (done s (words line)) ls
