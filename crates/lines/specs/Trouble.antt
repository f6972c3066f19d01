-- What becomes of a fault, and how a trouble is told.
-- Assumes nothing.
use Rattle.std.specs.Prelude.{ℕ, List, ◌++◌, codes}
use Rattle.script.specs.declared.names.NameFault.{NameFault}
use Rattle.script.specs.declared.names.NameFault.TheVariants as fault
use Rattle.transcript.specs.Printed.{reason_text}
use Rattle.transcript.specs.declared.answers.Reason.TheVariants.{NotAName}
use Rattle.lines.specs.declared.trouble.Trouble.{Trouble}
use Rattle.lines.specs.declared.trouble.Trouble.TheVariants.{NotUnderstood, OutOfMemory}

-- what becomes of a fault of a name
abbrev pub name_trouble : NameFault → Trouble
name_trouble fault.NotAName = NotUnderstood NotAName
name_trouble (fault.OutOfMemory e) = OutOfMemory e

-- how a trouble is told
abbrev pub trouble_text : Trouble → List ℕ
trouble_text (NotUnderstood why) = codes "not understood: " ++ reason_text why
trouble_text (OutOfMemory e) = codes "out of memory"
