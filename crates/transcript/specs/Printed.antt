-- What is printed, byte by byte.
-- Assumes nothing.
use Rattle.std.specs.Prelude.{ℕ, List, ◌++◌, Some, None, Ok, Err, codes, decimal, Option, Result}
use Rattle.catalog.specs.Faults.{layer_text}
use Rattle.catalog.specs.declared.faults.Told.{Told}
use Rattle.script.specs.Names.{shown}
use Rattle.type_info.specs.Table.{Entry, Kind, simple, pseudo, array, range}
use Rattle.transcript.specs.declared.answers.Addition.{Addition}
use Rattle.transcript.specs.declared.answers.Addition.TheVariants.{Row, Name, Column}
use Rattle.transcript.specs.declared.answers.InUse.{InUse}
use Rattle.transcript.specs.declared.answers.InUse.TheVariants.{Rows, Shelf}
use Rattle.transcript.specs.declared.answers.Reason.{Reason}
use Rattle.transcript.specs.declared.answers.Reason.TheVariants.{NoSuchLine, WordCount, NotANumber, NotAnAttributeNumber, NotAName, NotACode, NotAnEntry, NotACatalog, NotYesOrNo, NotASize, TooMuchText}

abbrev pub kind_text : Kind → List ℕ
kind_text simple = codes "simple"
kind_text pseudo = codes "pseudo"
kind_text (array e) = codes "array of " ++ decimal e
kind_text (range e) = codes "range of " ++ decimal e

-- OID, name and kind
abbrev pub head_text : Entry → List ℕ
head_text e = decimal e.oid ++ (codes " " ++ (shown e.name ++ (codes " " ++ kind_text e.kind)))

abbrev pub builtin_text : Option Entry → List ℕ
builtin_text None = codes "builtin: nothing\n"
builtin_text (Some e) = codes "builtin: " ++ (head_text e ++ codes "\n")

-- the element of a declared type is a name or nothing
abbrev pub element_text : Option (List ℕ) → List ℕ
element_text None = codes "element: nothing\n"
element_text (Some n) = codes "element: name " ++ (shown n ++ codes "\n")

-- the catalog in use and its allowance
abbrev pub catalog_text : InUse → List ℕ
catalog_text Rows = codes "rows"
catalog_text Shelf = codes "shelf"

abbrev pub in_use_text : InUse → List ℕ
in_use_text catalog = codes "use: " ++ (catalog_text catalog ++ codes "\n")

abbrev pub allowance_text : ℕ → List ℕ
allowance_text rounds = codes "allowance: " ++ (decimal rounds ++ codes "\n")

-- a refusal by its number, place, layer and rounds
abbrev pub refusal_text : Told → List ℕ
refusal_text t =
    codes "refused " ++ (decimal t.number ++ (codes " place " ++ (decimal t.place ++ (codes " layer " ++ (layer_text t.layer ++ (codes " rounds " ++ decimal t.rounds))))))

-- an addition to the row table, by the first word of its line
abbrev pub verb_text : Addition → List ℕ
verb_text Row = codes "row"
verb_text Name = codes "name"
verb_text Column = codes "column"

abbrev pub addition_text : Addition → Result (Unit {0}) Told → List ℕ
addition_text what (Ok done) = verb_text what ++ codes ": ok\n"
addition_text what (Err told) = verb_text what ++ (codes ": " ++ (refusal_text told ++ codes "\n"))

-- a line as it stands in the script
abbrev pub echo_text : List ℕ → List ℕ
echo_text line = codes "> " ++ (line ++ codes "\n")

abbrev pub reason_text : Reason → List ℕ
reason_text NoSuchLine = codes "no such line"
reason_text WordCount = codes "too few or too many words"
reason_text NotANumber = codes "not a number from 0 to 4294967295"
reason_text NotAnAttributeNumber = codes "not a number from -32768 to 32767"
reason_text NotAName = codes "not a name"
reason_text NotACode = codes "not one byte"
reason_text NotAnEntry = codes "not an entry"
reason_text NotACatalog = codes "neither rows nor shelf"
reason_text NotYesOrNo = codes "neither yes nor no"
reason_text NotASize = codes "not the size of a table"
reason_text TooMuchText = codes "more text than 32 bits can count"

abbrev pub not_understood_text : ℕ → Reason → List ℕ
not_understood_text number reason =
    codes "line " ++ (decimal number ++ (codes ": not understood: " ++ (reason_text reason ++ codes "\n")))

abbrev pub closing_text : ℕ → ℕ → ℕ → List ℕ
closing_text lines refused misread =
    decimal lines ++ (codes " lines, " ++ (decimal refused ++ (codes " refused, " ++ (decimal misread ++ codes " not understood\n"))))
