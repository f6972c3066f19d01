-- What kind of line it is, by its first word.
-- Assumes nothing.
use Rattle.std.specs.Prelude.{ℕ, if◌then◌else◌, List, Some, None, Ok, Err, codes, Option, Result}
use Rattle.std.specs.Str.{bytes_eq}
use Rattle.transcript.specs.declared.answers.Reason.{Reason}
use Rattle.transcript.specs.declared.answers.Reason.TheVariants.{NoSuchLine}
use Rattle.lines.specs.declared.verb.StepVerb.{StepVerb}
use Rattle.lines.specs.declared.verb.StepVerb.TheVariants.{Book, Fill, Resolve, Bind, Describe, Ordinal, ElementOf}
use Rattle.lines.specs.declared.verb.Verb.{Verb}
use Rattle.lines.specs.declared.verb.Verb.TheVariants.{Use, Allowance, Row, Name, Column, Element, Builtin, BuiltinName}

abbrev pub verb_read : List ℕ → Result Verb Reason
verb_read word =
    if bytes_eq word (codes "use") then Ok Use
    else if bytes_eq word (codes "allowance") then Ok Allowance
    else if bytes_eq word (codes "row") then Ok Row
    else if bytes_eq word (codes "name") then Ok Name
    else if bytes_eq word (codes "column") then Ok Column
    else if bytes_eq word (codes "element") then Ok Element
    else if bytes_eq word (codes "builtin") then Ok Builtin
    else if bytes_eq word (codes "builtin-name") then Ok BuiltinName
    else Err NoSuchLine

abbrev pub step_read : List ℕ → Option StepVerb
step_read word =
    if bytes_eq word (codes "book") then Some Book
    else if bytes_eq word (codes "fill") then Some Fill
    else if bytes_eq word (codes "resolve") then Some Resolve
    else if bytes_eq word (codes "bind") then Some Bind
    else if bytes_eq word (codes "describe") then Some Describe
    else if bytes_eq word (codes "ordinal") then Some Ordinal
    else if bytes_eq word (codes "element-of") then Some ElementOf
    else None
