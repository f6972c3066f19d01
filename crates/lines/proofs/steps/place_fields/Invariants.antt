use Rattle.std.proofs.Common.{◌≡◌, length, vec_items}
use Rattle.lines.proofs.Lists.{with_fields}
use Rattle.lines.specs.Reading.{onward}
use Rattle.lines.specs.Steps.{fields_placed}
use Rattle.script.specs.Words.{words}
use Rattle.lines.proofs.steps.place_fields.Given as goal

-- all fields are those that are read and those to come
abbrev pub invariant-loop-name : goal.invariant-loop-name
invariant-loop-name l =
    fields_placed (vec_items l.initial.host) (words l.line)
    ≡ onward (fields_placed (vec_items l.host) (words l.rest)) (with_fields (vec_items l.fields))

abbrev pub decreases-loop-name : goal.decreases-loop-name
decreases-loop-name l = length l.rest
