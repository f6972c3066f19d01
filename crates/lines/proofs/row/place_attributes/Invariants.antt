use Rattle.std.proofs.Common.{◌≡◌, length, vec_items}
use Rattle.lines.proofs.Lists.{with_attributes}
use Rattle.lines.specs.Reading.{onward}
use Rattle.lines.specs.Rows.{attributes_placed}
use Rattle.script.specs.Words.{words}
use Rattle.lines.proofs.row.place_attributes.Given as goal

-- all attributes are those that are read and those to come
abbrev pub invariant-loop-name : goal.invariant-loop-name
invariant-loop-name l =
    attributes_placed (vec_items l.initial.host) (words l.pairs)
    ≡ onward (attributes_placed (vec_items l.host) (words l.rest)) (with_attributes (vec_items l.attributes))

abbrev pub decreases-loop-name : goal.decreases-loop-name
decreases-loop-name l = length l.rest
