use Rattle.std.proofs.Common.{◌≡◌, length, vec_items}
use Rattle.lines.proofs.Lists.{with_labels}
use Rattle.lines.specs.Reading.{onward}
use Rattle.lines.specs.Rows.{labels_placed}
use Rattle.script.specs.Words.{words}
use Rattle.lines.proofs.row.place_labels.Given as goal

-- all labels are those that are read and those to come
abbrev pub invariant-loop-word : goal.invariant-loop-word
invariant-loop-word l =
    labels_placed (vec_items l.initial.host) (words l.names)
    ≡ onward (labels_placed (vec_items l.host) (words l.rest)) (with_labels (vec_items l.labels))

abbrev pub decreases-loop-word : goal.decreases-loop-word
decreases-loop-word l = length l.rest
