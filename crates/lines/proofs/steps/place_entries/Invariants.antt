use Rattle.std.proofs.Common.{◌≡◌, length, vec_items}
use Rattle.lines.proofs.Lists.{with_entries}
use Rattle.lines.specs.Reading.{onward}
use Rattle.lines.specs.Steps.{entries_placed}
use Rattle.script.specs.Words.{words}
use Rattle.lines.proofs.steps.place_entries.Given as goal

-- all entries are those that are read and those to come
abbrev pub invariant-loop-word : goal.invariant-loop-word
invariant-loop-word l =
    entries_placed (vec_items l.initial.host) (words l.line)
    ≡ onward (entries_placed (vec_items l.host) (words l.rest)) (with_entries (vec_items l.entries))

abbrev pub decreases-loop-word : goal.decreases-loop-word
decreases-loop-word l = length l.rest
