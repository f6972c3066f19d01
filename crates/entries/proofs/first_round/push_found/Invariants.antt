use Rattle.resolve.specs.Walks.{known_to}
use Rattle.entries.proofs.InRows.{InRows}
use Rattle.entries.proofs.first_round.push_found.Given as goal

abbrev pub invariant-loop-place : goal.invariant-loop-place
invariant-loop-place l = InRows (known_to l.book) l.place l.fn.finds l.finds
