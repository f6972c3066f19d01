use Rattle.std.proofs.Common.{◌≡◌, Some, drop}
use Rattle.book.specs.Book.{held_of}
use Rattle.book.specs.Settled.{TypeTold, settled_told}
use Rattle.transcript.specs.Describe.{add, labels_text}
use Rattle.transcript.specs.Laying.{laid}
use Rattle.transcript.proofs.tree.Answer.labels.Given as goal

abbrev pub invariant-loop-i : goal.invariant-loop-i
invariant-loop-i l =
    (t : TypeTold) → settled_told (held_of l.book) l.settled ≡ Some t →
    add (labels_text l.margin (drop l.i t.labels)) (laid l.self) ≡ add (labels_text l.margin t.labels) (laid l.initial.self)
