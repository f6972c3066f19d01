use Rattle.std.proofs.Common.{◌≡◌, map, take}
use Rattle.catalog.specs.Meaning.{text_of}
use Rattle.book.specs.Adding.{label_members}
use Rattle.book.specs.Book.{held_of}
use Rattle.book.specs.Held.{with_members}
use Rattle.book.proofs.tables.Book.push_labels.Given as goal

abbrev pub invariant-loop-label : goal.invariant-loop-label
invariant-loop-label l = held_of l.self ≡ with_members (held_of l.fn.self) (take l.label-index (label_members (map text_of l.label-items)))
