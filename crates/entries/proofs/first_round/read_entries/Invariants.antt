use Rattle.book.specs.Book.{held_of}
use Rattle.book.specs.Held.{book_held}
use Rattle.entries.proofs.InEntries.{InEntries}
use Rattle.entries.proofs.first_round.read_entries.Given as goal

abbrev pub invariant-loop-entry : goal.invariant-loop-entry
invariant-loop-entry g l =
    InEntries (g.C.TypeCatalog.meaning l.catalog) (book_held (held_of l.book)) l.host l.entries l.entry-index l.fn.finds l.fn.notes l.finds l.notes
