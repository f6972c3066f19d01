use Rattle.book.specs.Book.{held_of}
use Rattle.book.specs.Held.{book_held}
use Rattle.finds.specs.Passes.{Passed}
use Rattle.finds.proofs.tables.Finds.pass.Given as goal

abbrev pub invariant-loop-place : goal.invariant-loop-place
invariant-loop-place l = Passed (book_held (held_of l.book)).descriptors l.place l.fn.self l.self
