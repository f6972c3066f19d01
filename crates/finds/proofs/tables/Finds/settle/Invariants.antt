use Rattle.std.proofs.Common.{length, ◌-◌}
use Rattle.book.specs.Book.{held_of}
use Rattle.book.specs.Held.{book_held}
use Rattle.finds.proofs.Ended.{Going}
use Rattle.finds.proofs.tables.Finds.settle.Given as goal

abbrev pub invariant-loop : goal.invariant-loop
invariant-loop l = Going (book_held (held_of l.book)).descriptors l.fn.self l.self

abbrev pub decreases-loop : goal.decreases-loop
decreases-loop l = length l.self.rows.items - length l.self.order.items
