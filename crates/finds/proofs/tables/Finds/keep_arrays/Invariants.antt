use Rattle.std.proofs.Common.{◌≡◌, map}
use Rattle.book.specs.Book.{held_of}
use Rattle.finds.specs.Keeping.{array_kept, each, find_at, places}
use Rattle.finds.proofs.tables.Finds.keep_arrays.Given as goal

abbrev pub invariant-loop-place : goal.invariant-loop-place
invariant-loop-place l = held_of l.book ≡ each array_kept (held_of l.fn.book) (map (find_at l.self) (places l.place))
