use Rattle.std.proofs.Common.{length, take}
use Rattle.book.specs.Book.{held_of}
use Rattle.book.specs.Sizes.{sizes_told}
use Rattle.finds.specs.Columns.{columns_told}
use Rattle.finds.proofs.Counts.{Counting}
use Rattle.finds.proofs.columns.count_columns.Given as goal

abbrev pub invariant-loop-found : goal.invariant-loop-found
invariant-loop-found l = Counting (held_of l.book) (length l.fn.seen) l.found-index (columns_told (take l.found-index l.columns)) (sizes_told l.sizes) l.seen
