use Rattle.std.proofs.Common.{◌≡◌, take}
use Rattle.book.specs.Book.{held_of}
use Rattle.finds.specs.Columns.{column_kept, columns_told}
use Rattle.finds.specs.Keeping.{each}
use Rattle.finds.proofs.columns.keep_columns.Given as goal

abbrev pub invariant-loop-found : goal.invariant-loop-found
invariant-loop-found l = held_of l.book ≡ each column_kept (held_of l.fn.book) (columns_told (take l.found-index l.columns))
