use Rattle.std.proofs.Common.{◌≡◌, map, take}
use Rattle.book.specs.Book.{held_of}
use Rattle.finds.specs.Keeping.{each, find_at, name_kept}
use Rattle.finds.proofs.tables.Finds.keep_names.Given as goal

abbrev pub invariant-loop-place : goal.invariant-loop-place
invariant-loop-place l = held_of l.book ≡ each name_kept (held_of l.fn.book) (map (find_at l.self) (take l.place-index l.place-items))
