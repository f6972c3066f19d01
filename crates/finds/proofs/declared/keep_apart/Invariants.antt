use Rattle.std.proofs.Common.{◌≡◌, take}
use Rattle.book.specs.Book.{held_of}
use Rattle.finds.specs.Keeping.{each}
use Rattle.finds.specs.Resolving.{apart_kept, apart_told}
use Rattle.finds.proofs.declared.keep_apart.Given as goal

abbrev pub invariant-loop-found : goal.invariant-loop-found
invariant-loop-found l = held_of l.book ≡ each apart_kept (held_of l.fn.book) (apart_told (take l.found-index l.apart))
