use Rattle.std.proofs.Common.{◌≡◌, take}
use Rattle.book.specs.Book.{held_of}
use Rattle.book.specs.Held.{FewOf}
use Rattle.book.specs.Sizes.{sizes_told}
use Rattle.finds.specs.Keeping.{size_of_all}
use Rattle.finds.specs.Resolving.{apart_size, apart_told}
use Rattle.finds.proofs.declared.count_apart.Given as goal

abbrev pub invariant-loop-found : goal.invariant-loop-found
invariant-loop-found l =
    (sizes_told l.sizes ≡ size_of_all (apart_size (held_of l.book)) (apart_told (take l.found-index l.apart))) × FewOf l.found-index (sizes_told l.sizes)
