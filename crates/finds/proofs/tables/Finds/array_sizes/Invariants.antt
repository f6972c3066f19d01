use Rattle.std.proofs.Common.{◌≡◌, ◌*◌, map}
use Rattle.book.specs.Book.{held_of}
use Rattle.book.specs.Held.{FewOf}
use Rattle.book.specs.Sizes.{sizes_told}
use Rattle.finds.specs.Keeping.{array_size, find_at, places, size_of_all}
use Rattle.finds.proofs.tables.Finds.array_sizes.Given as goal

abbrev pub invariant-loop-place : goal.invariant-loop-place
invariant-loop-place l =
    (sizes_told l.sizes ≡ size_of_all (array_size (held_of l.book)) (map (find_at l.self) (places l.place))) ×
    FewOf (16384 * l.place) (sizes_told l.sizes)
