use Rattle.std.proofs.Common.{◌≡◌, ◌*◌, map, take}
use Rattle.book.specs.Book.{held_of}
use Rattle.book.specs.Held.{FewOf}
use Rattle.book.specs.Sizes.{sizes_told}
use Rattle.finds.specs.Keeping.{find_at, settled_size, size_of_all}
use Rattle.finds.proofs.tables.Finds.settled_sizes.Given as goal

abbrev pub invariant-loop-place : goal.invariant-loop-place
invariant-loop-place l =
    (sizes_told l.sizes ≡ size_of_all (settled_size (held_of l.book)) (map (find_at l.self) (take l.place-index l.place-items))) ×
    FewOf (16384 * l.place-index) (sizes_told l.sizes)
