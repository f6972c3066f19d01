use Rattle.std.proofs.Common.{◌≡◌, ℕ, Bool, drop}
use Rattle.catalog.specs.Catalog.{Catalog}
use Rattle.finds.specs.Finds.{ReadFrom, queue_of, reads_of}
use Rattle.life.specs.Lists.{first_place}
use Rattle.resolve.specs.Fills.{left_over}
use Rattle.resolve.specs.Lists.{types_of}
use Rattle.resolve.specs.Walks.{known_to}
use Rattle.resolve.proofs.lists.first_left_field.Given as goal

abbrev pub invariant-loop-place : goal.invariant-loop-place
invariant-loop-place l =
    (c : Catalog) → ReadFrom c l.finds → reads_of l.finds ≡ queue_of l.finds →
    let test : ℕ → Bool = left_over c (known_to l.book) (reads_of l.finds) in
    first_place test 0 (types_of l.fields) ≡ first_place test l.place (types_of (drop l.place l.fields))
