-- Which OID can be settled next, and what a pass over the rows does.
-- Assumes nothing.
use Rattle.std.specs.Prelude.{◌≡◌, ℕ, ◌≤◌, Bool, false, not, ◌&&◌, List, length, slice_index, slice_index_or, None, Option}
use Rattle.std.specs.Option.{option_and_then}
use Rattle.catalog.specs.Catalog.{Catalog, CatalogRow}
use Rattle.catalog.specs.Shape.{shape}
use Rattle.life.specs.InTurn.{InTurn, known_so, ready_shape}
use Rattle.life.specs.Rounds.{Descriptors}
use Rattle.finds.specs.declared.tables.Finds.{Finds}
use Rattle.finds.specs.Finds.{ReadFrom, order_of, queue_of, rows_of}

-- an OID with this row can be settled next: it is not known so far, and all links of the row are
abbrev pub follows : Descriptors → List ℕ → ℕ → Option CatalogRow → Bool
follows b order o row = not (known_so b order o) && ready_shape (known_so b order) (option_and_then shape row)

-- so can the OID at a place
abbrev pub follows_at : Descriptors → Finds → ℕ → Bool
follows_at b f place = follows b (order_of f) (slice_index (queue_of f) place) (slice_index_or (rows_of f) place None)

-- g is f with what a pass over the rows from this place on has settled
pub record Passed (b : Descriptors) (from : ℕ) (f g : Finds) : Type 0 where
  pub queue : queue_of g ≡ queue_of f
  pub rows : rows_of g ≡ rows_of f
  pub longer : length (order_of f) ≤ length (order_of g)
  pub turn : (c : Catalog) → ReadFrom c f → InTurn c b (order_of f) → InTurn c b (order_of g)
  pub still : length (order_of g) ≡ length (order_of f) → (place : ℕ) → from ≤ place → follows_at b g place ≡ false
