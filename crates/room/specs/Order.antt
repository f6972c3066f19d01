-- No outcome depends on the order in which the tables hold what they hold.
-- Assumes nothing.
use Rattle.std.specs.Prelude.{◌≡◌}
use Rattle.catalog.specs.Catalog.{Catalog}
use Rattle.life.specs.Calls.{Call}
use Rattle.room.specs.Added.{Held}
use Rattle.room.specs.Room.{limited, tables_left}
use Rattle.room.specs.Sizes.{Sizes, sizes_of}
use Rattle.room.specs.Tables.{Tables, contents}

-- tables of one size that are the same book
pub record Alike (t u : Tables) : Type 0 where
  pub book : contents t ≡ contents u
  pub sizes : sizes_of t ≡ sizes_of u

-- a call has one outcome on all of them, and leaves such tables
abbrev pub OrderLaw : Type 0
OrderLaw =
    (capacity : Sizes) (c : Catalog) (t u : Tables) → Held t → Held u → Alike t u → (call : Call) →
    (limited capacity c t call ≡ limited capacity c u call) × Alike (tables_left capacity c t call) (tables_left capacity c u call)
