-- What a step has found, as lists, and the memory that it is held in.
-- Assumes nothing.
use Rattle.std.specs.Prelude.{◌≡◌, ℕ, Bool, ◌&&◌, if◌then◌else◌, List, length, map, take, nat_eq, nat_lt, Option}
use Rattle.catalog.specs.Catalog.{Catalog, CatalogRow}
use Rattle.catalog.specs.Meaning.{row_told}
use Rattle.life.specs.Lists.{push_new}
use Rattle.finds.specs.declared.memory.Memory.{Memory}
use Rattle.finds.specs.declared.tables.Finds.{Finds}
use Rattle.finds.specs.Tables.{standing, turns}

-- the OIDs that stand, the oldest first, and the rows that were read of the first of them
abbrev pub queue_of : Finds → List ℕ
queue_of f = standing f.queue

abbrev pub rows_of : Finds → List (Option CatalogRow)
rows_of f = map row_told f.rows.items

abbrev pub reads_of : Finds → List ℕ
reads_of f = take (length (rows_of f)) (queue_of f)

-- the OIDs settled so far, in turn
abbrev pub order_of : Finds → List ℕ
order_of f = turns f.queue f.order

-- the rows are what this catalog has
abbrev pub ReadFrom : Catalog → Finds → Type 0
ReadFrom c f = rows_of f ≡ map c.rows (reads_of f)

-- behind a queue that is not full, unless it is skipped or stands there already
abbrev pub pushed : (ℕ → Bool) → List ℕ → ℕ → List ℕ
pushed skip queue o = if nat_lt (length queue) 257 then push_new nat_eq skip queue o else queue

-- an OID waits for its row, and there is a place for it
abbrev pub waits : List ℕ → List (Option CatalogRow) → Bool
waits queue rows = nat_lt (length rows) (length queue) && nat_lt (length rows) 256

-- the memory of a step has the size of its tables
pub record Whole (m : Memory) : Type 0 where
  pub queue : length m.queue.now ≡ 257
  pub index : length m.index.now ≡ 512
  pub rows : length m.rows.now ≡ 256
  pub order : length m.order.now ≡ 256
  pub settled : length m.settled.now ≡ 512
