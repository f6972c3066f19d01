-- The memory of a column round, and the size that its tables have.
-- Assumes nothing.
use Rattle.std.specs.Prelude.{◌≡◌, ℕ, List, length}
use Rattle.catalog.specs.declared.values.Column.{Column}
use Rattle.keys.specs.declared.kinds.Attribute.{Attribute}
use Rattle.slots.specs.Slots.{Entry}
use Rattle.slots.specs.Stack.{LentItems, slots_lent}
use Rattle.type_info.specs.declared.oid.Oid.{Oid}
use Rattle.binding.specs.declared.memory.ColumnMemory.{ColumnMemory}

pub record Lent (asked : List (Entry Attribute ℕ)) (found : LentItems (Attribute × Column)) (seen : List (Entry Oid ℕ)) : Type 0 where
  pub asked_lent : length asked ≡ 512
  pub found_lent : slots_lent found ≡ 256
  pub seen_lent : length seen ≡ 512

-- the memory of a column round has the size of its tables
pub record Whole (m : ColumnMemory) : Type 0 where
  pub asked : length m.asked.now ≡ 512
  pub found : length m.found.now ≡ 256
  pub seen : length m.seen.now ≡ 512
