-- What a row table holds and means, and the memory that one is made of.
-- Assumes nothing.
use Rattle.std.specs.Prelude.{◌≡◌, length}
use Rattle.catalog.specs.Catalog.{Catalog}
use Rattle.row_table.specs.Held.{Held, catalog_of}
use Rattle.row_table.specs.Tables.{holding}
use Rattle.row_table.specs.declared.memory.Memory.{Memory}
use Rattle.row_table.specs.declared.table.RowTable.{RowTable}

abbrev pub held_of : RowTable → Held
held_of t = holding t.rows t.names t.part_count t.relations t.columns t.allowance

abbrev pub meaning_of : RowTable → Catalog
meaning_of t = catalog_of (held_of t)

-- the memory of a row table has the size of its tables
pub record Whole (m : Memory) : Type 0 where
  pub rows : length m.rows.now ≡ 256
  pub names : length m.names.now ≡ 512
  pub text : length m.text.now ≡ 65536
  pub relations : length m.relations.now ≡ 1024
  pub columns : length m.columns.now ≡ 1024
