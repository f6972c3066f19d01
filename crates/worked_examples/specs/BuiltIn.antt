-- Worked examples of the built-in table.
-- Assumes nothing.
use Rattle.std.specs.Prelude.{◌≡◌, Some, None, codes}
use Rattle.type_info.specs.Table.{simple, array, range, entry, by_oid}

pub record BuiltInExamples : Type 0 where
  pub int4 : by_oid 23 ≡ Some (entry 23 (codes "int4") simple)
  pub int4_array : by_oid 1007 ≡ Some (entry 1007 (codes "_int4") (array 23))
  pub int4_range : by_oid 3904 ≡ Some (entry 3904 (codes "int4range") (range 23))
  -- int2vector is a type of PostgreSQL, and not one of the table
  pub int2vector : by_oid 22 ≡ None
  -- PostgreSQL calls it a pseudo type; the table has it as a simple one
  pub unknown : by_oid 705 ≡ Some (entry 705 (codes "unknown") simple)
  pub zero : by_oid 0 ≡ None
  pub largest : by_oid 4294967295 ≡ None
