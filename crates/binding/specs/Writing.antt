-- What the answers of a Bind say over a book, in the words of the law.
-- Assumes nothing.
use Rattle.std.specs.Prelude.{◌≡◌, ℕ, List, map, ℤ, option_map, Some, Option}
use Rattle.binding.specs.declared.writing.BoundColumn.{BoundColumn}
use Rattle.binding.specs.declared.writing.BoundType.{BoundType}
use Rattle.binding.specs.declared.writing.BoundType.TheVariants.{Settled, Declared}
use Rattle.binding.specs.declared.writing.Origin.{Origin}
use Rattle.binding.specs.declared.writing.Origin.TheVariants.{Expression, Unknown, Table}
use Rattle.book.specs.Held.{Held, book_held}
use Rattle.book.specs.Settled.{settled_tree}
use Rattle.catalog.specs.Catalog.{CatalogColumn, Sized}
use Rattle.catalog.specs.Meaning.{text_of}
use Rattle.life.specs.Written as life
use Rattle.life.specs.Written.{WrittenType, settled_as, declared_as, expression, unknown, table, bound_columns, written}
use Rattle.requests.specs.Asked.{fields_of}
use Rattle.requests.specs.declared.asked.FieldAsked.{FieldAsked}

-- a type: nothing where its slot is none of the book's
abbrev pub type_told : Held → BoundType → Option WrittenType
type_told h (Settled o settled) = option_map (settled_as o.0) (settled_tree h settled)
type_told h (Declared o) = Some (declared_as o.0)

abbrev pub origin_told : Origin → life.Origin
origin_told Expression = expression
origin_told Unknown = unknown
origin_told (Table k) = table (text_of k.table) (text_of k.name)

abbrev pub column_so : BoundColumn → WrittenType → life.BoundColumn
column_so k typed = record {
  ordinal = k.ordinal.0;
  type = typed;
  relation = option_map (λ r. r.0) k.relation;
  attribute = option_map (λ a. a.0) k.attribute;
  origin = origin_told k.origin;
}

-- a column, whose type may be told
abbrev pub column_told : Held → BoundColumn → Option life.BoundColumn
column_told h k = option_map (column_so k) (type_told h k.typed)

-- what is answered of parameters and of fields, each of which is told
abbrev pub types_answered : Held → List ℕ → List (Option WrittenType)
types_answered h oids = map (λ o. Some (written (book_held h) o)) oids

abbrev pub columns_answered : Held → List FieldAsked → List (Option life.BoundColumn)
columns_answered h fields = map (λ k. Some k) (bound_columns (book_held h) 0 (fields_of fields))

-- the names of the columns that are held are within the limits of a catalog's
abbrev pub ColumnsSized : Held → Type 0
ColumnsSized h = (r : ℕ) (a : ℤ) (k : CatalogColumn) → (book_held h).columns r a ≡ Some k → Sized 128 k.table × Sized 63 k.column
