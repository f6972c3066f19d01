-- The rows that the shelf works out of the built-in table, and the catalog that it is.
-- Assumes nothing.
use Rattle.std.specs.Prelude.{ℕ, [], Some, None, Option}
use Rattle.std.specs.Option.{option_map}
use Rattle.catalog.specs.Catalog.{Catalog, CatalogRow}
use Rattle.type_info.specs.Table.{Entry, Kind, simple, pseudo, array, range, by_oid, by_name, array_of}

-- r for a range, p for a pseudo type, else b
abbrev pub typtype_byte : Kind → ℕ
typtype_byte simple = 98
typtype_byte pseudo = 112
typtype_byte (array e) = 98
typtype_byte (range e) = 114

-- A for an array, else U
abbrev pub category_byte : Kind → ℕ
category_byte simple = 85
category_byte pseudo = 85
category_byte (array e) = 65
category_byte (range e) = 85

abbrev pub element_oid : Kind → Option ℕ
element_oid simple = None
element_oid pseudo = None
element_oid (array e) = Some e
element_oid (range e) = None

abbrev pub subtype_oid : Kind → Option ℕ
subtype_oid simple = None
subtype_oid pseudo = None
subtype_oid (array e) = None
subtype_oid (range e) = Some e

abbrev pub shelf_row : Entry → CatalogRow
shelf_row e = record {
  pretty = e.name;
  typtype = typtype_byte e.kind;
  typcategory = category_byte e.kind;
  typelem = element_oid e.kind;
  typbasetype = None;
  rngsubtype = subtype_oid e.kind;
  typarray = option_map (λ a. a.oid) (array_of e.oid);
  labels = [];
  attributes = [];
}

-- a row for each entry, found by the OID or by the name of the table; no columns
abbrev pub shelf_of : ℕ → Catalog
shelf_of n = record {
  rows = λ o. option_map shelf_row (by_oid o);
  named = λ s. option_map (λ e. e.oid) (by_name s);
  columns = λ relation attribute. None;
  allowance = n;
}
