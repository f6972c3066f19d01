-- What a row of the code means, and its shape. Assumes nothing.
use Rattle.std.specs.Prelude.{ℕ, List, map, Some, None, Ok, Err, Option, Result}
use Rattle.type_info.specs.declared.oid.Oid.{Oid}
use Rattle.catalog.specs.declared.values.Attribute.{Attribute}
use Rattle.catalog.specs.declared.values.Column.{Column}
use Rattle.catalog.specs.declared.row.Row.{Row}
use Rattle.catalog.specs.declared.shape.Head.{Head as CodeHead}
use Rattle.catalog.specs.declared.shape.Head.TheVariants as h
use Rattle.catalog.specs.declared.shape.Shape.{Shape as CodeShape}
use Rattle.catalog.specs.declared.shape.Malformed.{Malformed}
use Rattle.catalog.specs.declared.text.Text.{Text}
use Rattle.catalog.specs.declared.few.Few.{Few}
use Rattle.catalog.specs.Few.{standing}
use Rattle.catalog.specs.Catalog.{CatalogRow, CatalogAttribute, CatalogColumn}
use Rattle.catalog.specs.Shape.{Head, simple, pseudo, domain, array, range, enumeration, composite, Shape, names_of}

abbrev pub text_of : {n : ℕ} → Text n → List ℕ
text_of t = standing t.bytes

abbrev pub oid_told : Option Oid → Option ℕ
oid_told None = None
oid_told (Some o) = Some o.0

abbrev pub attribute_meaning : Attribute → CatalogAttribute
attribute_meaning a = record { called = text_of a.name; typed = a.oid.0 }

abbrev pub row_meaning : Row → CatalogRow
row_meaning r = record {
  pretty = text_of r.pretty;
  typtype = r.typtype;
  typcategory = r.typcategory;
  typelem = oid_told r.typelem;
  typbasetype = oid_told r.typbasetype;
  rngsubtype = oid_told r.rngsubtype;
  typarray = oid_told r.typarray;
  labels = map text_of (standing r.labels);
  attributes = map attribute_meaning (standing r.attributes);
}

abbrev pub row_told : Option Row → Option CatalogRow
row_told None = None
row_told (Some r) = Some (row_meaning r)

abbrev pub column_meaning : Column → CatalogColumn
column_meaning k = record { table = text_of k.table; column = text_of k.name }

abbrev pub column_told : Option Column → Option CatalogColumn
column_told None = None
column_told (Some k) = Some (column_meaning k)

abbrev pub links_told : Few Oid 64 → List ℕ
links_told links = map (λ o. o.0) (standing links)

abbrev pub head_meaning : CodeHead → Head
head_meaning h.Simple = simple
head_meaning h.Pseudo = pseudo
head_meaning h.Domain = domain
head_meaning h.Array = array
head_meaning h.Range = range
head_meaning (h.Enum labels) = enumeration (map text_of labels.now)
head_meaning (h.Composite attributes) = composite (names_of (map attribute_meaning attributes.now))

abbrev pub shape_meaning : CodeShape → Shape
shape_meaning s = record { name = s.name.now; head = head_meaning s.head; links = links_told s.links }

-- nothing where the row is malformed
abbrev pub shape_told : Result CodeShape Malformed → Option Shape
shape_told (Ok s) = Some (shape_meaning s)
shape_told (Err m) = None
