-- The shape of a row: its name, its kind without the OIDs that it uses, and these OIDs, the links, in order.
-- Assumes nothing.
use Rattle.std.specs.Prelude.{ℕ, Bool, not, ◌&&◌, ◌==◌, if◌then◌else◌, List, [], ◌∷◌, map, Some, None, Option}
use Rattle.std.specs.Option.{option_and_then, option_map}
use Rattle.catalog.specs.declared.codes.TypType.TheVariants as t
use Rattle.catalog.specs.declared.codes.TypCategory.TheVariants as c
use Rattle.catalog.specs.Catalog.{Catalog, CatalogAttribute, CatalogRow}
use Rattle.catalog.specs.Codes.{listed, typtypes, typcategories, typtype_byte, typcategory_byte}

abbrev pub Name : Type 0
Name = List ℕ

pub data Head : Type 0 where
  simple pseudo domain array range : Head
  enumeration : List Name → Head
  composite : List Name → Head

pub record Shape : Type 0 where
  pub name : Name
  pub head : Head
  pub links : List ℕ

abbrev pub names_of : List CatalogAttribute → List Name
names_of attributes = map (λ a. a.called) attributes

abbrev pub oids_of : List CatalogAttribute → List ℕ
oids_of attributes = map (λ a. a.typed) attributes

abbrev pub shaped : CatalogRow → Head → List ℕ → Shape
shaped r head links = record { name = r.pretty; head = head; links = links }

-- of a kind that needs this one OID
abbrev pub linked : CatalogRow → Head → Option ℕ → Option Shape
linked r head oid = option_map (λ o. shaped r head (o ∷ [])) oid

abbrev pub codes_listed : CatalogRow → Bool
codes_listed r = listed r.typtype typtypes && listed r.typcategory typcategories

-- nothing where the row is malformed: a code is not listed, or the OID is missing that the kind needs.
-- The first line that fits decides
unfoldable pub shape : CatalogRow → Option Shape
shape r =
    if not (codes_listed r) then None
    else if r.typtype == typtype_byte t.Domain then linked r domain r.typbasetype
    else if r.typtype == typtype_byte t.Base && r.typcategory == typcategory_byte c.Array then linked r array r.typelem
    else if r.typtype == typtype_byte t.Pseudo then Some (shaped r pseudo [])
    else if r.typtype == typtype_byte t.Range then linked r range r.rngsubtype
    else if r.typtype == typtype_byte t.Enum then Some (shaped r (enumeration r.labels) [])
    else if r.typtype == typtype_byte t.Composite then Some (shaped r (composite (names_of r.attributes)) (oids_of r.attributes))
    else Some (shaped r simple [])

-- the shape of an OID's row; nothing where there is no row or it is malformed
unfoldable pub formed : Catalog → ℕ → Option Shape
formed c o = option_and_then shape (c.rows o)
