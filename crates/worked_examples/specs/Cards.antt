-- The catalogs of the worked examples of steps.
-- Assumes nothing.
use Rattle.std.specs.Prelude.{ℕ, ◌+◌, ◌&&◌, if◌then◌else◌, List, [], ◌∷◌, pos, Some, None, Option, codes, ◌==◌, nat_lt}
use Rattle.std.specs.Ordering.{int_eq}
use Rattle.std.specs.Str.{bytes_eq}
use Rattle.catalog.specs.Catalog.{CatalogAttribute, CatalogRow, Catalog}
use Rattle.catalog.specs.Shape.{Name}
use Rattle.catalog.specs.declared.codes.TypType.TheVariants as t
use Rattle.catalog.specs.declared.codes.TypType.{TypType}
use Rattle.catalog.specs.declared.codes.TypCategory.TheVariants as c
use Rattle.catalog.specs.declared.codes.TypCategory.{TypCategory}
use Rattle.catalog.specs.Codes.{typtype_byte, typcategory_byte}

-- a row with nothing but its name and its codes
abbrev pub plain : Name → TypType → TypCategory → CatalogRow
plain name typtype typcategory = record {
  pretty = name;
  typtype = typtype_byte typtype;
  typcategory = typcategory_byte typcategory;
  typelem = None;
  typbasetype = None;
  rngsubtype = None;
  typarray = None;
  labels = [];
  attributes = [];
}

abbrev pub domain_over : Name → ℕ → CatalogRow
domain_over name base = record (plain name t.Domain c.String) { typbasetype = Some base }

abbrev pub enum_of : Name → List Name → CatalogRow
enum_of name labels = record (plain name t.Enum c.Enum) { labels = labels }

abbrev pub composite_of : Name → List CatalogAttribute → CatalogRow
composite_of name attributes = record (plain name t.Composite c.Composite) { attributes = attributes }

abbrev pub attribute : Name → ℕ → CatalogAttribute
attribute name oid = record { called = name; typed = oid }

-- an array over this element, whose own array may have a row
abbrev pub array_over : Name → ℕ → Option ℕ → CatalogRow
array_over name element array = record (plain name t.Base c.Array) { typelem = Some element; typarray = array }

-- the same row, told to have this array
abbrev pub with_array : CatalogRow → ℕ → CatalogRow
with_array r array = record r { typarray = Some array }

abbrev pub row_in : List (ℕ × CatalogRow) → ℕ → Option CatalogRow
row_in [] o = None
row_in (r ∷ rs) o = if o == r.0 then Some r.1 else row_in rs o

-- the OID of the first row with this pretty name
abbrev pub pretty_of : List (ℕ × CatalogRow) → Name → Option ℕ
pretty_of [] n = None
pretty_of (r ∷ rs) n = if bytes_eq n r.1.pretty then Some r.0 else pretty_of rs n

-- the catalog of these rows, with no name but theirs, and no column
abbrev pub card : List (ℕ × CatalogRow) → ℕ → Catalog
card rows allowance = record { rows = row_in rows; named = pretty_of rows; columns = λ _ _. None; allowance = allowance }

abbrev pub prices : ℕ → Catalog
prices =
    card
    ((50001, domain_over (codes "price") 50003)
    ∷ (50002, composite_of (codes "crop") (attribute (codes "left") 50003 ∷ attribute (codes "right") 50004 ∷ []))
    ∷ (50003, enum_of (codes "edge") (codes "near" ∷ codes "far" ∷ []))
    ∷ (50004, enum_of (codes "hue") (codes "red" ∷ []))
    ∷ [])

-- a row is missing, and two go round
abbrev pub broken : ℕ → Catalog
broken =
    card
    ((50005, domain_over (codes "kept") 50006)
    ∷ (50007, domain_over (codes "hen") 50008)
    ∷ (50008, domain_over (codes "egg") 50007)
    ∷ [])

-- int2 is another name of 21
abbrev pub vectors : Catalog
vectors =
    let rows : List (ℕ × CatalogRow) = (21, with_array (plain (codes "smallint") t.Base c.Numeric) 1005) ∷ (22, array_over (codes "int2vector") 21 (Some 1006)) ∷ [] in
    record (card rows 64) { named = λ n. if bytes_eq n (codes "int2") then Some 21 else pretty_of rows n }

abbrev pub cells : ℕ × CatalogRow → Catalog
cells base =
    card
    (base
    ∷ (50003, with_array (domain_over (codes "cell") 50098) 50004)
    ∷ (50004, array_over (codes "cell[]") 50003 None)
    ∷ [])
    64

-- the row that cell lacks stands under an OID that nothing leads to, and then under its own
abbrev pub cells_without : Catalog
cells_without = cells (50099, plain (codes "base") t.Base c.User)

abbrev pub cells_with : Catalog
cells_with = cells (50098, plain (codes "base") t.Base c.User)

-- 50099 has no row
abbrev pub parts : Catalog
parts =
    card
    ((50001, enum_of (codes "one") (codes "label" ∷ []))
    ∷ (50002, composite_of (codes "two") (attribute (codes "left") 50001 ∷ attribute (codes "right") 50099 ∷ []))
    ∷ [])
    64

-- a chain of n domains, the last over 23: 60001 over 60002, and so on
abbrev pub chain_row : ℕ → ℕ → Option CatalogRow
chain_row n o =
    if nat_lt o 60001 then None
    else (if nat_lt o (60000 + n) then Some (domain_over (codes "link") (o + 1))
    else (if o == 60000 + n then Some (domain_over (codes "link") 23) else None))

abbrev pub chain : ℕ → Catalog
chain n = record { rows = chain_row n; named = λ _. None; columns = λ _ _. None; allowance = 100 }

-- one enum, and one column, of attribute 1 of relation 7
abbrev pub columned : ℕ → Catalog
columned allowance =
    record (prices allowance) {
      columns = λ r a. if r == 7 && int_eq a (pos 1) then Some (record { table = codes "yield"; column = codes "amount" }) else None;
    }
