-- What a host offers, read over its text: nothing where a limit is broken or a span lies outside the text.
-- Assumes nothing.
use Rattle.std.specs.Prelude.{ℕ, Bool, true, false, ◌&&◌, List, [], ◌∷◌, length, Some, None, Option, nat_le}
use Rattle.std.specs.Bool.{then_some}
use Rattle.keys.specs.declared.span.Span.{Span}
use Rattle.keys.specs.Spans.{span_bytes, span_end}
use Rattle.type_info.specs.declared.oid.Oid.{Oid}
use Rattle.catalog.specs.Catalog.{CatalogAttribute, CatalogColumn, CatalogRow}
use Rattle.catalog.specs.Limits.{nonzero}
use Rattle.catalog.specs.Meaning.{oid_told}
use Rattle.offers.specs.declared.offer.OfferedAttribute.{OfferedAttribute}
use Rattle.offers.specs.declared.offer.OfferedRow.{OfferedRow}

-- a row as it is offered, over some host text
pub record RowOffer : Type 0 where
  pub oid : Oid
  pub pretty : Span
  pub typtype : ℕ
  pub typcategory : ℕ
  pub typelem : Option Oid
  pub typbasetype : Option Oid
  pub rngsubtype : Option Oid
  pub typarray : Option Oid
  pub labels : List Span
  pub attributes : List OfferedAttribute

abbrev pub offer_of : OfferedRow → RowOffer
offer_of r = record {
  oid = r.oid;
  pretty = r.pretty;
  typtype = r.typtype;
  typcategory = r.typcategory;
  typelem = r.typelem;
  typbasetype = r.typbasetype;
  rngsubtype = r.rngsubtype;
  typarray = r.typarray;
  labels = r.labels.now;
  attributes = r.attributes.now;
}

-- the span lies in the text and has 1 to `most` bytes
abbrev pub fits : ℕ → List ℕ → Span → Bool
fits most host s = nat_le (span_end s) (length host) && (nat_le 1 s.length && nat_le s.length most)

-- the text under a span that fits
abbrev pub text_at : ℕ → List ℕ → Span → Option (List ℕ)
text_at most host s = then_some (fits most host s) (span_bytes host s)

abbrev pub consed : {A : Type 0} → Option A → Option (List A) → Option (List A)
consed None rest = None
consed (Some x) None = None
consed (Some x) (Some xs) = Some (x ∷ xs)

-- what each of some is read as; nothing where one is read as nothing
abbrev pub every : {A B : Type 0} → (A → Option B) → List A → Option (List B)
every read [] = Some []
every read (x ∷ xs) = consed (read x) (every read xs)

-- at most 64 of them
abbrev pub few : {A B : Type 0} → (A → Option B) → List A → Option (List B)
few read xs = elim (nat_le (length xs) 64) [ true ↦ every read xs | false ↦ None ]

abbrev pub typed_as : ℕ → Option (List ℕ) → Option CatalogAttribute
typed_as oid None = None
typed_as oid (Some name) = then_some (nat_le 1 oid) (record { called = name; typed = oid })

abbrev pub attribute_at : List ℕ → OfferedAttribute → Option CatalogAttribute
attribute_at host a = typed_as a.oid.0 (text_at 63 host a.name)

-- OID 0 is no row's and no link's
abbrev pub oids_fit : RowOffer → Bool
oids_fit r =
    nat_le 1 r.oid.0 && (nonzero r.typelem && (nonzero r.typbasetype && (nonzero r.rngsubtype && nonzero r.typarray)))

abbrev pub row_from : RowOffer → Option (List ℕ) → Option (List (List ℕ)) → Option (List CatalogAttribute) → Option CatalogRow
row_from r None labels attributes = None
row_from r (Some pretty) None attributes = None
row_from r (Some pretty) (Some labels) None = None
row_from r (Some pretty) (Some labels) (Some attributes) =
    then_some (oids_fit r) (record {
      pretty = pretty;
      typtype = r.typtype;
      typcategory = r.typcategory;
      typelem = oid_told r.typelem;
      typbasetype = oid_told r.typbasetype;
      rngsubtype = oid_told r.rngsubtype;
      typarray = oid_told r.typarray;
      labels = labels;
      attributes = attributes;
    })

-- a row over the host's text: a pretty name of 1 to 128 bytes, at most 64 labels and 64 attributes with names of 1 to 63
abbrev pub offered_row : List ℕ → RowOffer → Option CatalogRow
offered_row host r = row_from r (text_at 128 host r.pretty) (few (text_at 63 host) r.labels) (few (attribute_at host) r.attributes)

-- a name that leads to an OID
abbrev pub offered_name : List ℕ → Span → Option (List ℕ)
offered_name host s = text_at 128 host s

abbrev pub column_from : Option (List ℕ) → Option (List ℕ) → Option CatalogColumn
column_from None column = None
column_from (Some table) None = None
column_from (Some table) (Some column) = Some (record { table = table; column = column })

abbrev pub offered_column : List ℕ → Span → Span → Option CatalogColumn
offered_column host table column = column_from (text_at 128 host table) (text_at 63 host column)
