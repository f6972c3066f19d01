-- What an accepted Bind writes.
-- Assumes nothing.
use Rattle.std.specs.Prelude.{◌≡◌, ℕ, suc, ◌⊎◌, ◌↔◌, List, [], ◌∷◌, map, ℤ, if◌then◌else◌, Some, None, Option}
use Rattle.catalog.specs.Catalog.{CatalogColumn, Catalog}
use Rattle.catalog.specs.Shape.{Name}
use Rattle.keys.specs.Senses.{Pair}
use Rattle.unfolding.specs.Unfolding.{Tree, Unfolds}
use Rattle.life.specs.Calls.{Field, Binding}
use Rattle.life.specs.Life.{Lived}
use Rattle.life.specs.Outcomes.{Outcome}
use Rattle.life.specs.Rounds.{Known, found}
use Rattle.life.specs.Steps.{Book, accepts, Event}
use Rattle.life.specs.Tests.{source}

-- a type: its OID, settled or as declared
pub data WrittenType : Type 0 where
  settled_as : ℕ → Tree → WrittenType
  declared_as : ℕ → WrittenType

-- where a field comes from: no column, one that the book does not hold, or this one of this table
pub data Origin : Type 0 where
  expression unknown : Origin
  table : Name → Name → Origin

-- what is written of a type and of a column that may be there
abbrev pub write_type : ℕ → Option Tree → WrittenType
write_type o None = declared_as o
write_type o (Some t) = settled_as o t

abbrev pub origin_found : Option CatalogColumn → Origin
origin_found None = unknown
origin_found (Some k) = table k.table k.column

abbrev pub origin_at : Book → Option Pair → Origin
origin_at b None = expression
origin_at b (Some p) = origin_found (b.columns p.0 p.1)

-- the origin of a field over the book that the step leaves
abbrev pub origin_of : Book → Field → Origin
origin_of b f = origin_at b (source f)

-- a field: its index, and what is written of it
pub record BoundColumn : Type 0 where
  pub ordinal : ℕ
  pub type : WrittenType
  pub relation : Option ℕ
  pub attribute : Option ℤ
  pub origin : Origin

module _ (b : Book) where
  abbrev pub written : ℕ → WrittenType
  written o = write_type o (found b.descriptors o)

  abbrev pub bound_column : ℕ → Field → BoundColumn
  bound_column i f = record { ordinal = i; type = written f.oid; relation = f.relation; attribute = f.attribute; origin = origin_of b f }

  abbrev pub bound_columns : ℕ → List Field → List BoundColumn
  bound_columns i [] = []
  bound_columns i (f ∷ fs) = bound_column i f ∷ bound_columns (suc i) fs

-- parameter types and columns, over the book that the step leaves; a refused Bind writes nothing
pub record BindAnswers : Type 0 where
  pub parameters : List WrittenType
  pub columns : List BoundColumn

abbrev pub bind_writes : Outcome → Binding → BindAnswers
bind_writes o q = record {
  parameters = if accepts o.ending then map (written o.left) q.parameters else [];
  columns = if accepts o.ending then bound_columns o.left 0 q.fields else [];
}

-- a field's origin is Table exactly if it has a relation and an attribute and the book holds that column; then the two names are the
-- column's
abbrev pub OriginLaw : Type 0
OriginLaw =
    (b : Book) (f : Field) (t n : Name) →
    (origin_of b f ≡ table t n) ↔
    ((r : ℕ) × (a : ℤ) × (k : CatalogColumn) × (f.relation ≡ Some r) × (f.attribute ≡ Some a) × (b.columns r a ≡ Some k) × (k.table ≡ t) × (k.column ≡ n))

-- it is Expression exactly if its relation or its attribute is absent
abbrev pub ExpressionLaw : Type 0
ExpressionLaw = (b : Book) (f : Field) → (origin_of b f ≡ expression) ↔ ((f.relation ≡ None) ⊎ (f.attribute ≡ None))

-- a type is written as settled exactly if its OID is known to the book, and then by its unfolding
abbrev pub TypesLaw : Type 0
TypesLaw =
    (h : List Event) (c : Catalog) (b : Book) → Lived h c b →
    (o : ℕ) (t : Tree) → (written b o ≡ settled_as o t) ↔ (Known b.descriptors o × Unfolds c o t)
