-- What a column round found, how much of it a book does not hold, and what a book holds once it is kept.
-- Assumes nothing.
use Rattle.std.specs.Prelude.{◌≡◌, ℕ, Bool, true, false, ◌||◌, List, [], ◌∷◌, ◌++◌, map, nat_eq, ℤ, if◌then◌else◌, is_some, Some}
use Rattle.type_info.specs.declared.oid.Oid.{Oid}
use Rattle.catalog.specs.Catalog.{Catalog, CatalogColumn}
use Rattle.catalog.specs.Meaning.{column_meaning}
use Rattle.catalog.specs.declared.values.Column.{Column}
use Rattle.indexes.specs.Known.{Gained}
use Rattle.keys.specs.Senses.{Pair, oid_of, pair_of}
use Rattle.keys.specs.declared.kinds.Attribute.{Attribute}
use Rattle.slots.specs.Slots.{Entry}
use Rattle.life.specs.Lists.{is_in}
use Rattle.room.specs.Added.{with_values}
use Rattle.room.specs.Sizes.{Sizes}
use Rattle.book.specs.Adding.{adds_column}
use Rattle.book.specs.Held.{Held, no_sizes, size_of_column_name, size_of_relation, sum_of, with_column}
use Rattle.book.specs.Stands.{OneTable}

-- an attribute of a relation and its names
abbrev pub FoundColumn : Type 0
FoundColumn = Pair × CatalogColumn

abbrev pub columns_told : List (Attribute × Column) → List FoundColumn
columns_told xs = map (λ (x : Attribute × Column). (pair_of x.0, column_meaning x.1)) xs

-- those that a catalog has of the attributes asked for
abbrev pub columns_found : Catalog → List Pair → List FoundColumn
columns_found c asked = with_values (λ (p : Pair). c.columns p.0 p.1) asked

-- the tables of relations that are held are those that the catalog's columns tell
abbrev pub RelatedBy : Catalog → Held → Type 0
RelatedBy c h = (r : ℕ) (a : ℤ) (k : CatalogColumn) → c.columns r a ≡ Some k → OneTable h r k.table

abbrev pub column_kept : Held → FoundColumn → Held
column_kept h x = if adds_column h x.0 x.1 then with_column h x.0 x.1 else h

-- what a column takes where it is held or not, and its relation is held or counted already or not
abbrev pub column_size : Bool → Bool → CatalogColumn → Sizes
column_size true related k = no_sizes
column_size false true k = size_of_column_name k.column
column_size false false k = sum_of (size_of_column_name k.column) (size_of_relation k.table)

-- which relations are counted then
abbrev pub also_counted : Bool → Bool → List ℕ → ℕ → List ℕ
also_counted true related rs r = rs
also_counted false true rs r = rs
also_counted false false rs r = rs ++ r ∷ []

-- and what a table of these becomes
abbrev pub CountedIn : Bool → Bool → List (Entry Oid ℕ) → ℕ → List (Entry Oid ℕ) → Type 0
CountedIn true related seen r now = now ≡ seen
CountedIn false true seen r now = now ≡ seen
CountedIn false false seen r now = Gained nat_eq oid_of seen r 0 now

-- what is counted so far, and which relations
pub record Counted : Type 0 where
  pub sizes : Sizes
  pub relations : List ℕ

abbrev pub nothing_counted : Counted
nothing_counted = record { sizes = no_sizes; relations = [] }

abbrev pub counted_so : Bool → Bool → Counted → FoundColumn → Counted
counted_so held related s x = record { sizes = sum_of s.sizes (column_size held related x.1); relations = also_counted held related s.relations x.0.0 }

abbrev pub column_counted : Held → Counted → FoundColumn → Counted
column_counted h s x = counted_so (is_some (h.columns x.0)) (is_some (h.relations x.0.0) || is_in x.0.0 s.relations) s x

abbrev pub counted_from : Held → Counted → List FoundColumn → Counted
counted_from h s [] = s
counted_from h s (x ∷ xs) = counted_from h (column_counted h s x) xs

abbrev pub size_of_columns : Held → List FoundColumn → Sizes
size_of_columns h xs = (counted_from h nothing_counted xs).sizes
