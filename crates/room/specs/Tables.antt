-- What a book's tables hold, as lists, and the book that they stand for.
-- Assumes nothing.
use Rattle.std.specs.Prelude.{ℕ, Bool, List, [], ◌∷◌, ◌++◌, if◌then◌else◌, nat_eq, Some, None, bytes_eq, Option}
use Rattle.catalog.specs.Catalog.{CatalogColumn}
use Rattle.catalog.specs.Shape.{Name}
use Rattle.keys.specs.Senses.{Pair, same_pair}
use Rattle.unfolding.specs.Unfolding.{Tree}
use Rattle.life.specs.Steps.{Book}

-- in no order that matters; a part is no entry of its own, but lies in its descriptor's tree
pub record Tables : Type 0 where
  pub descriptors : List (ℕ × Tree)
  pub names : List (Name × ℕ)
  pub arrays : List (ℕ × ℕ)
  pub columns : List (Pair × CatalogColumn)
  pub relations : List (ℕ × Name)

abbrev pub no_tables : Tables
no_tables = record { descriptors = []; names = []; arrays = []; columns = []; relations = [] }

-- the first entry under this key
abbrev pub look_up : {K V : Type 0} → (K → K → Bool) → List (K × V) → K → Option V
look_up same [] k = None
look_up same (x ∷ xs) k = if same k x.0 then Some x.1 else look_up same xs k

-- the book that they stand for
abbrev pub contents : Tables → Book
contents t = record {
  descriptors = look_up nat_eq t.descriptors;
  names = look_up bytes_eq t.names;
  arrays = look_up nat_eq t.arrays;
  columns = λ r a. look_up same_pair t.columns (r, a);
}

-- the tables, and what is added behind
abbrev pub extended : Tables → Tables → Tables
extended t more = record {
  descriptors = t.descriptors ++ more.descriptors;
  names = t.names ++ more.names;
  arrays = t.arrays ++ more.arrays;
  columns = t.columns ++ more.columns;
  relations = t.relations ++ more.relations;
}
