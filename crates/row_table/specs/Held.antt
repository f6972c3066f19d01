-- What a row table holds, and the catalog that it is.
-- Assumes nothing.
use Rattle.std.specs.Prelude.{◌≡◌, ℕ, true, List, ℤ, is_some, Some, None, Option}
use Rattle.catalog.specs.Catalog.{Catalog, CatalogColumn, CatalogRow, Sized}
use Rattle.keys.specs.Senses.{Pair}

pub record Held : Type 0 where
  pub rows : ℕ → Option CatalogRow
  pub named : List ℕ → Option ℕ
  -- the table that the columns of a relation tell, and the name of each column by relation and attribute number
  pub tables : ℕ → Option (List ℕ)
  pub column_names : Pair → Option (List ℕ)
  pub allowance : ℕ
  pub row_count : ℕ
  pub name_count : ℕ
  -- labels and attributes together
  pub part_count : ℕ
  pub column_count : ℕ

-- nothing is held, at some allowance
abbrev pub nothing_held : ℕ → Held
nothing_held allowance = record {
  rows = λ o. None;
  named = λ s. None;
  tables = λ o. None;
  column_names = λ p. None;
  allowance = allowance;
  row_count = 0;
  name_count = 0;
  part_count = 0;
  column_count = 0;
}

abbrev pub at_allowance : Held → ℕ → Held
at_allowance h allowance = record h { allowance = allowance }

abbrev pub column_from : Option (List ℕ) → Option (List ℕ) → Option CatalogColumn
column_from None name = None
column_from (Some table) None = None
column_from (Some table) (Some name) = Some (record { table = table; column = name })

-- a column is told by the table of its relation and by its own name
abbrev pub catalog_of : Held → Catalog
catalog_of h = record {
  rows = h.rows;
  named = h.named;
  columns = λ o a. column_from (h.tables o) (h.column_names (o, a));
  allowance = h.allowance;
}

-- nothing that is held contradicts anything else that is
pub record Consistent (h : Held) : Type 0 where
  pub no_zero : h.rows 0 ≡ None
  pub names_fit : (s : List ℕ) (o : ℕ) → h.named s ≡ Some o → Sized 128 s
  pub pretty_leads : (o : ℕ) (r : CatalogRow) → h.rows o ≡ Some r → h.named r.pretty ≡ Some o
  pub named_stands : (s : List ℕ) (o : ℕ) → h.named s ≡ Some o → is_some (h.rows o) ≡ true
  pub table_told : (o : ℕ) (a : ℤ) → is_some (h.column_names (o, a)) ≡ true → is_some (h.tables o) ≡ true
