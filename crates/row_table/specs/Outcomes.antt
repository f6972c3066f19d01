-- What a host is told of an addition and what the catalog is after it: accepted exactly where no refusal holds, and refused by the
-- first that does.
-- Assumes nothing.
use Rattle.std.specs.Prelude.{◌≡◌, ℕ, ◌+◌, ◌<◌, ◌⊎◌, List, [], ◌∷◌, Some, None, Ok, Err, Option, Result, ◌≢◌, nat_eq}
use Rattle.std.specs.Map.{update}
use Rattle.std.specs.Str.{bytes_eq}
use Rattle.catalog.specs.declared.faults.CatalogFault.{CatalogFault}
use Rattle.catalog.specs.declared.faults.CatalogFault.TheVariants.{NoAllowance, BreaksLimit, Contradicts, Full}
use Rattle.catalog.specs.declared.faults.HeldIn.{HeldIn}
use Rattle.catalog.specs.declared.faults.HeldIn.TheVariants.{Rows, Names, Parts, Columns}
use Rattle.catalog.specs.Catalog.{Catalog, CatalogColumn, CatalogRow}
use Rattle.keys.specs.declared.kinds.Attribute.{Attribute}
use Rattle.keys.specs.Senses.{pair_of, same_pair}
use Rattle.type_info.specs.declared.oid.Oid.{Oid}
use Rattle.row_table.specs.Additions.{parts}
use Rattle.row_table.specs.Held.{Held}

-- a table that takes `more` to the `held` that it has, where it has room for `most`
pub record Need : Type 0 where
  pub table : HeldIn
  pub held : ℕ
  pub more : ℕ
  pub most : ℕ

abbrev pub NoRoom : Need → Type 0
NoRoom n = n.most < n.held + n.more

abbrev pub AllFit : List Need → Type 0
AllFit [] = Unit {0}
AllFit (n ∷ ns) = (NoRoom n → ⊥) × AllFit ns

-- the first of some tables that has no room
abbrev pub FirstFull : HeldIn → List Need → Type 0
FirstFull table [] = ⊥
FirstFull table (n ∷ ns) = ((table ≡ n.table) × NoRoom n) ⊎ ((NoRoom n → ⊥) × FirstFull table ns)

-- an addition that is read as nothing breaks a limit, or a span of it lies outside the host's text
module _ {A : Type 0} (place : Oid) (offered : Option A) (Contradicted AlreadyHeld : A → Type 0) (needs : A → List Need) (added : A → Catalog → Catalog) (before after : Catalog) where
  abbrev pub Outcome : Result (Unit {0}) CatalogFault → Type 0
  Outcome (Ok done) =
      (x : A) × (offered ≡ Some x) × (Contradicted x → ⊥) × (AlreadyHeld x ⊎ AllFit (needs x)) × (after ≡ added x before)
  Outcome (Err (BreaksLimit at)) = (at ≡ place) × (offered ≡ None) × (after ≡ before)
  Outcome (Err (Contradicts at)) = (at ≡ place) × ((x : A) × (offered ≡ Some x) × Contradicted x) × (after ≡ before)
  Outcome (Err (Full table)) =
      ((x : A) × (offered ≡ Some x) × (Contradicted x → ⊥) × (AlreadyHeld x → ⊥) × FirstFull table (needs x)) × (after ≡ before)
  Outcome (Err (NoAllowance round)) = ⊥

module _ (h : Held) where
  -- a row: its OID has another, or its pretty name leads to another OID
  abbrev pub RowContradicted : Oid → CatalogRow → Type 0
  RowContradicted oid r = ((k : CatalogRow) × (h.rows oid.0 ≡ Some k) × (k ≢ r)) ⊎ ((o : ℕ) × (h.named r.pretty ≡ Some o) × (o ≢ oid.0))

  abbrev pub RowHeld : Oid → CatalogRow → Type 0
  RowHeld oid r = h.rows oid.0 ≡ Some r

  abbrev pub row_needs : CatalogRow → List Need
  row_needs r =
      record { table = Rows; held = h.row_count; more = 1; most = 256 }
      ∷ (record { table = Names; held = h.name_count; more = 1; most = 512 }
      ∷ (record { table = Parts; held = h.part_count; more = parts r; most = 1024 } ∷ []))

  -- a name: it leads to another OID, or its OID has no row
  abbrev pub NameContradicted : Oid → List ℕ → Type 0
  NameContradicted oid name = ((o : ℕ) × (h.named name ≡ Some o) × (o ≢ oid.0)) ⊎ (h.rows oid.0 ≡ None)

  abbrev pub NameHeld : Oid → List ℕ → Type 0
  NameHeld oid name = h.named name ≡ Some oid.0

  abbrev pub name_needs : List ℕ → List Need
  name_needs name = record { table = Names; held = h.name_count; more = 1; most = 512 } ∷ []

  -- a column: its relation tells another table, or it has another name
  abbrev pub ColumnContradicted : Attribute → CatalogColumn → Type 0
  ColumnContradicted at k =
      ((table : List ℕ) × (h.tables at.relation.0 ≡ Some table) × (table ≢ k.table)) ⊎ ((name : List ℕ) × (h.column_names (pair_of at) ≡ Some name) × (name ≢ k.column))

  abbrev pub ColumnHeld : Attribute → CatalogColumn → Type 0
  ColumnHeld at k = (h.tables at.relation.0 ≡ Some k.table) × (h.column_names (pair_of at) ≡ Some k.column)

  abbrev pub column_needs : CatalogColumn → List Need
  column_needs k = record { table = Columns; held = h.column_count; more = 1; most = 1024 } ∷ []

-- a catalog with one addition more, and nothing else
abbrev pub row_added : Oid → CatalogRow → Catalog → Catalog
row_added oid r c = record c { rows = update nat_eq c.rows oid.0 (Some r); named = update bytes_eq c.named r.pretty (Some oid.0) }

abbrev pub name_added : Oid → List ℕ → Catalog → Catalog
name_added oid name c = record c { named = update bytes_eq c.named name (Some oid.0) }

abbrev pub column_added : Attribute → CatalogColumn → Catalog → Catalog
column_added at k c = record c { columns = λ o a. update same_pair (λ p. c.columns p.0 p.1) (pair_of at) (Some k) (o, a) }

-- the outcome of a row, a name and a column that were offered where h is held
abbrev pub RowOutcome : Held → Oid → Option CatalogRow → Catalog → Catalog → Result (Unit {0}) CatalogFault → Type 0
RowOutcome h oid offered = Outcome oid offered (RowContradicted h oid) (RowHeld h oid) (row_needs h) (row_added oid)

abbrev pub NameOutcome : Held → Oid → Option (List ℕ) → Catalog → Catalog → Result (Unit {0}) CatalogFault → Type 0
NameOutcome h oid offered = Outcome oid offered (NameContradicted h oid) (NameHeld h oid) (name_needs h) (name_added oid)

abbrev pub ColumnOutcome : Held → Attribute → Option CatalogColumn → Catalog → Catalog → Result (Unit {0}) CatalogFault → Type 0
ColumnOutcome h at offered = Outcome at.relation offered (ColumnContradicted h at) (ColumnHeld h at) (column_needs h) (column_added at)
