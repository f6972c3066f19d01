-- What is known of an addition that is new. Assumes nothing.
use Rattle.std.proofs.Common.{◌≡◌, ℕ, ◌+◌, ◌<◌, ◌≤◌, Bool, true, false, cond, List, Some, None, Ok, Err, Option, refl, arith}
use Rattle.std.specs.Prelude.{nat_le, nat_lt}
use Rattle.std.specs.Str.{bytes_eq}
use Rattle.std.proofs.lemmas.Bool.{leb-false, ltb-false}
use Rattle.catalog.specs.declared.faults.CatalogFault.{CatalogFault}
use Rattle.catalog.specs.Catalog.{CatalogColumn, CatalogRow}
use Rattle.keys.specs.declared.kinds.Attribute.{Attribute}
use Rattle.keys.specs.Senses.{pair_of}
use Rattle.type_info.specs.declared.oid.Oid.{Oid}
use Rattle.row_table.specs.Additions.{Judged, column_beside, column_judged, known_if, name_beside, name_judged, name_stands, parts, room_for_column, room_for_row, row_beside, row_by_name, row_judged, table_beside}
use Rattle.row_table.specs.Held.{Held}

refused : (f : CatalogFault) → ◌≡◌ {A = Judged} (Err f) (Ok true) → ⊥
refused f e = let z : ◌≡◌ {A = ℕ} 0 1 = cc in omega arith

known : (same : Bool) (place : Oid) → known_if same place ≡ Ok true → ⊥
known true place e = let z : ◌≡◌ {A = ℕ} 0 1 = cc in omega arith
known false place e = let z : ◌≡◌ {A = ℕ} 0 1 = cc in omega arith

unless : (b : Bool) (f : CatalogFault) (rest : Judged) → cond b (Err f) rest ≡ Ok true → (b ≡ false) × (rest ≡ Ok true)
unless true f rest e = absurd (refused f e)
unless false f rest e = (refl, e)

only_if : (b : Bool) (f : CatalogFault) (rest : Judged) → cond b rest (Err f) ≡ Ok true → (b ≡ true) × (rest ≡ Ok true)
only_if true f rest e = (refl, e)
only_if false f rest e = absurd (refused f e)

pub record NewRow (h : Held) (oid : Oid) (r : CatalogRow) : Type 0 where
  pub no_row : h.rows oid.0 ≡ None
  pub no_name : h.named r.pretty ≡ None
  pub rows_left : h.row_count < 256
  pub names_left : h.name_count < 512
  pub parts_left : h.part_count + parts r ≤ 1024

pub record NewName (h : Held) (oid : Oid) (name : List ℕ) : Type 0 where
  pub no_name : h.named name ≡ None
  pub row : (r : CatalogRow) × (h.rows oid.0 ≡ Some r)
  pub names_left : h.name_count < 512

-- the relation tells no table yet, or it tells this one and has no such column
abbrev pub Beside : Option (List ℕ) → Option (List ℕ) → List ℕ → Type 0
Beside None name table = Unit {0}
Beside (Some there) name table = (bytes_eq there table ≡ true) × (name ≡ None)

pub record NewColumn (h : Held) (at : Attribute) (k : CatalogColumn) : Type 0 where
  pub beside : Beside (h.tables at.relation.0) (h.column_names (pair_of at)) k.table
  pub columns_left : h.column_count < 1024

module _ (h : Held) (oid : Oid) where
  room-row : (r : CatalogRow) → room_for_row h r ≡ Ok true → (h.row_count < 256) × (h.name_count < 512) × (h.part_count + parts r ≤ 1024)
  room-row r e =
      let c = unless (nat_le 256 h.row_count) _ _ e in
      let d = unless (nat_le 512 h.name_count) _ _ c.1 in
      let f = unless (nat_lt 1024 (h.part_count + parts r)) _ _ d.1 in
      (leb-false 256 h.row_count c.0, leb-false 512 h.name_count d.0, ltb-false 1024 (h.part_count + parts r) f.0)

  row-by-name : (r : CatalogRow) (other : Option ℕ) → row_by_name h oid r other ≡ Ok true → (other ≡ None) × (room_for_row h r ≡ Ok true)
  row-by-name r None e = (refl, e)
  row-by-name r (Some other) e = absurd (refused _ e)

  row-beside : (r : CatalogRow) (there : Option CatalogRow) → row_beside h oid r there ≡ Ok true → (there ≡ None) × (row_by_name h oid r (h.named r.pretty) ≡ Ok true)
  row-beside r None e = (refl, e)
  row-beside r (Some there) e = absurd (known _ oid e)

  pub new_row : (r : CatalogRow) → row_judged h oid r ≡ Ok true → NewRow h oid r
  new_row r e =
      let a = row-beside r (h.rows oid.0) e in
      let b = row-by-name r (h.named r.pretty) a.1 in
      let c = room-row r b.1 in
      record { no_row = a.0; no_name = b.0; rows_left = c.0; names_left = c.1; parts_left = c.2 }

  name-stands : (there : Option CatalogRow) → name_stands h oid there ≡ Ok true → ((r : CatalogRow) × (there ≡ Some r)) × (h.name_count < 512)
  name-stands None e = absurd (refused _ e)
  name-stands (Some r) e = ((r, refl), leb-false 512 h.name_count (unless (nat_le 512 h.name_count) _ _ e).0)

  name-beside : (other : Option ℕ) → name_beside h oid other ≡ Ok true → (other ≡ None) × (name_stands h oid (h.rows oid.0) ≡ Ok true)
  name-beside None e = (refl, e)
  name-beside (Some other) e = absurd (known _ oid e)

  pub new_name : (name : List ℕ) → name_judged h oid name ≡ Ok true → NewName h oid name
  new_name name e =
      let a = name-beside (h.named name) e in
      let b = name-stands (h.rows oid.0) a.1 in
      record { no_name = a.0; row = b.0; names_left = b.1 }

module _ (h : Held) (at : Attribute) (k : CatalogColumn) where
  column-room : room_for_column h ≡ Ok true → h.column_count < 1024
  column-room e = leb-false 1024 h.column_count (unless (nat_le 1024 h.column_count) _ _ e).0

  column-beside : (name : Option (List ℕ)) → column_beside h at.relation k name ≡ Ok true → (name ≡ None) × (h.column_count < 1024)
  column-beside None e = (refl, column-room e)
  column-beside (Some there) e = absurd (known _ at.relation e)

  table-beside : (table name : Option (List ℕ)) → table_beside h at.relation k table name ≡ Ok true → Beside table name k.table × (h.column_count < 1024)
  table-beside None name e = (tt, column-room e)
  table-beside (Some table) name e =
      let a = only_if (bytes_eq table k.table) _ _ e in
      let b = column-beside name a.1 in
      ((a.0, b.0), b.1)

  pub new_column : column_judged h at k ≡ Ok true → NewColumn h at k
  new_column e = let a = table-beside (h.tables at.relation.0) (h.column_names (pair_of at)) e in record { beside = a.0; columns_left = a.1 }
