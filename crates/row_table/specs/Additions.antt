-- What becomes of an addition: the first refusal that holds, or that it is held already, or that it is new; and what the
-- table holds after it.
-- Assumes nothing.
use Rattle.std.specs.Prelude.{ℕ, ◌+◌, Bool, true, false, if◌then◌else◌, List, length, Some, None, Ok, Err, Option, Result, ◌==◌, nat_eq, nat_le, nat_lt}
use Rattle.std.specs.Map.{update}
use Rattle.std.specs.Str.{bytes_eq}
use Rattle.catalog.specs.declared.faults.CatalogFault.{CatalogFault}
use Rattle.catalog.specs.declared.faults.CatalogFault.TheVariants.{BreaksLimit, Contradicts, Full}
use Rattle.catalog.specs.declared.faults.HeldIn.TheVariants.{Rows, Names, Parts, Columns}
use Rattle.catalog.specs.Catalog.{CatalogColumn, CatalogRow}
use Rattle.keys.specs.declared.kinds.Attribute.{Attribute}
use Rattle.keys.specs.Senses.{pair_of, same_pair}
use Rattle.offers.specs.Same.{same_row}
use Rattle.type_info.specs.declared.oid.Oid.{Oid}
use Rattle.row_table.specs.Held.{Held}

-- refused, or whether it is new
abbrev pub Judged : Type 0
Judged = Result Bool CatalogFault

-- it is held already where it is the same; else it contradicts what is held
abbrev pub known_if : Bool → Oid → Judged
known_if same place = if same then Ok false else Err (Contradicts place)

-- how many labels and attributes a row has
abbrev pub parts : CatalogRow → ℕ
parts r = length r.labels + length r.attributes

-- a row: the first table without room for it
abbrev pub room_for_row : Held → CatalogRow → Judged
room_for_row h r =
    if nat_le 256 h.row_count then Err (Full Rows)
    else (if nat_le 512 h.name_count then Err (Full Names)
    else (if nat_lt 1024 (h.part_count + parts r) then Err (Full Parts) else Ok true))

-- its pretty name may not lead to another OID
abbrev pub row_by_name : Held → Oid → CatalogRow → Option ℕ → Judged
row_by_name h oid r (Some other) = Err (Contradicts oid)
row_by_name h oid r None = room_for_row h r

abbrev pub row_beside : Held → Oid → CatalogRow → Option CatalogRow → Judged
row_beside h oid r (Some there) = known_if (same_row there r) oid
row_beside h oid r None = row_by_name h oid r (h.named r.pretty)

abbrev pub row_judged : Held → Oid → CatalogRow → Judged
row_judged h oid r = row_beside h oid r (h.rows oid.0)

-- a name: the OID that it leads to has a row
abbrev pub name_stands : Held → Oid → Option CatalogRow → Judged
name_stands h oid None = Err (Contradicts oid)
name_stands h oid (Some r) = if nat_le 512 h.name_count then Err (Full Names) else Ok true

abbrev pub name_beside : Held → Oid → Option ℕ → Judged
name_beside h oid (Some other) = known_if (other == oid.0) oid
name_beside h oid None = name_stands h oid (h.rows oid.0)

abbrev pub name_judged : Held → Oid → List ℕ → Judged
name_judged h oid name = name_beside h oid (h.named name)

-- a column: its relation tells no other table, and it has no other name
abbrev pub room_for_column : Held → Judged
room_for_column h = if nat_le 1024 h.column_count then Err (Full Columns) else Ok true

abbrev pub column_beside : Held → Oid → CatalogColumn → Option (List ℕ) → Judged
column_beside h relation k (Some there) = known_if (bytes_eq there k.column) relation
column_beside h relation k None = room_for_column h

abbrev pub table_beside : Held → Oid → CatalogColumn → Option (List ℕ) → Option (List ℕ) → Judged
table_beside h relation k (Some table) name =
    if bytes_eq table k.table then column_beside h relation k name else Err (Contradicts relation)
table_beside h relation k None name = room_for_column h

abbrev pub column_judged : Held → Attribute → CatalogColumn → Judged
column_judged h at k = table_beside h at.relation k (h.tables at.relation.0) (h.column_names (pair_of at))

-- the row and its pretty name
abbrev pub with_row : Held → Oid → CatalogRow → Held
with_row h oid r = record h {
  rows = update nat_eq h.rows oid.0 (Some r);
  named = update bytes_eq h.named r.pretty (Some oid.0);
  row_count = h.row_count + 1;
  name_count = h.name_count + 1;
  part_count = h.part_count + parts r;
}

abbrev pub with_name : Held → Oid → List ℕ → Held
with_name h oid name = record h {
  named = update bytes_eq h.named name (Some oid.0);
  name_count = h.name_count + 1;
}

-- the table of the relation and the column's name
abbrev pub with_column : Held → Attribute → CatalogColumn → Held
with_column h at k = record h {
  tables = update nat_eq h.tables at.relation.0 (Some k.table);
  column_names = update same_pair h.column_names (pair_of at) (Some k.column);
  column_count = h.column_count + 1;
}

-- what is answered, and what is held then: where the addition is not new, what was
abbrev pub answer : Judged → Result (Unit {0}) CatalogFault
answer (Ok new) = Ok tt
answer (Err fault) = Err fault

abbrev pub held_then : Judged → Held → Held → Held
held_then (Ok new) before added = if new then added else before
held_then (Err fault) before added = before

-- an offer that breaks a limit, or of which a span lies outside the host's text, is read as nothing
abbrev pub judged : {A : Type 0} → Oid → Option A → (A → Judged) → Judged
judged place None judge = Err (BreaksLimit place)
judged place (Some offered) judge = judge offered

abbrev pub then_held : {A : Type 0} → Held → Option A → (A → Judged) → (A → Held) → Held
then_held h None judge with = h
then_held h (Some offered) judge with = held_then (judge offered) h (with offered)

-- of a row, a name and a column, as it was offered
abbrev pub row_answer : Held → Oid → Option CatalogRow → Result (Unit {0}) CatalogFault
row_answer h oid offered = answer (judged oid offered (row_judged h oid))

abbrev pub row_then : Held → Oid → Option CatalogRow → Held
row_then h oid offered = then_held h offered (row_judged h oid) (with_row h oid)

abbrev pub name_answer : Held → Oid → Option (List ℕ) → Result (Unit {0}) CatalogFault
name_answer h oid offered = answer (judged oid offered (name_judged h oid))

abbrev pub name_then : Held → Oid → Option (List ℕ) → Held
name_then h oid offered = then_held h offered (name_judged h oid) (with_name h oid)

abbrev pub column_answer : Held → Attribute → Option CatalogColumn → Result (Unit {0}) CatalogFault
column_answer h at offered = answer (judged at.relation offered (column_judged h at))

abbrev pub column_then : Held → Attribute → Option CatalogColumn → Held
column_then h at offered = then_held h offered (column_judged h at) (with_column h at)
