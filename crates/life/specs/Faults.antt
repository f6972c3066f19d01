-- The faults of a call: each layer has its own, and an upper one carries the lower one whole.
-- Assumes nothing.
use Rattle.std.specs.Prelude.{◌≡◌, ℕ, Bool, true, false, List, ◌==◌, if◌then◌else◌, Some, Option}
use Rattle.catalog.specs.Catalog.{Catalog}
use Rattle.catalog.specs.Faults.{fault_told}
use Rattle.catalog.specs.declared.faults.CatalogFault.{CatalogFault}
use Rattle.catalog.specs.declared.faults.CatalogFault.TheVariants.{NoAllowance}
use Rattle.catalog.specs.declared.faults.Layer.TheVariants as layer
use Rattle.catalog.specs.declared.faults.Told.{Told}
use Rattle.life.specs.HostCalls.{HostCall, asked_outcome}
use Rattle.life.specs.Steps.{Book, refused}
use Rattle.life.specs.Told.{told_of}

-- of the rounds of types, by place and rounds: the 65th, a malformed row, one row too many, a table without room, an OID with a row and
-- no unfolding; or what the catalog refused
pub data FillFault : Type 0 where
  too_many_rounds : FillFault
  malformed_row : (oid rounds : ℕ) → FillFault
  too_many_rows : (oid rounds : ℕ) → FillFault
  no_room : (table rounds : ℕ) → FillFault
  unresolved_entry : (place rounds : ℕ) → FillFault
  of_catalog : CatalogFault → FillFault

-- of the column round
pub data ColumnsFault : Type 0 where
  no_column_room : (table rounds : ℕ) → ColumnsFault
  catalog_of_columns : CatalogFault → ColumnsFault

-- of a call, by place; or what its rounds of types or its column round refused
pub data CallFault : Type 0 where
  list_too_long : (place : ℕ) → CallFault
  buffer_too_short : (place : ℕ) → CallFault
  name_refused : (place : ℕ) → CallFault
  no_oid : (place rounds : ℕ) → CallFault
  of_fill : FillFault → CallFault
  of_columns : ColumnsFault → CallFault

abbrev pub of_layer_fill : (number place rounds : ℕ) → Told
of_layer_fill number place rounds = record { number = number; place = place; layer = layer.Fill; rounds = rounds }

abbrev pub of_layer_call : (number place rounds : ℕ) → Told
of_layer_call number place rounds = record { number = number; place = place; layer = layer.Call; rounds = rounds }

-- what each tells: what a lower layer refused is told as that layer tells it
abbrev pub fill_told : FillFault → Told
fill_told too_many_rounds = of_layer_fill 4 65 64
fill_told (malformed_row oid rounds) = of_layer_fill 6 oid rounds
fill_told (too_many_rows oid rounds) = of_layer_fill 7 oid rounds
fill_told (no_room table rounds) = of_layer_fill 8 table rounds
fill_told (unresolved_entry place rounds) = of_layer_fill 9 place rounds
fill_told (of_catalog fault) = fault_told fault

-- but that a column round is of layer columns
abbrev pub columns_told : ColumnsFault → Told
columns_told (no_column_room table rounds) = record { number = 8; place = table; layer = layer.Columns; rounds = rounds }
columns_told (catalog_of_columns fault) = record (fault_told fault) { layer = layer.Columns }

abbrev pub call_told : CallFault → Told
call_told (list_too_long place) = of_layer_call 1 place 0
call_told (buffer_too_short place) = of_layer_call 2 place 0
call_told (name_refused place) = of_layer_call 3 place 0
call_told (no_oid place rounds) = of_layer_call 10 place rounds
call_told (of_fill fault) = fill_told fault
call_told (of_columns fault) = columns_told fault

-- the fault of a refusal
abbrev pub fill_fault : (number place rounds : ℕ) → FillFault
fill_fault number place rounds =
    if number == 4 then too_many_rounds
    else if number == 5 then of_catalog (NoAllowance place)
    else if number == 6 then malformed_row place rounds
    else if number == 7 then too_many_rows place rounds
    else if number == 8 then no_room place rounds
    else unresolved_entry place rounds

abbrev pub call_fault : (number place : ℕ) → Bool → (rounds : ℕ) → CallFault
call_fault number place true rounds =
    of_columns (if number == 5 then catalog_of_columns (NoAllowance place) else no_column_room place rounds)
call_fault number place false rounds =
    if number == 1 then list_too_long place
    else if number == 2 then buffer_too_short place
    else if number == 3 then name_refused place
    else if number == 10 then no_oid place rounds
    else of_fill (fill_fault number place rounds)

-- whatever a host asks, the fault of its refusal tells what the host is told of it
abbrev pub FaultLaw : Type 0
FaultLaw =
    (full full_columns : Book → Option ℕ) (host : List ℕ) (c : Catalog) (b : Book) (call : HostCall) (n p : ℕ) (columns : Bool) (r : ℕ) →
    (asked_outcome full full_columns host c b call).ending ≡ refused n p columns r →
    told_of (refused n p columns r) ≡ Some (call_told (call_fault n p columns r))
