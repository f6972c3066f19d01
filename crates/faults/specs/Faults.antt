-- The faults of calls, as the law of a book's life has them.
-- Assumes nothing.
use Rattle.std.specs.Prelude.{ℕ, Bool, true, false, List, ◌++◌, codes, decimal}
use Rattle.book.specs.Sizes.{position_of}
use Rattle.catalog.specs.Faults.{fault_text}
use Rattle.catalog.specs.declared.faults.Layer.{Layer}
use Rattle.catalog.specs.declared.faults.Layer.TheVariants as layer
use Rattle.catalog.specs.declared.faults.Told.{Told}
use Rattle.life.specs.Faults as life
use Rattle.life.specs.Faults.{call_told, columns_told, fill_told}
use Rattle.life.specs.Steps.{Ending, refused}
use Rattle.faults.specs.declared.call.CallFault.{CallFault}
use Rattle.faults.specs.declared.call.CallFault.TheVariants as call
use Rattle.faults.specs.declared.columns.ColumnsFault.{ColumnsFault}
use Rattle.faults.specs.declared.columns.ColumnsFault.TheVariants as columns
use Rattle.faults.specs.declared.fill.FillFault.{FillFault}
use Rattle.faults.specs.declared.fill.FillFault.TheVariants.{Catalog, TooManyRounds, Malformed, TooManyRows, Full, Unresolved}

abbrev pub fault_meaning : FillFault → life.FillFault
fault_meaning (Catalog fault) = life.of_catalog fault
fault_meaning TooManyRounds = life.too_many_rounds
fault_meaning (Malformed oid round) = life.malformed_row oid.0 round
fault_meaning (TooManyRows oid round) = life.too_many_rows oid.0 round
fault_meaning (Full table rounds) = life.no_room (position_of table) rounds
fault_meaning (Unresolved place rounds) = life.unresolved_entry place rounds

abbrev pub columns_meaning : ColumnsFault → life.ColumnsFault
columns_meaning (columns.Catalog fault) = life.catalog_of_columns fault
columns_meaning (columns.Full table rounds) = life.no_column_room (position_of table) rounds

abbrev pub call_meaning : CallFault → life.CallFault
call_meaning (call.TooLong place) = life.list_too_long place
call_meaning (call.NoSlot place) = life.buffer_too_short place
call_meaning (call.BadName place) = life.name_refused place
call_meaning (call.NoOid place rounds) = life.no_oid place rounds
call_meaning (call.Fill fault) = life.of_fill (fault_meaning fault)
call_meaning (call.Columns fault) = life.of_columns (columns_meaning fault)

-- what a fault tells: number, place, layer and rounds
abbrev pub refusal_of : FillFault → Told
refusal_of fault = fill_told (fault_meaning fault)

abbrev pub columns_refusal_of : ColumnsFault → Told
columns_refusal_of fault = columns_told (columns_meaning fault)

abbrev pub call_refusal_of : CallFault → Told
call_refusal_of fault = call_told (call_meaning fault)

-- a refusal as an ending, which knows of the layer whether it is that of columns
abbrev pub of_columns : Layer → Bool
of_columns layer.Call = false
of_columns layer.Fill = false
of_columns layer.Catalog = false
of_columns layer.Columns = true

abbrev pub refused_so : Told → Ending
refused_so t = refused t.number t.place (of_columns t.layer) t.rounds

-- how a fault is told to a reader
abbrev pub fill_text : FillFault → List ℕ
fill_text (Catalog fault) = fault_text fault
fill_text TooManyRounds = codes "too many rounds"
fill_text (Malformed oid round) = codes "the row of " ++ decimal oid.0 ++ codes " is malformed"
fill_text (TooManyRows oid round) = codes "too many rows: " ++ decimal oid.0 ++ codes " is left"
fill_text (Full table rounds) = codes "table " ++ decimal (position_of table) ++ codes " is full"
fill_text (Unresolved place rounds) = codes "entry " ++ decimal place ++ codes " has a row and no unfolding"

abbrev pub columns_text : ColumnsFault → List ℕ
columns_text (columns.Catalog fault) = codes "columns: " ++ fault_text fault
columns_text (columns.Full table rounds) = codes "columns: table " ++ decimal (position_of table) ++ codes " is full"

abbrev pub call_text : CallFault → List ℕ
call_text (call.TooLong place) = codes "the list is too long: " ++ decimal place
call_text (call.NoSlot place) = codes "no slot for the answer to entry " ++ decimal place
call_text (call.BadName place) = codes "the name of entry " ++ decimal place ++ codes " is refused"
call_text (call.NoOid place rounds) = codes "entry " ++ decimal place ++ codes " has no OID"
call_text (call.Fill fault) = fill_text fault
call_text (call.Columns fault) = columns_text fault
