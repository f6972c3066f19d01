-- The columns that fields come from, and what a column round has asked for and found.
-- Assumes nothing.
use Rattle.std.specs.Prelude.{◌≡◌, true, if◌then◌else◌, List, [], length, is_some, Some, None, Option}
use Rattle.std.specs.List.{list_any}
use Rattle.catalog.specs.Catalog.{Catalog}
use Rattle.keys.specs.Senses.{Pair, same_pair}
use Rattle.indexes.specs.Known.{by_attribute}
use Rattle.slots.specs.Slots.{filled}
use Rattle.life.specs.Bind.{column_questions}
use Rattle.life.specs.Calls.{Binding}
use Rattle.life.specs.HostCalls.{meant_field}
use Rattle.life.specs.Tests.{source}
use Rattle.requests.specs.Asked.{field_asked, fields_of}
use Rattle.requests.specs.declared.asked.FieldAsked.{FieldAsked}
use Rattle.book.specs.Held.{Held, book_held}
use Rattle.finds.specs.Columns.{columns_found, columns_told}
use Rattle.binding.specs.declared.memory.ColumnFinds.{ColumnFinds}

-- where a field comes from
abbrev pub source_of : FieldAsked → Option Pair
source_of f = source (meant_field (field_asked f))

-- a column that is not held
abbrev pub unheld : Held → Option Pair → Option Pair
unheld h None = None
unheld h (Some p) = if is_some (h.columns p) then None else Some p

-- a bind of these fields that may ask for columns and wants origins
abbrev pub binding_of : List FieldAsked → Binding
binding_of fields = record { parameters = []; fields = fields_of fields; queries = true; origins = true }

-- the columns that it asks for where the book holds this
abbrev pub asked_of : Held → List FieldAsked → List Pair
asked_of h fields = column_questions (book_held h) (binding_of fields)

-- these columns were asked for, in turn, and found are those of them that the catalog has
pub record Gathered (c : Catalog) (asked : List Pair) (f : ColumnFinds) : Type 0 where
  pub indexed : (p : Pair) → is_some (by_attribute f.asked p) ≡ list_any (same_pair p) asked
  pub counted : filled f.asked ≡ length asked
  pub found : columns_told f.found.items ≡ columns_found c asked
