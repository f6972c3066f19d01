-- What a host is told of the built-in types, in plain numbers and bytes.
-- Assumes nothing.
use Rattle.std.specs.Prelude.{ℕ, cond, List, [], ◌++◌, length, drop, Some, None, Option, nat_le}
use Rattle.std.specs.Option.{unwrap_or, option_map}
use Rattle.type_info.specs.Table.{Entry, Kind, simple, pseudo, array, range, component}

-- 0 is no OID of the table, so it says that there is none
abbrev pub or_zero : Option ℕ → ℕ
or_zero o = unwrap_or o 0

abbrev pub kind_number : Kind → ℕ
kind_number simple = 1
kind_number pseudo = 2
kind_number (array e) = 3
kind_number (range e) = 4

abbrev pub kind_told : Option Entry → ℕ
kind_told e = or_zero (option_map (λ x. kind_number x.kind) e)

abbrev pub component_told : Option Entry → ℕ
component_told None = 0
component_told (Some e) = or_zero (component e.kind)

abbrev pub oid_told : Option Entry → ℕ
oid_told e = or_zero (option_map (λ x. x.oid) e)

-- the name of an entry; without one there are no bytes
abbrev pub name_told : Option Entry → List ℕ
name_told None = []
name_told (Some e) = e.name

-- a name laid over the start of a buffer, if it fits; else the buffer as it is
abbrev pub laid_over : List ℕ → List ℕ → List ℕ
laid_over name buffer = cond (nat_le (length name) (length buffer)) (name ++ drop (length name) buffer) buffer
