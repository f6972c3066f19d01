-- The limits of a row, over the fields that the code has. Assumes nothing.
use Rattle.std.specs.Prelude.{Bool, true, ◌&&◌, List, [], ◌∷◌, Some, None, Option, nat_lt}
use Rattle.type_info.specs.declared.oid.Oid.{Oid}
use Rattle.catalog.specs.declared.values.Attribute.{Attribute}

abbrev pub nonzero : Option Oid → Bool
nonzero None = true
nonzero (Some o) = nat_lt 0 o.0

abbrev pub all_typed : List Attribute → Bool
all_typed [] = true
all_typed (a ∷ rest) = nat_lt 0 a.oid.0 && all_typed rest
