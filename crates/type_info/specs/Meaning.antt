-- What the values of the program stand for.
-- Assumes nothing.
use Rattle.std.specs.Prelude.{◌≡◌, ℕ, ◌<◌, cond, List, [], ◌∷◌, Some, None, Option, ◌==◌, slice_index_or}
use Rattle.type_info.specs.declared.builtin.BuiltIn.{BuiltIn}
use Rattle.type_info.specs.declared.builtin.BuiltInKind.{BuiltInKind}
use Rattle.type_info.specs.declared.builtin.BuiltInKind.TheVariants.{Simple, Pseudo, Array, Range}
use Rattle.type_info.specs.declared.declared.Declared.{Declared}
use Rattle.type_info.specs.declared.declared.Declared.TheVariants.{Oid, Name, ArrayOf}
use Rattle.type_info.specs.Table.{Kind, simple, pseudo, array, range, Entry, entry, at}

abbrev pub kind_of : BuiltInKind → Kind
kind_of Simple = simple
kind_of Pseudo = pseudo
kind_of (Array o) = array o.0
kind_of (Range o) = range o.0

abbrev pub entry_of : BuiltIn → Entry
entry_of b = entry b.0.0 b.1.now (kind_of b.2)

abbrev pub found : Option BuiltIn → Option Entry
found None = None
found (Some b) = Some (entry_of b)

-- the program's table, place by place
abbrev pub Lists : List BuiltIn → Type 0
Lists t = (i : ℕ) (d : BuiltIn) → i < 92 → entry_of (slice_index_or t i d) ≡ at i

-- a type as it is declared: by its OID, by its name, or as the array of a named element
pub data Declaration : Type 0 where
  by_its_oid : ℕ → Declaration
  by_its_name : List ℕ → Declaration
  as_array_of : List ℕ → Declaration

abbrev pub declaration_of : Declared → Declaration
declaration_of (Oid o) = by_its_oid o.0
declaration_of (Name n) = by_its_name n.now
declaration_of (ArrayOf n) = as_array_of n.now

-- what follows an underscore (95) at the start of a name
abbrev pub after_underscore : List ℕ → Option (List ℕ)
after_underscore [] = None
after_underscore (b ∷ bs) = cond (b == 95) (Some bs) None

-- the name of the element of a declared type, as far as the declaration alone tells it
abbrev pub element_name : Declaration → Option (List ℕ)
element_name (by_its_oid o) = None
element_name (by_its_name n) = after_underscore n
element_name (as_array_of n) = Some n
