-- Tests of a call: which names, arrays and columns it asks for.
-- Assumes nothing.
use Rattle.std.specs.Prelude.{ℕ, Bool, false, ◌&&◌, List, ℤ, nat_eq, Some, None, bytes_eq, flat_map, Option, option_map, option_to_list, option_and_then}
use Rattle.std.specs.List.{list_any}
use Rattle.catalog.specs.Catalog.{Catalog}
use Rattle.catalog.specs.Shape.{Name}
use Rattle.keys.specs.Senses.{Pair, same_pair}
use Rattle.life.specs.Calls.{Declared, of_oid, of_name, array_of, Field, Call, fill, resolve, bind, describe}

-- this very value
abbrev pub is_just : {A : Type 0} → (A → A → Bool) → Option A → A → Bool
is_just same None y = false
is_just same (Some x) y = same x y

-- n is the name, or the element's name, of an entry
abbrev pub is_named : Declared → Name → Bool
is_named (of_oid o) n = false
is_named (of_name m) n = bytes_eq m n
is_named (array_of m) n = bytes_eq m n

-- an entry is an array of e
abbrev pub is_array_of : Catalog → Declared → ℕ → Bool
is_array_of c (of_oid o) e = false
is_array_of c (of_name m) e = false
is_array_of c (array_of m) e = is_just nat_eq (c.named m) e

-- the call declares this name, and an array of this element
abbrev pub declares : Call → Name → Bool
declares (fill os) n = false
declares (resolve ds) n = list_any (λ x. is_named x n) ds
declares (bind q) n = false
declares (describe o) n = false

abbrev pub declares_array : Catalog → Call → ℕ → Bool
declares_array c (fill os) e = false
declares_array c (resolve ds) e = list_any (λ x. is_array_of c x e) ds
declares_array c (bind q) e = false
declares_array c (describe o) e = false

abbrev pub both : Option ℕ → Option ℤ → Option Pair
both relation attribute = option_and_then (λ r. option_map (λ a. (r, a)) attribute) relation

-- where a field comes from, if it has a relation and an attribute
abbrev pub source : Field → Option Pair
source f = both f.relation f.attribute

abbrev pub sources : List Field → List Pair
sources fs = flat_map (λ f. option_to_list (source f)) fs

-- the call may ask for this column
abbrev pub asks_column : Call → ℕ → ℤ → Bool
asks_column (fill os) r a = false
asks_column (resolve ds) r a = false
asks_column (bind q) r a = q.queries && (q.origins && list_any (same_pair (r, a)) (sources q.fields))
asks_column (describe o) r a = false
