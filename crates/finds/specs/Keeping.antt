-- What a step found, with its rows, how much of it a book does not hold, and what a book holds once it is kept.
-- Assumes nothing.
use Rattle.std.specs.Prelude.{◌≡◌, ℕ, zero, suc, List, [], ◌∷◌, ◌++◌, length, map, if◌then◌else◌, is_some, slice_get, Some, None, Option}
use Rattle.std.specs.Option.{option_map}
use Rattle.catalog.specs.Catalog.{Catalog, CatalogRow}
use Rattle.catalog.specs.Shape.{Name}
use Rattle.unfolding.specs.Lists.{Mem}
use Rattle.life.specs.InTurn.{InTurn}
use Rattle.life.specs.Rounds.{Descriptors}
use Rattle.life.specs.Settle.{pass, settled}
use Rattle.room.specs.Sizes.{Sizes}
use Rattle.book.specs.Adding.{adds_array, adds_name, settles, size_of_row, with_row}
use Rattle.book.specs.Held.{Held, no_sizes, size_of_array, size_of_name, sum_of, with_array, with_name}
use Rattle.finds.specs.declared.tables.Finds.{Finds}
use Rattle.finds.specs.Finds.{order_of, reads_of, rows_of}

-- an OID and its row
abbrev pub Find : Type 0
Find = ℕ × CatalogRow

abbrev pub found_of : Option ℕ → Option (Option CatalogRow) → Option Find
found_of None row = None
found_of (Some o) None = None
found_of (Some o) (Some row) = option_map (λ r. (o, r)) row

-- what was read at a place
abbrev pub find_at : Finds → ℕ → Option Find
find_at f place = found_of (slice_get (reads_of f) place) (slice_get (rows_of f) place)

-- the first n places
abbrev pub places : ℕ → List ℕ
places zero = []
places (suc n) = places n ++ n ∷ []

-- what was settled, in turn, and all that was read
abbrev pub settled_finds : Finds → List (Option Find)
settled_finds f = map (find_at f) f.order.items

abbrev pub read_finds : Finds → List (Option Find)
read_finds f = map (find_at f) (places (length (rows_of f)))

-- one step for each of a list
abbrev pub each : {X : Type 0} → (Held → X → Held) → Held → List X → Held
each step h [] = h
each step h (x ∷ xs) = each step (step h x) xs

-- what one find leaves of a book: its descriptor, its pretty name and its array link
abbrev pub row_kept : Held → Option Find → Held
row_kept h None = h
row_kept h (Some x) = if settles h x.0 x.1 then with_row h x.0 x.1 else h

abbrev pub name_kept : Held → Option Find → Held
name_kept h None = h
name_kept h (Some x) = if adds_name h x.1.pretty then with_name h x.1.pretty x.0 else h

abbrev pub link_kept : Held → ℕ → Option ℕ → Held
link_kept h e None = h
link_kept h e (Some a) = if adds_array h e then with_array h e a else h

abbrev pub array_kept : Held → Option Find → Held
array_kept h None = h
array_kept h (Some x) = link_kept h x.0 x.1.typarray

-- the descriptors of what was settled, then the names of these, then the array links of all that was read
abbrev pub with_finds : Held → Finds → Held
with_finds h f = each array_kept (each name_kept (each row_kept h (settled_finds f)) (settled_finds f)) (read_finds f)

-- how much each of a list takes, together
abbrev pub size_of_all : {X : Type 0} → (X → Sizes) → List X → Sizes
size_of_all size [] = no_sizes
size_of_all size (x ∷ xs) = sum_of (size x) (size_of_all size xs)

abbrev pub row_size : Option Find → Sizes
row_size None = no_sizes
row_size (Some x) = size_of_row x.1

-- names and array links that are held take nothing
abbrev pub new_name_size : Held → Name → Sizes
new_name_size h n = if is_some (h.names n) then no_sizes else size_of_name n

abbrev pub name_size : Held → Option Find → Sizes
name_size h None = no_sizes
name_size h (Some x) = new_name_size h x.1.pretty

abbrev pub new_link_size : Held → ℕ → Option ℕ → Sizes
new_link_size h e None = no_sizes
new_link_size h e (Some a) = if is_some (h.arrays e) then no_sizes else size_of_array

abbrev pub array_size : Held → Option Find → Sizes
array_size h None = no_sizes
array_size h (Some x) = new_link_size h x.0 x.1.typarray

abbrev pub settled_size : Held → Option Find → Sizes
settled_size h x = sum_of (row_size x) (name_size h x)

abbrev pub size_of_finds : Held → Finds → Sizes
size_of_finds h f = sum_of (size_of_all (settled_size h) (settled_finds f)) (size_of_all (array_size h) (read_finds f))

-- the order is one in which all is settled of the rows read that can be, by a book with these descriptors
pub record SettledBy (c : Catalog) (b : Descriptors) (f : Finds) : Type 0 where
  pub among : (o : ℕ) → Mem o (order_of f) → Mem o (reads_of f)
  pub turn : InTurn c b (order_of f)
  pub settles : pass c b (order_of f) ≡ settled c b (reads_of f)
