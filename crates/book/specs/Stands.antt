-- Tables that a book stands for, and those of one thing more.
-- Assumes nothing.
use Rattle.std.specs.Prelude.{◌≡◌, ℕ, [], ◌∷◌, nat_eq, option_and_then, true, Some, None, Option}
use Rattle.catalog.specs.Catalog.{CatalogColumn, CatalogRow}
use Rattle.catalog.specs.Shape.{Name, Shape, shape}
use Rattle.keys.specs.Senses.{Pair}
use Rattle.unfolding.specs.Unfolding.{Tree}
use Rattle.life.specs.Settle.{made_of}
use Rattle.room.specs.Sizes.{sizes_of}
use Rattle.room.specs.Tables.{Tables, contents, look_up, no_tables}
use Rattle.book.specs.Adding.{size_of_shape}
use Rattle.book.specs.Held.{Held, book_held, has_room}

-- their book, the tables of their relations and their sizes are what is held
pub record Stands (h : Held) (t : Tables) : Type 0 where
  pub book : contents t ≡ book_held h
  pub relations : look_up nat_eq t.relations ≡ h.relations
  pub sizes : sizes_of t ≡ h.taken

abbrev pub one_name : Name → ℕ → Tables
one_name n o = record no_tables { names = (n, o) ∷ [] }

abbrev pub one_array : (element array : ℕ) → Tables
one_array e a = record no_tables { arrays = (e, a) ∷ [] }

-- a column, with its relation where no table of that is held
abbrev pub one_column : Option Name → Pair → CatalogColumn → Tables
one_column (Some held) p k = record no_tables { columns = (p, k) ∷ [] }
one_column None p k = record no_tables { columns = (p, k) ∷ []; relations = (p.0, k.table) ∷ [] }

-- the table of a relation, where one is held, is this
abbrev pub OneTable : Held → ℕ → Name → Type 0
OneTable h r table = (held : Name) → h.relations r ≡ Some held → held ≡ table

abbrev pub one_descriptor : ℕ → Tree → Tables
one_descriptor o u = record no_tables { descriptors = (o, u) ∷ [] }

-- the tree that a row tells of an OID, if the row is well-formed and all that it is made of is known
abbrev pub row_tree : Held → ℕ → CatalogRow → Option Tree
row_tree h o r = option_and_then (made_of (book_held h).descriptors o) (shape r)

abbrev pub one_tree : ℕ → Option Tree → Tables
one_tree o None = no_tables
one_tree o (Some u) = one_descriptor o u

abbrev pub one_row : Held → ℕ → CatalogRow → Tables
one_row h o r = one_tree o (row_tree h o r)

-- there is room for the descriptor of a well-formed row
abbrev pub RoomForRow : Held → CatalogRow → Type 0
RoomForRow h r = (s : Shape) → shape r ≡ Some s → has_room h (size_of_shape s) ≡ true
