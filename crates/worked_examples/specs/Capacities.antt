-- Worked examples of capacities: what a table takes, and the first one that is full.
-- Assumes nothing.
use Rattle.std.specs.Prelude.{◌≡◌, ℕ, true, false, [], ◌∷◌, Some, codes}
use Rattle.catalog.specs.Catalog.{Catalog}
use Rattle.catalog.specs.Shape.{enumeration}
use Rattle.unfolding.specs.Unfolding.{node, none}
use Rattle.life.specs.Calls.{of_name, Call, fill, resolve, bind}
use Rattle.life.specs.Steps.{Ending, accepted, refused}
use Rattle.room.specs.Room.{limited, tables_left}
use Rattle.room.specs.Sizes.{Sizes, sizes_of, limits, capacities}
use Rattle.room.specs.Tables.{Tables, no_tables, contents}
use Rattle.worked_examples.specs.Cards.{prices, parts, columned}
use Rattle.worked_examples.specs.Steps.{nowhere_and_two, asked}

-- seven numbers, in the order of the tables
abbrev pub sizes : (descriptors parts names arrays text columns relations : ℕ) → Sizes
sizes d p n a t c r = record { descriptors = d; parts = p; names = n; arrays = a; text = t; columns = c; relations = r }

abbrev pub ends : Sizes → Catalog → Tables → Call → Ending
ends slots c t call = (limited (capacities slots) c t call).ending

abbrev pub left : Sizes → Catalog → Tables → Call → Tables
left slots c t call = tables_left (capacities slots) c t call

-- the enum edge, learnt by a Fill: 4 bytes of its name and 8 of its labels, and 4 more for its name, for which a book of this size has room
abbrev pub fill_edge : Call
fill_edge = fill (50003 ∷ [])

abbrev pub exactly : Sizes
exactly = sizes 1 2 1 0 15 0 0

abbrev pub edge_tables : Tables
edge_tables = left exactly (prices 64) no_tables fill_edge

-- full size but for parts, for which there is no room
abbrev pub partless : Sizes
partless = sizes 512 0 1024 1024 65536 1024 128

-- a Bind that learns it too, and one column: amount, of the table yield
abbrev pub bind_edge : Call
bind_edge = bind (asked true true)

pub record CapacityExamples : Type 0 where
  pub whole : capacities (sizes 9999 9999 9999 9999 99999 9999 9999) ≡ limits
  pub fifteen : sizes_of (left limits (prices 64) no_tables fill_edge) ≡ exactly
  pub just_fits : ends exactly (prices 64) no_tables fill_edge ≡ accepted 1 0
  -- with one less of what it needs; without room for parts and text the place is that of the parts
  pub no_descriptor : ends (sizes 0 2 1 0 15 0 0) (prices 64) no_tables fill_edge ≡ refused 8 0 false 1
  pub no_part : ends (sizes 1 1 1 0 14 0 0) (prices 64) no_tables fill_edge ≡ refused 8 1 false 1
  pub no_name : ends (sizes 1 2 0 0 15 0 0) (prices 64) no_tables fill_edge ≡ refused 8 2 false 1
  pub no_byte : ends (sizes 1 2 1 0 14 0 0) (prices 64) no_tables fill_edge ≡ refused 8 4 false 1
  pub nothing_kept : left (sizes 1 2 1 0 14 0 0) (prices 64) no_tables fill_edge ≡ no_tables
  -- a full table to which nothing is added has room
  pub again : ends exactly (prices 64) edge_tables fill_edge ≡ accepted 0 0
  pub declared : ends exactly (prices 64) edge_tables (resolve (of_name (codes "edge") ∷ [])) ≡ accepted 0 0
  pub hue_too : ends exactly (prices 64) edge_tables (fill (50004 ∷ [])) ≡ refused 8 0 false 1
  pub hue_left : left exactly (prices 64) edge_tables (fill (50004 ∷ [])) ≡ edge_tables
  -- one column, and its relation, with 6 and 5 bytes more; where that lacks room the types are kept
  pub columns : sizes_of (left limits (columned 64) no_tables bind_edge) ≡ sizes 1 2 1 0 26 1 1
  pub no_column_byte : ends (sizes 1 2 1 0 25 0 1) (columned 64) no_tables bind_edge ≡ refused 8 4 true 2
  pub no_column : ends (sizes 1 2 1 0 26 0 0) (columned 64) no_tables bind_edge ≡ refused 8 5 true 2
  pub no_relation : ends (sizes 1 2 1 0 26 1 0) (columned 64) no_tables bind_edge ≡ refused 8 6 true 2
  pub types_kept : left (sizes 1 2 1 0 26 1 0) (columned 64) no_tables bind_edge ≡ edge_tables
  -- room before resolution
  pub no_parts : ends partless parts no_tables (resolve nowhere_and_two) ≡ refused 8 1 false 2
  pub no_parts_left : left partless parts no_tables (resolve nowhere_and_two) ≡ no_tables
  pub full_size : ends limits parts no_tables (resolve nowhere_and_two) ≡ refused 9 1 false 2
  pub full_size_left :
      (contents (left limits parts no_tables (resolve nowhere_and_two))).descriptors 50001
      ≡ Some (node 50001 (codes "one") (enumeration (codes "label" ∷ [])) none)
