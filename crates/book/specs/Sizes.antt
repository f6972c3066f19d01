-- The sizes and the tables of the code.
-- Assumes nothing.
use Rattle.std.specs.Prelude.{ℕ}
use Rattle.room.specs.Sizes as room
use Rattle.book.specs.declared.sizes.BookTable.{BookTable}
use Rattle.book.specs.declared.sizes.BookTable.TheVariants.{Descriptors, Parts, Names, Arrays, Text, Columns, Relations}
use Rattle.book.specs.declared.sizes.Sizes.{Sizes}

abbrev pub sizes_told : Sizes → room.Sizes
sizes_told s = record {
  descriptors = s.descriptors;
  parts = s.parts;
  names = s.names;
  arrays = s.arrays;
  text = s.text;
  columns = s.columns;
  relations = s.relations;
}

-- the place of refusal 8
abbrev pub position_of : BookTable → ℕ
position_of Descriptors = 0
position_of Parts = 1
position_of Names = 2
position_of Arrays = 3
position_of Text = 4
position_of Columns = 5
position_of Relations = 6
