-- What a book holds, and the memory that one is made of.
-- Assumes nothing.
use Rattle.std.specs.Prelude.{length, min}
use Rattle.room.specs.Sizes.{Sizes}
use Rattle.book.specs.declared.memory.Memory.{Memory}
use Rattle.book.specs.declared.tables.Book.{Book}
use Rattle.book.specs.Held.{Held}
use Rattle.book.specs.Tables.{holding}

abbrev pub held_of : Book → Held
held_of b = holding b.descriptors b.index b.parts b.names b.arrays b.columns b.relations

-- how much a host lends
abbrev pub slots_of : Memory → Sizes
slots_of m = record {
  descriptors = min (length m.descriptors.now) (length m.index.now);
  parts = length m.parts.now;
  names = length m.names.now;
  arrays = length m.arrays.now;
  text = length m.text.now;
  columns = length m.columns.now;
  relations = length m.relations.now;
}
