-- The life of a book: what it holds is what the calls of a history left, and what is so of it then.
-- Assumes nothing.
use Rattle.std.specs.Prelude.{List}
use Rattle.catalog.specs.Catalog.{Catalog}
use Rattle.life.specs.Life.{Lawful}
use Rattle.life.specs.Steps.{Event}
use Rattle.room.specs.Room.{CountedWithin, LivedWithin}
use Rattle.room.specs.Tables.{Tables}
use Rattle.book.specs.Held.{Held, book_held}
use Rattle.book.specs.Stands.{Stands}

-- the book has met the calls of this history, the last one first, and the catalog that they asked, which only grew, is now c
pub record HasLived (h : List Event) (c : Catalog) (b : Held) : Type 0 where
  pub tables : Tables
  pub lived : LivedWithin b.capacity h c tables
  pub stands : Stands b tables

-- and the whole law holds: it answers exactly for what was asked, its answers are right, and its counts are honest
pub record LawHolds (h : List Event) (c : Catalog) (b : Held) : Type 0 where
  pub life : HasLived h c b
  pub lawful : Lawful h c (book_held b)
  pub counted : CountedWithin b.capacity h c life.tables life.lived
