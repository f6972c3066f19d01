-- How the rounds of a Resolve end, and what is to be had for them.
-- Assumes nothing.
use Rattle.std.specs.Prelude.{◌≡◌, ℕ, ◌≤◌, List, length, map, false, Err, None}
use Rattle.book.specs.Held.{Held, book_held}
use Rattle.book.specs.Stands.{Stands}
use Rattle.catalog.specs.Catalog.{Catalog}
use Rattle.catalog.specs.Shape.{Name}
use Rattle.entries.specs.Asking.{with_link}
use Rattle.entries.specs.Notes.{apart_told, leads_told}
use Rattle.entries.specs.declared.notes.Notes.{Notes}
use Rattle.faults.specs.declared.fill.FillFault.{FillFault}
use Rattle.finds.specs.Finds.{reads_of}
use Rattle.finds.specs.Resolving.{entry_lead}
use Rattle.finds.specs.declared.tables.Finds.{Finds}
use Rattle.life.specs.Calls.{Declared, resolve}
use Rattle.life.specs.Lists.{is_in}
use Rattle.life.specs.RoundOne.{for_arrays_alone, resolve_walk, round_one}
use Rattle.life.specs.Steps.{Ending}
use Rattle.life.specs.Walk.{ended}
use Rattle.requests.specs.Asked.{declared_by}
use Rattle.requests.specs.declared.asked.TypeAsked.{TypeAsked}
use Rattle.resolve.specs.Fills.{ending_told}
use Rattle.room.specs.Added.{declared_names, with_types}
use Rattle.room.specs.Room.{limited, tables_left, types_full}
use Rattle.room.specs.Sizes.{Sizes}
use Rattle.room.specs.Tables.{Tables, contents}
use Rattle.unfolding.specs.Lists.{Distinct, Mem}

-- no more entries than a call may have, and no longer names
pub record Few (host : List ℕ) (entries : List TypeAsked) : Type 0 where
  pub entries_few : length entries ≤ 256
  pub names_short : (n : Name) → Mem n (declared_names (resolve (declared_by host entries))) → length n ≤ 128

-- what is noted over this book: where the names lead, and the elements read apart, which are no other reads, with their arrays
pub record Noted (c : Catalog) (h : Held) (f : Finds) (n : Notes) (ds : List Declared) (es : List ℕ) : Type 0 where
  pub leads : leads_told n ≡ map (entry_lead c (book_held h)) ds
  pub apart : apart_told n ≡ map (with_link c) es
  pub once : Distinct es
  pub other : (o : ℕ) → Mem o es → is_in o (reads_of f) ≡ false
  pub few : length es ≤ 256

module _ (capacity : Sizes) (c : Catalog) (t : Tables) (ds : List Declared) where
  -- the Resolve is refused so, and the book is what it leaves
  pub record EntriesRefused (fault : FillFault) (h : Held) : Type 0 where
    pub ends : ending_told (Err fault) ≡ (limited capacity c t (resolve ds)).ending
    pub left : Stands h (tables_left capacity c t (resolve ds))

  -- its rounds are walked, and what was read fits and is in the book
  pub record EntriesKept (rounds : ℕ) (reads : List ℕ) (h : Held) : Type 0 where
    pub walked : resolve_walk c (contents t) ds ≡ ended rounds reads
    pub fits : types_full capacity c t (resolve ds) ≡ None
    pub kept : Stands h (with_types c t (resolve ds) reads (for_arrays_alone (round_one c (contents t) ds)))

  -- it ended so, and the book is what it leaves
  pub record EntriesDone (e : Ending) (h : Held) : Type 0 where
    pub ends : e ≡ (limited capacity c t (resolve ds)).ending
    pub left : Stands h (tables_left capacity c t (resolve ds))
