-- How the types of a Bind end.
-- Assumes nothing.
use Rattle.std.specs.Prelude.{◌≡◌, ℕ, true, List, [], Err, None}
use Rattle.book.specs.Held.{Held}
use Rattle.book.specs.Stands.{Stands}
use Rattle.catalog.specs.Catalog.{Catalog}
use Rattle.faults.specs.declared.fill.FillFault.{FillFault}
use Rattle.life.specs.Calls.{Binding, bind, requests}
use Rattle.life.specs.Lists.{first_place}
use Rattle.life.specs.Outcomes.{unresolved}
use Rattle.life.specs.Settle.{settled}
use Rattle.life.specs.Walk.{ended, walk_from}
use Rattle.requests.specs.Asked.{fields_of}
use Rattle.requests.specs.declared.asked.FieldAsked.{FieldAsked}
use Rattle.resolve.specs.Fills.{ending_told}
use Rattle.room.specs.Added.{with_types}
use Rattle.room.specs.Room.{limited, tables_left, types_full}
use Rattle.room.specs.Sizes.{Sizes}
use Rattle.room.specs.Tables.{Tables, contents}

-- the Bind asks for these types, and may ask the catalog
pub record AsksFor (q : Binding) (parameters : List ℕ) (fields : List FieldAsked) : Type 0 where
  pub parameters_so : q.parameters ≡ parameters
  pub fields_so : q.fields ≡ fields_of fields
  pub queries : q.queries ≡ true

module _ (capacity : Sizes) (c : Catalog) (t : Tables) (q : Binding) where
  -- the Bind is refused so, and the book is what it leaves
  pub record TypesRefused (fault : FillFault) (h : Held) : Type 0 where
    pub ends : ending_told (Err fault) ≡ (limited capacity c t (bind q)).ending
    pub left : Stands h (tables_left capacity c t (bind q))

  -- the Bind goes on to its columns: its rounds are walked, what was read fits and is in the book, and no OID that it requests has a row
  -- and no unfolding
  pub record TypesKept (rounds : ℕ) (h : Held) : Type 0 where
    pub reads : List ℕ
    pub walked : walk_from c (contents t).descriptors (requests c (bind q)) ≡ ended rounds reads
    pub fits : types_full capacity c t (bind q) ≡ None
    pub unfold_all : first_place (unresolved c (settled c (contents t).descriptors reads)) 0 (requests c (bind q)) ≡ None
    pub kept : Stands h (with_types c t (bind q) reads [])
