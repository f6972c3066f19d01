-- Lives of a book whose tables have room for so much and no more.
-- Assumes nothing.
use Rattle.std.specs.Prelude.{◌≡◌, ℕ, suc, ◌+◌, ◌-◌, ◌<◌, ◌≤◌, false, true, ◌⊎◌, ◌↔◌, List, [], ◌∷◌, if◌then◌else◌, Option}
use Rattle.catalog.specs.Catalog.{Catalog, Laws, spent, Grows}
use Rattle.keys.specs.Senses.{Pair}
use Rattle.unfolding.specs.Lists.{Mem}
use Rattle.life.specs.Bind.{column_questions, AnyColumn}
use Rattle.life.specs.Calls.{Call, fill, resolve, bind, describe, requests}
use Rattle.life.specs.Life.{Lawful}
use Rattle.life.specs.Outcomes.{Outcome, Unresolved, TypeRounds}
use Rattle.life.specs.RoundOne.{for_arrays_alone, round_one, resolve_walk}
use Rattle.life.specs.Run.{perform, TurnedAway}
use Rattle.life.specs.Steps.{Book, refused, rounds_told, accepts, keeps_finds, Event, LastOfCall}
use Rattle.life.specs.Walk.{Walked, ended, stopped, walk_from}
use Rattle.room.specs.Added.{types_added, columns_added, Held}
use Rattle.room.specs.Sizes.{Sizes, at, sizes_of, first_full, FirstFull, AllFits}
use Rattle.room.specs.Tables.{Tables, no_tables, contents, extended}

-- the rounds of a call
abbrev pub walk_of : Catalog → Book → Call → Walked
walk_of c b (fill rs) = walk_from c b.descriptors rs
walk_of c b (resolve ds) = resolve_walk c b ds
walk_of c b (bind q) = walk_from c b.descriptors (requests c (bind q))
walk_of c b (describe o) = ended 0 []

-- the rows that they read in full, and those read for their typarray alone
abbrev pub rows_read : Walked → List ℕ
rows_read (ended n reads) = reads
rows_read (stopped number place rounds) = []

abbrev pub rows_apart : Catalog → Book → Call → List ℕ
rows_apart c b (fill rs) = []
rows_apart c b (resolve ds) = for_arrays_alone (round_one c b ds)
rows_apart c b (bind q) = []
rows_apart c b (describe o) = []

-- the columns that a column round asks for
abbrev pub columns_asked : Book → Call → List Pair
columns_asked b (fill rs) = []
columns_asked b (resolve ds) = []
columns_asked b (bind q) = column_questions b q
columns_asked b (describe o) = []

-- the tables are within their capacities
abbrev pub Within : Sizes → Tables → Type 0
Within capacity t = (i : ℕ) → i < 7 → at (sizes_of t) i ≤ at capacity i

module _ (capacity : Sizes) where
  -- one call on these tables
  module _ (c : Catalog) (t : Tables) (call : Call) where
    -- what its types would add, the tables with it, and what its columns would add to those
    abbrev pub new_types : Tables
    new_types = types_added c t call (rows_read (walk_of c (contents t) call)) (rows_apart c (contents t) call)

    abbrev pub typed : Tables
    typed = extended t new_types

    abbrev pub new_columns : Tables
    new_columns = columns_added c typed (columns_asked (contents t) call)

    -- the first table without room for the one and for the other
    abbrev pub types_full : Option ℕ
    types_full = first_full capacity (sizes_of t) (sizes_of new_types)

    abbrev pub columns_full : Option ℕ
    columns_full = first_full capacity (sizes_of typed) (sizes_of new_columns)

    -- the call performed, by what is counted so
    abbrev pub limited : Outcome
    limited = perform (λ _. types_full) (λ _. columns_full) c (contents t) call

    abbrev pub tables_left : Tables
    tables_left = if accepts limited.ending then extended typed new_columns else if keeps_finds limited.ending then typed else t

    -- refusal 8 before the column round: the rounds are walked, and this is the first table without room
    abbrev pub TypesFull : (table rounds : ℕ) → Type 0
    TypesFull i r =
        ((reads : List ℕ) × (walk_of c (contents t) call ≡ ended r reads)) × FirstFull capacity (sizes_of t) (sizes_of new_types) i

    -- refusal 8 of the column round: the rounds are walked, all types fit, no requested OID has a row and no unfolding, a column is to
    -- be asked for, one more round is allowed, and this is the first table without room for the columns found
    pub record ColumnsFull (i r : ℕ) : Type 0 where
      pub types : ℕ
      pub next : r ≡ suc types
      pub walked : (reads : List ℕ) × (walk_of c (contents t) call ≡ ended types reads)
      pub fits : AllFits capacity (sizes_of t) (sizes_of new_types)
      pub unfolds : (o : ℕ) → Mem o (requests c call) → Unresolved c o → ⊥
      pub any : AnyColumn (contents t) call
      pub allowed : types < c.allowance
      pub full : FirstFull capacity (sizes_of typed) (sizes_of new_columns) i

  -- the event is the call performed on these tables, which it left as t', or the call was turned away
  pub record DoneWithin (e : Event) (t t' : Tables) : Type 0 where
    pub laws : Laws e.before
    pub after : e.after ≡ spent e.before (e.before.allowance - rounds_told e.ending)
    pub what :
        ((e.ending ≡ (limited e.before t e.call).ending) × (t' ≡ tables_left e.before t e.call)) ⊎
        (TurnedAway e.ending × (t' ≡ t))

  -- t are the tables that the calls of a history, the last one first, left of empty ones, and c the catalog as it now stands
  abbrev pub LivedWithin : List Event → Catalog → Tables → Type 0
  LivedWithin [] c t = t ≡ no_tables
  LivedWithin (e ∷ h) c t = (t₀ : Tables) × LivedWithin h e.before t₀ × DoneWithin e t₀ t × Grows e.after c

  -- in each step the type rounds told are the last round in which anything stood in it, and the allowance fell by the rounds told
  abbrev pub CountedWithin : (h : List Event) (c : Catalog) (t : Tables) → LivedWithin h c t → Type 0
  CountedWithin [] c t l = Unit {0}
  CountedWithin (e ∷ h) c t l =
      ((k : ℕ) → TypeRounds e.ending k → LastOfCall e.before (contents l.0) e.call k) ×
      (e.before.allowance ≡ e.after.allowance + rounds_told e.ending) ×
      CountedWithin h e.before l.0 l.1

-- of every history of calls on tables of any capacities the law of a book's life holds; the tables hold each key once, and never more
-- than their capacities
abbrev pub RoomLaw : Type 0
RoomLaw =
    (capacity : Sizes) (h : List Event) (c : Catalog) (t : Tables) (l : LivedWithin capacity h c t) →
    Lawful h c (contents t) × CountedWithin capacity h c t l × Held t × Within capacity t

-- the next call leaves the book that its outcome tells, and is refused by 8 exactly where a table lacks room, and then the first such
abbrev pub EightLaw : Type 0
EightLaw =
    (capacity : Sizes) (h : List Event) (c : Catalog) (t : Tables) → LivedWithin capacity h c t → Laws c → (call : Call) →
    let o : Outcome = limited capacity c t call in
    (contents (tables_left capacity c t call) ≡ o.left) ×
    ((i r : ℕ) → (o.ending ≡ refused 8 i false r) ↔ TypesFull capacity c t call i r) ×
    ((i r : ℕ) → (o.ending ≡ refused 8 i true r) ↔ ColumnsFull capacity c t call i r)

-- a column round is refused by 8 at text, columns or relations
abbrev pub ColumnsPlaceLaw : Type 0
ColumnsPlaceLaw =
    (capacity : Sizes) (h : List Event) (c : Catalog) (t : Tables) → LivedWithin capacity h c t → Laws c → (call : Call) (i r : ℕ) →
    (limited capacity c t call).ending ≡ refused 8 i true r → (i ≡ 4) ⊎ ((i ≡ 5) ⊎ (i ≡ 6))
