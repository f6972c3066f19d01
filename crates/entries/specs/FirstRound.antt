-- What round 1 of a resolve leaves.
-- Assumes nothing.
use Rattle.std.specs.Prelude.{◌≡◌, ℕ, ◌-◌, List, [], length, map, Option}
use Rattle.std.specs.Option.{option_and_then}
use Rattle.catalog.specs.Catalog.{Catalog, CatalogRow, Opened, Spent}
use Rattle.catalog.specs.Shape.{shape}
use Rattle.life.specs.Calls.{Declared}
use Rattle.life.specs.RoundOne.{asked_in_full, asked_oid, first_opened, for_arrays_alone, refusable, round_one}
use Rattle.life.specs.Steps.{Book}
use Rattle.life.specs.Walk.{all_read, answered, ask_each, links_in, links_of}
use Rattle.finds.specs.declared.tables.Finds.{Finds}
use Rattle.finds.specs.Finds.{ReadFrom, queue_of, rows_of}
use Rattle.faults.specs.declared.fill.FillFault.{FillFault}
use Rattle.faults.specs.Faults.{refusal_of}
use Rattle.resolve.specs.Rounds.{with_all}
use Rattle.resolve.specs.Walks.{stop_told, stopped_told, walk_at}
use Rattle.entries.specs.declared.notes.Notes.{Notes}
use Rattle.entries.specs.Asking.{with_link}
use Rattle.entries.specs.Notes.{apart_told, leads_told}

-- nothing was found or noted
pub record Nothing (f : Finds) (n : Notes) : Type 0 where
  pub queue : queue_of f ≡ []
  pub rows : rows_of f ≡ []
  pub leads : leads_told n ≡ []
  pub apart : apart_told n ≡ []

-- the links of a row, where it is there and well-formed
abbrev pub row_links : Option CatalogRow → List ℕ
row_links row = links_in (option_and_then shape row)

-- all that the entries bear on was read, and the links of what was read in full wait
pub record FirstRead (c : Catalog) (b : Book) (ds : List Declared) (f : Finds) (n : Notes) : Type 0 where
  pub asked : ask_each asked_oid (refusable c) 256 (round_one c b ds) ≡ all_read (256 - length (apart_told n) - length (rows_of f))
  pub queue : let full : List ℕ = asked_in_full (round_one c b ds) in queue_of f ≡ with_all (answered b.descriptors) full (links_of c full)
  pub rows : rows_of f ≡ map c.rows (asked_in_full (round_one c b ds))
  pub apart : apart_told n ≡ map (with_link c) (for_arrays_alone (round_one c b ds))

-- the round stops there
pub record FirstHalted (c : Catalog) (b : Book) (ds : List Declared) (fault : FillFault) : Type 0 where
  pub asked : ask_each asked_oid (refusable c) 256 (round_one c b ds) ≡ stop_told (refusal_of fault)
  pub told : (refusal_of fault).rounds ≡ 1

-- round 1 was opened, read and closed: the walk goes on behind it
pub record FirstTurned (c d : Catalog) (b : Book) (ds : List Declared) (f : Finds) (n : Notes) : Type 0 where
  pub on : first_opened c b c.allowance (round_one c b ds) ≡ walk_at d (answered b.descriptors) (256 - length (apart_told n)) 1 f
  pub cost : Opened c d
  pub read : ReadFrom c f
  pub apart : apart_told n ≡ map (with_link c) (for_arrays_alone (round_one c b ds))

-- the walk ends in round 1, or in front of it
pub record FirstRefused (c d : Catalog) (b : Book) (ds : List Declared) (fault : FillFault) : Type 0 where
  pub stops : first_opened c b c.allowance (round_one c b ds) ≡ stopped_told (refusal_of fault)
  pub cost : Spent (refusal_of fault).rounds c d
