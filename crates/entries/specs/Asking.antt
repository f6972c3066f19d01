-- What round 1 of a resolve has read, and how its questions end.
-- Assumes nothing.
use Rattle.std.specs.Prelude.{◌≡◌, ℕ, ◌-◌, IfErr, IfOk, List, length, map, Ok, Err, Result, Option}
use Rattle.catalog.specs.Catalog.{Catalog}
use Rattle.life.specs.Calls.{array_link}
use Rattle.life.specs.Reading.{Read, reading, halted}
use Rattle.finds.specs.declared.tables.Finds.{Finds}
use Rattle.finds.specs.Finds.{queue_of, rows_of}
use Rattle.faults.specs.declared.fill.FillFault.{FillFault}
use Rattle.faults.specs.Faults.{refusal_of}
use Rattle.resolve.specs.Walks.{left_of}
use Rattle.entries.specs.declared.notes.Notes.{Notes}
use Rattle.entries.specs.Notes.{apart_of, apart_told}

-- how many rows more may be read
abbrev pub rows_left : Finds → Notes → ℕ
rows_left f n = left_of (256 - length (apart_told n)) f

-- the loop of round 1 from here on
abbrev pub from_here : (List ℕ → List ℕ → ℕ → Read) → Finds → Notes → Read
from_here next f n = next (queue_of f) (apart_of n) (rows_left f n)

-- an element with the array that the catalog tells of it
abbrev pub with_link : Catalog → ℕ → ℕ × Option ℕ
with_link c e = (e, array_link (c.rows e))

-- the rows of all that stands were read, and what is noted of elements is what the catalog has
pub record AllRead (c : Catalog) (f : Finds) (n : Notes) : Type 0 where
  pub rows : rows_of f ≡ map c.rows (queue_of f)
  pub apart : apart_told n ≡ map (with_link c) (apart_of n)

-- how a part of the round ended that left this
abbrev pub read_told : Result (Unit {0}) FillFault → Finds → Notes → Read
read_told (Ok done) f n = from_here reading f n
read_told (Err fault) f n = halted (refusal_of fault).number (refusal_of fault).place

-- it came to this, and a refusal is one of round 1
pub record CameTo (c : Catalog) (expected : Read) (r : Result (Unit {0}) FillFault) (f : Finds) (n : Notes) : Type 0 where
  pub told : read_told r f n ≡ expected
  pub all : IfOk r (λ _. AllRead c f n)
  pub round : IfErr r (λ fault. (refusal_of fault).rounds ≡ 1)
