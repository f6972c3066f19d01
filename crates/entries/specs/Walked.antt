-- What the rounds of a resolve come to.
-- Assumes nothing.
use Rattle.std.specs.Prelude.{◌≡◌, ℕ, IfOk, List, map, Result}
use Rattle.catalog.specs.Catalog.{Catalog, Spent}
use Rattle.life.specs.Calls.{Declared}
use Rattle.life.specs.RoundOne.{for_arrays_alone, round_one}
use Rattle.life.specs.Steps.{Book}
use Rattle.life.specs.Walk as life
use Rattle.finds.specs.declared.tables.Finds.{Finds}
use Rattle.finds.specs.Finds.{ReadFrom, queue_of, reads_of}
use Rattle.faults.specs.declared.fill.FillFault.{FillFault}
use Rattle.resolve.specs.Walks.{outcome, rounds_told}
use Rattle.entries.specs.declared.notes.Notes.{Notes}
use Rattle.entries.specs.Asking.{with_link}
use Rattle.entries.specs.Notes.{apart_told}

-- they ended so over c, which they left as d, and left this
pub record Walked (c d : Catalog) (b : Book) (ds : List Declared) (expected : life.Walked) (r : Result ℕ FillFault) (f : Finds) (n : Notes) : Type 0 where
  pub told : outcome r f ≡ expected
  pub cost : Spent (rounds_told r) c d
  pub read : IfOk r (λ _. ReadFrom c f)
  pub all : IfOk r (λ _. reads_of f ≡ queue_of f)
  pub apart : IfOk r (λ _. apart_told n ≡ map (with_link c) (for_arrays_alone (round_one c b ds)))
