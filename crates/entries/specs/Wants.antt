-- What a book answers of an entry by itself.
-- Assumes nothing.
use Rattle.std.specs.Prelude.{ℕ, Bool, true, false, not, ◌||◌, Some, None, Option}
use Rattle.std.specs.Option.{option_and_then}
use Rattle.life.specs.Calls.{Declared, of_oid, of_name, array_of}
use Rattle.life.specs.Steps.{Book}
use Rattle.life.specs.Walk.{answered}

module _ (b : Book) where
  -- the OID that it holds under the entry's name
  abbrev pub held_lead : Declared → Option ℕ
  held_lead (of_oid o) = None
  held_lead (of_name n) = b.names n
  held_lead (array_of n) = b.names n

  -- the OID is not there or not known
  abbrev pub misses : Option ℕ → Bool
  misses None = true
  misses (Some o) = not (answered b.descriptors o)

  -- so is that of the entry, or of its element or its array
  abbrev pub wants : Declared → Bool
  wants (of_oid o) = false
  wants (of_name n) = misses (b.names n)
  wants (array_of n) = misses (b.names n) || misses (option_and_then b.arrays (b.names n))
