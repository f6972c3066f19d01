-- The rounds of a step from what it has found on, and how they end.
-- Assumes nothing.
use Rattle.std.specs.Prelude.{ℕ, ◌-◌, Bool, List, length, drop, slice_index, Ok, Err, Result}
use Rattle.catalog.specs.Catalog.{Catalog}
use Rattle.catalog.specs.declared.faults.Told.{Told}
use Rattle.book.specs.Book.{held_of}
use Rattle.book.specs.Held.{book_held}
use Rattle.book.specs.declared.tables.Book.{Book}
use Rattle.life.specs.Walk.{answered, Asked, stop, Walked, ended, stopped, walk}
use Rattle.finds.specs.declared.tables.Finds.{Finds}
use Rattle.finds.specs.Finds.{queue_of, reads_of, rows_of}
use Rattle.faults.specs.declared.fill.FillFault.{FillFault}
use Rattle.faults.specs.Faults.{refusal_of}

-- built in, or described by the book
abbrev pub known_to : Book → ℕ → Bool
known_to book = answered (book_held (held_of book)).descriptors

-- the OIDs whose rows were not read, and the first of them
abbrev pub waiting_of : Finds → List ℕ
waiting_of f = drop (length (rows_of f)) (queue_of f)

abbrev pub next_of : Finds → ℕ
next_of f = slice_index (queue_of f) (length (rows_of f))

-- how many rows more may be read, of so many in the step
abbrev pub left_of : ℕ → Finds → ℕ
left_of most f = most - length (rows_of f)

-- the walk from the round on that reads what waits, after `opened` others
abbrev pub walk_at : Catalog → (ℕ → Bool) → (most opened : ℕ) → Finds → Walked
walk_at c skip most opened f = walk c skip (64 - opened) opened (left_of most f) c.allowance (waiting_of f) (reads_of f)

-- where a fault stops a round, and where it stops a walk
abbrev pub stop_told : Told → Asked
stop_told t = stop t.number t.place

abbrev pub stopped_told : Told → Walked
stopped_told t = stopped t.number t.place t.rounds

-- how a walk ended that left this
abbrev pub outcome : Result ℕ FillFault → Finds → Walked
outcome (Ok rounds) f = ended rounds (reads_of f)
outcome (Err fault) f = stopped_told (refusal_of fault)

abbrev pub rounds_told : Result ℕ FillFault → ℕ
rounds_told (Ok rounds) = rounds
rounds_told (Err fault) = (refusal_of fault).rounds
