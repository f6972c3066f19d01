-- Round 1 of a Resolve, one question after the other, as code asks them.
-- Assumes nothing.
use Rattle.std.specs.Prelude.{◌≡◌, ℕ, zero, suc, Bool, true, false, ◌||◌, List, [], ◌∷◌, ◌++◌}
use Rattle.catalog.specs.Catalog.{Catalog}
use Rattle.life.specs.Calls.{Declared}
use Rattle.life.specs.Lists.{is_in}
use Rattle.life.specs.RoundOne.{Question, in_full, for_array, asked_oid, asked_in_full, for_arrays_alone, miscoded, refusable, entry_asks, spared, round_one}
use Rattle.life.specs.Steps.{Book}
use Rattle.life.specs.Walk.{answered, malformed, Asked, all_read, stop, ask_each}

-- the OIDs read in full, the oldest first, the elements read for their typarray alone, and how many rows may still be asked for; or
-- number and place of a refusal
pub data Read : Type 0 where
  reading : (queue apart : List ℕ) (left : ℕ) → Read
  halted : ℕ → ℕ → Read

-- what follows where no row was refused
abbrev pub then_read : Read → (List ℕ → List ℕ → ℕ → Read) → Read
then_read (reading queue apart left) next = next queue apart left
then_read (halted number place) next = halted number place

-- 7 before a row is asked for, 6 when it is read and is to be refused
abbrev pub read_row : (o left : ℕ) (bad : Bool) (next : ℕ → Read) → Read
read_row o zero bad next = halted 7 o
read_row o (suc left) bad next = elim bad [ true ↦ halted 6 o | false ↦ next left ]

module _ (c : Catalog) (b : Book) where
  -- one question, and one after the other
  abbrev pub read_question : Question → List ℕ → List ℕ → ℕ → Read
  read_question (in_full o) queue apart left =
      elim (answered b.descriptors o || is_in o queue)
      [ true ↦ reading queue apart left | false ↦ read_row o left (malformed c o) (λ rest. reading (queue ++ o ∷ []) apart rest) ]
  read_question (for_array e) queue apart left =
      elim (spared c b e || is_in e apart)
      [ true ↦ reading queue apart left | false ↦ read_row e left (miscoded (c.rows e)) (λ rest. reading queue (apart ++ e ∷ []) rest) ]

  abbrev pub read_all : List Question → List ℕ → List ℕ → ℕ → Read
  read_all [] queue apart left = reading queue apart left
  read_all (q ∷ qs) queue apart left = then_read (read_question q queue apart left) (read_all qs)

  -- a loop over the entries
  abbrev pub read_entries : List Declared → List ℕ → List ℕ → ℕ → Read
  read_entries [] queue apart left = reading queue apart left
  read_entries (x ∷ xs) queue apart left = then_read (read_all (entry_asks c b x) queue apart left) (read_entries xs)

-- the lists of a round, or its refusal
abbrev pub summed : Asked → List ℕ → List ℕ → Read
summed (all_read left) queue apart = reading queue apart left
summed (stop number place) queue apart = halted number place

-- the loop comes to the lists of round 1 and to what is left of the 256 rows, or to its refusal
abbrev pub ReadingLaw : Type 0
ReadingLaw =
    (c : Catalog) (b : Book) (ds : List Declared) →
    let qs : List Question = round_one c b ds in
    read_entries c b ds [] [] 256 ≡ summed (ask_each asked_oid (refusable c) 256 qs) (asked_in_full qs) (for_arrays_alone qs)
