-- How a fill ends once its rounds are read.
-- Assumes nothing.
use Rattle.std.specs.Prelude.{◌≡◌, ℕ, Bool, false, not, ◌&&◌, List, is_some, option_map, Ok, Err, Result, Some, Option}
use Rattle.catalog.specs.Catalog.{Catalog}
use Rattle.life.specs.Faults.{of_layer_fill}
use Rattle.life.specs.Lists.{is_in}
use Rattle.life.specs.Steps.{Ending, accepted, refused}
use Rattle.faults.specs.declared.fill.FillFault.{FillFault}
use Rattle.faults.specs.Faults.{refusal_of}

-- an OID that was read, has a row and is not known
abbrev pub left_over : Catalog → (known : ℕ → Bool) → (reads : List ℕ) → ℕ → Bool
left_over c known reads o = not (known o) && (is_in o reads && is_some (c.rows o))

-- the fault tells this table, after these rounds
abbrev pub FullAt : Option ℕ → (rounds : ℕ) → FillFault → Type 0
FullAt full rounds fault = option_map (λ table. of_layer_fill 8 table rounds) full ≡ Some (refusal_of fault)

-- what is told of a fill
abbrev pub ending_told : Result ℕ FillFault → Ending
ending_told (Ok rounds) = accepted rounds 0
ending_told (Err fault) = let t = refusal_of fault in refused t.number t.place false t.rounds
