-- What is left of an entry, and which OID it has, once a step is done.
-- Assumes nothing.
use Rattle.std.specs.Prelude.{ℕ, suc, Bool, false, not, ◌||◌, if◌then◌else◌, is_some, List, [], ◌∷◌, map, slice_get, Some, None, Option, option_and_then}
use Rattle.life.specs.Calls.{Declared, of_oid, of_name, array_of}
use Rattle.entries.specs.declared.notes.Notes.{Notes}
use Rattle.entries.specs.Notes.{leads_told}
use Rattle.requests.specs.Asked.{declared_by}
use Rattle.requests.specs.declared.asked.TypeAsked.{TypeAsked}

-- the OID that may be there passes the test
abbrev pub passes : (ℕ → Bool) → Option ℕ → Bool
passes test None = false
passes test (Some o) = test o

abbrev pub if_passes : (ℕ → Bool) → Option ℕ → Option ℕ
if_passes test None = None
if_passes test (Some o) = if test o then Some o else None

abbrev pub lead_at : List (Option ℕ) → ℕ → Option ℕ
lead_at leads place = option_and_then (λ l. l) (slice_get leads place)

-- each entry, from place i on, with the OID that its name leads to: none where nothing is noted of it
abbrev pub led_from : ℕ → List Declared → List (Option ℕ) → List (Declared × Option ℕ)
led_from i [] leads = []
led_from i (x ∷ xs) leads = (x, lead_at leads i) ∷ led_from (suc i) xs leads

abbrev pub led : List ℕ → List TypeAsked → Notes → List (Declared × Option ℕ)
led host entries n = led_from 0 (declared_by host entries) (leads_told n)

-- an OID that may be there, as a number
abbrev pub oid_or_zero : Option ℕ → ℕ
oid_or_zero None = 0
oid_or_zero (Some o) = o

-- over the arrays that the book holds then
module _ (arrays : ℕ → Option ℕ) where
  -- an OID that it asked for passes the test
  abbrev pub asked_for : (ℕ → Bool) → Declared → Option ℕ → Bool
  asked_for left (of_oid o) lead = false
  asked_for left (of_name n) lead = passes left lead
  asked_for left (array_of n) lead = passes left lead || passes left (option_and_then arrays lead)

  -- its OID, if that passes the test
  abbrev pub oid_if : (ℕ → Bool) → Declared → Option ℕ → Option ℕ
  oid_if known (of_oid o) lead = Some o
  oid_if known (of_name n) lead = if_passes known lead
  oid_if known (array_of n) lead = if_passes known (option_and_then arrays lead)

  abbrev pub without_oid : (ℕ → Bool) → Declared → Option ℕ → Bool
  without_oid known x lead = not (is_some (oid_if known x lead))

  -- what is written for each entry
  abbrev pub all_written : (ℕ → Bool) → List (Declared × Option ℕ) → List ℕ
  all_written known xs = map (λ (x : Declared × Option ℕ). oid_or_zero (oid_if known x.0 x.1)) xs
