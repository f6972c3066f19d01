-- A refusal before any round, by its number and its place, and what is asked, as the law of a book's life has it.
-- Assumes nothing.
use Rattle.std.specs.Prelude.{ℕ, Bool, List, map}
use Rattle.life.specs.HostCalls.{BindAsked, ResolveAsked}
use Rattle.requests.specs.Asked.{field_asked, type_asked}
use Rattle.requests.specs.declared.asked.FieldAsked.{FieldAsked}
use Rattle.requests.specs.declared.asked.TypeAsked.{TypeAsked}
use Rattle.requests.specs.declared.early.Early.{Early}
use Rattle.requests.specs.declared.early.Early.TheVariants.{BadName, NoSlot, TooLong}

-- where it is
abbrev pub place_of : Early → ℕ
place_of (TooLong place) = place
place_of (NoSlot place) = place
place_of (BadName place) = place

abbrev pub early_told : Early → ℕ × ℕ
early_told (TooLong place) = (1, place)
early_told (NoSlot place) = (2, place)
early_told (BadName place) = (3, place)

-- the lists of a resolve and of a bind, and how many slots the answer buffer of each has
abbrev pub resolve_asked : List TypeAsked → ℕ → ResolveAsked
resolve_asked entries slots = record { entries = map type_asked entries; slots = slots }

abbrev pub bind_asked : List ℕ → List FieldAsked → (queries origins : Bool) → (parameter_slots column_slots : ℕ) → BindAsked
bind_asked parameters fields queries origins parameter_slots column_slots = record {
  parameters = parameters;
  fields = map field_asked fields;
  queries = queries;
  origins = origins;
  parameter_slots = parameter_slots;
  column_slots = column_slots;
}
