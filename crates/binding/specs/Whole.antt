-- A whole bind: what it is asked, and how it ends.
-- Assumes nothing.
use Rattle.std.specs.Prelude.{ℕ, Bool, List, [], if◌then◌else◌, Ok, Err, Result}
use Rattle.catalog.specs.Catalog.{Catalog}
use Rattle.keys.specs.Senses.{Pair}
use Rattle.life.specs.Calls.{Binding}
use Rattle.life.specs.Steps.{Ending, accepted}
use Rattle.room.specs.Tables.{Tables}
use Rattle.requests.specs.Asked.{fields_of}
use Rattle.requests.specs.declared.asked.FieldAsked.{FieldAsked}
use Rattle.book.specs.Held.{Held}
use Rattle.faults.specs.declared.call.CallFault.{CallFault}
use Rattle.faults.specs.Faults.{call_refusal_of, refused_so}
use Rattle.binding.specs.Asked.{asked_of}
use Rattle.binding.specs.ColumnRound.{round_ending}
use Rattle.binding.specs.declared.whole.Rounds.{Rounds}

abbrev pub binding_asked : List ℕ → List FieldAsked → (queries origins : Bool) → Binding
binding_asked parameters fields queries origins = record { parameters = parameters; fields = fields_of fields; queries = queries; origins = origins }

-- what is told of it
abbrev pub bound_ending : Result Rounds CallFault → Ending
bound_ending (Ok rounds) = accepted rounds.types rounds.columns
bound_ending (Err fault) = refused_so (call_refusal_of fault)

-- the columns that are asked for where the book holds this, if origins are wanted, and how the round ends behind n rounds of types
abbrev pub wanted : (origins : Bool) → Held → List FieldAsked → List Pair
wanted origins h fields = if origins then asked_of h fields else []

abbrev pub wanted_ending : (origins : Bool) → Catalog → Held → Tables → List FieldAsked → (n : ℕ) → Ending
wanted_ending origins c h t fields n = if origins then round_ending c h t fields n else accepted n 0
