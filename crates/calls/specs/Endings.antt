-- How a call of the code ended, and that it did what the law says.
-- Assumes nothing.
use Rattle.std.specs.Prelude.{◌≡◌, ℕ, Bool, List, Ok, Err, Result, Some}
use Rattle.book.specs.Held.{Held}
use Rattle.book.specs.Stands.{Stands}
use Rattle.catalog.specs.Catalog.{Catalog}
use Rattle.faults.specs.Faults.{call_refusal_of, refused_so}
use Rattle.faults.specs.declared.call.CallFault.{CallFault}
use Rattle.life.specs.HostCalls.{HostCall, host_bind}
use Rattle.life.specs.Steps.{Ending, accepted}
use Rattle.life.specs.Told.{told_of}
use Rattle.requests.specs.Early.{bind_asked}
use Rattle.requests.specs.declared.asked.FieldAsked.{FieldAsked}
use Rattle.room.specs.Asked.{asked_left, asked_within}
use Rattle.room.specs.Tables.{Tables}

abbrev pub ending_of : Result ℕ CallFault → Ending
ending_of (Ok rounds) = accepted rounds 0
ending_of (Err fault) = refused_so (call_refusal_of fault)

-- a bind as a host asks it: its lists, what it may and wants, and how many slots the answer buffer of each list has
abbrev pub bind_call : List ℕ → List FieldAsked → (queries origins : Bool) → (parameter_slots column_slots : ℕ) → HostCall
bind_call parameters fields queries origins parameter_slots column_slots =
    host_bind (bind_asked parameters fields queries origins parameter_slots column_slots)

-- the fault tells what a host is to be told of this ending: number, place, layer and rounds
abbrev pub TellsOf : Ending → CallFault → Type 0
TellsOf e fault = told_of e ≡ Some (call_refusal_of fault)

-- a call that met a book b of these tables ended as the law says, and left it as b', of the tables that the law says
pub record Did (c : Catalog) (b b' : Held) (host : List ℕ) (call : HostCall) (e : Ending) (t : Tables) : Type 0 where
  pub ends : e ≡ (asked_within b.capacity host c t call).ending
  pub left : Stands b' (asked_left b.capacity host c t call)
