-- A worked example of a life: two calls, and a third that is turned away.
-- Assumes nothing.
use Rattle.std.specs.Prelude.{◌≡◌, true, false, List, [], ◌∷◌, Some, codes, replicate}
use Rattle.catalog.specs.Catalog.{Catalog, Laws}
use Rattle.life.specs.Calls.{of_name, array_of, Call, fill, resolve, bind}
use Rattle.life.specs.HostCalls.{host_name, host_array, HostCall, host_fill, host_resolve, meant, asked_outcome, AskedLife}
use Rattle.life.specs.Steps.{Book, empty_book, answer, Ending, refused, Event}
use Rattle.life.specs.Keep.{call_event}
use Rattle.life.specs.Run.{perform, Performed}
use Rattle.worked_examples.specs.Cards.{card, enum_of}
use Rattle.worked_examples.specs.HostCalls.{span}
use Rattle.worked_examples.specs.Steps.{room, asked, edge}

-- one enum, at allowance 1
abbrev pub one : Catalog
one = card ((50003, enum_of (codes "edge") (codes "near" ∷ codes "far" ∷ [])) ∷ []) 1

-- its name, and the array that it does not have; then a Bind with no allowance left; then a list that is too long
abbrev pub first_call : Call
first_call = resolve (of_name (codes "edge") ∷ array_of (codes "edge") ∷ [])

abbrev pub second_call : Call
second_call = bind (asked true true)

abbrev pub done : Catalog → Book → Call → Ending
done c b call = (perform room room c b call).ending

abbrev pub left_by : Catalog → Book → Call → Book
left_by c b call = (perform room room c b call).left

abbrev pub event : Catalog → Book → Call → Event
event c b call = call_event c call (done c b call)

abbrev pub after : Catalog → Book → Call → Catalog
after c b call = (event c b call).after

abbrev pub poorer : Catalog
poorer = after one empty_book first_call

abbrev pub first_book : Book
first_book = left_by one empty_book first_call

abbrev pub as_poor : Catalog
as_poor = after poorer first_book second_call

abbrev pub second_book : Book
second_book = left_by poorer first_book second_call

abbrev pub too_long : Event
too_long = call_event as_poor (fill []) (refused 1 256 false 0)

abbrev pub history : List Event
history = too_long ∷ event poorer first_book second_call ∷ event one empty_book first_call ∷ []

-- the same as hosts ask it: the name and the array, over a text that is the name; then a list that is too long
abbrev pub asked_first : HostCall
asked_first = host_resolve (record { entries = host_name (span 0 4) ∷ host_array (span 0 4) ∷ []; slots = 2 })

abbrev pub asked_second : HostCall
asked_second = host_fill (replicate 257 50003)

abbrev pub first_event : Event
first_event = call_event one (meant (codes "edge") asked_first) (asked_outcome room room (codes "edge") one empty_book asked_first).ending

abbrev pub second_event : Event
second_event = call_event poorer (meant [] asked_second) (asked_outcome room room [] poorer first_book asked_second).ending

pub record LifeExamples : Type 0 where
  pub laws : Laws one
  pub first_ends : done one empty_book first_call ≡ refused 10 1 false 1
  pub second_ends : done poorer first_book second_call ≡ refused 5 1 false 0
  -- the two calls and the refusal are a life, and the book that they leave knows the enum
  pub life : Performed room room history too_long.after second_book
  pub knows : answer second_book 50003 ≡ Some edge
  -- what a host asked is what was performed, and what it asked of too many is refused
  pub as_meant : meant (codes "edge") asked_first ≡ first_call
  pub asked_ends : second_event.ending ≡ refused 1 256 false 0
  pub asked_life : AskedLife room room (second_event ∷ first_event ∷ []) second_event.after first_book
