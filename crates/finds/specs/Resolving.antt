-- What a Resolve declares and reads apart, how much of it a book does not hold, and what a book holds once it is kept.
-- Assumes nothing.
use Rattle.std.specs.Prelude.{◌≡◌, ℕ, ◌+◌, ◌≤◌, Bool, true, false, not, ◌&&◌, ◌||◌, if◌then◌else◌, List, [], ◌∷◌, length, map, min, nat_eq, nat_le, bytes_eq, is_some, Some, None, Option}
use Rattle.std.specs.List.{cons_option, list_any, sum_by}
use Rattle.std.specs.Option.{option_map}
use Rattle.type_info.specs.declared.oid.Oid.{Oid}
use Rattle.catalog.specs.Catalog.{Catalog}
use Rattle.catalog.specs.Meaning.{oid_told}
use Rattle.catalog.specs.Shape.{Name}
use Rattle.indexes.specs.Known.{GainedName, HasRoom, Names, known}
use Rattle.slots.specs.Slots.{filled}
use Rattle.slots.specs.Text.{lent}
use Rattle.unfolding.specs.Lists.{Distinct, Mem}
use Rattle.life.specs.Calls.{Declared, array_link, array_of, of_name, of_oid, resolve}
use Rattle.life.specs.InTurn.{known_so}
use Rattle.life.specs.Lists.{fresh_by, is_in}
use Rattle.life.specs.RoundOne.{lead}
use Rattle.life.specs.Steps.{Book}
use Rattle.life.specs.Walk.{answered}
use Rattle.room.specs.Added.{declared_names}
use Rattle.room.specs.Sizes.{Sizes, bytes}
use Rattle.book.specs.Adding.{adds_name}
use Rattle.book.specs.Held.{Held, book_held, no_sizes, size_of_name, sum_of, with_name}
use Rattle.requests.specs.Asked.{declared_by, type_asked}
use Rattle.requests.specs.declared.asked.TypeAsked.{TypeAsked}
use Rattle.life.specs.HostCalls.{meant_type}
use Rattle.finds.specs.declared.tables.Finds.{Finds}
use Rattle.finds.specs.Finds.{order_of, reads_of}
use Rattle.finds.specs.Keeping.{Find, each, link_kept, new_link_size, settled_finds, size_of_all, size_of_finds, with_finds}

-- the OID that the name of an entry leads to: what the book answers, or else the catalog
abbrev pub entry_lead : Catalog → Book → Declared → Option ℕ
entry_lead c b (of_oid o) = None
entry_lead c b (of_name n) = lead c b n
entry_lead c b (array_of n) = lead c b n

-- the leads told are those of the entries over this book
abbrev pub LeadsOf : Catalog → Held → List Declared → List (Option Oid) → Type 0
LeadsOf c h ds leads = map oid_told leads ≡ map (entry_lead c (book_held h)) ds

-- an element that was read apart, with its typarray
abbrev pub Apart : Type 0
Apart = ℕ × Option ℕ

abbrev pub apart_told : List (Oid × Option Oid) → List Apart
apart_told xs = map (λ (x : Oid × Option Oid). (x.0.0, oid_told x.1)) xs

-- the rows read apart: each element once, none of them among the reads, with its typarray in the catalog
pub record ApartOf (c : Catalog) (f : Finds) (apart : List (Oid × Option Oid)) (es : List ℕ) : Type 0 where
  pub told : apart_told apart ≡ map (λ e. (e, array_link (c.rows e))) es
  pub once : Distinct es
  pub other : (o : ℕ) → Mem o es → is_in o (reads_of f) ≡ false

-- a name, and the OID that it leads to
abbrev pub Lead : Type 0
Lead = Name × ℕ

-- the name of an entry, or of its element, and how long it is
abbrev pub entry_name : Declared → Option Name
entry_name (of_oid o) = None
entry_name (of_name n) = Some n
entry_name (array_of n) = Some n

abbrev pub name_length : Option Name → ℕ
name_length None = 0
name_length (Some n) = length n

-- an entry that has a name which leads to an OID, and all of them in order
abbrev pub lead_if : Option Name → Option ℕ → Option Lead
lead_if None l = None
lead_if (Some n) l = option_map (λ o. (n, o)) l

abbrev pub leads_of : List Declared → List (Option ℕ) → List Lead
leads_of [] ls = []
leads_of (d ∷ ds) [] = []
leads_of (d ∷ ds) (l ∷ ls) = cons_option (lead_if (entry_name d) l) (leads_of ds ls)

abbrev pub leads_told : List ℕ → List TypeAsked → List (Option Oid) → List Lead
leads_told host entries leads = leads_of (declared_by host entries) (map oid_told leads)

-- the entry at a place, with what was told of it
abbrev pub lead_at : List ℕ → Option TypeAsked → Option (Option Oid) → Option Lead
lead_at host None told = None
lead_at host (Some x) None = None
lead_at host (Some x) (Some l) = lead_if (entry_name (meant_type host (type_asked x))) (oid_told l)

-- a book once the name of an entry is kept, if what it leads to is known by then, and once an array link is
abbrev pub lead_kept : Held → Lead → Held
lead_kept h x = if answered (book_held h).descriptors x.1 && adds_name h x.0 then with_name h x.0 x.1 else h

abbrev pub lead_kept_if : Held → Option Lead → Held
lead_kept_if h None = h
lead_kept_if h (Some x) = lead_kept h x

abbrev pub apart_kept : Held → Apart → Held
apart_kept h x = link_kept h x.0 x.1

-- what the step found, then the names declared, then the array links read apart
abbrev pub with_resolved : Held → Finds → List Lead → List Apart → Held
with_resolved h f leads apart = each apart_kept (each lead_kept (with_finds h f) leads) apart

-- the name is that of this row, and of one that was settled
abbrev pub names_find : Lead → Option Find → Bool
names_find x None = false
names_find x (Some y) = nat_eq y.0 x.1 && bytes_eq x.0 y.1.pretty

abbrev pub names_settled : Finds → Lead → Bool
names_settled f x = list_any (names_find x) (settled_finds f)

-- a declared name takes nothing where the book holds it, what it leads to is not known once the step is done, or it goes into the book
-- with what was settled
abbrev pub left_out : Held → Finds → Lead → Bool
left_out h f x = is_some (h.names x.0) || (not (known_so (book_held h).descriptors (order_of f) x.1) || names_settled f x)

abbrev pub same_name : Lead → Lead → Bool
same_name x y = bytes_eq x.0 y.0

-- the others, each once
abbrev pub new_leads : Held → Finds → List Lead → List Lead
new_leads h f leads = fresh_by same_name (left_out h f) [] leads

-- how much a name and an array link take
abbrev pub lead_size : Lead → Sizes
lead_size x = size_of_name x.0

abbrev pub apart_size : Held → Apart → Sizes
apart_size h x = new_link_size h x.0 x.1

-- what the step found, the names declared and the array links read apart take, together
abbrev pub size_of_resolved : Held → Finds → List Lead → List Apart → Sizes
size_of_resolved h f leads apart = sum_of (size_of_finds h f) (sum_of (size_of_all lead_size (new_leads h f leads)) (size_of_all (apart_size h) apart))

-- there is room in a table for the name of an entry
abbrev pub RoomFor : Option Lead → Names Oid → Type 0
RoomFor None seen = Unit {0}
RoomFor (Some x) seen = HasRoom seen (length x.0)

-- how long the names are, together
abbrev pub lead_bytes : List Lead → ℕ
lead_bytes xs = sum_by (λ (x : Lead). length x.0) xs

-- there is room for all these, which are not long
pub record RoomForAll (xs : List Lead) (seen : Names Oid) : Type 0 where
  pub slots : filled seen.slots + length xs ≤ length seen.slots
  pub text : length seen.text.text + lead_bytes xs ≤ lent seen.text
  pub few : length seen.text.text + lead_bytes xs ≤ 8388608

-- what a table by name becomes where an entry is counted, and how much it takes
abbrev pub CountedName : Bool → Lead → (seen now : Names Oid) → Sizes → Type 0
CountedName true x seen now size = (size ≡ no_sizes) × (now ≡ seen)
CountedName false x seen now size = (size ≡ size_of_name x.0) × GainedName seen x.0 (record { 0 = x.1 }) now

abbrev pub CountedLead : Held → Finds → Option Lead → (seen now : Names Oid) → Sizes → Type 0
CountedLead h f None seen now size = (size ≡ no_sizes) × (now ≡ seen)
CountedLead h f (Some x) seen now size = CountedName (left_out h f x || is_some (known seen x.0)) x seen now size

-- the bytes of all names that entries declare
abbrev pub declared_bytes : List Declared → ℕ
declared_bytes ds = bytes (declared_names (resolve ds))

-- a table has a slot for each of the entries, and bytes for all their names, and neither these nor the rows apart are too many for any
-- book
abbrev pub enough : List Declared → (apart : ℕ) → Names Oid → Bool
enough ds apart seen =
    (nat_le (length ds) 65536 && nat_le apart 65536) &&
    (nat_le (length ds) (length seen.slots) && nat_le (declared_bytes ds) (min (lent seen.text) 8388608))
