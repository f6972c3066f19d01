-- The book that a step leaves which keeps its finds, computed from what it read.
-- Assumes nothing.
use Rattle.std.specs.Prelude.{◌≡◌, ℕ, ◌-◌, ◌≤◌, Bool, true, false, ◌&&◌, ◌||◌, ◌↔◌, List, ◌∷◌, is_some, if◌then◌else◌, Some, None, bytes_eq, Option, option_and_then}
use Rattle.std.specs.Option.{option_or}
use Rattle.catalog.specs.Catalog.{Catalog, Laws, spent}
use Rattle.catalog.specs.Shape.{Name}
use Rattle.unfolding.specs.Lists.{Mem}
use Rattle.unfolding.specs.Unfolding.{Tree, built, node}
use Rattle.life.specs.Calls.{Call, array_link, requests}
use Rattle.life.specs.Life.{Lived}
use Rattle.life.specs.Lists.{is_in}
use Rattle.life.specs.Rounds.{Descriptors, found, StandsOnce}
use Rattle.life.specs.Settle.{settled}
use Rattle.life.specs.Steps.{Book, Ending, rounds_told, accepts, keeps_finds, TellsTypeRounds, Event, LastOfCall}
use Rattle.life.specs.Tests.{declares, declares_array, asks_column}

-- o, if n is the pretty name of its descriptor
abbrev pub if_named : Name → ℕ → Tree → Option ℕ
if_named n o (built p) = None
if_named n o (node p m head ts) = if bytes_eq m n then Some o else None

-- the OID that n leads to, if it is described and n is its pretty name
abbrev pub pretty_in : Descriptors → Name → Option ℕ → Option ℕ
pretty_in d n None = None
pretty_in d n (Some o) = option_and_then (if_named n o) (d o)

-- the OID that a name leads to, if it is known
abbrev pub if_settled : Descriptors → Option ℕ → Option ℕ
if_settled d None = None
if_settled d (Some o) = if is_some (found d o) then Some o else None

-- the names held once these descriptors are: those held before, then pretty names, then those declared
abbrev pub kept_names : Catalog → Call → Descriptors → (Name → Option ℕ) → Name → Option ℕ
kept_names c call d names n =
    option_or (names n) (option_or (pretty_in d n (c.named n)) (if declares call n then if_settled d (c.named n) else None))

-- the book once these rows are read and settled; a step that is done keeps the columns that it asked for too
abbrev pub kept : Catalog → Call → List ℕ → Book → Bool → Book
kept c call reads b done = record {
  descriptors = settled c b.descriptors reads;
  names = kept_names c call (settled c b.descriptors reads) b.names;
  arrays = λ e. option_or (b.arrays e) (if is_in e reads || declares_array c call e then array_link (c.rows e) else None);
  columns = λ r a. option_or (b.columns r a) (if done && asks_column call r a then c.columns r a else None);
}

-- the call on this catalog, which ended so and lost the rounds told
abbrev pub call_event : Catalog → Call → Ending → Event
call_event c call e = record { before = c; after = spent c (c.allowance - rounds_told e); call = call; ending = e }

-- a call that ended so on the book of a life, which it left as b', makes the life longer
abbrev pub LivesOn : List Event → Catalog → Call → Ending → Book → Type 0
LivesOn h c call e b' = let event : Event = call_event c call e in Lived (event ∷ h) event.after b'

-- whatever way a call took: if it read what stands, and tells the last round wherever it tells type rounds, then keeping this book
-- is one more step of any life
abbrev pub KeepingLaw : Type 0
KeepingLaw =
    (h : List Event) (c : Catalog) (b : Book) (call : Call) (e : Ending) (reads : List ℕ) (n : ℕ) →
    Laws c → Lived h c b →
    ((o : ℕ) → Mem o reads ↔ StandsOnce c b.descriptors (requests c call) o) →
    LastOfCall c b call n →
    keeps_finds e ≡ true → ((k : ℕ) → TellsTypeRounds e k → n ≡ k) → rounds_told e ≤ c.allowance →
    LivesOn h c call e (kept c call reads b (accepts e))

-- and any other refusal that leaves the book as it was is one too
abbrev pub LeavingLaw : Type 0
LeavingLaw =
    (h : List Event) (c : Catalog) (b : Book) (call : Call) (e : Ending) →
    Laws c → Lived h c b → keeps_finds e ≡ false → rounds_told e ≤ c.allowance → LivesOn h c call e b
