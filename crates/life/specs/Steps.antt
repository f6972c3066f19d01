-- A book, how a step ends, and what a step does to the book and the catalog.
-- Assumes nothing.
use Rattle.std.specs.Prelude.{◌≡◌, ℕ, ◌+◌, Bool, true, false, ◌&&◌, ◌||◌, ◌⊎◌, ◌↔◌, List, ℤ, ◌==◌, Some, None, Option}
use Rattle.catalog.specs.Catalog.{CatalogColumn, Catalog, Laws, Grows}
use Rattle.catalog.specs.Shape.{Name, Head}
use Rattle.unfolding.specs.Lists.{Mem}
use Rattle.unfolding.specs.Unfolding.{Tree, node, Trees, built_in, Unfolds, Leads}
use Rattle.life.specs.Calls.{Declared, of_oid, of_name, array_of, Call, fill, resolve, bind, describe, array_link, requests, Declares, DeclaresArray, AsksColumn}
use Rattle.life.specs.Lists.{AnyOf}
use Rattle.life.specs.Rounds.{Descriptors, Known, found, StandsOnce, LastRound}

pub record Book : Type 0 where
  pub descriptors : Descriptors
  pub names : Name → Option ℕ
  pub arrays : ℕ → Option ℕ
  pub columns : ℕ → ℤ → Option CatalogColumn

abbrev pub empty_book : Book
empty_book = record { descriptors = λ _. None; names = λ _. None; arrays = λ _. None; columns = λ _ _. None }

-- what Describe answers
abbrev pub answer : Book → ℕ → Option Tree
answer b o = found b.descriptors o

-- o is described, and n is its pretty name
abbrev pub PrettyName : Book → Name → ℕ → Type 0
PrettyName b n o = (h : Head) × (ts : Trees) × (b.descriptors o ≡ Some (node o n h ts))

-- how a step ended: its type rounds and its column rounds; or a fault's number, its place, whether it is of layer columns, and
-- the rounds opened
pub data Ending : Type 0 where
  accepted : ℕ → ℕ → Ending
  refused : ℕ → ℕ → Bool → ℕ → Ending

-- the rounds told, and whether the step was accepted
abbrev pub rounds_told : Ending → ℕ
rounds_told (accepted types columns) = types + columns
rounds_told (refused number place columns rounds) = rounds

abbrev pub accepts : Ending → Bool
accepts (accepted types columns) = true
accepts (refused number place columns rounds) = false

-- accepted, or refused by 9, by 10, or by 5 or 8 of layer columns
abbrev pub keeps_finds : Ending → Bool
keeps_finds (accepted types columns) = true
keeps_finds (refused number place columns rounds) = number == 9 || (number == 10 || (columns && (number == 5 || number == 8)))

-- k type rounds are told: by an accepted step, or by refusal 9 or 10
abbrev pub TellsTypeRounds : Ending → ℕ → Type 0
TellsTypeRounds (accepted types columns) k = types ≡ k
TellsTypeRounds (refused number place columns rounds) k = ((number ≡ 9) ⊎ (number ≡ 10)) × (rounds ≡ k)

-- one step: the catalogs before and after it, the call and the ending
pub record Event : Type 0 where
  pub before : Catalog
  pub after : Catalog
  pub call : Call
  pub ending : Ending

-- the requests of a step
abbrev pub wanted : Event → List ℕ
wanted e = requests e.before e.call

-- a name that the book does not answer stands in round 1; so does the row of a known element whose array the book does not hold
abbrev pub NameStands : Catalog → Book → Declared → Type 0
NameStands c b (of_oid o) = ⊥
NameStands c b (of_name n) = b.names n ≡ None
NameStands c b (array_of n) =
    (b.names n ≡ None) ⊎ ((e : ℕ) × ((b.names n ≡ Some e) ⊎ (c.named n ≡ Some e)) × (b.arrays e ≡ None))

abbrev pub NamesStand : Catalog → Book → Call → Type 0
NamesStand c b (fill os) = ⊥
NamesStand c b (resolve ds) = AnyOf (NameStands c b) ds
NamesStand c b (bind q) = ⊥
NamesStand c b (describe o) = ⊥

-- n is the last round in which anything stands of a call on a book
abbrev pub LastOfCall : Catalog → Book → Call → ℕ → Type 0
LastOfCall c b call = LastRound c b.descriptors (requests c call) (NamesStand c b call)

-- a request leads to o
abbrev pub LedTo : Catalog → List ℕ → ℕ → Type 0
LedTo c rs o = (r : ℕ) × Mem r rs × Leads c r o

-- every OID that stands in some round and has an unfolding becomes described by it, and nothing else changes
abbrev pub KeepsDescriptors : Catalog → List ℕ → Descriptors → Descriptors → Type 0
KeepsDescriptors c rs b b' = (o : ℕ) (t : Tree) → (b' o ≡ Some t) ↔ ((b o ≡ Some t) ⊎ (StandsOnce c b rs o × Unfolds c o t))

-- the names that a step keeps: those that it met, the pretty names of what is described, and those declared that lead to what is known
abbrev pub KeepsNames : Catalog → Call → Book → Book → Type 0
KeepsNames c call b b' =
    (n : Name) (o : ℕ) →
    (b'.names n ≡ Some o) ↔
    ((b.names n ≡ Some o) ⊎ (PrettyName b' n o ⊎ (Declares call n × (c.named n ≡ Some o) × Known b'.descriptors o)))

-- the arrays that a step keeps: those that it met, and that of each row whose array is declared, or to which its requests led, not
-- built in
abbrev pub KeepsArrays : Catalog → Call → List ℕ → Book → Book → Type 0
KeepsArrays c call rs b b' =
    (e a : ℕ) →
    (b'.arrays e ≡ Some a) ↔
    ((b.arrays e ≡ Some a) ⊎ ((array_link (c.rows e) ≡ Some a) × (DeclaresArray c call e ⊎ ((built_in e ≡ false) × LedTo c rs e))))

-- the columns that a step keeps: those that it met, and, of an accepted step, those that it asks for and the catalog has
abbrev pub KeepsColumns : Catalog → Call → Bool → Book → Book → Type 0
KeepsColumns c call done b b' =
    (r : ℕ) (a : ℤ) (k : CatalogColumn) →
    (b'.columns r a ≡ Some k) ↔ ((b.columns r a ≡ Some k) ⊎ ((done ≡ true) × AsksColumn call r a × (c.columns r a ≡ Some k)))

-- what a step does to the book b, which it leaves as b', and to the catalog
pub record Step (e : Event) (b b' : Book) : Type 0 where
  pub laws : Laws e.before
  pub stays : Grows e.before e.after
  pub adds_nothing : Grows e.after e.before
  pub lowers : e.before.allowance ≡ e.after.allowance + rounds_told e.ending
  pub descriptors : keeps_finds e.ending ≡ true → KeepsDescriptors e.before (wanted e) b.descriptors b'.descriptors
  pub names : keeps_finds e.ending ≡ true → KeepsNames e.before e.call b b'
  pub arrays : keeps_finds e.ending ≡ true → KeepsArrays e.before e.call (wanted e) b b'
  pub columns : KeepsColumns e.before e.call (accepts e.ending) b b'
  pub leaves : keeps_finds e.ending ≡ false → b' ≡ b
  pub counts : (k : ℕ) → TellsTypeRounds e.ending k → LastOfCall e.before b e.call k
