-- A whole Resolve, computed: its rounds, the passes, refusals 8 to 10, and the OIDs written.
-- Assumes nothing.
use Rattle.std.specs.Prelude.{◌≡◌, ℕ, Bool, true, not, ◌||◌, ◌↔◌, List, [], ◌∷◌, is_some, if◌then◌else◌, Some, None, flat_map, Option, option_to_list, option_and_then}
use Rattle.std.specs.List.{list_any}
use Rattle.std.specs.Option.{option_or}
use Rattle.catalog.specs.Catalog.{Catalog, Laws}
use Rattle.unfolding.specs.Lists.{Mem}
use Rattle.life.specs.Calls.{Declared, of_oid, of_name, array_of, resolve, array_link, entry_requests}
use Rattle.life.specs.Keep.{if_settled, kept_names, LivesOn}
use Rattle.life.specs.Life.{Lived}
use Rattle.life.specs.Lists.{AnyOf, is_in, first_place}
use Rattle.life.specs.Outcomes.{Outcome, if_fits, concluded, closing, unresolved, Unresolved, Fits, RefusedAtFirst}
use Rattle.life.specs.RoundOne.{asked_in_full, for_arrays_alone, lead, link, entry_asks, round_one, resolve_walk}
use Rattle.life.specs.Rounds.{Descriptors, Known}
use Rattle.life.specs.Settle.{settled}
use Rattle.life.specs.Steps.{Book, Ending, accepts, Event}
use Rattle.life.specs.Walk.{ended}

module _ (c : Catalog) (b : Book) where
  -- the array of an element that may be there
  abbrev pub link_from : Option ℕ → Option ℕ
  link_from e = option_and_then (link c b) e

  -- the OID of an entry, over the descriptors that the step leaves
  abbrev pub entry_oid : Descriptors → Declared → Option ℕ
  entry_oid d (of_oid o) = Some o
  entry_oid d (of_name n) = if_settled d (lead c b n)
  entry_oid d (array_of n) = if_settled d (link_from (lead c b n))

  -- those of the entries that have one
  abbrev pub oids : Descriptors → List Declared → List ℕ
  oids d ds = flat_map (λ x. option_to_list (entry_oid d x)) ds

  -- the entry has a requested OID that has a row and no unfolding
  abbrev pub offends : Descriptors → Declared → Bool
  offends d x = list_any (unresolved c d) (asked_in_full (entry_asks c b x))

  -- the entry has no OID
  abbrev pub lacks : Descriptors → Declared → Bool
  lacks d x = not (is_some (entry_oid d x))

  -- the book once these rows are read, in full and for their typarray alone
  abbrev pub resolved_book : List Declared → List ℕ → List ℕ → Book
  resolved_book ds reads apart = record {
    descriptors = settled c b.descriptors reads;
    names = kept_names c (resolve ds) (settled c b.descriptors reads) b.names;
    arrays = λ e. option_or (b.arrays e) (if is_in e reads || is_in e apart then array_link (c.rows e) else None);
    columns = b.columns;
  }

module _ (full : Book → Option ℕ) (c : Catalog) (b : Book) (ds : List Declared) where
  abbrev pub resolve_ending : ℕ → List ℕ → Ending
  resolve_ending n reads =
      let after : Descriptors = settled c b.descriptors reads in
      closing n (first_place (offends c b after) 0 ds) (first_place (lacks c b after) 0 ds)

  abbrev pub resolve_left : List ℕ → Book
  resolve_left reads = resolved_book c b ds reads (for_arrays_alone (round_one c b ds))

  abbrev pub resolve_settled : ℕ → List ℕ → Outcome
  resolve_settled n reads =
      if_fits (full (resolve_left reads)) (record { ending = resolve_ending n reads; left = resolve_left reads }) b n

  abbrev pub resolve_outcome : Outcome
  resolve_outcome = concluded b resolve_settled (resolve_walk c b ds)

  -- what is written to the answer buffer: nothing unless the step is accepted
  abbrev pub resolve_writes : List ℕ
  resolve_writes = if accepts resolve_outcome.ending then oids c b resolve_outcome.left.descriptors ds else []

-- a Resolve, so computed, is one more step of any life
abbrev pub ResolveLaw : Type 0
ResolveLaw =
    (full : Book → Option ℕ) (h : List Event) (c : Catalog) (b : Book) (ds : List Declared) → Laws c → Lived h c b →
    LivesOn h c (resolve ds) (resolve_outcome full c b ds).ending (resolve_outcome full c b ds).left

module _ (c : Catalog) (after : Descriptors) where
  -- o is the OID of an entry: of an OID entry the OID itself, of a name the OID that it leads to, of an array the typarray of the
  -- element's row, if that is known once the step is done
  abbrev pub HasOid : Declared → ℕ → Type 0
  HasOid (of_oid p) o = p ≡ o
  HasOid (of_name n) o = (c.named n ≡ Some o) × Known after o
  HasOid (array_of n) o = ((e : ℕ) × (c.named n ≡ Some e) × (array_link (c.rows e) ≡ Some o)) × Known after o

  abbrev pub HasNoOid : Declared → Type 0
  HasNoOid x = (o : ℕ) → HasOid x o → ⊥

  -- one OID for each entry, in order
  abbrev pub Resolves : List Declared → List ℕ → Type 0
  Resolves [] [] = Unit {0}
  Resolves [] (o ∷ os) = ⊥
  Resolves (x ∷ xs) [] = ⊥
  Resolves (x ∷ xs) (o ∷ os) = HasOid x o × Resolves xs os

-- the OID computed for an entry is the entry's OID, and there is none only where the entry has none
abbrev pub EntryLaw : Type 0
EntryLaw =
    (h : List Event) (c : Catalog) (b : Book) (after : Descriptors) → Lived h c b →
    (x : Declared) (o : ℕ) → (entry_oid c b after x ≡ Some o) ↔ HasOid c after x o

-- an accepted Resolve writes one OID for each entry, and it is the entry's
abbrev pub WrittenLaw : Type 0
WrittenLaw =
    (full : Book → Option ℕ) (h : List Event) (c : Catalog) (b : Book) (ds : List Declared) → Lived h c b →
    accepts (resolve_outcome full c b ds).ending ≡ true →
    Resolves c (resolve_outcome full c b ds).left.descriptors ds (resolve_writes full c b ds)

-- an entry of Resolve with a requested OID that has a row and no unfolding
abbrev pub EntryUnresolved : Catalog → Declared → Type 0
EntryUnresolved c x = AnyOf (Unresolved c) (entry_requests c x)

-- once its rounds have ended and what it keeps fits, it is refused by 9 exactly where an entry has a requested OID that has a row
-- and no unfolding
abbrev pub ResolveNineLaw : Type 0
ResolveNineLaw =
    (full : Book → Option ℕ) (h : List Event) (c : Catalog) (b : Book) (ds : List Declared) → Lived h c b →
    (n : ℕ) (reads : List ℕ) → resolve_walk c b ds ≡ ended n reads → Fits (resolve_outcome full c b ds).ending n →
    RefusedAtFirst (resolve_outcome full c b ds).ending 9 n (EntryUnresolved c) ds

-- and, where that is not so, by 10 exactly where an entry has no OID
abbrev pub TenLaw : Type 0
TenLaw =
    (full : Book → Option ℕ) (h : List Event) (c : Catalog) (b : Book) (ds : List Declared) → Lived h c b →
    (n : ℕ) (reads : List ℕ) → resolve_walk c b ds ≡ ended n reads → Fits (resolve_outcome full c b ds).ending n →
    ((x : Declared) → Mem x ds → EntryUnresolved c x → ⊥) →
    RefusedAtFirst (resolve_outcome full c b ds).ending 10 n (HasNoOid c (resolve_outcome full c b ds).left.descriptors) ds
