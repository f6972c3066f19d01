-- What a step adds to each table, computed from what it read, and that the tables with it are the book that the step keeps.
-- Assumes nothing.
use Rattle.std.specs.Prelude.{◌≡◌, ℕ, Bool, ◌↔◌, List, [], ◌∷◌, ◌++◌, map, ℤ, is_some, nat_eq, Some, bytes_eq, flat_map, Option, option_map}
use Rattle.std.specs.List.{filter_map}
use Rattle.catalog.specs.Catalog.{CatalogColumn, Catalog, Laws}
use Rattle.catalog.specs.Shape.{Name}
use Rattle.keys.specs.Senses.{Pair, same_pair}
use Rattle.unfolding.specs.Lists.{Mem, Distinct}
use Rattle.unfolding.specs.Unfolding.{Tree}
use Rattle.life.specs.Bind.{types_book, columns_book}
use Rattle.life.specs.Calls.{Declared, of_oid, of_name, array_of, Binding, Call, fill, resolve, bind, describe, array_link, requests}
use Rattle.life.specs.Keep.{if_settled, kept}
use Rattle.life.specs.Life.{Lived}
use Rattle.life.specs.Lists.{fresh_by}
use Rattle.life.specs.Resolve.{resolved_book}
use Rattle.life.specs.Rounds.{Descriptors, StandsOnce}
use Rattle.life.specs.Settle.{settled}
use Rattle.life.specs.Steps.{Book, Event}
use Rattle.room.specs.Sizes.{name_of}
use Rattle.room.specs.Tables.{Tables, look_up, contents, extended}

-- those of the keys that have a value, with it, in order
abbrev pub with_values : {K V : Type 0} → (K → Option V) → List K → List (K × V)
with_values value ks = filter_map (λ k. option_map (λ v. (k, v)) (value k)) ks

-- those entries whose key is neither held nor that of an earlier one, in order
abbrev pub new_by : {K V : Type 0} → (K → K → Bool) → (held found : List (K × V)) → List (K × V)
new_by same held found = fresh_by (λ x y. same x.0 y.0) (λ x. is_some (look_up same held x.0)) [] found

-- the name, or the element's name, of an entry, and all that a call declares
abbrev pub entry_names : Declared → List Name
entry_names (of_oid o) = []
entry_names (of_name n) = n ∷ []
entry_names (array_of n) = n ∷ []

abbrev pub declared_names : Call → List Name
declared_names (fill os) = []
declared_names (resolve ds) = flat_map entry_names ds
declared_names (bind q) = []
declared_names (describe o) = []

-- the tables met, and the rows read: in full and for their typarray alone
module _ (c : Catalog) (t : Tables) (call : Call) (reads apart : List ℕ) where
  abbrev pub after : Descriptors
  after = settled c (contents t).descriptors reads

  -- what was read and is newly settled
  abbrev pub new_descriptors : List (ℕ × Tree)
  new_descriptors = new_by nat_eq t.descriptors (with_values after reads)

  -- the pretty names of these, and then those declared, that lead to what is known then
  abbrev pub new_names : List (Name × ℕ)
  new_names =
      new_by bytes_eq t.names
      (with_values (λ n. if_settled after (c.named n)) (map (λ (x : ℕ × Tree). name_of x.1) new_descriptors ++ declared_names call))

  abbrev pub types_added : Tables
  types_added = record {
    descriptors = new_descriptors;
    names = new_names;
    arrays = new_by nat_eq t.arrays (with_values (λ e. array_link (c.rows e)) (reads ++ apart));
    columns = [];
    relations = [];
  }

-- the tables met, and the columns asked for
module _ (c : Catalog) (t : Tables) (asked : List Pair) where
  abbrev pub new_columns : List (Pair × CatalogColumn)
  new_columns = new_by same_pair t.columns (with_values (λ (p : Pair). c.columns p.0 p.1) asked)

  -- these, and their relations with their tables' names
  abbrev pub columns_added : Tables
  columns_added = record {
    descriptors = [];
    names = [];
    arrays = [];
    columns = new_columns;
    relations = new_by nat_eq t.relations (map (λ (x : Pair × CatalogColumn). (x.0.0, x.1.table)) new_columns);
  }

-- the tables once a call's types, and then its columns, are kept
abbrev pub with_types : Catalog → Tables → Call → (reads apart : List ℕ) → Tables
with_types c t call reads apart = extended t (types_added c t call reads apart)

abbrev pub with_columns : Catalog → Tables → List Pair → Tables
with_columns c t asked = extended t (columns_added c t asked)

-- each key is held once
abbrev pub Once : {K V : Type 0} → List (K × V) → Type 0
Once xs = Distinct (map (λ x. x.0) xs)

-- and a relation exactly if one of its columns is, with that column's table
pub record Held (t : Tables) : Type 0 where
  pub descriptors : Once t.descriptors
  pub names : Once t.names
  pub arrays : Once t.arrays
  pub columns : Once t.columns
  pub relations : Once t.relations
  pub related :
      (r : ℕ) (n : Name) →
      (look_up nat_eq t.relations r ≡ Some n) ↔ ((a : ℤ) × (k : CatalogColumn) × (look_up same_pair t.columns (r, a) ≡ Some k) × (k.table ≡ n))

-- in tables that hold each key once, an entry is there exactly if their book answers its key with its value, and a relation exactly if
-- it answers one of its columns, so to count entries is to count what the book holds
abbrev pub EntryLaw : Type 0
EntryLaw =
    (t : Tables) → Held t →
    let b : Book = contents t in
    ((o : ℕ) (u : Tree) → Mem (o, u) t.descriptors ↔ (b.descriptors o ≡ Some u)) ×
    ((n : Name) (o : ℕ) → Mem (n, o) t.names ↔ (b.names n ≡ Some o)) ×
    ((e a : ℕ) → Mem (e, a) t.arrays ↔ (b.arrays e ≡ Some a)) ×
    ((r : ℕ) (a : ℤ) (k : CatalogColumn) → Mem ((r, a), k) t.columns ↔ (b.columns r a ≡ Some k)) ×
    ((r : ℕ) (n : Name) → Mem (r, n) t.relations ↔ ((a : ℤ) × (k : CatalogColumn) × (b.columns r a ≡ Some k) × (k.table ≡ n)))

-- these rows are those that stand in the call on this book
abbrev pub ReadWhatStands : Catalog → Tables → Call → List ℕ → Type 0
ReadWhatStands c t call reads = (o : ℕ) → Mem o reads ↔ StandsOnce c (contents t).descriptors (requests c call) o

-- the tables with what is added are the book that a step keeps, whose types were read, and are held as before
abbrev pub AddedLaw : Type 0
AddedLaw =
    (h : List Event) (c : Catalog) (t : Tables) → Laws c → Lived h c (contents t) → (reads : List ℕ) →
    ((os : List ℕ) (done : Bool) → ReadWhatStands c t (fill os) reads →
    contents (with_types c t (fill os) reads []) ≡ kept c (fill os) reads (contents t) done) ×
    ((ds : List Declared) (apart : List ℕ) → ReadWhatStands c t (resolve ds) reads →
    contents (with_types c t (resolve ds) reads apart) ≡ resolved_book c (contents t) ds reads apart) ×
    ((full full_columns : Book → Option ℕ) (q : Binding) → ReadWhatStands c t (bind q) reads →
    (contents (with_types c t (bind q) reads []) ≡ types_book full full_columns c (contents t) q reads) ×
    ((asked : List Pair) →
    contents (with_columns c (with_types c t (bind q) reads []) asked) ≡ columns_book full full_columns c (contents t) q reads asked))

abbrev pub HeldLaw : Type 0
HeldLaw =
    (h : List Event) (c : Catalog) (t : Tables) → Laws c → Lived h c (contents t) → Held t →
    ((call : Call) (reads apart : List ℕ) → Held (with_types c t call reads apart)) ×
    ((call : Call) (reads apart : List ℕ) (asked : List Pair) → Held (with_columns c (with_types c t call reads apart) asked))
