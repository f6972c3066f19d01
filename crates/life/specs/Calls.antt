-- The calls that a book meets, and what each requests.
-- Assumes nothing.
use Rattle.std.specs.Prelude.{◌≡◌, ℕ, Bool, true, List, [], ◌∷◌, ◌++◌, map, ℤ, if◌then◌else◌, Some, None, flat_map, Option, option_to_list}
use Rattle.catalog.specs.Catalog.{CatalogRow, Catalog}
use Rattle.catalog.specs.Shape.{Name}
use Rattle.life.specs.Lists.{AnyOf}

-- an entry of Resolve: an OID, a name, or the array of an element's name
pub data Declared : Type 0 where
  of_oid : ℕ → Declared
  of_name : Name → Declared
  array_of : Name → Declared

-- a field of Bind: its type, and the relation and the attribute that it comes from, if any
pub record Field : Type 0 where
  pub oid : ℕ
  pub relation : Option ℕ
  pub attribute : Option ℤ

-- what a Bind is asked: parameter OIDs, fields, whether queries are allowed, whether origins are wanted
pub record Binding : Type 0 where
  pub parameters : List ℕ
  pub fields : List Field
  pub queries : Bool
  pub origins : Bool

pub data Call : Type 0 where
  fill : List ℕ → Call
  resolve : List Declared → Call
  bind : Binding → Call
  describe : ℕ → Call

-- the array that an element's row tells
abbrev pub array_link : Option CatalogRow → Option ℕ
array_link None = None
array_link (Some r) = r.typarray

-- an element's OID, and that of its array
abbrev pub with_array : Catalog → Option ℕ → List ℕ
with_array c None = []
with_array c (Some e) = e ∷ option_to_list (array_link (c.rows e))

-- what an entry of Resolve wants, and all of them
abbrev pub entry_requests : Catalog → Declared → List ℕ
entry_requests c (of_oid o) = []
entry_requests c (of_name n) = option_to_list (c.named n)
entry_requests c (array_of n) = with_array c (c.named n)

abbrev pub all_requests : Catalog → List Declared → List ℕ
all_requests c ds = flat_map (entry_requests c) ds

-- the OIDs whose descriptors a call wants
abbrev pub requests : Catalog → Call → List ℕ
requests c (fill os) = os
requests c (resolve ds) = all_requests c ds
requests c (bind q) = if q.queries then q.parameters ++ map (λ f. f.oid) q.fields else []
requests c (describe o) = []

-- n is the name, or the element's name, of an entry
abbrev pub Names : Declared → Name → Type 0
Names (of_oid o) n = ⊥
Names (of_name m) n = m ≡ n
Names (array_of m) n = m ≡ n

-- an entry is an array of e
abbrev pub IsArrayOf : Catalog → Declared → ℕ → Type 0
IsArrayOf c (of_oid o) e = ⊥
IsArrayOf c (of_name m) e = ⊥
IsArrayOf c (array_of m) e = c.named m ≡ Some e

-- a field comes from attribute a of relation r
abbrev pub ComesFrom : Field → ℕ → ℤ → Type 0
ComesFrom f r a = (f.relation ≡ Some r) × (f.attribute ≡ Some a)

-- the call declares this name, and an array of this element; and it may ask for this column
abbrev pub Declares : Call → Name → Type 0
Declares (fill os) n = ⊥
Declares (resolve ds) n = AnyOf (λ x. Names x n) ds
Declares (bind q) n = ⊥
Declares (describe o) n = ⊥

abbrev pub DeclaresArray : Catalog → Call → ℕ → Type 0
DeclaresArray c (fill os) e = ⊥
DeclaresArray c (resolve ds) e = AnyOf (λ x. IsArrayOf c x e) ds
DeclaresArray c (bind q) e = ⊥
DeclaresArray c (describe o) e = ⊥

abbrev pub AsksColumn : Call → ℕ → ℤ → Type 0
AsksColumn (fill os) r a = ⊥
AsksColumn (resolve ds) r a = ⊥
AsksColumn (bind q) r a = (q.queries ≡ true) × (q.origins ≡ true) × AnyOf (λ f. ComesFrom f r a) q.fields
AsksColumn (describe o) r a = ⊥
