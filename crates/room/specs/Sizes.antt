-- How much the seven tables hold and may hold, and the first one without room for what is added.
-- Assumes nothing.
use Rattle.std.specs.Prelude.{◌≡◌, ℕ, zero, suc, ◌+◌, ◌<◌, ◌≤◌, min, Bool, ◌↔◌, List, [], ◌∷◌, length, if◌then◌else◌, nat_lt, slice_index, Some, None, Option}
use Rattle.std.specs.List.{sum_by}
use Rattle.catalog.specs.Catalog.{CatalogColumn}
use Rattle.catalog.specs.Shape.{Name, Head, simple, pseudo, domain, array, range, enumeration, composite}
use Rattle.keys.specs.Senses.{Pair}
use Rattle.unfolding.specs.Unfolding.{Tree, built, node}
use Rattle.room.specs.Tables.{Tables, extended}

pub record Sizes : Type 0 where
  pub descriptors : ℕ
  pub parts : ℕ
  pub names : ℕ
  pub arrays : ℕ
  pub text : ℕ
  pub columns : ℕ
  pub relations : ℕ

-- that of the table at this position
abbrev pub at : Sizes → ℕ → ℕ
at s i = slice_index (s.descriptors ∷ s.parts ∷ s.names ∷ s.arrays ∷ s.text ∷ s.columns ∷ s.relations ∷ []) i

-- of a descriptor the names of its parts, and its own name
abbrev pub part_names : Head → List Name
part_names simple = []
part_names pseudo = []
part_names domain = []
part_names array = []
part_names range = []
part_names (enumeration labels) = labels
part_names (composite names) = names

abbrev pub parts_of : Tree → List Name
parts_of (built o) = []
parts_of (node o n h ts) = part_names h

abbrev pub name_of : Tree → Name
name_of (built o) = []
name_of (node o n h ts) = n

-- how many bytes
abbrev pub bytes : List Name → ℕ
bytes ns = sum_by length ns

abbrev pub tree_bytes : Tree → ℕ
tree_bytes t = length (name_of t) + bytes (parts_of t)

-- equal texts count each time they are held
abbrev pub text_bytes : Tables → ℕ
text_bytes t =
    sum_by (λ (x : ℕ × Tree). tree_bytes x.1) t.descriptors +
    sum_by (λ (x : Name × ℕ). length x.0) t.names +
    sum_by (λ (x : Pair × CatalogColumn). length x.1.column) t.columns +
    sum_by (λ (x : ℕ × Name). length x.1) t.relations

abbrev pub sizes_of : Tables → Sizes
sizes_of t = record {
  descriptors = length t.descriptors;
  parts = sum_by (λ (x : ℕ × Tree). length (parts_of x.1)) t.descriptors;
  names = length t.names;
  arrays = length t.arrays;
  text = text_bytes t;
  columns = length t.columns;
  relations = length t.relations;
}

abbrev pub limits : Sizes
limits = record { descriptors = 512; parts = 4096; names = 1024; arrays = 1024; text = 65536; columns = 1024; relations = 128 }

-- what the host's slots hold, cut to the limits
abbrev pub capacities : Sizes → Sizes
capacities slots = record {
  descriptors = min slots.descriptors limits.descriptors;
  parts = min slots.parts limits.parts;
  names = min slots.names limits.names;
  arrays = min slots.arrays limits.arrays;
  text = min slots.text limits.text;
  columns = min slots.columns limits.columns;
  relations = min slots.relations limits.relations;
}

-- the first of the n numbers from i on that passes the test
abbrev pub first_from : (ℕ → Bool) → ℕ → ℕ → Option ℕ
first_from test i zero = None
first_from test i (suc n) = if test i then Some i else first_from test (suc i) n

module _ (capacity taken added : Sizes) where
  -- the position of the first table without room for what is added to it; one to which nothing is added has room though it is full
  abbrev pub first_full : Option ℕ
  first_full = first_from (λ i. nat_lt (at capacity i) (at taken i + at added i)) 0 7

  -- table i has room, and lacks it
  abbrev pub HasRoom : ℕ → Type 0
  HasRoom i = at taken i + at added i ≤ at capacity i

  abbrev pub LacksRoom : ℕ → Type 0
  LacksRoom i = at capacity i < at taken i + at added i

  -- of the seven tables, i lacks room and each earlier one has it
  abbrev pub FirstFull : ℕ → Type 0
  FirstFull i = (i < 7) × LacksRoom i × ((j : ℕ) → j < i → HasRoom j)

  abbrev pub AllFits : Type 0
  AllFits = (i : ℕ) → i < 7 → HasRoom i

-- the position told is that of the first table without room, and none is told exactly where all fits
abbrev pub FirstFullLaw : Type 0
FirstFullLaw =
    (capacity taken added : Sizes) →
    ((i : ℕ) → (first_full capacity taken added ≡ Some i) ↔ FirstFull capacity taken added i) ×
    ((first_full capacity taken added ≡ None) ↔ AllFits capacity taken added)

-- what is held and what is added, together
abbrev pub SumLaw : Type 0
SumLaw = (t more : Tables) (i : ℕ) → i < 7 → at (sizes_of (extended t more)) i ≡ at (sizes_of t) i + at (sizes_of more) i

-- of each table the slots, or the limit if that is less
abbrev pub CapacityLaw : Type 0
CapacityLaw = (slots : Sizes) (i : ℕ) → i < 7 → at (capacities slots) i ≡ min (at slots i) (at limits i)
