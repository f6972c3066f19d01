-- What stands in which round of a step.
-- Assumes nothing.
use Rattle.std.specs.Prelude.{◌≡◌, ℕ, zero, suc, ◌≤◌, true, false, ◌⊎◌, List, if◌then◌else◌, Some, None, Option}
use Rattle.catalog.specs.Catalog.{Catalog}
use Rattle.unfolding.specs.Lists.{Mem}
use Rattle.unfolding.specs.Unfolding.{Tree, built, Link, built_in}

-- what a book describes
abbrev pub Descriptors : Type 0
Descriptors = ℕ → Option Tree

abbrev pub Described : Descriptors → ℕ → Type 0
Described b o = (t : Tree) × (b o ≡ Some t)

-- built in or described, and neither
abbrev pub Known : Descriptors → ℕ → Type 0
Known b o = (built_in o ≡ true) ⊎ Described b o

abbrev pub Unknown : Descriptors → ℕ → Type 0
Unknown b o = (built_in o ≡ false) × (b o ≡ None)

-- what is found of an OID: itself where it is built in, or its descriptor
abbrev pub found : Descriptors → ℕ → Option Tree
found b o = if built_in o then Some (built o) else b o

-- in a step over this catalog that meets these descriptors and has the requests rs
module _ (c : Catalog) (b : Descriptors) (rs : List ℕ) where
  abbrev mutual
    -- o stands in round k + 1
    pub Layer : ℕ → ℕ → Type 0
    Layer zero o = Mem o rs × Unknown b o
    Layer (suc k) o = ((p : ℕ) × Layer k p × Link c p o) × Unknown b o × (Before k o → ⊥) × (Layer k o → ⊥)

    -- o stands in a round before round k + 1
    pub Before : ℕ → ℕ → Type 0
    Before zero o = ⊥
    Before (suc k) o = Before k o ⊎ Layer k o

  abbrev pub Stands : ℕ → ℕ → Type 0
  Stands zero o = ⊥
  Stands (suc k) o = Layer k o

  -- in some round
  abbrev pub StandsOnce : ℕ → Type 0
  StandsOnce o = (k : ℕ) × Stands k o

  -- something stands in round k; `others` says whether anything but OIDs, as a name, stands in round 1
  abbrev pub Anything : Type 0 → ℕ → Type 0
  Anything others k = ((k ≡ 1) × others) ⊎ ((o : ℕ) × Stands k o)

  -- n is the last round in which anything stands, or 0
  abbrev pub LastRound : Type 0 → ℕ → Type 0
  LastRound others n = ((k : ℕ) → Anything others k → k ≤ n) × ((n ≡ 0) ⊎ Anything others n)
