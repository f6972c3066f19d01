-- Descriptors as trees, which tree is the unfolding of an OID, and what a request leads to.
-- Assumes nothing.
use Rattle.std.specs.Prelude.{◌≡◌, ℕ, Bool, true, false, List, [], ◌∷◌, is_some, Some}
use Rattle.unfolding.specs.Lists.{Mem}
use Rattle.catalog.specs.Catalog.{Catalog}
use Rattle.catalog.specs.Shape.{Name, Head, Shape, formed}
use Rattle.type_info.specs.Table.{by_oid}

-- a built-in type, or OID, name and kind with a tree for each link
mutual
  pub data Tree : Type 0 where
    built : ℕ → Tree
    node : ℕ → Name → Head → Trees → Tree

  pub data Trees : Type 0 where
    none : Trees
    more : Tree → Trees → Trees

-- p is a link of o's well-formed row
abbrev pub Link : Catalog → ℕ → ℕ → Type 0
Link c o p = (s : Shape) × (formed c o ≡ Some s) × Mem p s.links

abbrev pub built_in : ℕ → Bool
built_in o = is_some (by_oid o)

module _ (c : Catalog) where
  abbrev mutual
    -- t is the unfolding of o
    pub Unfolds : ℕ → Tree → Type 0
    Unfolds o (built p) = (o ≡ p) × (built_in o ≡ true)
    Unfolds o (node p name head ts) =
        (s : Shape) × (formed c o ≡ Some s) × (built_in o ≡ false) × (o ≡ p) × (s.name ≡ name) × (s.head ≡ head) × UnfoldAll s.links ts

    -- ts are the unfoldings of os, one for each, in order
    pub UnfoldAll : List ℕ → Trees → Type 0
    UnfoldAll [] none = Unit {0}
    UnfoldAll [] (more t ts) = ⊥
    UnfoldAll (o ∷ os) none = ⊥
    UnfoldAll (o ∷ os) (more t ts) = Unfolds o t × UnfoldAll os ts

  abbrev pub HasUnfolding : ℕ → Type 0
  HasUnfolding o = (t : Tree) × Unfolds o t

  -- the request r leads to o
  pub data Leads (r : ℕ) : ℕ → Type 0 where
    itself : {o : ℕ} → r ≡ o → Leads r o
    onward : {o : ℕ} (p : ℕ) → Leads r p → built_in p ≡ false → Link c p o → Leads r o
