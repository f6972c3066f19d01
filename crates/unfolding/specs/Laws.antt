-- What holds of unfoldings.
-- Assumes nothing.
use Rattle.std.specs.Prelude.{◌≡◌, ℕ, true, false, ◌⊎◌, ◌↔◌, List, Some}
use Rattle.catalog.specs.Catalog.{Catalog, Grows}
use Rattle.catalog.specs.Shape.{Shape, formed}
use Rattle.unfolding.specs.Lists.{Mem}
use Rattle.unfolding.specs.Unfolding.{Tree, Link, Unfolds, HasUnfolding, Leads, built_in}

-- an OID has one unfolding at most
abbrev pub Unique : Type 0
Unique = (c : Catalog) (o : ℕ) (t u : Tree) → Unfolds c o t → Unfolds c o u → t ≡ u

-- it keeps its unfolding as the catalog grows
abbrev pub Kept : Type 0
Kept = (c d : Catalog) → Grows c d → (o : ℕ) (t : Tree) → Unfolds c o t → Unfolds d o t

-- links lead from p back to p
abbrev pub GoesRound : Catalog → ℕ → Type 0
GoesRound c p = (q : ℕ) × (built_in p ≡ false) × Link c p q × Leads c q p

-- where o leads to finitely many OIDs, it has an unfolding exactly if each of them is built in or has a well-formed row, and
-- none goes round
abbrev pub Exists : Type 0
Exists =
    (c : Catalog) (o : ℕ) (os : List ℕ) → ((p : ℕ) → Leads c o p → Mem p os) →
    HasUnfolding c o ↔
    (((p : ℕ) → Leads c o p → (built_in p ≡ true) ⊎ ((s : Shape) × (formed c p ≡ Some s))) × ((p : ℕ) → Leads c o p → GoesRound c p → ⊥))
