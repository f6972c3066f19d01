-- Settling the rows read: pass after pass, a row whose links are all settled is settled itself.
-- Assumes nothing.
use Rattle.std.specs.Prelude.{◌≡◌, ℕ, zero, suc, true, false, List, [], ◌∷◌, length, is_some, nat_eq, Some, None, Option, option_map, option_and_then}
use Rattle.std.specs.Map.{update}
use Rattle.catalog.specs.Catalog.{Catalog}
use Rattle.catalog.specs.Shape.{Shape, formed}
use Rattle.unfolding.specs.Lists.{Mem}
use Rattle.unfolding.specs.Unfolding.{Tree, node, Trees, none, more}
use Rattle.life.specs.Rounds.{Descriptors, found}

-- o is described by t, or by what is made of it
abbrev pub put : Descriptors → ℕ → Tree → Descriptors
put b o t = update nat_eq b o (Some t)

abbrev pub put_if : Descriptors → ℕ → Option Tree → Descriptors
put_if b o None = b
put_if b o (Some t) = put b o t

abbrev pub joined : Option Tree → Option Trees → Option Trees
joined None us = None
joined (Some t) None = None
joined (Some t) (Some ts) = Some (more t ts)

-- what is found of each, if all is found
abbrev pub gather : Descriptors → List ℕ → Option Trees
gather b [] = Some none
gather b (o ∷ os) = joined (found b o) (gather b os)

-- the descriptor of this shape, if all its links are found
abbrev pub made_of : Descriptors → ℕ → Shape → Option Tree
made_of b o s = option_map (node o s.name s.head) (gather b s.links)

-- the descriptor of o, if its row is well-formed and all its links are settled
abbrev pub made : Catalog → Descriptors → ℕ → Option Tree
made c b o = option_and_then (made_of b o) (formed c o)

-- one row, one pass over the rows, and so many passes
abbrev pub settle_one : Catalog → Descriptors → ℕ → Descriptors
settle_one c b o = elim (is_some (b o)) [ true ↦ b | false ↦ put_if b o (made c b o) ]

abbrev pub pass : Catalog → Descriptors → List ℕ → Descriptors
pass c b [] = b
pass c b (o ∷ os) = pass c (settle_one c b o) os

abbrev pub passes : Catalog → List ℕ → ℕ → Descriptors → Descriptors
passes c reads zero b = b
passes c reads (suc n) b = passes c reads n (pass c b reads)

-- as many passes as rows
abbrev pub settled : Catalog → Descriptors → List ℕ → Descriptors
settled c b reads = passes c reads (length reads) b

-- nothing is left to settle
abbrev pub Still : Catalog → Descriptors → List ℕ → Type 0
Still c b os = (o : ℕ) → Mem o os → b o ≡ None → made c b o ≡ None

-- as many passes as rows leave nothing to settle, and once a pass changes nothing no later one does: there a loop may stop
abbrev pub PassesLaw : Type 0
PassesLaw =
    (c : Catalog) (b : Descriptors) (reads : List ℕ) →
    Still c (settled c b reads) reads ×
    (pass c b reads ≡ b → (n : ℕ) → passes c reads n b ≡ b)
