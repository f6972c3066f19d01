-- What the rounds of a step ask for, computed.
-- Assumes nothing.
use Rattle.std.specs.Prelude.{ℕ, zero, suc, Bool, true, false, not, ◌||◌, List, [], ◌∷◌, ◌++◌, is_some, Some, None, flat_map, Option}
use Rattle.catalog.specs.Catalog.{CatalogRow, Catalog}
use Rattle.catalog.specs.Shape.{Shape, shape, formed}
use Rattle.unfolding.specs.Unfolding.{built_in}
use Rattle.life.specs.Lists.{fresh}
use Rattle.life.specs.Rounds.{Descriptors}

-- known, and so not to be asked for
abbrev pub answered : Descriptors → ℕ → Bool
answered b o = built_in o || is_some (b o)

-- the links of a row, where it is there and well-formed, and of the rows of a list
abbrev pub links_in : Option Shape → List ℕ
links_in None = []
links_in (Some s) = s.links

abbrev pub links_of : Catalog → List ℕ → List ℕ
links_of c os = flat_map (λ o. links_in (formed c o)) os

abbrev pub is_ill : Option CatalogRow → Bool
is_ill None = false
is_ill (Some r) = not (is_some (shape r))

-- the OID has a row, and it is malformed
abbrev pub malformed : Catalog → ℕ → Bool
malformed c o = is_ill (c.rows o)

-- how many rows may still be asked for in the step, or number and place of a refusal
pub data Asked : Type 0 where
  all_read : ℕ → Asked
  stop : ℕ → ℕ → Asked

-- asks for the rows of one round, where so many more may be asked for in the step: 7 before a row, 6 at one that is refused
abbrev pub ask_each : {Q : Type 0} → (Q → ℕ) → (Q → Bool) → ℕ → List Q → Asked
ask_each oid bad left [] = all_read left
ask_each oid bad zero (q ∷ qs) = stop 7 (oid q)
ask_each oid bad (suc left) (q ∷ qs) = elim (bad q) [ true ↦ stop 6 (oid q) | false ↦ ask_each oid bad left qs ]

-- those of the OIDs that stand, each in full
abbrev pub ask : Catalog → ℕ → List ℕ → Asked
ask c = ask_each (λ o. o) (malformed c)

pub data Walked : Type 0 where
  -- the rounds opened, and every OID that stood, in the order in which their rows were asked for
  ended : ℕ → List ℕ → Walked
  -- number, place, rounds opened
  stopped : ℕ → ℕ → ℕ → Walked

-- what follows where all was read
abbrev pub and_then : Asked → ℕ → (ℕ → Walked) → Walked
and_then (all_read left) rounds next = next left
and_then (stop number place) rounds next = stopped number place rounds

-- the rounds of a step from the one that asks for `now`, over what has stood before it, the earliest first
abbrev pub walk : Catalog → (ℕ → Bool) → (fuel opened left allowance : ℕ) (now seen : List ℕ) → Walked
walk c skip zero opened left allowance [] seen = ended opened seen
walk c skip zero opened left allowance (o ∷ os) seen = stopped 4 (suc opened) opened
walk c skip (suc fuel) opened left allowance [] seen = ended opened seen
walk c skip (suc fuel) opened left zero (o ∷ os) seen = stopped 5 (suc opened) opened
walk c skip (suc fuel) opened left (suc allowance) (o ∷ os) seen =
    and_then (ask c left (o ∷ os)) (suc opened)
    (λ rest. walk c skip fuel (suc opened) rest allowance (fresh skip (seen ++ (o ∷ os)) (links_of c (o ∷ os))) (seen ++ (o ∷ os)))

-- the whole walk of a step with these requests, where nothing but OIDs stands
abbrev pub walk_from : Catalog → Descriptors → List ℕ → Walked
walk_from c b rs = walk c (answered b) 64 0 256 c.allowance (fresh (answered b) [] rs) []
