-- How a computed call comes to its outcome once its rounds are walked.
-- Assumes nothing.
use Rattle.std.specs.Prelude.{◌≡◌, ℕ, suc, Bool, true, false, not, ◌&&◌, ◌⊎◌, ◌↔◌, List, is_some, Some, None, Option}
use Rattle.catalog.specs.Catalog.{CatalogRow, Catalog}
use Rattle.unfolding.specs.Unfolding.{HasUnfolding}
use Rattle.life.specs.Lists.{AnyOf, FirstAt}
use Rattle.life.specs.Rounds.{Descriptors, found}
use Rattle.life.specs.Steps.{Book, Ending, accepted, refused}
use Rattle.life.specs.Walk.{Walked, ended, stopped}

pub record Outcome : Type 0 where
  pub ending : Ending
  pub left : Book

-- a refusal that leaves the book as it was
abbrev pub refusal : Book → (number place rounds : ℕ) → Outcome
refusal b number place rounds = record { ending = refused number place false rounds; left = b }

-- the outcome where no table is full, and that where one is
abbrev pub fitted : Option ℕ → Outcome → (ℕ → Outcome) → Outcome
fitted None fine over = fine
fitted (Some table) fine over = over table

-- or refusal 8, after n rounds
abbrev pub if_fits : Option ℕ → Outcome → Book → ℕ → Outcome
if_fits f fine b n = fitted f fine (λ table. refusal b 8 table n)

-- what follows where the rounds ended, or their refusal
abbrev pub concluded : Book → (ℕ → List ℕ → Outcome) → Walked → Outcome
concluded b next (ended n reads) = next n reads
concluded b next (stopped number place rounds) = refusal b number place rounds

-- how it ends after n rounds and what fits: refused by 9 at this place, or else by 10 at that, or accepted
abbrev pub closing : ℕ → Option ℕ → Option ℕ → Ending
closing n (Some place) ten = refused 9 place false n
closing n None (Some place) = refused 10 place false n
closing n None None = accepted n 0

-- the OID has a row, and is not known
abbrev pub unresolved : Catalog → Descriptors → ℕ → Bool
unresolved c d o = is_some (c.rows o) && not (is_some (found d o))

-- the OID has a row and no unfolding
abbrev pub Unresolved : Catalog → ℕ → Type 0
Unresolved c o = ((r : CatalogRow) × (c.rows o ≡ Some r)) × (HasUnfolding c o → ⊥)

-- k type rounds are told: by an accepted step, by refusal 8, 9 or 10, by 5 of layer columns, and, before the column round, by 8 of
-- that layer
abbrev pub TypeRounds : Ending → ℕ → Type 0
TypeRounds (accepted types columns) k = types ≡ k
TypeRounds (refused number place false rounds) k = ((number ≡ 8) ⊎ ((number ≡ 9) ⊎ (number ≡ 10))) × (rounds ≡ k)
TypeRounds (refused number place true rounds) k = ((number ≡ 5) × (rounds ≡ k)) ⊎ ((number ≡ 8) × (rounds ≡ suc k))

-- after n rounds it is not refused by 8
abbrev pub Fits : Ending → ℕ → Type 0
Fits e n = (table : ℕ) → e ≡ refused 8 table false n → ⊥

-- after n rounds it is refused by this number exactly where P holds of an element, and then at the place of the first
pub record RefusedAtFirst {A : Type 0} (e : Ending) (number n : ℕ) (P : A → Type 0) (xs : List A) : Type 0 where
  pub if_any : ((place : ℕ) × (e ≡ refused number place false n)) ↔ AnyOf P xs
  pub first : (place : ℕ) → (e ≡ refused number place false n) ↔ FirstAt P 0 xs place
