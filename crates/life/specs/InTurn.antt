-- Settling one row after the other in any order, with a list of what is settled so far and a test of links.
-- Assumes nothing.
use Rattle.std.specs.Prelude.{◌≡◌, ℕ, Bool, true, false, ◌||◌, List, [], ◌∷◌, ◌++◌, is_some, Some, None, Option}
use Rattle.std.specs.List.{list_all}
use Rattle.catalog.specs.Catalog.{Catalog}
use Rattle.catalog.specs.Shape.{Shape, formed}
use Rattle.unfolding.specs.Lists.{Mem, Distinct}
use Rattle.unfolding.specs.Unfolding.{Tree}
use Rattle.life.specs.Lists.{is_in}
use Rattle.life.specs.Rounds.{Descriptors, Unknown}
use Rattle.life.specs.Settle.{made, settle_one, pass, settled, Still}
use Rattle.life.specs.Walk.{answered}

-- whatever the order in which rows read are settled: where it leaves nothing to settle, it settles what the passes settle
abbrev pub AnyOrderLaw : Type 0
AnyOrderLaw =
    (c : Catalog) (b : Descriptors) (reads order : List ℕ) → ((o : ℕ) → Mem o order → Mem o reads) →
    Still c (pass c b order) reads → pass c b order ≡ settled c b reads

-- p is built in, described, or settled so far
abbrev pub known_so : Descriptors → List ℕ → ℕ → Bool
known_so b order p = answered b p || is_in p order

-- there is a shape, and all its links are known
abbrev pub ready_shape : (ℕ → Bool) → Option Shape → Bool
ready_shape known None = false
ready_shape known (Some s) = list_all known s.links

-- the row of o is there and well-formed, and all its links are known so far
abbrev pub ready : Catalog → Descriptors → List ℕ → ℕ → Bool
ready c b order o = ready_shape (known_so b order) (formed c o)

-- o may be settled next: it is not known so far, and ready
abbrev pub MayFollow : Catalog → Descriptors → List ℕ → ℕ → Type 0
MayFollow c b before o = (known_so b before o ≡ false) × (ready c b before o ≡ true)

-- each of the list might be settled when its turn came, after those before it
abbrev pub InTurnAfter : Catalog → Descriptors → (before order : List ℕ) → Type 0
InTurnAfter c b before [] = Unit {0}
InTurnAfter c b before (o ∷ os) = MayFollow c b before o × InTurnAfter c b (before ++ o ∷ []) os

abbrev pub InTurn : Catalog → Descriptors → List ℕ → Type 0
InTurn c b order = InTurnAfter c b [] order

-- the list says what is settled so far, and the test of links what can be settled next
pub record ToldByLinks (c : Catalog) (b : Descriptors) (order : List ℕ) : Type 0 where
  pub described : (p : ℕ) → is_some (pass c b order p) ≡ (is_some (b p) || is_in p order)
  pub makes : (o : ℕ) → is_some (made c (pass c b order) o) ≡ ready c b order o
  pub follows : (o : ℕ) → MayFollow c b order o → InTurn c b (order ++ o ∷ [])
  pub one_more : (o : ℕ) → pass c b (order ++ o ∷ []) ≡ settle_one c (pass c b order) o
  pub stays : (o p : ℕ) → ready c b order o ≡ true → ready c b (order ++ p ∷ []) o ≡ true
  pub once : Distinct order
  pub unknown : (o : ℕ) → Mem o order → Unknown b o
  -- each has the descriptor that was made when its turn came
  pub trees : (before after : List ℕ) (o : ℕ) → order ≡ before ++ o ∷ after →
      (t : Tree) × (made c (pass c b before) o ≡ Some t) × (pass c b order o ≡ Some t)
  -- where none of the rows read can be settled next, all is settled that the passes settle
  pub ends : (reads : List ℕ) → ((o : ℕ) → Mem o order → Mem o reads) →
      ((o : ℕ) → Mem o reads → b o ≡ None → is_in o order ≡ false → ready c b order o ≡ false) →
      pass c b order ≡ settled c b reads

abbrev pub InTurnLaw : Type 0
InTurnLaw = (c : Catalog) (b : Descriptors) (order : List ℕ) → InTurn c b order → ToldByLinks c b order
