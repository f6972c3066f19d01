-- What the memory of a step holds, and what keeps it.
-- Assumes nothing.
use Rattle.std.specs.Prelude.{◌≡◌, ℕ, ◌≤◌, Bool, true, not, List, [], ◌∷◌, length, map, slice_get, slice_index, slice_index_or, is_some, Some, None, Option}
use Rattle.std.specs.List.{list_all}
use Rattle.catalog.specs.declared.row.Row.{Row}
use Rattle.indexes.specs.Known.{by_oid}
use Rattle.keys.specs.Senses.{oid_of}
use Rattle.life.specs.Lists.{is_in}
use Rattle.slots.specs.Slots.{Entry, filled}
use Rattle.slots.specs.Stack.{LentItems, slots_lent}
use Rattle.type_info.specs.declared.oid.Oid.{Oid}
use Rattle.unfolding.specs.Lists.{Distinct}
use Rattle.unfolding.specs.Unfolding.{built_in}

-- a list has nothing twice in at most one way
pub Distinct-prop : (os : List ℕ) → IsProp (Distinct os)
Distinct-prop [] = hlevel
Distinct-prop (o ∷ os) = hlevel (Distinct-prop os)

-- the OIDs that stand, the oldest first
abbrev pub standing : LentItems Oid → List ℕ
standing queue = map oid_of queue.items

-- those at these places
abbrev pub at_places : List ℕ → List ℕ → List ℕ
at_places os places = map (λ i. slice_index os i) places

abbrev pub turns : LentItems Oid → LentItems ℕ → List ℕ
turns queue order = at_places (standing queue) order.items

-- a row was read at the place, and it is there
abbrev pub has_row : List (Option Row) → ℕ → Bool
has_row rows i = is_some (slice_index_or rows i None)

pub record Lent (queue : LentItems Oid) (index : List (Entry Oid ℕ)) (rows : LentItems (Option Row)) (order : LentItems ℕ) (settled : List (Entry Oid ℕ)) : Type 0 where
  pub queue_lent : slots_lent queue ≡ 257
  pub index_lent : length index ≡ 512
  pub rows_lent : slots_lent rows ≡ 256
  pub order_lent : slots_lent order ≡ 256
  pub settled_lent : length settled ≡ 512

-- each OID stands once, none of them is built in, and the index leads to exactly these, and to their places
pub record Queued (queue : LentItems Oid) (index : List (Entry Oid ℕ)) : Type 0 where
  pub once : Distinct (standing queue)
  pub none_built_in : list_all (λ o. not (built_in o)) (standing queue) ≡ true
  pub indexed : (o : ℕ) → is_some (by_oid index o) ≡ is_in o (standing queue)
  pub leads : (o place : ℕ) → by_oid index o ≡ Some place → slice_get (standing queue) place ≡ Some o
  pub counted : filled index ≡ length queue.items

-- the order has places of rows that are there, each once, and the second index leads to exactly the OIDs at these
pub record Ordered (queue : LentItems Oid) (rows : LentItems (Option Row)) (order : LentItems ℕ) (settled : List (Entry Oid ℕ)) : Type 0 where
  pub read : length rows.items ≤ length queue.items
  pub placed : list_all (has_row rows.items) order.items ≡ true
  pub once : Distinct order.items
  pub indexed : (o : ℕ) → is_some (by_oid settled o) ≡ is_in o (turns queue order)
  pub counted : filled settled ≡ length order.items
